-- How far the input is read ahead of what a run has told, and which line closed its last tick.
use Rattle.std.specs.Prelude.{◌≡◌, ◌≤◌, ◌++◌, ℕ, List, Option, Some, length}
use Rattle.site_types.specs.declared.site.Site.{Site}
use Rattle.record_readings.specs.OneLine.{EndsOneLine}
use Rattle.panel_rules.specs.Moments.{TickBlock}
use Rattle.run_text.specs.Failures.{as_recorded}
use Rattle.site_run.specs.Records.{ticks_run}

-- the most bytes of a record that are read at a time
abbrev pub piece_bytes : ℕ
piece_bytes = 4096

-- Of the bytes behind those that were taken no more were read than come at a time, where the input tells what is left.
pub record ReadsAhead (rest : List ℕ) (left : Option (List ℕ)) : Type 0 where
  pub ahead : List ℕ
  pub unread : List ℕ
  pub is : rest ≡ ahead ++ unread
  pub few : length ahead ≤ piece_bytes
  pub left_is : left ≡ Some unread

-- the ticks that were run are those of these bytes
abbrev pub AreTicksOf : Site → List ℕ → List TickBlock → Type 0
AreTicksOf site bytes ticks = as_recorded ticks ≡ ticks_run site bytes

-- The line that these bytes end with closed the last tick: without its last bytes they run the ticks before it.
pub record EndWithClosing (site : Site) (bytes : List ℕ) (before : List TickBlock) : Type 0 where
  pub front : List ℕ
  pub last : List ℕ
  pub is : bytes ≡ front ++ last
  pub line : EndsOneLine last
  pub ran : AreTicksOf site front before
