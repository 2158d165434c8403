-- What the part that holds takes: one turn after another. In a list of turns the newest stands first.
use Rattle.std.specs.Prelude.{◌<◌, ℕ, List, [], ◌∷◌, ◌++◌}
use Rattle.coincidence_rules.specs.declared.finding.Finding.{Finding}
use Rattle.panel_conditions.specs.declared.outside.Outside.{Outside}

-- a turn: its tick, the findings that it took, the oldest first, and what the other parts told
pub record HoldTurn : Type 0 where
  pub tick : ℕ
  pub found : List Finding
  pub outside : Outside

-- all findings taken, the oldest first
abbrev pub findings_taken : List HoldTurn → List Finding
findings_taken [] = []
findings_taken (turn ∷ before) = findings_taken before ++ turn.found

-- the tick of the latest turn; 0 before the first
abbrev pub latest_tick : List HoldTurn → ℕ
latest_tick [] = 0
latest_tick (turn ∷ before) = turn.tick

-- each turn has a later tick than the ones before it
abbrev pub AreRising : List HoldTurn → Type 0
AreRising [] = Unit {0}
AreRising (turn ∷ before) = (latest_tick before < turn.tick) × AreRising before
