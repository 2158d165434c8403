-- What each step of the next tick makes of a run.
use Rattle.std.specs.Prelude.{◌≡◌, ◌+◌, ◌^◌, ◌≤◌, ℕ, Bool, true, false, List, ◌∷◌, length, Some, None, Ok}
use Rattle.desk_ticks.specs.Blocks.{most_block_bytes, refusal_behind, verdict_of}
use Rattle.desk_runs.specs.Ticks.{HasRoomForTick, at_rest}
use Rattle.desk_runs.specs.Ticks.{block_of, is_next, lines_behind, tick_told}
use Rattle.panel_rules.specs.Moments.{TickBlock, moments}
use Rattle.panel_rules.specs.Timeline.{faces_of}
use Rattle.record_lines.specs.declared.line.Line.TheVariants as line
use Rattle.record_lines.specs.declared.step.Step.{Step}
use Rattle.record_lines.specs.declared.step.Step.TheVariants.{Need, Line as LineStep, Refused}
use Rattle.site_run.specs.Acting.{TellsEvent}
use Rattle.site_run.specs.Outside.{Disks, stored_new, stored_old}
use Rattle.site_run.specs.Records.{new_block}
use Rattle.site_run.specs.Stands.{HasOrder, MayHappen, Stands, Stores}
use Rattle.site_run.specs.declared.run.Run.{Run}
use Rattle.site_types.specs.declared.retained.Retained.{Retained}
use Rattle.site_types.specs.declared.site.Site.{Site}

-- ---- the lines of a block

-- a tick has begun, and the lines behind the first of its block are yet to be told
pub record MayTellWith (site : Site) (kept : Retained) (ticks : List TickBlock) (rest : List ℕ) (run : Run) : Type 0
  where
    pub stands : Stands site kept (record { run = ticks; block = Some (new_block site) }) run
    pub accepted : refusal_behind site rest ≡ None
    pub short : length rest ≤ most_block_bytes
    pub room : HasRoomForTick ticks

pub record MayTellLines (rest : List ℕ) (run : Run) : Type 0 where
  pub site : Site
  pub kept : Retained
  pub ticks : List TickBlock
  pub with : MayTellWith site kept ticks rest run

-- the lines of the block of a tick behind the first were told, and no byte tells more than one of them
pub record ToldLines (site : Site) (kept : Retained) (ticks : List TickBlock) (rest : List ℕ) (run : Run) : Type 0 where
  pub stands : Stands site kept (record { run = ticks; block = Some (block_of site (lines_behind site rest)) }) run
  pub few : length (lines_behind site rest) ≤ length rest

abbrev pub TellsLines : List ℕ → Run → Run → Type 0
TellsLines rest old run =
    (site : Site) (kept : Retained) (ticks : List TickBlock) → MayTellWith site kept ticks rest old
    → ToldLines site kept ticks rest run

-- what a reader answered may be told
abbrev pub MayTellStep : Step → Run → Type 0
MayTellStep Need run = Unit {0}
MayTellStep (LineStep (line.Tick tick)) run = Unit {0}
MayTellStep (LineStep (line.Event event)) run = MayHappen event run
MayTellStep (LineStep (line.Order order)) run = Unit {0}
MayTellStep (LineStep line.End) run = Unit {0}
MayTellStep (Refused refusal) run = Unit {0}

-- an event or an order was told, and nothing else changes the run
abbrev pub TellsStep : Step → Run → Run → Type 0
TellsStep Need old run = run ≡ old
TellsStep (LineStep (line.Tick tick)) old run = run ≡ old
TellsStep (LineStep (line.Event event)) old run = TellsEvent event old run
TellsStep (LineStep (line.Order order)) old run = HasOrder order old run
TellsStep (LineStep line.End) old run = run ≡ old
TellsStep (Refused refusal) old run = run ≡ old

-- ---- a tick

-- the block of the next tick may be run
pub record MayRunWith (site : Site) (kept : Retained) (ticks : List TickBlock) (tick : ℕ) (block : List ℕ) (run : Run)
    : Type 0 where
  pub stands : Stands site kept (at_rest ticks) run
  pub room : HasRoomForTick ticks
  pub accepted : verdict_of site block ≡ Ok tick
  pub short : length block ≤ most_block_bytes
  pub next : is_next tick (length ticks) ≡ true

pub record MayRunBlock (tick : ℕ) (block : List ℕ) (run : Run) : Type 0 where
  pub site : Site
  pub kept : Retained
  pub ticks : List TickBlock
  pub with : MayRunWith site kept ticks tick block run

-- the block of the next tick was run, and what was shown before that tick is at hand
pub record RanBlock (site : Site) (kept : Retained) (ticks : List TickBlock) (block : List ℕ) (disks : Disks)
    (old run : Run) : Type 0 where
  pub failed : Bool
  pub stands : Stands site kept (at_rest (tick_told site failed block ∷ ticks)) run
  pub shown : run.next.items ≡ faces_of site kept (moments ticks)
  pub stores :
      Stores site kept (stored_old disks old) (stored_new disks run) ticks (tick_told site failed block ∷ ticks)
  pub few : length (moments (tick_told site failed block ∷ ticks)) ≤ length (moments ticks) + 2 ^ 17

abbrev pub RunsBlock : ℕ → List ℕ → Disks → Run → Run → Type 0
RunsBlock tick block disks old run =
    (site : Site) (kept : Retained) (ticks : List TickBlock) → MayRunWith site kept ticks tick block old
    → RanBlock site kept ticks block disks old run
