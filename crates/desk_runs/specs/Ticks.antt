-- The tick that a block tells, and which one may come.
use Rattle.std.specs.Prelude.{◌+◌, ◌^◌, ◌≤◌, ◌==◌, ◌&&◌, ◌++◌, nat_lt, ℕ, Bool, List, [], ◌∷◌, None, drop, length}
use Rattle.std.specs.Prelude.{if◌then◌else◌}
use Rattle.std.specs.List.{fold}
use Rattle.desk_ticks.specs.Blocks.{behind_line, reading_behind}
use Rattle.panel_rules.specs.Moments.{TickBlock, moments}
use Rattle.record_lines.specs.declared.line.Line.{Line}
use Rattle.record_lines.specs.declared.line.Line.TheVariants.{Tick, Event, Order, End}
use Rattle.site_run.specs.Records.{Block, Progress, new_block, ticked}
use Rattle.site_types.specs.declared.site.Site.{Site}
use Rattle.tick_units.specs.Ticks.{last_tick}

-- a line more of a tick: an event comes behind the others, and an order stands in place of the canonical one
abbrev pub with_line : Block → Line → Block
with_line block (Tick tick) = block
with_line block (Event event) = record { events = block.events ++ event ∷ []; order = block.order }
with_line block (Order order) = record { events = block.events; order = order }
with_line block End = block

-- what these lines tell of a tick
abbrev pub block_of : Site → List Line → Block
block_of site lines = fold with_line (new_block site) lines

-- the lines of a block behind its first
abbrev pub lines_behind : Site → List ℕ → List Line
lines_behind site bytes = drop 1 (reading_behind site bytes).lines

-- the tick that a block tells, and whether Keep's turn failed in it
abbrev pub tick_told : Site → Bool → List ℕ → TickBlock
tick_told site failed block = ticked failed (block_of site (lines_behind site (behind_line block)))

-- whether a tick is the one behind so many
abbrev pub is_next : ℕ → ℕ → Bool
is_next found count = nat_lt count last_tick && found == count + 1

-- the tick that is expected behind so many; none behind the last
abbrev pub tick_expected : ℕ → ℕ
tick_expected count = if nat_lt count last_tick then count + 1 else 0

-- how far a run has come in which some ticks were run, and none is open
abbrev pub at_rest : List TickBlock → Progress
at_rest ticks = record { run = ticks; block = None }

-- what befell is so little that one more block has room in 64 bits, whatever it tells
abbrev pub HasRoomForTick : List TickBlock → Type 0
HasRoomForTick ticks = length (moments ticks) ≤ 2 ^ 63
