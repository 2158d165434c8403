-- Tick blocks of a panel by itself: a line that gives an order or isn't the panel's own is refused too.
use Rattle.std.specs.Prelude.{ℕ, ◌+◌, ◌==◌, List, [], ◌∷◌, drop, Option, Some, None, option_map, Result}
use Rattle.std.specs.Prelude.{if◌then◌else◌}
use Rattle.site_types.specs.declared.site.Site.{Site}
use Rattle.record_lines.specs.Lines.{reading_of}
use Rattle.record_lines.specs.declared.line.Line.{Line}
use Rattle.record_lines.specs.declared.line.Line.TheVariants.{Tick, Event, Order, End}
use Rattle.record_lines.specs.declared.step.Step.{Step}
use Rattle.record_lines.specs.declared.step.Step.TheVariants.{Need, Line as LineStep, Refused as RefusedStep}
use Rattle.record_lines.specs.declared.why.Why.{Why}
use Rattle.desk_ticks.specs.declared.block_refusal.BlockRefusal.{BlockRefusal}
use Rattle.desk_ticks.specs.Blocks.{behind_line, named_of, reading_behind, refusal_behind, verdict_by}
use Rattle.desk_ticks.specs.Numbers.{number_behind}
use Rattle.node_inputs.specs.OwnEvents.{is_event_of}

-- a line names what the site hasn't
abbrev pub names_none : ℕ → BlockRefusal
names_none line = record { line = line; number = 3 }

-- of accepted lines, up to a tick or the line `end`, the first that gives an order or isn't the panel's own; the first
-- line has this number
abbrev pub foreign_line : Site → ℕ → ℕ → List Line → Option ℕ
foreign_line site panel number [] = None
foreign_line site panel number (Tick tick ∷ lines) = None
foreign_line site panel number (Event event ∷ lines) =
    if is_event_of site panel event then foreign_line site panel (number + 1) lines else Some number
foreign_line site panel number (Order order ∷ lines) = Some number
foreign_line site panel number (End ∷ lines) = None

-- an order is refused whatever its seats
abbrev pub own_number : ℕ → ℕ
own_number number = if number == 5 then 3 else number

abbrev pub own_refusal : BlockRefusal → BlockRefusal
own_refusal refusal = record { line = refusal.line; number = own_number refusal.number }

-- a foreign line comes before the one at which the block is refused else
abbrev pub foreign_or : Option ℕ → Option BlockRefusal → Option BlockRefusal
foreign_or (Some line) refusal = Some (names_none line)
foreign_or None refusal = option_map own_refusal refusal

-- the refusal of the lines behind the first, if one of them is refused
abbrev pub own_refusal_behind : Site → ℕ → List ℕ → Option BlockRefusal
own_refusal_behind site panel bytes =
    foreign_or (foreign_line site panel 2 (drop 1 (reading_behind site bytes).lines)) (refusal_behind site bytes)

-- the tick that a block begins where all its lines are accepted, or the first refused line
abbrev pub own_verdict_of : Site → ℕ → List ℕ → Result ℕ BlockRefusal
own_verdict_of site panel block =
    verdict_by (named_of (reading_of site block)) (own_refusal_behind site panel (behind_line block))

-- ---- line by line

abbrev pub own_number_of : Why → ℕ
own_number_of why = own_number (number_behind why)

-- the refusal at the line of a number, if it is one
abbrev pub own_stop_by : Site → ℕ → Step → ℕ → Option BlockRefusal
own_stop_by site panel Need number = Some (record { line = number; number = 1 })
own_stop_by site panel (LineStep (Tick tick)) number = Some (record { line = number; number = 1 })
own_stop_by site panel (LineStep (Event event)) number =
    if is_event_of site panel event then None else Some (names_none number)
own_stop_by site panel (LineStep (Order order)) number = Some (names_none number)
own_stop_by site panel (LineStep End) number = Some (record { line = number; number = 1 })
own_stop_by site panel (RefusedStep refusal) number =
    Some (record { line = refusal.line; number = own_number_of refusal.why })
