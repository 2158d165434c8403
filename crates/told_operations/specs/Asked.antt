-- The operations that the lines of a record ask for, as a list in which an operation's number is its place.
use Rattle.std.specs.Prelude.{ℕ, zero, suc, List, [], ◌∷◌, map, option_map}
use Rattle.site_types.specs.declared.event.Event.{Event}
use Rattle.site_types.specs.declared.event.Event.TheVariants.{Op}
use Rattle.site_types.specs.declared.site.Site.{Site}
use Rattle.access_levels.specs.Levels.{level_of}
use Rattle.record_lines.specs.declared.line.Line.{Line}
use Rattle.panel_rules.specs.Moments.{moments}
use Rattle.panel_rules.specs.Operations.{Request, requests}
use Rattle.audit_rules.specs.RecordTicks.{ticks_of_record}
use Rattle.told_operations.specs.declared.asked_operation.AskedOperation.{AskedOperation}

-- a request without its number and place in its tick
abbrev pub asked_of : Request → AskedOperation
asked_of request =
    record {
      tick = record { 0 = request.tick };
      panel = request.panel;
      level = request.level;
      operation = request.operation;
    }

-- what the lines of a record ask for, in the order of their numbers
abbrev pub asked_in_lines : Site → List Line → List AskedOperation
asked_in_lines site lines = map asked_of (requests site (moments (ticks_of_record site lines)))

-- what an event asks for that comes in a tick; before the first tick nothing is asked for
abbrev pub asked_by_event : Site → ℕ → Event → List AskedOperation
asked_by_event site zero event = []
asked_by_event site (suc tick) (Op panel code operation) =
    record {
      tick = record { 0 = suc tick };
      panel = panel;
      level = level_of site (option_map (λ label. label.bytes) code);
      operation = operation;
    } ∷ []
asked_by_event site (suc tick) _ = []
