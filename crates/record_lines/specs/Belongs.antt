-- What holds of each line that is read: it belongs to the site.
use Rattle.std.specs.Prelude.{◌≡◌, ◌≤◌, true}
use Rattle.site_types.specs.Events.{has_event}
use Rattle.site_types.specs.declared.site.Site.{Site}
use Rattle.tick_units.specs.Orders.{IsOrder}
use Rattle.tick_units.specs.Ticks.{last_tick}
use Rattle.record_lines.specs.declared.line.Line.{Line}
use Rattle.record_lines.specs.declared.line.Line.TheVariants.{Tick, Event, Order, End}
use Rattle.record_lines.specs.declared.step.Step.{Step}
use Rattle.record_lines.specs.declared.step.Step.TheVariants.{Need, Line as LineStep, Refused}

-- a tick is one that a run may have, the site has all that an event names, and an order is one of its seats
abbrev pub Belongs : Site → Line → Type 0
Belongs site (Tick tick) = (1 ≤ tick.0) × (tick.0 ≤ last_tick)
Belongs site (Event event) = has_event site event ≡ true
Belongs site (Order order) = IsOrder site.panels order
Belongs site End = Unit {0}

abbrev pub StepBelongs : Site → Step → Type 0
StepBelongs site Need = Unit {0}
StepBelongs site (LineStep line) = Belongs site line
StepBelongs site (Refused refusal) = Unit {0}
