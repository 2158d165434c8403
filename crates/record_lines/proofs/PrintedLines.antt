-- The printed text of a line that may come is judged to be that line.
use Rattle.std.proofs.Common.{◌≤◌, ◌≡◌, true}
use Rattle.site_types.specs.Events.{has_event}
use Rattle.site_types.specs.Valid.{IsValid}
use Rattle.site_types.specs.declared.site.Site.{Site}
use Rattle.site_types.specs.declared.event.Event.{Event}
use Rattle.site_types.specs.declared.event.Event.TheVariants.{Point, Cable, Supply, Link, Confirmed, Op}
use Rattle.record_lines.specs.Belongs.{Belongs}
use Rattle.record_lines.specs.Printed.{event_text, line_text}
use Rattle.record_lines.specs.ReadBack.{HasCode, HasSpelling, IsDue, MayCome}
use Rattle.record_lines.specs.declared.line.Line.{Line}
use Rattle.record_lines.specs.declared.line.Line.TheVariants.{Tick, Event as EventLine, Order, End}
use Rattle.record_lines.specs.declared.ticks_so_far.TicksSoFar.{TicksSoFar}
use Rattle.record_lines.proofs.CableLines.{cable_printed}
use Rattle.record_lines.proofs.OpLines.{op_printed}
use Rattle.record_lines.proofs.OrderLines.{order_printed}
use Rattle.record_lines.proofs.PointLines.{point_printed, routing_printed}
use Rattle.record_lines.proofs.SupplyLines.{link_printed, supply_printed}
use Rattle.record_lines.proofs.TickLines.{end_printed, tick_printed}
use Rattle.record_lines.proofs.Verdicts.{IsTextOf}

event_printed : (site : Site) → IsValid site → (so_far : TicksSoFar) → 1 ≤ so_far.ticks → (event : Event) → HasCode event
    → has_event site event ≡ true →
    IsTextOf site so_far (EventLine event) (event_text site event)
event_printed site valid so_far due (Point point state) spelled there = point_printed site valid so_far due point state there
event_printed site valid so_far due (Cable panel line piece state) spelled there =
    cable_printed site valid so_far due panel line piece state there
event_printed site valid so_far due (Supply panel kind bad) spelled there = supply_printed site valid so_far due panel kind bad there
event_printed site valid so_far due (Link link up) spelled there = link_printed site valid so_far due link up there
event_printed site valid so_far due (Confirmed output) spelled there = routing_printed site valid so_far due output there
event_printed site valid so_far due (Op panel code operation) spelled there = op_printed site valid so_far due panel code operation spelled there

by_kind : (site : Site) → IsValid site → (so_far : TicksSoFar) (line : Line) → Belongs site line → HasSpelling line → IsDue so_far line
    → IsTextOf site so_far line (line_text site line)
by_kind site valid so_far (Tick tick) belongs spelled due = tick_printed site so_far tick belongs.1 due
by_kind site valid so_far (EventLine event) belongs spelled due = event_printed site valid so_far due event spelled belongs
by_kind site valid so_far (Order seats) belongs spelled due = order_printed site valid so_far due.0 due.1 seats belongs
by_kind site valid so_far End belongs spelled due = end_printed site so_far

pub line_printed : (site : Site) → IsValid site → (so_far : TicksSoFar) (line : Line) → MayCome site so_far line
    → IsTextOf site so_far line (line_text site line)
line_printed site valid so_far line may = by_kind site valid so_far line may.belongs may.spelled may.due
