use Rattle.std.proofs.Common.{map, take}
use Rattle.site_types.specs.declared.site.Site.{Site}
use Rattle.record_lines.specs.Judged.{line_view}
use Rattle.audit_rules.specs.RecordTicks.{ticks_of_record}
use Rattle.tick_events.specs.Told.{ArePartedEvents}
use Rattle.tick_events.proofs.tick_events.TickEvents.of_lines.Given as goal

-- the lines before a place were looked at
abbrev pub invariant-loop-place : goal.invariant-loop-place
invariant-loop-place l = (site : Site) → ArePartedEvents (ticks_of_record site (map line_view (take l.place l.lines))) l.events.items l.starts.items
