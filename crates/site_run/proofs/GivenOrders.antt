-- A run whose tick is given an order.
use Rattle.std.proofs.Common.{List, Option, Some, None, refl}
use Rattle.tick_units.specs.declared.seat.Seat.{Seat}
use Rattle.tick_units.specs.Orders.{IsOrder}
use Rattle.site_types.specs.declared.retained.Retained.{Retained}
use Rattle.site_types.specs.declared.site.Site.{Site}
use Rattle.panel_rules.specs.Moments.{TickBlock}
use Rattle.site_run.specs.declared.run.Run.{Run}
use Rattle.site_run.specs.Records.{Block, with_order}
use Rattle.site_run.specs.Stands.{Stands}

pub ordered_by : (site : Site) (kept : Retained) (ticks : List TickBlock) (o : Option Block) (old : Run) (order : List Seat)
    → Stands site kept (record { run = ticks; block = o }) old → IsOrder site.panels order
    → Stands site kept (record { run = ticks; block = with_order order o }) (record old { order = Some order })
ordered_by site kept ticks None old order h is =
    record {
      valid = h.valid;
      counters = h.counters;
      system = h.system;
      journal = h.journal;
      tried = h.tried;
      open_is = h.open_is;
      canonical = h.canonical;
      order_is = tt;
      ordered = h.ordered;
      shown = h.shown;
      marks = h.marks;
      room = h.room;
      alike = h.alike;
      starts = h.starts;
      count = h.count;
      failed = h.failed;
      few = h.few;
      short = h.short;
    }
ordered_by site kept ticks (Some block) old order h is =
    record {
      valid = h.valid;
      counters = h.counters;
      system = h.system;
      journal = h.journal;
      tried = h.tried;
      open_is = h.open_is;
      canonical = h.canonical;
      order_is = refl;
      ordered = (h.ordered.0, is);
      shown = h.shown;
      marks = h.marks;
      room = h.room;
      alike = h.alike;
      starts = h.starts;
      count = h.count;
      failed = h.failed;
      few = h.few;
      short = h.short;
    }
