-- What a line makes of a run.
use Rattle.std.proofs.Common.{◌≡◌, ℕ, Bool, false, List, Option, Some, None, Result, Ok, Err}
use Rattle.std.proofs.Common.{refl, sym, ap, subst, arith}
use Rattle.std.specs.Result.{IsErr}
use Rattle.tick_units.specs.Orders.{IsOrder}
use Rattle.tick_units.specs.declared.seat.Seat.{Seat}
use Rattle.tick_units.specs.declared.tick.Tick.{Tick as TickOf}
use Rattle.site_types.specs.declared.event.Event.{Event}
use Rattle.site_types.specs.declared.retained.Retained.{Retained}
use Rattle.site_types.specs.declared.site.Site.{Site}
use Rattle.panel_edges.specs.declared.failed.Failed.{Failed}
use Rattle.panel_rules.specs.Moments.{moments}
use Rattle.record_lines.specs.Belongs.{Belongs}
use Rattle.record_lines.specs.Judged.{line_view}
use Rattle.record_lines.specs.declared.line.Line.{Line}
use Rattle.record_lines.specs.declared.line.Line.TheVariants.{Tick, Event as EventLine, Order, End}
use Rattle.site_run.specs.declared.run.Run.{Run}
use Rattle.panel_program.specs.declared.run_end.RunEnd.{RunEnd}
use Rattle.panel_program.specs.declared.run_end.RunEnd.TheVariants.{Ended}
use Rattle.site_run.specs.Acting.{ClosesBadly, ClosesWell, TellsEvent}
use Rattle.site_run.specs.Records.{Progress, after_line, closed, new_block, with_order}
use Rattle.site_run.specs.Outside.{Disks, Outside, outside_after, outside_before, stored_new, stored_old}
use Rattle.site_run.specs.Stands.{AreFew, HasRun, OpensTick, Stands, StandsClosed, BreaksTick}
use Rattle.panel_program.specs.Taking.{MayCome, Takes}
use Rattle.site_run.proofs.Cuts.{stores_as, writes_same}
use Rattle.site_run.proofs.Progresses.{closed_length, same_moments}
use Rattle.site_run.proofs.Stood.{has_run}

module _ (disks : Disks) (site : Site) (kept : Retained) (p : Progress) where
  -- few moments befall up to the end of a tick that a line closes
  few_tick : (tick : TickOf) → MayCome site p (Tick tick) → AreFew (moments (closed false p))
  few_tick tick may = let short = may.short in omega (arith, short)

  few_end : MayCome site p End → AreFew (moments (closed false p))
  few_end may = may.short

  -- a tick began behind those that were run
  tick_opens : (failed : Bool) (tick : TickOf) (closed_run run : Run) → MayCome site p (Tick tick) → Stands site kept (record { run = closed failed p; block = None }) closed_run
      → OpensTick tick.0 closed_run run → Stands site kept (record { run = closed failed p; block = Some (new_block site) }) run
  tick_opens failed tick closed_run run may stands opens =
      let next = may.next in
      let count = closed_length failed p.block p.run in
      let short = may.short in
      let same = same_moments failed p.block p.run in
      opens site kept (closed failed p) stands (omega (arith, next, count)) may.belongs.1 (omega (arith, short, same))

  -- the line of a tick acts
  pub tick_taken : (line : Line) (tick : TickOf) (old new : Option (List ℕ)) (before closed_run run : Run) → line ≡ Tick tick → Stands site kept p before
      → MayCome site p line → ClosesWell disks old new before closed_run → OpensTick tick.0 closed_run run → run.journal ≡ closed_run.journal
      → Takes site kept p line (outside_before disks old before) (outside_after disks new run) run (Ok None)
  tick_taken line tick old new before closed_run run is h may closes opens same =
      let comes = subst (MayCome site p) is may in
      let done = closes site kept p h (few_tick tick comes) in
      subst (λ l. Takes site kept p l (outside_before disks old before) (outside_after disks new run) run (Ok None)) (sym is) (
        refl,
        record {
          failed = done.failed;
          stands = tick_opens done.failed tick closed_run run comes done.stands opens;
          wrote = record {
            text = done.wrote.text;
            stores =
                stores_as site kept (stored_old disks before) (stored_new disks closed_run) p.run (closed done.failed p) run.journal same
                done.wrote.stores;
          };
        },
      )

  -- and may open its tick
  pub tick_may_open : (line : Line) (tick : TickOf) (old new : Option (List ℕ)) (before closed_run : Run) → line ≡ Tick tick → Stands site kept p before
      → MayCome site p line → ClosesWell disks old new before closed_run → StandsClosed closed_run
  tick_may_open line tick old new before closed_run is h may closes =
      let done = closes site kept p h (few_tick tick (subst (MayCome site p) is may)) in
      record { site = site; kept = kept; ticks = closed done.failed p; stands = done.stands }

  -- the line `end` closes the last tick
  pub end_taken : (line : Line) (old new : Option (List ℕ)) (before run : Run) → line ≡ End → Stands site kept p before → MayCome site p line
      → ClosesWell disks old new before run → Takes site kept p line (outside_before disks old before) (outside_after disks new run) run (Ok (Some Ended))
  end_taken line old new before run is h may closes =
      let done = closes site kept p h (few_end (subst (MayCome site p) is may)) in (
        is,
        record { failed = done.failed; ran = has_run site kept (closed done.failed p) None run done.stands; wrote = done.wrote },
      )

  failed_by : (line : Line) (old new : Outside disks.kind) (run : Run) (result : Result (Option RunEnd) Failed) (failed : Bool) → IsErr result
      → (after_line site failed p (line_view line)).run ≡ closed failed p → Stands site kept (record { run = closed failed p; block = None }) run
      → BreaksTick site kept old new p.run (closed failed p) → Takes site kept p line old new run result
  failed_by line old new run (Err f) failed err same stands broke =
      let part = subst (BreaksTick site kept old new p.run) (sym same) broke in
      record {
        failed = failed;
        ran = subst (λ ts. HasRun site kept ts run) (sym same) (has_run site kept (closed failed p) None run stands);
        broke = part.0;
        first = part.1;
      }
  failed_by line old new run (Ok end) failed err same stands broke = absurd (let no_way = err in cc)

  -- what the tick before told could not be written
  pub tick_failed : (line : Line) (tick : TickOf) (old new : Option (List ℕ)) (before run : Run) (result : Result (Option RunEnd) Failed) → line ≡ Tick tick
      → Stands site kept p before → MayCome site p line → ClosesBadly disks old new before run → IsErr result
      → Takes site kept p line (outside_before disks old before) (outside_after disks new run) run result
  tick_failed line tick old new before run result is h may closes err =
      let done = closes site kept p h (few_tick tick (subst (MayCome site p) is may)) in
      failed_by line (outside_before disks old before) (outside_after disks new run) run result done.failed err
      (ap (λ (l : Line). (after_line site done.failed p (line_view l)).run) is) done.stands done.wrote

  pub end_failed : (line : Line) (old new : Option (List ℕ)) (before run : Run) (result : Result (Option RunEnd) Failed) → line ≡ End
      → Stands site kept p before → MayCome site p line → ClosesBadly disks old new before run → IsErr result
      → Takes site kept p line (outside_before disks old before) (outside_after disks new run) run result
  end_failed line old new before run result is h may closes err =
      let done = closes site kept p h (few_end (subst (MayCome site p) is may)) in
      failed_by line (outside_before disks old before) (outside_after disks new run) run result done.failed err
      (ap (λ (l : Line). (after_line site done.failed p (line_view l)).run) is) done.stands done.wrote

  -- an event is told
  pub event_taken : (line : Line) (event : Event) (written : Option (List ℕ)) (before run : Run) → line ≡ EventLine event → Stands site kept p before
      → MayCome site p line → TellsEvent event before run → disks.new ≡ disks.old → run.journal ≡ before.journal
      → Takes site kept p line (outside_before disks written before) (outside_after disks written run) run (Ok None)
  event_taken line event written before run is h may tells disk same =
      let comes = subst (MayCome site p) is may in
      subst (λ l. Takes site kept p l (outside_before disks written before) (outside_after disks written run) run (Ok None)) (sym is) (
        refl,
        record {
          failed = false;
          stands = tells site kept p h comes.short;
          wrote = writes_same site kept (outside_before disks written before) (outside_after disks written run) p.run refl disk same;
        },
      )

  -- an order is kept for the tick that has begun
  pub order_taken : (line : Line) (seats : List Seat) (written : Option (List ℕ)) (before run : Run) → line ≡ Order seats → MayCome site p line
      → (IsOrder site.panels seats → Stands site kept (record { run = p.run; block = with_order seats p.block }) run)
      → disks.new ≡ disks.old → run.journal ≡ before.journal
      → Takes site kept p line (outside_before disks written before) (outside_after disks written run) run (Ok None)
  order_taken line seats written before run is may stands disk same =
      subst (λ l. Takes site kept p l (outside_before disks written before) (outside_after disks written run) run (Ok None)) (sym is) (
        refl,
        record {
          failed = false;
          stands = stands (subst (Belongs site) is may.belongs);
          wrote = writes_same site kept (outside_before disks written before) (outside_after disks written run) p.run refl disk same;
        },
      )
