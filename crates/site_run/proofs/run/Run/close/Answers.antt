use Rattle.std.proofs.Common.{◌≡◌, true, Bool, refl, ap}
use Rattle.panel_edges.specs.Contents.{Grows, GrowsByFront}
use Rattle.site_types.specs.declared.retained.Retained.{Retained}
use Rattle.site_types.specs.declared.site.Site.{Site}
use Rattle.run_text.specs.SoFar.{text_so_far}
use Rattle.site_run.specs.declared.run.Run.{Run}
use Rattle.site_run.specs.Outside.{DiskKind, Outside, disks_of, outside_after, outside_before, stored_new, stored_old}
use Rattle.site_run.specs.Writings.{Breaks}
use Rattle.site_run.specs.Records.{Progress, closed}
use Rattle.site_run.specs.Stands.{Stands, Stores, Writes, BreaksTick}
use Rattle.site_run.proofs.Cuts.{stores_as}
use Rattle.site_run.proofs.Closing.{one_more, shut_closes, told_more}
use Rattle.site_run.proofs.Written.{stays}
use Rattle.site_run.proofs.Results.{on_ok, on_err}
use Rattle.site_run.proofs.run.Run.close.Goals as goal

-- a write failed in the text of the tick that was open
part_of : {kind : DiskKind} (site : Site) (kept : Retained) (run : Run) (p : Progress) → Stands site kept p run → run.is_open ≡ true → (failed : Bool)
    (old new : Outside kind) → Breaks old.written new.written (text_so_far site kept p.run) (text_so_far site kept (closed failed p))
    → Stores site kept old.stored new.stored p.run (closed failed p)
    → BreaksTick site kept old new p.run (closed failed p)
part_of site kept run p h open_is failed old new text stores =
    let more = one_more site kept run p.run p.block h open_is failed in (
      record {
        last = more.0;
        whole = p.run;
        is = more.1;
        mid = old.written;
        grew = stays old.written (text_so_far site kept p.run);
        broke = text;
        stores = stores;
      },
      refl,
    )

pub returns-then-not-self-clause-ok : goal.returns-then-not-self-clause-ok
returns-then-not-self-clause-ok g c site kept p h short =
    let disks = disks_of g.D.Disk.honest g.D.Disk.images g.D.Disk.moment g.D.Disk.left_since c.args.disk.now c.args.disk.now in
    let old = g.K.Stream.written c.args.out.now in
    shut_closes disks site kept p old c.args.self.now refl h c.if-not-self.true

pub returns-clause-ok : goal.returns-clause-ok
returns-clause-ok g c =
    let disks = disks_of g.D.Disk.honest g.D.Disk.images g.D.Disk.moment g.D.Disk.left_since c.args.disk.now c.make_turns.new.disk in
    let old = g.K.Stream.written c.args.out.now in
    let new = g.K.Stream.written c.write_tick.new.out in
    let run = c.write_tick.new.self in
    on_ok c.write_tick.result
    (λ wrote site kept p h short.
    let made = c.make_turns.ensures.makes site kept p h short in
    told_more disks (Grows old new) site kept c.args.self.now c.make_turns.new.self wrote
    (Writes site kept (outside_before disks old c.args.self.now) (outside_after disks new run)) p run c.write_tick.ensures.rest h
    c.if-not-self.false made
    (λ text stores. record {
      text = text;
      stores = stores_as site kept (stored_old disks c.args.self.now) (stored_new disks c.make_turns.new.self) _ _ run.journal
          (ap (λ (r : Run). r.journal) c.write_tick.ensures.rest) stores;
    }))
    c.write_tick.ensures.ok

pub returns-clause-err : goal.returns-clause-err
returns-clause-err g c =
    let disks = disks_of g.D.Disk.honest g.D.Disk.images g.D.Disk.moment g.D.Disk.left_since c.args.disk.now c.make_turns.new.disk in
    let old = g.K.Stream.written c.args.out.now in
    let new = g.K.Stream.written c.write_tick.new.out in
    let run = c.write_tick.new.self in
    on_err c.write_tick.result
    (λ wrote site kept p h short.
    let made = c.make_turns.ensures.makes site kept p h short in
    told_more disks (GrowsByFront old new) site kept c.args.self.now c.make_turns.new.self wrote
    (BreaksTick site kept (outside_before disks old c.args.self.now) (outside_after disks new run)) p run c.write_tick.ensures.rest h
    c.if-not-self.false made
    (λ text stores. part_of site kept c.args.self.now p h c.if-not-self.false made.failed (outside_before disks old c.args.self.now)
    (outside_after disks new run) text
    (stores_as site kept (stored_old disks c.args.self.now) (stored_new disks c.make_turns.new.self) _ _ run.journal
    (ap (λ (r : Run). r.journal) c.write_tick.ensures.rest) stores)))
    c.write_tick.ensures.err
