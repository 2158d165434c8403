use Rattle.std.proofs.Common.{inl, inr, refl, subst, sym}
use Rattle.desk_doors.specs.Passing.{door_sides}
use Rattle.desk_doors.proofs.Passing.{none_passed, still_tells}
use Rattle.node_command.proofs.Each.{back_of, given_of}
use Rattle.site_run.specs.Journals.{KeepsFor}
use Rattle.site_run.proofs.PowerCuts.{opened_of}
use Rattle.node_command.proofs.serving.serve_loaded.Goals as goal

pub returns-in-Ok-clause-serves : goal.returns-in-Ok-clause-serves
returns-in-Ok-clause-serves g c =
    let opened = c.in-Ok.ensures in
    let seen = g.D.Disk.seen c.args.disk.now in
    inr (record {
      kept = c.in-Ok.journal.kept;
      keeps = subst (KeepsFor c.args.loaded.site c.args.loaded.digest seen) (sym opened.kept) opened.ok;
      serves = c.serve_with.ensures.serves seen (opened_of c.args.loaded.digest seen c.in-Ok.journal opened.fresh.same_digest opened.early);
    })

pub returns-in-Err-clause-serves : goal.returns-in-Err-clause-serves
returns-in-Err-clause-serves g c =
    let said = c.stop_at_journal.ensures in
    inl (record {
      tells = record { says = said.says; ticks = said.ticks.0; failures = said.ticks.1 };
      refusal = c.in-Err.refusal;
      cause = c.in-Err.ensures.err;
      spared = c.open.ensures.unwritten;
      gave = none_passed given_of back_of (door_sides g.G.Door.waiting g.G.Door.handed c.args.door.now c.args.door.now) refl
          (still_tells (g.G.Door.handed c.args.door.now));
    })
