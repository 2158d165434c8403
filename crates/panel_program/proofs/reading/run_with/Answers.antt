use Rattle.std.proofs.Common.{◌∙◌, Ok, ap, refl}
use Rattle.program_status.specs.declared.outcome.Outcome.{Outcome}
use Rattle.site_run.specs.Outside.{disk_kind, disks_of, outside_after, outside_before, stored_new}
use Rattle.panel_program.proofs.Outcomes.{ran_nothing, ran_opening, ran_until, ran_to}
use Rattle.site_run.proofs.PowerCuts.{leaves_opened, leaves_run}
use Rattle.site_run.proofs.Written.{some_always, some_weaker}
use Rattle.panel_program.proofs.reading.run_with.Goals as goal

pub returns-in_default-clause-ran : goal.returns-in_default-clause-ran
returns-in_default-clause-ran g c digest seen is =
    let told = c.after.ensures in
    let cut = leaves_opened
    (disk_kind g.D.Disk.honest g.D.Disk.images g.D.Disk.moment g.D.Disk.left_since) c.args.site c.args.journal.kept digest seen
    c.args.disk.now c.args.journal c.requires.journal c.requires.stands is (g.D.Disk.seen c.args.disk.now) in
    some_always (g.S.Stream.left c.args.input.now)
    (λ bytes. ran_nothing c.args.site c.args.journal.kept digest _ _ bytes c.after.result (g.K.Stream.written c.args.out.now)
    (ap (λ (o : Outcome). o.status) told) (ap (λ (o : Outcome). o.ticks) told) (ap (λ (o : Outcome). o.store_failures) told)
    (record { left = refl; faults = refl }) cut)

pub returns-in_default-write_opening-clause-ran : goal.returns-in_default-write_opening-clause-ran
returns-in_default-write_opening-clause-ran g c digest seen is =
    let old = g.K.Stream.written c.args.out.now in
    let new = g.K.Stream.written c.write_opening.new.out in
    let outcome = c.after-in_default-write_opening.result in
    let told = c.after-in_default-write_opening.ensures in
    let cut = leaves_opened
    (disk_kind g.D.Disk.honest g.D.Disk.images g.D.Disk.moment g.D.Disk.left_since) c.args.site c.args.journal.kept digest seen
    c.args.disk.now c.args.journal c.requires.journal c.requires.stands is (g.D.Disk.seen c.args.disk.now) in
    some_always (g.S.Stream.left c.args.input.now)
    (λ bytes. ran_opening c.args.site c.args.journal.kept digest _ _ bytes outcome old new (record { left = refl; faults = refl })
    (ap (λ (o : Outcome). o.status) told) (ap (λ (o : Outcome). o.ticks) told) (ap (λ (o : Outcome). o.store_failures) told)
    (c.in_default-write_opening.ensures.err c.args.site c.args.journal.kept c.in-Ok.ensures.stands c.in-Ok.ensures.empty) cut)

pub read_record-requires-clause-begins : goal.read_record-requires-clause-begins
read_record-requires-clause-begins g c = (c.args.site, c.args.journal.kept, c.in-Ok.ensures.stands)

pub returns-in-Ok-read_record-clause-ran : goal.returns-in-Ok-read_record-clause-ran
returns-in-Ok-read_record-clause-ran g c digest seen is =
    let disks = disks_of g.D.Disk.honest g.D.Disk.images g.D.Disk.moment g.D.Disk.left_since c.args.disk.now c.read_record.new.disk in
    let old = g.K.Stream.written c.args.out.now in
    let mid = outside_before disks (g.K.Stream.written c.write_opening.new.out) c.in-Ok.run' in
    let last = outside_after disks (g.K.Stream.written c.read_record.new.out) c.read_record.new.run in
    let new = g.K.Stream.written c.finish.new.out in
    let end = c.in-Ok-read_record.end in
    some_weaker (g.S.Stream.left c.args.input.now)
    (λ bytes r. ran_to c.args.site c.args.journal.kept digest _ _ bytes c.finish.result old new mid last c.read_record.new.run end
    c.finish.ensures.ticks.0 c.finish.ensures.ticks.1
    (λ e. c.read_record.ensures.read (c.in-Ok-read_record.is ∙ ap (λ x. Ok x) e))
    (c.in-Ok-write_opening.ensures.ok c.args.site c.args.journal.kept c.in-Ok.ensures.stands c.in-Ok.ensures.empty) r c.finish.ensures.says
    (λ ticks ran stores. leaves_run disks.kind c.args.site c.args.journal.kept digest seen c.args.disk.now c.args.journal c.requires.journal
    c.requires.stands is (g.D.Disk.seen c.read_record.new.disk) ticks (stored_new disks c.read_record.new.run) c.in-Ok.run'.journal c.in-Ok.ensures.same stores))
    (c.in-Ok-read_record.ensures.reads c.args.site c.args.journal.kept c.in-Ok.ensures.stands)

pub returns-clause-ran : goal.returns-clause-ran
returns-clause-ran g c digest seen is =
    let disks = disks_of g.D.Disk.honest g.D.Disk.images g.D.Disk.moment g.D.Disk.left_since c.args.disk.now c.read_record.new.disk in
    let old = g.K.Stream.written c.args.out.now in
    let mid = outside_before disks (g.K.Stream.written c.write_opening.new.out) c.in-Ok.run' in
    let new = outside_after disks (g.K.Stream.written c.read_record.new.out) c.read_record.new.run in
    let outcome = c.run_outcome.result in
    some_weaker (g.S.Stream.left c.args.input.now)
    (λ bytes r. ran_until c.args.site c.args.journal.kept digest _ _ bytes outcome old mid new c.read_record.new.run
    (ap (λ (o : Outcome). o.status) c.run_outcome.ensures ∙ ap (λ (o : Outcome). o.status) c.after-in-Err.ensures)
    (ap (λ (o : Outcome). o.ticks) c.run_outcome.ensures ∙ ap (λ (o : Outcome). o.ticks) c.after-in-Err.ensures ∙ c.ticks.ensures)
    (ap (λ (o : Outcome). o.store_failures) c.run_outcome.ensures)
    (c.in-Ok-write_opening.ensures.ok c.args.site c.args.journal.kept c.in-Ok.ensures.stands c.in-Ok.ensures.empty) r
    (λ ticks ran stores. leaves_run disks.kind c.args.site c.args.journal.kept digest seen c.args.disk.now c.args.journal c.requires.journal
    c.requires.stands is (g.D.Disk.seen c.read_record.new.disk) ticks (stored_new disks c.read_record.new.run) c.in-Ok.run'.journal c.in-Ok.ensures.same stores))
    (c.in-Err.ensures.reads c.args.site c.args.journal.kept c.in-Ok.ensures.stands)
