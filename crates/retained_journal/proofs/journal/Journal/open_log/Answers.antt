use Rattle.std.proofs.Common.{[], ◌∷◌}
use Rattle.retained_journal.specs.declared.log_gate.LogGate.TheVariants.{Open}
use Rattle.retained_journal.proofs.Calls.{its_moments, no_moment, sound_log, still_stands, then_stands}
use Rattle.retained_journal.proofs.SparedBytes.{spares_log}
use Rattle.retained_journal.proofs.StepImages.{byte_now, log_opened}
use Rattle.retained_journal.proofs.journal.Journal.open_log.Goals as goal

pub returns-in_err-write_synced-in-Ready-clause-stands : goal.returns-in_err-write_synced-in-Ready-clause-stands
returns-in_err-write_synced-in-Ready-clause-stands g c =
    let j = c.args.self.now in
    let spares = spares_log j c.in-Ready.is in
    still_stands g.D.Disk.honest g.D.Disk.images j c.args.disk.now c.write_synced.new.disk 40 1 c.requires.stands spares
    c.write_synced.ensures.honest.0 c.write_synced.ensures.crash

pub returns-in_err-write_synced-in-Ready-clause-moments : goal.returns-in_err-write_synced-in-Ready-clause-moments
returns-in_err-write_synced-in-Ready-clause-moments g c honest room =
    let j = c.args.self.now in
    let spares = spares_log j c.in-Ready.is in
    its_moments g.D.Disk.honest g.D.Disk.images g.D.Disk.moment g.D.Disk.left_since g.met.D.Disk.only_now j c.args.disk.now c.write_synced.new.disk 40
    1 c.requires.stands spares honest room (c.write_synced.ensures.time honest)

pub returns-in_ok-write_synced-in-Ready-clause-moments : goal.returns-in_ok-write_synced-in-Ready-clause-moments
returns-in_ok-write_synced-in-Ready-clause-moments g c honest room =
    let j = c.args.self.now in
    let spares = spares_log j c.in-Ready.is in
    its_moments g.D.Disk.honest g.D.Disk.images g.D.Disk.moment g.D.Disk.left_since g.met.D.Disk.only_now j c.args.disk.now c.write_synced.new.disk 40
    1 c.requires.stands spares honest room (c.write_synced.ensures.time honest)

pub returns-in_ok-write_synced-in-Ready-clause-stands : goal.returns-in_ok-write_synced-in-Ready-clause-stands
returns-in_ok-write_synced-in-Ready-clause-stands g c =
    let j = c.args.self.now in
    let spares = spares_log j c.in-Ready.is in
    then_stands g.D.Disk.honest g.D.Disk.images j (record j { log = Open }) c.args.disk.now c.write_synced.new.disk 40 (1 ∷ []) c.requires.stands
    spares (sound_log j c.requires.stands.sound)
    c.write_synced.ensures.honest.0 c.in_ok-write_synced-in-Ready.ensures.stands
    (λ d file was here image holds. log_opened j file image c.requires.log (byte_now 40 1 d file holds))

pub returns-in-Open-clause-moments : goal.returns-in-Open-clause-moments
returns-in-Open-clause-moments g c honest room =
    no_moment g.D.Disk.honest g.D.Disk.images g.D.Disk.moment g.D.Disk.left_since g.met.D.Disk.only_now c.args.self.now c.args.disk.now
    c.requires.stands honest room
