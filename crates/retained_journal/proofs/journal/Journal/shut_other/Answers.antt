use Rattle.std.proofs.Common.{◌≡◌, ℕ, false, [], ◌∷◌, slice_index, subst}
use Rattle.retained_journal.proofs.Calls.{its_moments, no_moment, sound_slot, still_stands, then_stands}
use Rattle.retained_journal.proofs.SparedBytes.{spares_other_gate}
use Rattle.retained_journal.proofs.StepImages.{byte_now, other_shut}
use Rattle.retained_journal.proofs.journal.Journal.shut_other.Goals as goal

pub returns-in_err-write_synced-clause-stands : goal.returns-in_err-write_synced-clause-stands
returns-in_err-write_synced-clause-stands g c =
    still_stands g.D.Disk.honest g.D.Disk.images c.args.self.now c.args.disk.now c.write_synced.new.disk c.other_at.result 1 c.requires
    (spares_other_gate c.args.self.now c.other_at.result c.other_at.ensures c.if-self.true) c.write_synced.ensures.honest.0
    c.write_synced.ensures.crash

pub returns-in_err-write_synced-clause-moments : goal.returns-in_err-write_synced-clause-moments
returns-in_err-write_synced-clause-moments g c honest room =
    its_moments g.D.Disk.honest g.D.Disk.images g.D.Disk.moment g.D.Disk.left_since g.met.D.Disk.only_now c.args.self.now c.args.disk.now
    c.write_synced.new.disk c.other_at.result 1 c.requires
    (spares_other_gate c.args.self.now c.other_at.result c.other_at.ensures c.if-self.true) honest room (c.write_synced.ensures.time honest)

pub returns-in_ok-write_synced-clause-stands : goal.returns-in_ok-write_synced-clause-stands
returns-in_ok-write_synced-clause-stands g c =
    let j = c.args.self.now in
    then_stands g.D.Disk.honest g.D.Disk.images j (record j { slot_may_be_open = false }) c.args.disk.now c.write_synced.new.disk c.other_at.result
    (0 ∷ []) c.requires (spares_other_gate j c.other_at.result c.other_at.ensures c.if-self.true) (sound_slot j c.requires.sound false)
    c.write_synced.ensures.honest.0 c.in_ok-write_synced.ensures.stands
    (λ d file was here image holds.
    other_shut j file image (subst (λ (at : ℕ). slice_index file at ≡ 0) c.other_at.ensures (byte_now c.other_at.result 0 d file holds)))

pub returns-in_ok-write_synced-clause-moments : goal.returns-in_ok-write_synced-clause-moments
returns-in_ok-write_synced-clause-moments g c honest room =
    its_moments g.D.Disk.honest g.D.Disk.images g.D.Disk.moment g.D.Disk.left_since g.met.D.Disk.only_now c.args.self.now c.args.disk.now
    c.write_synced.new.disk c.other_at.result 1 c.requires
    (spares_other_gate c.args.self.now c.other_at.result c.other_at.ensures c.if-self.true) honest room (c.write_synced.ensures.time honest)

pub returns-else-self-clause-moments : goal.returns-else-self-clause-moments
returns-else-self-clause-moments g c honest room =
    no_moment g.D.Disk.honest g.D.Disk.images g.D.Disk.moment g.D.Disk.left_since g.met.D.Disk.only_now c.args.self.now c.args.disk.now c.requires
    honest room
