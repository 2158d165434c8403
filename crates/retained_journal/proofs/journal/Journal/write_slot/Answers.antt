use Rattle.std.proofs.Common.{◌≡◌, ◌+◌, drop, take, length, arith}
use Rattle.std.proofs.lemmas.Result.{on_ok_weaker}
use Rattle.retained_journal.proofs.Calls.{its_moments, still_stands}
use Rattle.retained_journal.proofs.SparedBytes.{spares_other_body}
use Rattle.retained_journal.proofs.SparedBytes.{slots_apart}
use Rattle.retained_journal.proofs.WrittenParts.{slot_written, tail_size}
use Rattle.retained_journal.specs.Places.{bytes_of_slot}
use Rattle.retained_journal.proofs.Lengths.{bytes_of_slot_body}
use Rattle.retained_journal.proofs.journal.Journal.write_slot.Goals as goal

pub write_synced-requires : goal.write_synced-requires
write_synced-requires g c =
    let e = c.other_at.ensures in
    let s = slots_apart c.args.self.now.second in
    let long : length c.slot_bytes-slot.result ≡ bytes_of_slot = omega arith in
    let t = tail_size bytes_of_slot_body c.slot_bytes-slot.result long in
    omega (arith, e, s.high, t)

pub returns-clause-stands : goal.returns-clause-stands
returns-clause-stands g c =
    let slot = c.slot_bytes-slot.result in
    still_stands g.D.Disk.honest g.D.Disk.images c.args.self.now c.args.disk.now c.write_synced.new.disk (c.other_at.result + 1)
    (length (take bytes_of_slot_body (drop 1 slot))) c.requires.stands
    (spares_other_body c.args.self.now c.other_at.result _ c.other_at.ensures (tail_size bytes_of_slot_body slot (omega arith)) c.requires.shut)
    c.write_synced.ensures.honest.0 c.write_synced.ensures.crash

pub returns-clause-moments : goal.returns-clause-moments
returns-clause-moments g c honest room =
    let slot = c.slot_bytes-slot.result in
    its_moments g.D.Disk.honest g.D.Disk.images g.D.Disk.moment g.D.Disk.left_since g.met.D.Disk.only_now c.args.self.now c.args.disk.now
    c.write_synced.new.disk (c.other_at.result + 1) (length (take bytes_of_slot_body (drop 1 slot))) c.requires.stands
    (spares_other_body c.args.self.now c.other_at.result _ c.other_at.ensures (tail_size bytes_of_slot_body slot (omega arith)) c.requires.shut)
    honest room (c.write_synced.ensures.time honest)

pub returns-clause-ok : goal.returns-clause-ok
returns-clause-ok g c honest =
    let j = c.args.self.now in
    let buf = c.slot_bytes-slot.result in
    let long : length buf ≡ bytes_of_slot = omega arith in
    on_ok_weaker c.write_synced.result (λ follows file here. let was = follows file here in
    slot_written j buf was.0 file c.other_at.result c.other_at.ensures long was.2 c.requires.full c.slot_bytes-slot.ensures.number
    (c.slot_bytes-slot.ensures.state j.wide c.requires.stands.sound.keeps.narrow)) (c.write_synced.ensures.stands honest)
