use Rattle.std.proofs.Common.{◌≡◌, ◌<◌, ℕ, false, [], ◌∷◌, slice_index, sym, subst, arith}
use Rattle.panel_edges.specs.Crashes.{LeavesOnly}
use Rattle.retained_journal.specs.Images.{OpensToKeptOrAttempt, Stands}
use Rattle.retained_journal.proofs.Calls.{its_moments, no_moment, other_stands, sound_shut, still_stands, then_stands}
use Rattle.retained_journal.proofs.SparedBytes.{spares_next_gate}
use Rattle.retained_journal.proofs.StepImages.{byte_now, next_shut, shut_already}
use Rattle.retained_journal.specs.Places.{most_cells}
use Rattle.retained_journal.proofs.journal.Journal.shut_next.Goals as goal
use Rattle.retained_journal.proofs.journal.Journal.shut_next.Goals.{then-may_next_be_open+in_ok-write_synced, else-may_next_be_open}

pub returns-in_err-write_synced-clause-stands : goal.returns-in_err-write_synced-clause-stands
returns-in_err-write_synced-clause-stands g c =
    let j = c.args.self.now in
    let unsure = c.may_next_be_open.ensures.0 c.if-may_next_be_open.true in
    let spares = spares_next_gate j c.cell_place.result c.cell_place.ensures unsure.1 in
    still_stands g.D.Disk.honest g.D.Disk.images j c.args.disk.now c.write_synced.new.disk c.cell_place.result 1 c.requires.stands spares
    c.write_synced.ensures.honest.0 c.write_synced.ensures.crash

pub returns-in_err-write_synced-clause-moments : goal.returns-in_err-write_synced-clause-moments
returns-in_err-write_synced-clause-moments g c honest room =
    let j = c.args.self.now in
    let unsure = c.may_next_be_open.ensures.0 c.if-may_next_be_open.true in
    let spares = spares_next_gate j c.cell_place.result c.cell_place.ensures unsure.1 in
    its_moments g.D.Disk.honest g.D.Disk.images g.D.Disk.moment g.D.Disk.left_since g.met.D.Disk.only_now j c.args.disk.now c.write_synced.new.disk
    c.cell_place.result 1 c.requires.stands spares honest room (c.write_synced.ensures.time honest)

pub returns-clause-moments : goal.returns-clause-moments
returns-clause-moments g c honest room =
    let j = c.args.self.now in
    elim c.if-may_next_be_open.branch [
      | then-may_next_be_open+in_ok-write_synced w ↦
          let unsure = c.may_next_be_open.ensures.0 w.if-may_next_be_open.true in
          let spares = spares_next_gate j w.cell_place.result w.cell_place.ensures unsure.1 in
          subst (λ disk. LeavesOnly g.D.Disk.moment g.D.Disk.left_since c.args.disk.now disk (OpensToKeptOrAttempt j)) (sym w.disk-is)
          (its_moments g.D.Disk.honest g.D.Disk.images g.D.Disk.moment g.D.Disk.left_since g.met.D.Disk.only_now j c.args.disk.now
          w.write_synced.new.disk w.cell_place.result 1 c.requires.stands spares honest room (w.write_synced.ensures.time honest))
      | else-may_next_be_open w ↦
          subst (λ disk. LeavesOnly g.D.Disk.moment g.D.Disk.left_since c.args.disk.now disk (OpensToKeptOrAttempt j)) (sym w.disk-is)
          (no_moment g.D.Disk.honest g.D.Disk.images g.D.Disk.moment g.D.Disk.left_since g.met.D.Disk.only_now j c.args.disk.now c.requires.stands
          honest room)
    ]

pub returns-clause-stands : goal.returns-clause-stands
returns-clause-stands g c =
    let j = c.args.self.now in
    let k = record j { cell_may_be_open = false } in
    elim c.if-may_next_be_open.branch [
      | then-may_next_be_open+in_ok-write_synced w ↦
          let unsure = c.may_next_be_open.ensures.0 w.if-may_next_be_open.true in
          let spares = spares_next_gate j w.cell_place.result w.cell_place.ensures unsure.1 in
          subst (λ disk. Stands g.D.Disk.honest g.D.Disk.images disk k) (sym w.disk-is)
          (then_stands g.D.Disk.honest g.D.Disk.images j k c.args.disk.now w.write_synced.new.disk w.cell_place.result (0 ∷ []) c.requires.stands
          spares (sound_shut j c.requires.stands.sound)
          w.write_synced.ensures.honest.0 w.in_ok-write_synced.ensures.stands
          (λ d file was here image holds. next_shut j file image (λ free one. let zero' =
          subst (λ (at : ℕ). slice_index file at ≡ 0) w.cell_place.ensures (byte_now w.cell_place.result 0 d file holds) in
          omega (arith, zero', one))))
      | else-may_next_be_open w ↦
          subst (λ disk. Stands g.D.Disk.honest g.D.Disk.images disk k) (sym w.disk-is)
          (other_stands g.D.Disk.honest g.D.Disk.images j k c.args.disk.now c.requires.stands (sound_shut j c.requires.stands.sound)
          (λ file was here image.
          next_shut j file image (λ free. shut_already j.cell_may_be_open c.may_next_be_open.result (j.cells < most_cells) _ _ c.may_next_be_open.ensures
          w.if-may_next_be_open.false free (image.next c.requires.log free))))
    ]
