use Rattle.std.proofs.Common.{◌≡◌, ℕ, List, true, [], ◌∷◌, refl, subst}
use Rattle.panel_edges.specs.Disks.{Holds}
use Rattle.retained_journal.specs.declared.journal.Journal.{Journal}
use Rattle.retained_journal.specs.Images.{HoldsCopy, Stands, other_of}
use Rattle.retained_journal.specs.Images.{after_move}
use Rattle.retained_journal.proofs.Calls.{its_moments, other_stands, sound_moved, sound_slot, still_stands, then_stands}
use Rattle.retained_journal.proofs.SparedBytes.{spares_other_gate}
use Rattle.retained_journal.proofs.StepImages.{byte_now, copy_after, moved_over, other_may}
use Rattle.retained_journal.proofs.Torn.{Spares}
use Rattle.retained_journal.proofs.journal.Journal.open_slot.Goals as goal

-- the journal whose other gate may be open stands before the write
stands_before : {D : Type 0} (honest : D → Type 0) (images : D → List ℕ → Type 0) (j : Journal) (disk : D) → Stands honest images disk j
    → j.moving ≡ true → (honest disk → (file : List ℕ) → images disk file → HoldsCopy j file)
    → Stands honest images disk (record j { slot_may_be_open = true })
stands_before honest images j disk stands moving copy =
    other_stands honest images j (record j { slot_may_be_open = true }) disk stands (sound_slot j stands.sound true)
    (λ file was here image. other_may j file image moving (copy was file here))

-- and the gate is spared
gate_spared : (j : Journal) (at : ℕ) → at ≡ other_of j → Spares (record j { slot_may_be_open = true }) at 1
gate_spared j at there = spares_other_gate (record j { slot_may_be_open = true }) at there refl

pub returns-in_err-write_synced-clause-stands : goal.returns-in_err-write_synced-clause-stands
returns-in_err-write_synced-clause-stands g c =
    let j = c.args.self.now in
    still_stands g.D.Disk.honest g.D.Disk.images (record j { slot_may_be_open = true }) c.args.disk.now c.write_synced.new.disk c.other_at.result 1
    (stands_before g.D.Disk.honest g.D.Disk.images j c.args.disk.now c.requires.stands c.requires.moving c.requires.copy)
    (gate_spared j c.other_at.result c.other_at.ensures) c.write_synced.ensures.honest.0 c.write_synced.ensures.crash

pub returns-in_err-write_synced-clause-moments : goal.returns-in_err-write_synced-clause-moments
returns-in_err-write_synced-clause-moments g c honest room =
    let j = c.args.self.now in
    its_moments g.D.Disk.honest g.D.Disk.images g.D.Disk.moment g.D.Disk.left_since g.met.D.Disk.only_now (record j { slot_may_be_open = true })
    c.args.disk.now c.write_synced.new.disk c.other_at.result 1
    (stands_before g.D.Disk.honest g.D.Disk.images j c.args.disk.now c.requires.stands c.requires.moving c.requires.copy)
    (gate_spared j c.other_at.result c.other_at.ensures) honest room (c.write_synced.ensures.time honest)

pub returns-clause-moments : goal.returns-clause-moments
returns-clause-moments g c honest room =
    let j = c.args.self.now in
    its_moments g.D.Disk.honest g.D.Disk.images g.D.Disk.moment g.D.Disk.left_since g.met.D.Disk.only_now (record j { slot_may_be_open = true })
    c.args.disk.now c.write_synced.new.disk c.other_at.result 1
    (stands_before g.D.Disk.honest g.D.Disk.images j c.args.disk.now c.requires.stands c.requires.moving c.requires.copy)
    (gate_spared j c.other_at.result c.other_at.ensures) honest room (c.write_synced.ensures.time honest)

pub returns-clause-stands : goal.returns-clause-stands
returns-clause-stands g c =
    let j = c.args.self.now in
    let k = record c.args.self.now { slot_may_be_open = true } in
    let before = stands_before g.D.Disk.honest g.D.Disk.images j c.args.disk.now c.requires.stands c.requires.moving c.requires.copy in
    then_stands g.D.Disk.honest g.D.Disk.images k (after_move j)
    c.args.disk.now c.write_synced.new.disk c.other_at.result (1 ∷ []) before (gate_spared j c.other_at.result c.other_at.ensures)
    (sound_moved j c.requires.stands.sound c.requires.torn c.requires.number)
    c.write_synced.ensures.honest.0 c.in_ok-write_synced.ensures.stands
    (λ d file was here image holds.
    let at = subst (λ (n : ℕ). Holds n (1 ∷ []) d file) c.other_at.ensures holds in
    moved_over k file image (copy_after k d file 1 (before.each was d here) at (c.requires.copy was d here)) (byte_now (other_of k) 1 d file at)
    c.requires.stands.sound.keeps.small)
