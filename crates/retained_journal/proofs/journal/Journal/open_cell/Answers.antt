use Rattle.std.proofs.Common.{◌≡◌, ◌+◌, ℕ, List, true, false, [], ◌∷◌, refl, sym, ap, ◌∙◌, subst, arith}
use Rattle.site_types.specs.Changes.{changed_by}
use Rattle.panel_edges.specs.Disks.{Holds}
use Rattle.retained_journal.specs.Images.{HoldsBatch, MayCount, Stands, next_of}
use Rattle.retained_journal.specs.Images.{after_append}
use Rattle.retained_journal.specs.declared.journal.Journal.{Journal}
use Rattle.site_types.specs.declared.retained.Retained.{Retained}
use Rattle.retained_journal.specs.Batches.{CanMakeAll}
use Rattle.retained_journal.proofs.Calls.{becomes_front, its_moments, other_stands, sound_appended, sound_unsure, still_stands, then_stands, torn_becomes_front}
use Rattle.retained_journal.proofs.SparedBytes.{spares_next_gate}
use Rattle.retained_journal.proofs.StepImages.{appended, batch_after, byte_now, next_may}
use Rattle.retained_journal.proofs.Torn.{Spares}
use Rattle.retained_journal.proofs.WrittenCells.{can_make}
use Rattle.retained_journal.proofs.journal.Journal.open_cell.Goals as goal

pub make_changes-requires : goal.make_changes-requires
make_changes-requires g c =
    subst CanMakeAll (sym c.as_slice.ensures.value) (can_make c.args.self.now.wide c.args.self.now.attempt.items c.requires.batch.keeps)

-- the journal whose next gate may be open stands before the write
stands_before : {D : Type 0} (honest : D → Type 0) (images : D → List ℕ → Type 0) (j : Journal) (disk : D) → Stands honest images disk j
    → j.torn ≡ true → (honest disk → (file : List ℕ) → images disk file → HoldsBatch j file)
    → Stands honest images disk (record j { cell_may_be_open = true })
stands_before honest images j disk stands torn holds =
    other_stands honest images j (record j { cell_may_be_open = true }) disk stands (sound_unsure j stands.sound torn)
    (λ file was here image. next_may j file image (holds was file here))

-- and the gate is spared
gate_spared : (j : Journal) (at : ℕ) → at ≡ next_of j → Spares (record j { cell_may_be_open = true }) at 1
gate_spared j at there = spares_next_gate (record j { cell_may_be_open = true }) at there refl

pub returns-in_err-write_synced-clause-stands : goal.returns-in_err-write_synced-clause-stands
returns-in_err-write_synced-clause-stands g c =
    let j = c.args.self.now in
    still_stands g.D.Disk.honest g.D.Disk.images (record j { cell_may_be_open = true }) c.args.disk.now c.write_synced.new.disk c.cell_place.result 1
    (stands_before g.D.Disk.honest g.D.Disk.images j c.args.disk.now c.requires.stands c.requires.torn c.requires.holds)
    (gate_spared j c.cell_place.result c.cell_place.ensures) c.write_synced.ensures.honest.0 c.write_synced.ensures.crash

pub returns-in_err-write_synced-clause-moments : goal.returns-in_err-write_synced-clause-moments
returns-in_err-write_synced-clause-moments g c honest room =
    let j = c.args.self.now in
    its_moments g.D.Disk.honest g.D.Disk.images g.D.Disk.moment g.D.Disk.left_since g.met.D.Disk.only_now (record j { cell_may_be_open = true })
    c.args.disk.now c.write_synced.new.disk c.cell_place.result 1
    (stands_before g.D.Disk.honest g.D.Disk.images j c.args.disk.now c.requires.stands c.requires.torn c.requires.holds)
    (gate_spared j c.cell_place.result c.cell_place.ensures) honest room (c.write_synced.ensures.time honest)

pub returns-clause-moments : goal.returns-clause-moments
returns-clause-moments g c honest room =
    let j = c.args.self.now in
    its_moments g.D.Disk.honest g.D.Disk.images g.D.Disk.moment g.D.Disk.left_since g.met.D.Disk.only_now (record j { cell_may_be_open = true })
    c.args.disk.now c.write_synced.new.disk c.cell_place.result 1
    (stands_before g.D.Disk.honest g.D.Disk.images j c.args.disk.now c.requires.stands c.requires.torn c.requires.holds)
    (gate_spared j c.cell_place.result c.cell_place.ensures) honest room (c.write_synced.ensures.time honest)

pub returns-clause-stands : goal.returns-clause-stands
returns-clause-stands g c =
    let j = c.args.self.now in
    let k = record c.args.self.now { cell_may_be_open = true } in
    let before = stands_before g.D.Disk.honest g.D.Disk.images j c.args.disk.now c.requires.stands c.requires.torn c.requires.holds in
    let spares = gate_spared j c.cell_place.result c.cell_place.ensures in
    let may = subst MayCount (sym c.requires.log) tt in
    let stands =
    then_stands g.D.Disk.honest g.D.Disk.images k (after_append j)
    c.args.disk.now c.write_synced.new.disk c.cell_place.result (1 ∷ []) before spares
    (sound_appended j c.requires.stands.sound c.requires.torn c.requires.number c.requires.free c.requires.batch)
    c.write_synced.ensures.honest.0 c.in_ok-write_synced.ensures.stands
    (λ d file was here image holds.
    let at = subst (λ (n : ℕ). Holds n (1 ∷ []) d file) c.cell_place.ensures holds in
    appended k file image c.requires.log c.requires.free
    (batch_after k d file 1 (before.each was d here) may c.requires.free at (c.requires.holds was d here)) (byte_now (next_of k) 1 d file at)) in
    subst (λ (kept : Retained). Stands g.D.Disk.honest g.D.Disk.images c.write_synced.new.disk (record j { kept = kept; number = j.number + 1; cells = j.cells + 1; cell_may_be_open = false }))
    (sym (c.make_changes.ensures ∙ ap (λ changes. changed_by changes j.kept) c.as_slice.ensures.value)) stands

pub returns-clause-front : goal.returns-clause-front
returns-clause-front g c =
    becomes_front c.cell_place.result (1 ∷ []) (g.D.Disk.seen c.args.disk.now) (g.D.Disk.seen c.write_synced.new.disk) (let e =
    c.cell_place.ensures in omega (arith, e)) c.in_ok-write_synced.ensures.ok

pub returns-in_err-write_synced-clause-front : goal.returns-in_err-write_synced-clause-front
returns-in_err-write_synced-clause-front g c =
    torn_becomes_front c.cell_place.result 1 (g.D.Disk.seen c.args.disk.now) (g.D.Disk.seen c.write_synced.new.disk) (let e = c.cell_place.ensures in
    omega (arith, e)) c.in_err-write_synced.ensures.err
