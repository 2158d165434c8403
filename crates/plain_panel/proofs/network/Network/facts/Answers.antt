use Rattle.std.proofs.Common.{◌∙◌, ◌≤◌, ℕ, ap, arith, false, slice_index_or, subst, sym}
use Rattle.site_types.specs.Bits.{mask_of}
use Rattle.site_types.specs.Valid.{IsPanel}
use Rattle.marker_table.specs.declared.facts.Facts.{Facts as Masks}
use Rattle.panel_links.specs.Stands.{kept_in}
use Rattle.panel_rules.specs.Run.{facts_of, tells_fault}
use Rattle.panel_rules.specs.Words.{ring_calls}
use Rattle.panel_rules.proofs.RingWords.{kept_by_ring}
use Rattle.panel_bridges.specs.FactMasks.{AreFacts}
use Rattle.panel_bridges.proofs.WordFacts.{facts_are}
use Rattle.plain_panel.proofs.network.Network.facts.Goals as goal

pub returns : goal.returns
returns c site kept done before valid stands =
    let size = stands.size in
    let ring_size = stands.ring.size in
    let panel = c.args.panel in
    let ring = c.args.self.now.ring in
    let low : site.panels ≤ 8 = omega (arith, size, c.args.self.now.few) in
    let p : IsPanel site panel = (c.requires.0, omega (arith, size, c.requires.1)) in
    let told = tells_fault site kept done in
    let calls = ring_calls site kept done told before in
    let words = λ (q : ℕ). kept_in ring panel q in
    let words_are = λ (q : ℕ) (iq : IsPanel site q).
    stands.ring.words panel q (p.0, omega (arith, ring_size, p.1)) (iq.0, omega (arith, ring_size, iq.1)) ∙ kept_by_ring site kept done told before
    panel q low p iq in
    let mask =
    c.mask_from_8.ensures ∙ ap (λ (n : ℕ). mask_of n (λ k. slice_index_or c.loop-source.faulty k false)) c.loop-source.invariant.faulty_wide in
    subst (λ (m : ℕ). AreFacts site (facts_of site kept done panel before) (let masks : Masks =
    record { zones = c.loop-source.facts.zones; manual = c.loop-source.facts.manual; faults = m } in masks)) (sym mask)
    (facts_are site kept done valid panel before words words_are c.loop-source.facts.zones c.loop-source.facts.manual c.loop-source.faulty low
    (λ q iq. c.loop-source.invariant.zones q iq.0 (omega (arith, size, iq.1, c.loop-source-test.false)))
    (λ q iq. c.loop-source.invariant.manual q iq.0 (omega (arith, size, iq.1, c.loop-source-test.false)))
    (λ q iq. c.loop-source.invariant.faulty q iq.0 (omega (arith, size, iq.1, c.loop-source-test.false))))
