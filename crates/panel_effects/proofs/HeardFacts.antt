-- The facts that a ring has of the words which a panel keeps are those of a turn of Effect made now.
use Rattle.std.proofs.Common.{◌∙◌, ◌≤◌, ◌<◌, ℕ, ap, arith}
use Rattle.site_types.specs.declared.word.Word.{Word}
use Rattle.site_types.specs.Bits.{has_bit}
use Rattle.site_types.specs.Valid.{IsPanel}
use Rattle.site_types.proofs.Masks.{mask_is}
use Rattle.marker_table.specs.declared.facts.Facts.{Facts as Masks}
use Rattle.panel_links.specs.declared.ring.Ring.{Ring}
use Rattle.panel_links.specs.Stands.{HasPanel, TellKept, kept_in}
use Rattle.panel_rules.specs.Run.{facts_of, tells_fault}
use Rattle.panel_rules.proofs.RingWords.{kept_by_ring}
use Rattle.panel_effects.specs.Heard.{TellsFacts}
use Rattle.panel_effects.proofs.HeardMasks.{fault_heard, flags_heard, hand_heard, released_heard, zones_heard}

pub kept_tell : (ring : Ring) (panel : ℕ) (masks : Masks) → HasPanel ring panel → TellKept ring panel masks → TellsFacts ring panel masks
kept_tell ring panel masks member tell site kept done before valid stands =
    let size = stands.size in
    let few = ring.few in
    let low : site.panels ≤ 8 = omega (arith, size, few) in
    let p : IsPanel site panel = (member.0, omega (arith, size, member.1)) in
    let told = tells_fault site kept done in
    let facts = facts_of site kept done panel before in
    let word = λ (q : ℕ) (iq : IsPanel site q).
    stands.words panel q (p.0, omega (arith, size, p.1)) (iq.0, omega (arith, size, iq.1)) ∙ kept_by_ring site kept done told before panel q low p iq in
    let each = λ (q : ℕ) (iq : IsPanel site q). tell.each q (iq.0, omega (arith, size, iq.1)) in
    let none = λ (q : ℕ) (beyond : site.panels < q) (high : q ≤ 8). tell.none q (omega (arith, size, beyond)) high in
    record {
      zones =
          zones_heard site valid facts.released masks.zones (λ q. (kept_in ring panel q).released)
          (record { wide = tell.eight.zones; heard = λ q iq. (each q iq).zones; none = λ q beyond high. (none q beyond high).zones })
          (λ q iq. ap (λ (w : Word). w.released) (word q iq) ∙ released_heard site kept done panel before q);
      manual =
          zones_heard site valid facts.by_hand masks.manual (λ q. (kept_in ring panel q).manual)
          (record { wide = tell.eight.manual; heard = λ q iq. (each q iq).manual; none = λ q beyond high. (none q beyond high).manual })
          (λ q iq. ap (λ (w : Word). w.manual) (word q iq) ∙ hand_heard site kept done panel before q);
      faults =
          mask_is 8 masks.faults tell.eight.faults
          ∙ flags_heard site facts.faulty (has_bit masks.faults) (λ q. (kept_in ring panel q).fault)
          (record { heard = λ q iq. (each q iq).fault; none = λ q beyond high. (none q beyond high).fault })
          (λ q iq. ap (λ (w : Word). w.fault) (word q iq) ∙ fault_heard site kept done panel before q);
    }
