-- What the zones that are due ask for is what is due to be asked.
use Rattle.std.proofs.Common.{◌≡◌, ◌↔◌, ◌-◌, ℕ, Bool, true, false, List, Some, refl, sym, ◌∙◌, ap, subst}
use Rattle.std.specs.Prelude.{slice_get}
use Rattle.site_types.specs.declared.output.Output.{Output}
use Rattle.site_types.specs.declared.retained.Retained.{Retained}
use Rattle.site_types.specs.declared.site.Site.{Site}
use Rattle.site_types.specs.Bits.{has_bit}
use Rattle.site_types.specs.Done.{Done}
use Rattle.site_types.specs.Valid.{IsValid}
use Rattle.site_types.proofs.Masks.{has_bit-zero}
use Rattle.cause_effect.specs.Cycles.{HasNoCycle}
use Rattle.panel_rules.specs.Due.{IsDueByHand, IsDueOut}
use Rattle.panel_rules.specs.DueOutputs.{AreDue, AreDueByHand, IsDueAsked, IsDueAskedByHand}
use Rattle.panel_rules.specs.Moments.{Moment}
use Rattle.panel_rules.specs.Outputs.{panel_of_output, panel_of_plan}
use Rattle.asked_markers.specs.Asking.{IsAskedOver}
use Rattle.asked_markers.specs.FactsTold.{TellAll}
use Rattle.asked_markers.specs.Solved.{GoesBy, TellsAsked}
use Rattle.asked_markers.specs.declared.asked_markers.AskedMarkers.{AskedMarkers}
use Rattle.asked_markers.proofs.AllFacts.{all_facts_decide}
use Rattle.due_zones.specs.declared.due_zones.DueZones.{DueZones}
use Rattle.due_zones.specs.Telling.{AreDueZones}
use Rattle.due_outputs.specs.Solved.{hands_due, out_due}

-- no fault is told
no_fault : (panel : ℕ) → (has_bit 0 (panel - 1) ≡ true) ↔ ⊥
no_fault panel = (λ h. (let z = has_bit-zero (panel - 1) in let never : false ≡ true = sym z ∙ h in cc), λ h. absurd h)

never_true : (b : Bool) → (b ≡ true → ⊥) → b ≡ false
never_true true h = absurd (h refl)
never_true false h = refl

not_true : (b : Bool) → b ≡ false → b ≡ true → ⊥
not_true true e h = cc
not_true false e h = cc

module _ (site : Site) (kept : Retained) (done : List Done) (moments : List Moment) (panel : ℕ) (zones : DueZones) (are :
    AreDueZones site kept done moments panel zones) where
  tells_out : TellAll site (λ zone. IsDueOut site kept done moments zone panel) (λ zone. IsDueByHand site kept done moments zone panel) (λ source. ⊥) (out_due zones)
  tells_out = record { released = are.out; by_hand = are.by_hand; faults = λ source is. no_fault source }

  tells_hands : TellAll site (λ zone. IsDueByHand site kept done moments zone panel) (λ zone. IsDueByHand site kept done moments zone panel) (λ source. ⊥)
      (hands_due zones)
  tells_hands = record { released = are.by_hand; by_hand = are.by_hand; faults = λ source is. no_fault source }

  module _ (valid : IsValid site) (free : HasNoCycle site) (place : ℕ) (output : Output) (at : slice_get site.outputs place ≡ Some output)
      (here : output.panel ≡ panel) where
    of_output : panel_of_output site place ≡ panel
    of_output = ap panel_of_plan at ∙ here

    to_asked : IsAskedOver site (λ zone. IsDueOut site kept done moments zone panel) (λ zone. IsDueByHand site kept done moments zone panel)
        (λ source. ⊥) place → IsDueAsked site kept done moments place
    to_asked h = record {
      facts = h.facts;
      due =
          subst (λ p. AreDue site kept done moments p h.facts) (sym of_output)
          (record {
            released = h.may_be.released;
            by_hand = h.may_be.by_hand;
            faults = λ source. never_true (h.facts.faulty source) (h.may_be.faults source);
          });
      asks = h.asks;
    }

    from_asked : IsDueAsked site kept done moments place
        → IsAskedOver site (λ zone. IsDueOut site kept done moments zone panel) (λ zone. IsDueByHand site kept done moments zone panel) (λ source. ⊥) place
    from_asked h =
        let due = subst (λ p. AreDue site kept done moments p h.facts) of_output h.due in
        record {
          facts = h.facts;
          may_be = record { released = due.released; by_hand = due.by_hand; faults = λ source t. not_true (h.facts.faulty source) (due.faults source) t };
          asks = h.asks;
        }

    to_by_hand : IsAskedOver site (λ zone. IsDueByHand site kept done moments zone panel) (λ zone. IsDueByHand site kept done moments zone panel)
        (λ source. ⊥) place → IsDueAskedByHand site kept done moments place
    to_by_hand h = record {
      facts = h.facts;
      due =
          subst (λ p. AreDueByHand site kept done moments p h.facts) (sym of_output)
          (record {
            released = h.may_be.released;
            by_hand = h.may_be.by_hand;
            faults = λ source. never_true (h.facts.faulty source) (h.may_be.faults source);
          });
      asks = h.asks;
    }

    from_by_hand : IsDueAskedByHand site kept done moments place
        → IsAskedOver site (λ zone. IsDueByHand site kept done moments zone panel) (λ zone. IsDueByHand site kept done moments zone panel) (λ source. ⊥)
        place
    from_by_hand h =
        let due = subst (λ p. AreDueByHand site kept done moments p h.facts) of_output h.due in
        record {
          facts = h.facts;
          may_be = record { released = due.released; by_hand = due.by_hand; faults = λ source t. not_true (h.facts.faulty source) (due.faults source) t };
          asks = h.asks;
        }

    pub asked_is : (asked : AskedMarkers) (answer : Bool) → GoesBy site (out_due zones) asked → TellsAsked asked output answer
        → (answer ≡ true) ↔ IsDueAsked site kept done moments place
    asked_is asked answer goes tells =
        let is = tells site (out_due zones) place valid free at goes in
        let decides =
        all_facts_decide site (out_due zones) (λ zone. IsDueOut site kept done moments zone panel) (λ zone. IsDueByHand site kept done moments zone panel)
        (λ source. ⊥) valid tells_out place in
        (λ h. to_asked (decides.0 (sym is ∙ h)), λ h. is ∙ decides.1 (from_asked h))

    pub by_hand_is : (asked : AskedMarkers) (answer : Bool) → GoesBy site (hands_due zones) asked → TellsAsked asked output answer
        → (answer ≡ true) ↔ IsDueAskedByHand site kept done moments place
    by_hand_is asked answer goes tells =
        let is = tells site (hands_due zones) place valid free at goes in
        let decides =
        all_facts_decide site (hands_due zones) (λ zone. IsDueByHand site kept done moments zone panel)
        (λ zone. IsDueByHand site kept done moments zone panel) (λ source. ⊥) valid tells_hands place in
        (λ h. to_by_hand (decides.0 (sym is ∙ h)), λ h. is ∙ decides.1 (from_by_hand h))
