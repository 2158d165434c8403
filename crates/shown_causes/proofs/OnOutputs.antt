-- An output can be on exactly where its marker is true over all that its panel may have heard.
use Rattle.std.proofs.Common.{◌≡◌, ◌↔◌, ℕ, Bool, List, Some, slice_get, sym, ◌∙◌, ap, subst}
use Rattle.std.specs.Prelude.{IsTrue}
use Rattle.site_types.specs.declared.output.Output.{Output}
use Rattle.site_types.specs.declared.retained.Retained.{Retained}
use Rattle.site_types.specs.declared.site.Site.{Site}
use Rattle.site_types.specs.Valid.{IsValid}
use Rattle.face_text.specs.declared.timeline.Timeline.{Timeline}
use Rattle.marker_table.specs.declared.facts.Facts.{Facts as Masks}
use Rattle.panel_rules.specs.Moments.{TickBlock, moments}
use Rattle.panel_rules.specs.Outputs.{is_true_over, panel_of_output, panel_of_plan}
use Rattle.audit_rules.specs.CanCause.{CanBeHeard, CanBeHeardByHand, CanBeOn, CanBeTrue, CanTellFault}
use Rattle.blocked_points.specs.declared.done_operation.DoneOperation.{DoneOperation}
use Rattle.blocked_points.specs.Operations.{done_newest_first}
use Rattle.asked_markers.specs.Asking.{IsAskedOver}
use Rattle.asked_markers.specs.FactsTold.{facts_told}
use Rattle.asked_markers.proofs.AllFacts.{all_facts_decide}
use Rattle.shown_causes.specs.Heard.{TellAllHeard}

module _ (site : Site) (kept : Retained) (operations : List DoneOperation) (timeline : Timeline) (ticks : List TickBlock) (masks : Masks) (place : ℕ)
    (output : Output) (valid : IsValid site) (at : slice_get site.outputs place ≡ Some output)
    (tell : TellAllHeard site kept operations timeline ticks output.panel masks) where
  panel_is : panel_of_output site place ≡ output.panel
  panel_is = ap panel_of_plan at

  abbrev Asked : Type 0
  Asked =
      IsAskedOver site (CanBeHeard site timeline kept (done_newest_first operations) (moments ticks) output.panel)
      (CanBeHeardByHand site timeline kept (done_newest_first operations) (moments ticks) output.panel)
      (CanTellFault site timeline kept (done_newest_first operations) (moments ticks) output.panel) place

  to_on : Asked → CanBeOn site timeline kept (done_newest_first operations) (moments ticks) place
  to_on asked = record {
    facts = asked.facts;
    caused = subst (λ p. CanBeTrue site timeline kept (done_newest_first operations) (moments ticks) p asked.facts) (sym panel_is)
        (record { released = asked.may_be.released; by_hand = asked.may_be.by_hand; faults = asked.may_be.faults });
    asks = asked.asks;
  }

  from_on : CanBeOn site timeline kept (done_newest_first operations) (moments ticks) place → Asked
  from_on can =
      let caused = subst (λ p. CanBeTrue site timeline kept (done_newest_first operations) (moments ticks) p can.facts) panel_is can.caused in
      record {
        facts = can.facts;
        may_be = record { released = caused.released; by_hand = caused.by_hand; faults = caused.faults };
        asks = can.asks;
      }

  pub on_is : (result : Bool) → result ≡ is_true_over site place (facts_told site masks)
      → IsTrue result ↔ CanBeOn site timeline kept (done_newest_first operations) (moments ticks) place
  on_is result is =
      let decide = all_facts_decide site masks (CanBeHeard site timeline kept (done_newest_first operations) (moments ticks) output.panel)
      (CanBeHeardByHand site timeline kept (done_newest_first operations) (moments ticks) output.panel)
      (CanTellFault site timeline kept (done_newest_first operations) (moments ticks) output.panel) valid tell place in
      (λ h. to_on (decide.0 (sym is ∙ h)), λ c. is ∙ decide.1 (from_on c))
