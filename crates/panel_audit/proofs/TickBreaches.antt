-- The first breach of a tick, from the first breaches of its rules.
use Rattle.std.proofs.Common.{◌∙◌, ℕ, List, [], ◌∷◌, refl, subst, arith, Option, Some, None, ap}
use Rattle.site_types.specs.declared.site.Site.{Site}
use Rattle.face_text.specs.declared.timeline.Timeline.{Timeline}
use Rattle.panel_rules.specs.Moments.{TickBlock}
use Rattle.audit_rules.specs.declared.audit_rule.AuditRule.{AuditRule}
use Rattle.audit_rules.specs.declared.audit_rule.AuditRule.TheVariants.{Length, Answer, Indication, Output, Zone, Cause}
use Rattle.audit_rules.specs.Answering.{HasUnfounded}
use Rattle.audit_rules.specs.Breaches.{Breach, BreaksAnswer, BreaksRule, asked_in_record, place_of_rule}
use Rattle.panel_audit.specs.Firsts.{FirstInTick}
use Rattle.panel_audit.proofs.FirstBreaches.{NoneBefore, none_in_tick, rule_first, same_first}
use Rattle.panel_audit.proofs.RuleBreaches.{BreaksAt, FirstOfRule}

module _ (site : Site) (ticks : List TickBlock) (timeline : Timeline) (tick : ℕ) where
  abbrev First : AuditRule → Option Breach → Type 0
  First rule = FirstOfRule site ticks timeline rule tick

  length_none : First Length None
  length_none breach at = subst (λ r. BreaksRule site ticks timeline r breach) at.rule_is at.breaks

  -- ---- answers

  abbrev pub answer_breach : Breach
  answer_breach = record { tick = tick; rule = Answer; panel = 0; owner = 0; number = 0 }

  answers : (breach : Breach) → BreaksAt site ticks timeline Answer tick breach → BreaksAnswer site ticks timeline breach
  answers breach at = subst (λ r. BreaksRule site ticks timeline r breach) at.rule_is at.breaks

  pub answer_first : HasUnfounded (asked_in_record site ticks timeline) timeline.steps tick → First Answer (Some answer_breach)
  answer_first unfounded = (
    record { rule_is = refl; tick_is = refl; breaks = record { panel = refl; owner = refl; number = refl; unfounded = unfounded } },
    λ other at. (
        let a = answers other at in
        same_first other.tick tick (place_of_rule other.rule ∷ other.panel ∷ other.owner ∷ other.number ∷ []) (1 ∷ 0 ∷ 0 ∷ 0 ∷ []) at.tick_is
        ∙ same_first (place_of_rule other.rule) 1 (other.panel ∷ other.owner ∷ other.number ∷ []) (0 ∷ 0 ∷ 0 ∷ []) (ap place_of_rule at.rule_is)
        ∙ same_first other.panel 0 (other.owner ∷ other.number ∷ []) (0 ∷ 0 ∷ []) a.panel
        ∙ same_first other.owner 0 (other.number ∷ []) (0 ∷ []) a.owner ∙ same_first other.number 0 [] [] a.number),
  )

  pub answer_none : (HasUnfounded (asked_in_record site ticks timeline) timeline.steps tick → ⊥) → First Answer None
  answer_none founded breach at =
      (let a = answers breach at in
      founded (subst (HasUnfounded (asked_in_record site ticks timeline) timeline.steps) at.tick_is a.unfounded))

  -- ---- rules before others

  before_answer : NoneBefore site ticks timeline tick Answer
  before_answer Length low = length_none
  before_answer Answer low = absurd (omega (arith, low))
  before_answer Indication low = absurd (omega (arith, low))
  before_answer Output low = absurd (omega (arith, low))
  before_answer Zone low = absurd (omega (arith, low))
  before_answer Cause low = absurd (omega (arith, low))

  module _ (answer : First Answer None) where
    before_indication : NoneBefore site ticks timeline tick Indication
    before_indication Length low = length_none
    before_indication Answer low = answer
    before_indication Indication low = absurd (omega (arith, low))
    before_indication Output low = absurd (omega (arith, low))
    before_indication Zone low = absurd (omega (arith, low))
    before_indication Cause low = absurd (omega (arith, low))

    pub first_indication : (breach : Breach) → First Indication (Some breach) → FirstInTick site ticks timeline tick (Some breach)
    first_indication breach first = rule_first site ticks timeline tick Indication breach first before_indication

    module _ (indication : First Indication None) where
      before_output : NoneBefore site ticks timeline tick Output
      before_output Length low = length_none
      before_output Answer low = answer
      before_output Indication low = indication
      before_output Output low = absurd (omega (arith, low))
      before_output Zone low = absurd (omega (arith, low))
      before_output Cause low = absurd (omega (arith, low))

      pub first_output : (breach : Breach) → First Output (Some breach) → FirstInTick site ticks timeline tick (Some breach)
      first_output breach first = rule_first site ticks timeline tick Output breach first before_output

      module _ (output : First Output None) where
        before_zone : NoneBefore site ticks timeline tick Zone
        before_zone Length low = length_none
        before_zone Answer low = answer
        before_zone Indication low = indication
        before_zone Output low = output
        before_zone Zone low = absurd (omega (arith, low))
        before_zone Cause low = absurd (omega (arith, low))

        pub first_zone : (breach : Breach) → First Zone (Some breach) → FirstInTick site ticks timeline tick (Some breach)
        first_zone breach first = rule_first site ticks timeline tick Zone breach first before_zone

        module _ (zone : First Zone None) where
          before_cause : NoneBefore site ticks timeline tick Cause
          before_cause Length low = length_none
          before_cause Answer low = answer
          before_cause Indication low = indication
          before_cause Output low = output
          before_cause Zone low = zone
          before_cause Cause low = absurd (omega (arith, low))

          pub first_cause : (breach : Breach) → First Cause (Some breach) → FirstInTick site ticks timeline tick (Some breach)
          first_cause breach first = rule_first site ticks timeline tick Cause breach first before_cause

          pub none_at_all : First Cause None → FirstInTick site ticks timeline tick None
          none_at_all cause = none_in_tick site ticks timeline tick answer indication output zone cause

  pub first_answer : HasUnfounded (asked_in_record site ticks timeline) timeline.steps tick → FirstInTick site ticks timeline tick (Some answer_breach)
  first_answer unfounded = rule_first site ticks timeline tick Answer answer_breach (answer_first unfounded) before_answer
