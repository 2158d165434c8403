-- The first output of which a rule's breach is found is the first breach of the rule.
use Rattle.std.proofs.Common.{◌≡◌, ◌∙◌, ◌<◌, ℕ, suc, true, false, List, [], ◌∷◌, refl, sym, ap, subst, arith, length, Some, None, slice_get, inl, inr}
use Rattle.std.proofs.lemmas.Bool.Decides.{leb_tells}
use Rattle.site_types.specs.declared.output.Output.{Output}
use Rattle.site_types.specs.declared.site.Site.{Site}
use Rattle.face_text.specs.declared.timeline.Timeline.{Timeline}
use Rattle.panel_rules.specs.Moments.{TickBlock}
use Rattle.audit_rules.specs.declared.audit_rule.AuditRule.{AuditRule}
use Rattle.audit_rules.specs.Breaches.{Breach, BreaksRule, NamesOutput, is_lower, place_of_rule}
use Rattle.panel_audit.specs.declared.numbered.Numbered.{Numbered}
use Rattle.panel_audit.specs.Numbers.{AreOutputNumbers}
use Rattle.panel_audit.specs.Places.{FirstPlace, IsFirstPlace}
use Rattle.panel_audit.proofs.FirstBreaches.{higher_first, same_first}
use Rattle.panel_audit.proofs.WrittenMarks.{got_few}
use Rattle.panel_audit.proofs.NumbersTaken.{number_is, of_thing, panel_is, thing_of}
use Rattle.panel_audit.proofs.RuleBreaches.{BreaksAt, FirstOfRule}

lower_first : (a b : ℕ) (ones others : List ℕ) → a < b → is_lower (a ∷ ones) (b ∷ others) ≡ true
lower_first a b ones others low =
    elim (leb_tells (suc a) b) [
      | inl h ↦ rw h.0 refl
      | inr h ↦ (let high = h.1 in absurd (omega (arith, low, high)))
    ]

-- a panel that is named twice decides nothing more
named_twice : (p q n m : ℕ) → is_lower (p ∷ n ∷ []) (q ∷ m ∷ []) ≡ false → is_lower (p ∷ p ∷ n ∷ []) (q ∷ q ∷ m ∷ []) ≡ false
named_twice p q n m once =
    elim (leb_tells q p) [
      | inr h ↦ absurd (never (sym (lower_first p q (n ∷ []) (m ∷ []) h.1) ∙ once))
      | inl h ↦
          (let from = h.1 in
          elim (leb_tells (suc q) p) [
            | inl g ↦ higher_first q p (p ∷ n ∷ []) (q ∷ m ∷ []) g.1
            | inr g ↦
                (let near = g.1 in
                let same : p ≡ q = omega (arith, from, near) in
                same_first p q (p ∷ n ∷ []) (q ∷ m ∷ []) same ∙ once)
          ])
    ]
  where
    never : true ≡ false → ⊥
    never e = cc

module _ (site : Site) (ticks : List TickBlock) (timeline : Timeline) (outputs : List Numbered) (numbers : AreOutputNumbers site.outputs outputs)
    (rule : AuditRule) (tick : ℕ) (Holds : ℕ → Type 0)
    (breaks : (breach : Breach) (place : ℕ) (plan : Output) → breach.tick ≡ tick → NamesOutput site ticks timeline breach place plan → Holds place
    → BreaksRule site ticks timeline rule breach)
    (broken : (breach : Breach) → breach.tick ≡ tick → BreaksRule site ticks timeline rule breach
    → (place : ℕ) × (plan : Output) × NamesOutput site ticks timeline breach place plan × Holds place) where
  abbrev panel_of : Output → ℕ
  panel_of output = output.panel

  abbrev number_of : Output → ℕ
  number_of output = output.number

  -- the breach that an output makes
  abbrev pub output_breach : Numbered → Breach
  output_breach output = record { tick = tick; rule = rule; panel = output.panel; owner = output.panel; number = output.number }

  of_rule : (breach : Breach) → BreaksAt site ticks timeline rule tick breach → BreaksRule site ticks timeline rule breach
  of_rule breach at = subst (λ r. BreaksRule site ticks timeline r breach) at.rule_is at.breaks

  few : (place : ℕ) (plan : Output) → slice_get site.outputs place ≡ Some plan → place < length outputs
  few place plan is = (let thing = thing_of panel_of number_of site.outputs outputs numbers place plan is in got_few outputs place thing.0 thing.1)

  pub output_none : FirstPlace outputs Holds None → FirstOfRule site ticks timeline rule tick None
  output_none none breach at =
      let b = broken breach at.tick_is (of_rule breach at) in
      none b.0 (few b.0 b.1 b.2.plan_is) b.3

  pub output_first : (place : ℕ) (first : IsFirstPlace outputs Holds place) → FirstOfRule site ticks timeline rule tick (Some (output_breach first.thing))
  output_first place first =
      let thing = first.thing in
      let plan = of_thing panel_of number_of site.outputs outputs numbers place thing first.is in
      let panel = panel_is panel_of number_of site.outputs outputs numbers place thing plan.0 first.is plan.1 in
      let breach = output_breach thing in (
        record {
          rule_is = refl;
          tick_is = refl;
          breaks = breaks breach place plan.0 refl (record {
            plan_is = plan.1;
            panel = panel;
            owner = panel;
            number = number_is panel_of number_of site.outputs outputs numbers place thing plan.0 first.is plan.1;
          }) first.holds;
        },
        λ other at. (
            let b = broken other at.tick_is (of_rule other at) in
            let names = b.2 in
            let one = thing_of panel_of number_of site.outputs outputs numbers b.0 b.1 names.plan_is in
            let p = panel_is panel_of number_of site.outputs outputs numbers b.0 one.0 b.1 one.1 names.plan_is in
            let n = number_is panel_of number_of site.outputs outputs numbers b.0 one.0 b.1 one.1 names.plan_is in
            same_first other.tick tick (place_of_rule other.rule ∷ other.panel ∷ other.owner ∷ other.number ∷ [])
            (place_of_rule rule ∷ thing.panel ∷ thing.panel ∷ thing.number ∷ []) at.tick_is
            ∙ same_first (place_of_rule other.rule) (place_of_rule rule) (other.panel ∷ other.owner ∷ other.number ∷ [])
            (thing.panel ∷ thing.panel ∷ thing.number ∷ []) (ap place_of_rule at.rule_is)
            ∙ ap (λ k. is_lower (k ∷ other.owner ∷ other.number ∷ []) (thing.panel ∷ thing.panel ∷ thing.number ∷ [])) (names.panel ∙ sym p)
            ∙ ap (λ k. is_lower (one.0.panel ∷ k ∷ other.number ∷ []) (thing.panel ∷ thing.panel ∷ thing.number ∷ [])) (names.owner ∙ sym p)
            ∙ ap (λ k. is_lower (one.0.panel ∷ one.0.panel ∷ k ∷ []) (thing.panel ∷ thing.panel ∷ thing.number ∷ [])) (names.number ∙ sym n)
            ∙ named_twice one.0.panel thing.panel one.0.number thing.number (first.least b.0 one.0 one.1 b.3)),
      )
