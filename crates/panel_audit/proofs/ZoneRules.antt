-- The first zone of which a rule's breach is found is the first breach of the rule.
use Rattle.std.proofs.Common.{◌≡◌, ◌∙◌, ◌<◌, ℕ, suc, false, List, [], ◌∷◌, refl, sym, ap, subst, arith, length, Some, None, slice_get, inl, inr}
use Rattle.std.proofs.lemmas.Bool.Decides.{leb_tells}
use Rattle.site_types.specs.declared.site.Site.{Site}
use Rattle.site_types.specs.declared.zone.Zone.{Zone}
use Rattle.face_text.specs.declared.timeline.Timeline.{Timeline}
use Rattle.panel_rules.specs.Moments.{TickBlock}
use Rattle.audit_rules.specs.declared.audit_rule.AuditRule.{AuditRule}
use Rattle.audit_rules.specs.Breaches.{Breach, BreaksRule, NamesZone, breaks_earlier, is_lower, place_of_rule}
use Rattle.panel_audit.specs.declared.found.Found.{Found}
use Rattle.panel_audit.specs.declared.numbered.Numbered.{Numbered}
use Rattle.panel_audit.specs.Lowest.{standing_of}
use Rattle.panel_audit.specs.Numbers.{AreZoneNumbers}
use Rattle.panel_audit.specs.Places.{FirstFound, IsFirstFound}
use Rattle.panel_audit.proofs.FirstBreaches.{higher_first, same_first}
use Rattle.panel_audit.proofs.WrittenMarks.{got_few}
use Rattle.panel_audit.proofs.NumbersTaken.{number_is, of_thing, panel_is, thing_of}
use Rattle.panel_audit.proofs.RuleBreaches.{BreaksAt, FirstOfRule}

module _ (site : Site) (ticks : List TickBlock) (timeline : Timeline) (zones : List Numbered) (numbers : AreZoneNumbers site.zones zones) (rule : AuditRule)
    (tick : ℕ) (Holds : ℕ → ℕ → Type 0)
    (breaks : (breach : Breach) (place : ℕ) (plan : Zone) → breach.tick ≡ tick → NamesZone site ticks timeline breach place plan → Holds breach.panel place
    → BreaksRule site ticks timeline rule breach)
    (broken : (breach : Breach) → breach.tick ≡ tick → BreaksRule site ticks timeline rule breach
    → (place : ℕ) × (plan : Zone) × NamesZone site ticks timeline breach place plan × Holds breach.panel place) where
  abbrev panel_of : Zone → ℕ
  panel_of zone = zone.panel

  abbrev number_of : Zone → ℕ
  number_of zone = zone.number

  -- the breach that a panel and a zone make
  abbrev pub zone_breach : ℕ → Numbered → Breach
  zone_breach panel zone = record { tick = tick; rule = rule; panel = panel; owner = zone.panel; number = zone.number }

  of_rule : (breach : Breach) → BreaksAt site ticks timeline rule tick breach → BreaksRule site ticks timeline rule breach
  of_rule breach at = subst (λ r. BreaksRule site ticks timeline r breach) at.rule_is at.breaks

  few : (place : ℕ) (plan : Zone) → slice_get site.zones place ≡ Some plan → place < length zones
  few place plan is = (let thing = thing_of panel_of number_of site.zones zones numbers place plan is in got_few zones place thing.0 thing.1)

  pub zone_none : FirstFound zones Holds site.panels None → FirstOfRule site ticks timeline rule tick None
  zone_none none breach at =
      let b = broken breach at.tick_is (of_rule breach at) in
      let names = b.2 in
      let within = names.panel in
      none breach.panel within.0 within.1 b.0 (few b.0 b.1 names.plan_is) b.3

  pub zone_first : (found : Found) (first : IsFirstFound zones Holds site.panels found)
      → FirstOfRule site ticks timeline rule tick (Some (zone_breach found.panel first.first.thing))
  zone_first found first =
      let thing = first.first.thing in
      let plan = of_thing panel_of number_of site.zones zones numbers found.place thing first.first.is in
      let breach = zone_breach found.panel thing in (
        record {
          rule_is = refl;
          tick_is = refl;
          breaks = breaks breach found.place plan.0 refl (record {
            panel = (first.begins, first.within);
            plan_is = plan.1;
            owner = panel_is panel_of number_of site.zones zones numbers found.place thing plan.0 first.first.is plan.1;
            number = number_is panel_of number_of site.zones zones numbers found.place thing plan.0 first.first.is plan.1;
          }) first.first.holds;
        },
        λ other at. (
            let b = broken other at.tick_is (of_rule other at) in
            let names = b.2 in
            let holds = b.3 in
            let to_panels : breaks_earlier other breach ≡ is_lower (other.panel ∷ other.owner ∷ other.number ∷ []) (found.panel ∷ thing.panel ∷ thing.number ∷ []) =
            same_first other.tick tick (place_of_rule other.rule ∷ other.panel ∷ other.owner ∷ other.number ∷ [])
            (place_of_rule rule ∷ found.panel ∷ thing.panel ∷ thing.number ∷ []) at.tick_is
            ∙ same_first (place_of_rule other.rule) (place_of_rule rule) (other.panel ∷ other.owner ∷ other.number ∷ [])
            (found.panel ∷ thing.panel ∷ thing.number ∷ []) (ap place_of_rule at.rule_is) in
            to_panels ∙ elim (leb_tells found.panel other.panel) [
              | inr h ↦ absurd (first.before other.panel names.panel.0 h.1 b.0 (few b.0 b.1 names.plan_is) holds)
              | inl h ↦
                  (let from = h.1 in
                  elim (leb_tells (suc found.panel) other.panel) [
                    | inl g ↦ higher_first found.panel other.panel (other.owner ∷ other.number ∷ []) (thing.panel ∷ thing.number ∷ []) g.1
                    | inr g ↦
                        (let near = g.1 in
                        let same : other.panel ≡ found.panel = omega (arith, from, near) in
                        same_first other.panel found.panel (other.owner ∷ other.number ∷ []) (thing.panel ∷ thing.number ∷ []) same
                        ∙ least_there found first b.0 b.1 names.plan_is (subst (λ p. Holds p b.0) same holds) other.owner other.number names.owner names.number)
                  ])
            ]),
      )
    where
      least_there : (found : Found) (first : IsFirstFound zones Holds site.panels found) (place : ℕ) (plan : Zone) → slice_get site.zones place ≡ Some plan
          → Holds found.panel place → (owner number : ℕ) → owner ≡ plan.panel → number ≡ plan.number
          → is_lower (owner ∷ number ∷ []) (first.first.thing.panel ∷ first.first.thing.number ∷ []) ≡ false
      least_there found first place plan is holds owner number owner_is number_are =
          let thing = thing_of panel_of number_of site.zones zones numbers place plan is in
          let p = panel_is panel_of number_of site.zones zones numbers place thing.0 plan thing.1 is in
          let n = number_is panel_of number_of site.zones zones numbers place thing.0 plan thing.1 is in
          ap (λ k. is_lower (k ∷ number ∷ []) (standing_of first.first.thing)) (owner_is ∙ sym p)
          ∙ ap (λ k. is_lower (thing.0.panel ∷ k ∷ []) (standing_of first.first.thing)) (number_are ∙ sym n)
          ∙ first.first.least place thing.0 thing.1 holds
