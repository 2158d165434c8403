-- The first breach, rule by rule and tick by tick.
use Rattle.std.proofs.Common.{◌≡◌, ◌∙◌, ◌+◌, ◌<◌, ◌≤◌, ℕ, suc, false, List, [], ◌∷◌, refl, sym, subst, arith, length, Some, None, inl, inr}
use Rattle.std.proofs.lemmas.Bool.Decides.{leb_tells, eqb_tells}
use Rattle.site_types.specs.declared.site.Site.{Site}
use Rattle.face_text.specs.declared.timeline.Timeline.{Timeline}
use Rattle.panel_rules.specs.Moments.{TickBlock}
use Rattle.audit_rules.specs.declared.audit_rule.AuditRule.{AuditRule}
use Rattle.audit_rules.specs.declared.audit_rule.AuditRule.TheVariants.{Length, Answer, Indication, Output, Zone, Cause}
use Rattle.audit_rules.specs.Breaches.{Breach, BreaksRule, IsBreach, IsFirstBreach, is_lower, place_of_rule}
use Rattle.panel_audit.specs.Firsts.{FirstInTick}
use Rattle.panel_audit.proofs.RuleBreaches.{BreaksAt, FirstByTick, FirstOfRule}

-- ---- what comes first

pub higher_first : (a b : ℕ) (ones others : List ℕ) → a < b → is_lower (b ∷ ones) (a ∷ others) ≡ false
higher_first a b ones others higher =
    elim (leb_tells (suc b) a) [
      | inl h ↦ (let low = h.1 in absurd (omega (arith, low, higher)))
      | inr h ↦
          elim (eqb_tells b a) [
            | inl e ↦ (let same = e.1 in absurd (omega (arith, same, higher)))
            | inr e ↦ rw (h.0, e.0) refl
          ]
    ]

pub same_first : (a b : ℕ) (ones others : List ℕ) → a ≡ b → is_lower (a ∷ ones) (b ∷ others) ≡ is_lower ones others
same_first a b ones others same =
    elim (leb_tells (suc a) b) [
      | inl h ↦ (let low = h.1 in absurd (omega (arith, low, same)))
      | inr h ↦
          elim (eqb_tells a b) [
            | inl e ↦ rw (h.0, e.0) refl
            | inr e ↦ absurd (e.1 same)
          ]
    ]

-- rules have different places
same_rule : (one other : AuditRule) → place_of_rule one ≡ place_of_rule other → one ≡ other
same_rule Length Length e = refl
same_rule Answer Answer e = refl
same_rule Indication Indication e = refl
same_rule Output Output e = refl
same_rule Zone Zone e = refl
same_rule Cause Cause e = refl
same_rule Length Answer e = cc
same_rule Length Indication e = cc
same_rule Length Output e = cc
same_rule Length Zone e = cc
same_rule Length Cause e = cc
same_rule Answer Length e = cc
same_rule Answer Indication e = cc
same_rule Answer Output e = cc
same_rule Answer Zone e = cc
same_rule Answer Cause e = cc
same_rule Indication Length e = cc
same_rule Indication Answer e = cc
same_rule Indication Output e = cc
same_rule Indication Zone e = cc
same_rule Indication Cause e = cc
same_rule Output Length e = cc
same_rule Output Answer e = cc
same_rule Output Indication e = cc
same_rule Output Zone e = cc
same_rule Output Cause e = cc
same_rule Zone Length e = cc
same_rule Zone Answer e = cc
same_rule Zone Indication e = cc
same_rule Zone Output e = cc
same_rule Zone Cause e = cc
same_rule Cause Length e = cc
same_rule Cause Answer e = cc
same_rule Cause Indication e = cc
same_rule Cause Output e = cc
same_rule Cause Zone e = cc

module _ (site : Site) (ticks : List TickBlock) (timeline : Timeline) (tick : ℕ) where
  -- before a rule no other one was broken
  abbrev pub NoneBefore : AuditRule → Type 0
  NoneBefore rule = (other : AuditRule) → place_of_rule other < place_of_rule rule → FirstOfRule site ticks timeline other tick None

  -- the first of a rule is that of the tick where no rule before it is broken
  pub rule_first : (rule : AuditRule) (breach : Breach) → FirstOfRule site ticks timeline rule tick (Some breach) → NoneBefore rule
      → FirstInTick site ticks timeline tick (Some breach)
  rule_first rule breach first before =
      let at : breach.tick ≡ tick = first.0.tick_is in (
        record { tick_is = at; breaks = first.0.breaks },
        λ other breaks. elim (leb_tells (suc (place_of_rule rule)) (place_of_rule other.rule)) [
          | inl h ↦
              (let later = h.1 in
              let same : breach.rule ≡ rule = first.0.rule_is in
              same_first other.tick breach.tick (place_of_rule other.rule ∷ other.panel ∷ other.owner ∷ other.number ∷ [])
              (place_of_rule breach.rule ∷ breach.panel ∷ breach.owner ∷ breach.number ∷ []) (breaks.tick_is ∙ sym at)
              ∙ higher_first (place_of_rule breach.rule) (place_of_rule other.rule) (other.panel ∷ other.owner ∷ other.number ∷ [])
              (breach.panel ∷ breach.owner ∷ breach.number ∷ []) (subst (λ r. place_of_rule r < place_of_rule other.rule) (sym same) later))
          | inr h ↦
              (let least = h.1 in
              elim (leb_tells (suc (place_of_rule other.rule)) (place_of_rule rule)) [
                | inl g ↦ absurd (before other.rule g.1 other (record { rule_is = refl; tick_is = breaks.tick_is; breaks = breaks.breaks }))
                | inr g ↦
                    (let most = g.1 in
                    let place : place_of_rule other.rule ≡ place_of_rule rule = omega (arith, least, most) in
                    first.1 other (record { rule_is = same_rule other.rule rule place; tick_is = breaks.tick_is; breaks = breaks.breaks }))
              ])
        ],
      )

  -- where none of the five is broken none is
  pub none_in_tick : FirstOfRule site ticks timeline Answer tick None → FirstOfRule site ticks timeline Indication tick None
      → FirstOfRule site ticks timeline Output tick None → FirstOfRule site ticks timeline Zone tick None
      → FirstOfRule site ticks timeline Cause tick None → FirstInTick site ticks timeline tick None
  none_in_tick answer indication output zone cause breach breaks = by breach.rule refl
    where
      it : BreaksAt site ticks timeline breach.rule tick breach
      it = record { rule_is = refl; tick_is = breaks.tick_is; breaks = breaks.breaks }

      of : (rule : AuditRule) → breach.rule ≡ rule → BreaksAt site ticks timeline rule tick breach
      of rule e = subst (λ r. BreaksAt site ticks timeline r tick breach) e it

      by : (rule : AuditRule) → breach.rule ≡ rule → ⊥
      by Length e = subst (λ r. BreaksRule site ticks timeline r breach) e breaks.breaks
      by Answer e = answer breach (of Answer e)
      by Indication e = indication breach (of Indication e)
      by Output e = output breach (of Output e)
      by Zone e = zone breach (of Zone e)
      by Cause e = cause breach (of Cause e)

module _ (site : Site) (ticks : List TickBlock) (timeline : Timeline) where
  pub none_by_start : FirstByTick site ticks timeline 0 None
  none_by_start breach breaks = (let begins = breaks.begins in let by = breaks.by in omega (arith, begins, by))

  pub none_by_tick : (tick : ℕ) → FirstByTick site ticks timeline tick None → FirstInTick site ticks timeline (tick + 1) None
      → FirstByTick site ticks timeline (tick + 1) None
  none_by_tick tick before none breach breaks =
      elim (leb_tells breach.tick tick) [
        | inl h ↦ before breach (record { begins = breaks.begins; by = h.1; breaks = breaks.breaks })
        | inr h ↦
            (let far = h.1 in
            let by = breaks.by in
            none breach (record { tick_is = omega (arith, far, by); breaks = breaks.breaks }))
      ]

  -- the first breach of a tick before which there is none is the first of all
  pub first_of_all : (tick : ℕ) (breach : Breach) → tick + 1 ≤ length ticks → FirstByTick site ticks timeline tick None
      → FirstInTick site ticks timeline (tick + 1) (Some breach) → IsFirstBreach site ticks timeline breach
  first_of_all tick breach within before first =
      let at = first.0.tick_is in
      record {
        broken = record { begins = omega (arith, at); ends = omega (arith, at, within); breaks = first.0.breaks };
        first = λ other broken. elim (leb_tells other.tick tick) [
          | inl h ↦ absurd (before other (record { begins = broken.begins; by = h.1; breaks = broken.breaks }))
          | inr h ↦
              (let far = h.1 in
              elim (leb_tells (suc (tick + 1)) other.tick) [
                | inl g ↦
                    (let later = g.1 in
                    higher_first breach.tick other.tick (place_of_rule other.rule ∷ other.panel ∷ other.owner ∷ other.number ∷ [])
                    (place_of_rule breach.rule ∷ breach.panel ∷ breach.owner ∷ breach.number ∷ []) (omega (arith, at, later)))
                | inr g ↦
                    (let near = g.1 in
                    first.1 other (record { tick_is = omega (arith, far, near); breaks = broken.breaks }))
              ])
        ];
      }

  pub none_of_all : FirstByTick site ticks timeline (length ticks) None → (breach : Breach) → ¬ IsBreach site ticks timeline breach
  none_of_all none breach broken = none breach (record { begins = broken.begins; by = broken.ends; breaks = broken.breaks })
