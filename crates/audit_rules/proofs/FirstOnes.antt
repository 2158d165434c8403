-- Two breaches neither of which comes before the other have the same tick, rule, panel, owner and number.
use Rattle.std.proofs.Common.{◌≡◌, ℕ, ◌≤◌, ◌<◌, List, [], ◌∷◌, inl, inr, Bool, true, false, ◌&&◌, ◌||◌, refl, sym, ◌∙◌, ap, arith}
use Rattle.std.specs.Prelude.{nat_lt, ◌==◌}
use Rattle.std.proofs.lemmas.Bool.Decides.{eqb_tells}
use Rattle.site_types.proofs.Done.{lt_tells}
use Rattle.audit_rules.specs.declared.audit_rule.AuditRule.{AuditRule}
use Rattle.audit_rules.specs.declared.audit_rule.AuditRule.TheVariants.{Length, Answer, Indication, Output, Zone, Cause}
use Rattle.audit_rules.specs.Breaches.{Breach, breaks_earlier, is_lower, place_of_rule, standing}

-- where neither of two lists is lower, their heads are equal, and neither rest is lower
pub record Level (a b : ℕ) (ones others : List ℕ) : Type 0 where
  pub heads : a ≡ b
  pub one : is_lower ones others ≡ false
  pub other : is_lower others ones ≡ false

rests : (a b : ℕ) (ones others : List ℕ) → a ≡ b → is_lower (a ∷ ones) (b ∷ others) ≡ false → is_lower ones others ≡ false
rests a b ones others same low =
    elim (lt_tells a b) [
      | inl t ↦ absurd (omega (arith, t.1, same))
      | inr t ↦
          elim (eqb_tells a b) [
            | inl e ↦ (let h : (nat_lt a b || ((a == b) && is_lower ones others)) ≡ false = low in
                by (nat_lt a b) (a == b) (is_lower ones others) t.0 e.0 h)
            | inr e ↦ absurd (e.1 same)
          ]
    ]
  where
    by : (less equal rest : Bool) → less ≡ false → equal ≡ true → (less || (equal && rest)) ≡ false → rest ≡ false
    by false true rest p q h = h
    by false false rest p q h = cc
    by true equal rest p q h = cc

heads_meet : (a b : ℕ) (ones others : List ℕ) → is_lower (a ∷ ones) (b ∷ others) ≡ false → b ≤ a
heads_meet a b ones others low =
    elim (lt_tells a b) [
      | inl t ↦ absurd (by (nat_lt a b) ((a == b) && is_lower ones others) t.0 low)
      | inr t ↦ t.1
    ]
  where
    by : (less rest : Bool) → less ≡ true → (less || rest) ≡ false → ⊥
    by true rest p h = cc
    by false rest p h = cc

level : (a b : ℕ) (ones others : List ℕ) → is_lower (a ∷ ones) (b ∷ others) ≡ false → is_lower (b ∷ others) (a ∷ ones) ≡ false → Level a b ones others
level a b ones others one other =
    let same : a ≡ b = omega (arith, heads_meet a b ones others one, heads_meet b a others ones other) in
    record { heads = same; one = rests a b ones others same one; other = rests b a others ones (sym same) other }

-- each rule has a place of its own
same_rule : (one other : AuditRule) → place_of_rule one ≡ place_of_rule other → one ≡ other
same_rule Length Length p = refl
same_rule Answer Answer p = refl
same_rule Indication Indication p = refl
same_rule Output Output p = refl
same_rule Zone Zone p = refl
same_rule Cause Cause p = refl
same_rule _ _ p = absurd (omega (arith, p))

pub record Same (one other : Breach) : Type 0 where
  pub tick : one.tick ≡ other.tick
  pub rule : one.rule ≡ other.rule
  pub panel : one.panel ≡ other.panel
  pub number : one.number ≡ other.number

pub same_breach : (one other : Breach) → breaks_earlier one other ≡ false → breaks_earlier other one ≡ false → Same one other
same_breach one other p q =
    let by_tick =
    level one.tick other.tick (place_of_rule one.rule ∷ one.panel ∷ one.owner ∷ one.number ∷ [])
    (place_of_rule other.rule ∷ other.panel ∷ other.owner ∷ other.number ∷ []) p q in
    let by_rule =
    level (place_of_rule one.rule) (place_of_rule other.rule) (one.panel ∷ one.owner ∷ one.number ∷ [])
    (other.panel ∷ other.owner ∷ other.number ∷ []) by_tick.one by_tick.other in
    let by_panel =
    level one.panel other.panel (one.owner ∷ one.number ∷ []) (other.owner ∷ other.number ∷ []) by_rule.one by_rule.other in
    let by_owner = level one.owner other.owner (one.number ∷ []) (other.number ∷ []) by_panel.one by_panel.other in
    let by_number = level one.number other.number [] [] by_owner.one by_owner.other in
    record {
      tick = by_tick.heads;
      rule = same_rule one.rule other.rule by_rule.heads;
      panel = by_panel.heads;
      number = by_number.heads;
    }

-- a breach that stands no lower in any of its five numbers doesn't come before
higher : (a b : ℕ) (ones others : List ℕ) → b ≤ a → is_lower ones others ≡ false → is_lower (a ∷ ones) (b ∷ others) ≡ false
higher a b ones others over rest =
    elim (lt_tells a b) [
      | inl t ↦ absurd (omega (arith, t.1, over))
      | inr t ↦ by (nat_lt a b) (a == b) (is_lower ones others) t.0 rest
    ]
  where
    by : (less equal low : Bool) → less ≡ false → low ≡ false → (less || (equal && low)) ≡ false
    by true equal low p q = cc
    by false true low p q = q
    by false false low p q = refl

pub record StandsHigher (one other : Breach) : Type 0 where
  pub tick : other.tick ≤ one.tick
  pub rule : place_of_rule other.rule ≤ place_of_rule one.rule
  pub panel : other.panel ≤ one.panel
  pub owner : other.owner ≤ one.owner
  pub number : other.number ≤ one.number

pub not_before : (one other : Breach) → StandsHigher one other → breaks_earlier one other ≡ false
not_before one other h =
    let number = higher one.number other.number [] [] h.number refl in
    let owner = higher one.owner other.owner (one.number ∷ []) (other.number ∷ []) h.owner number in
    let panel = higher one.panel other.panel (one.owner ∷ one.number ∷ []) (other.owner ∷ other.number ∷ []) h.panel owner in
    let rule =
    higher (place_of_rule one.rule) (place_of_rule other.rule) (one.panel ∷ one.owner ∷ one.number ∷ [])
    (other.panel ∷ other.owner ∷ other.number ∷ []) h.rule panel in
    higher one.tick other.tick (place_of_rule one.rule ∷ one.panel ∷ one.owner ∷ one.number ∷ [])
    (place_of_rule other.rule ∷ other.panel ∷ other.owner ∷ other.number ∷ []) h.tick rule
