-- In which ticks a point is asked.
use Rattle.std.proofs.Common.{◌≡◌, ℕ, ◌+◌, ◌-◌, ◌*◌, ◌/◌, ◌%◌, ◌≤◌, ◌<◌, true, Some, slice_get, inl, inr, sym, ◌∙◌, subst, arith}
use Rattle.std.proofs.lemmas.Bool.{eqb-true}
use Rattle.site_types.specs.declared.point.Point.{Point}
use Rattle.site_types.specs.declared.site.Site.{Site}
use Rattle.site_types.specs.Profile.{round_of}
use Rattle.site_types.specs.Valid.{IsValid}
use Rattle.loop_poller.specs.Asked.{is_asked}
use Rattle.panel_rules.proofs.AnswersTell.{eq_true}
use Rattle.panel_rules.proofs.Rounds.{IsFormat, asked_once, one_or_two}
use Rattle.panel_rules.proofs.ValidLayout.{laid_out}
use Rattle.caused_zones.specs.Counting.{IsAskedAt}

back_12 : (tick : ℕ) → 12 ≤ tick → (tick - 12) % 12 ≡ tick % 12
back_12 tick l = omega (arith, l)

back_24 : (tick : ℕ) → 24 ≤ tick → (tick - 24) % 24 ≡ tick % 24
back_24 tick l = omega (arith, l)

round_back : (format tick : ℕ) → IsFormat format → round_of format ≤ tick → (tick - round_of format) % round_of format ≡ tick % round_of format
round_back format tick h l =
    elim (one_or_two format h) [
      | inl e ↦ subst (λ f. (tick - 12 * f) % (12 * f) ≡ tick % (12 * f)) (sym e) (back_12 tick (omega (arith, l, e)))
      | inr e ↦ subst (λ f. (tick - 12 * f) % (12 * f) ≡ tick % (12 * f)) (sym e) (back_24 tick (omega (arith, l, e)))
    ]

module _ (site : Site) (valid : IsValid site) (point : ℕ) where
  format : IsFormat site.format
  format = (laid_out site valid).format

  -- a round before it is asked as well
  pub asked_back : (tick : ℕ) → round_of site.format ≤ tick → IsAskedAt site point tick → IsAskedAt site point (tick - round_of site.format)
  asked_back tick l asks = record {
    plan = asks.plan;
    is = asks.is;
    asked = eq_true _ _ (round_back site.format tick format l ∙ eqb-true (tick % round_of site.format) ((asks.plan.address - 1) / 8) asks.asked);
  }

  same_plan : (a b : Point) → slice_get site.points point ≡ Some a → slice_get site.points point ≡ Some b → a ≡ b
  same_plan a b p q = same (sym p ∙ q)
    where
      same : Some a ≡ Some b → a ≡ b
      same e = cc

  -- and in no other tick of a round
  pub asked_apart : (one other : ℕ) → one ≤ other → other < one + round_of site.format → IsAskedAt site point one → IsAskedAt site point other
      → other ≡ one
  asked_apart one other from by first second =
      let lies = (laid_out site valid).points point first.plan first.is in
      let h = asked_once site.format first.plan.address one format.0 format.1 lies.address.0 lies.address.1 in
      let e = same_plan second.plan first.plan second.is first.is in
      let second_asked = subst (λ (p : Point). is_asked site.format p.address other ≡ true) e second.asked in
      h.only other from by second_asked ∙ sym (h.only one (omega arith) (omega (arith, format.0)) first.asked)
