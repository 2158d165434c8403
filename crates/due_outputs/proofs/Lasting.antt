-- What lasts without a gap.
use Rattle.std.proofs.Common.{◌≡◌, ◌≢◌, ◌<◌, ◌≤◌, ◌+◌, ◌-◌, ◌↔◌, inl, inr, if◌then◌else◌, ℕ, Bool, true, false, refl, sym, ap, subst, arith}
use Rattle.std.proofs.lemmas.Bool.{cases_lt}
use Rattle.std.proofs.lemmas.Bool.Decides.{eqb_tells}
use Rattle.due_outputs.specs.Runs.{LastsSince, since_with}

-- what is alike so far has lasted as long
pub lasts_same : (One Other : ℕ → Type 0) (now since : ℕ) → ((tick : ℕ) → tick ≤ now → One tick → Other tick)
    → ((tick : ℕ) → tick ≤ now → Other tick → One tick) → LastsSince One now since → LastsSince Other now since
lasts_same One Other now since to from lasts = record {
  by = lasts.by;
  through = λ tick some low high. to tick high (lasts.through tick some low high);
  ended = λ none some h. lasts.ended none some (from now (omega arith) h);
  began = λ before some next h. lasts.began before some next (from before (let l = lasts.by in omega (arith, next, l)) h);
}

module _ (Holds : ℕ → Type 0) (now since : ℕ) (lasts : LastsSince Holds now since) where
  lasts_on : since ≢ 0 → Holds (now + 1) → LastsSince Holds (now + 1) since
  lasts_on some holds = record {
    by = (let l = lasts.by in omega (arith, l));
    through = λ tick one low high.
        elim (cases_lt tick (now + 1)) [
          | inl less ↦ lasts.through tick one low (omega (arith, less))
          | inr more ↦ (let e : now + 1 ≡ tick = omega (arith, more, high) in subst Holds e holds)
        ];
    ended = λ none one h. some none;
    began = lasts.began;
  }

  lasts_anew : since ≡ 0 → Holds (now + 1) → LastsSince Holds (now + 1) (now + 1)
  lasts_anew none holds = record {
    by = omega arith;
    through = λ tick one low high. (let e : now + 1 ≡ tick = omega (arith, low, high) in subst Holds e holds);
    ended = λ no one h. absurd (omega (arith, no));
    began = λ before one next h. lasts.ended none (omega (arith, one, next)) (let e : before ≡ now = omega (arith, next) in subst Holds e h);
  }

  ends : (Holds (now + 1) → ⊥) → LastsSince Holds (now + 1) 0
  ends never = record {
    by = omega arith;
    through = λ tick one. absurd (omega (arith, one));
    ended = λ none one h. never h;
    began = λ before one next. absurd (omega (arith, next));
  }

  -- after one more tick
  pub lasts_with : (asked : Bool) → (asked ≡ true) ↔ Holds (now + 1) → LastsSince Holds (now + 1) (since_with (now + 1) asked since)
  lasts_with false tells = ends (λ h. let e = tells.1 h in cc)
  lasts_with true tells =
      elim (eqb_tells since 0) [
        | inl e ↦ subst (LastsSince Holds (now + 1)) (sym (ap (λ b. if b then now + 1 else since) e.0)) (lasts_anew e.1 (tells.0 refl))
        | inr e ↦ subst (LastsSince Holds (now + 1)) (sym (ap (λ b. if b then now + 1 else since) e.0)) (lasts_on e.1 (tells.0 refl))
      ]

  -- it has lasted for a span exactly where it holds in each of the span's ticks
  pub span_lasts : (span : ℕ) → 1 ≤ since → since + span ≤ now → (tick : ℕ) → now ≤ tick + span → tick ≤ now → Holds tick
  span_lasts span some long tick low high = lasts.through tick some (omega (arith, low, long)) high

  pub lasts_span : (span : ℕ) → span < now → ((tick : ℕ) → now ≤ tick + span → tick ≤ now → Holds tick) → (1 ≤ since) × (since + span ≤ now)
  lasts_span span short each = (begun, long)
    where
      begun : 1 ≤ since
      begun =
          elim (cases_lt 0 since) [
            | inl less ↦ omega (arith, less)
            | inr none ↦ absurd (lasts.ended (omega (arith, none)) (omega (arith, short)) (each now (omega arith) (omega arith)))
          ]

      long : since + span ≤ now
      long =
          elim (cases_lt now (since + span)) [
            | inl late ↦
                (let b = begun in
                let low = lasts.by in
                absurd (lasts.began (since - 1) (omega (arith, late, short)) (omega (arith, b)) (each (since - 1) (omega (arith, late)) (omega (arith, low)))))
            | inr early ↦ early
          ]
