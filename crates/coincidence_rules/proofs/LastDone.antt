-- What is remembered of a kind of operations after one more.
use Rattle.std.proofs.Common.{◌≡◌, ◌⊎◌, inl, inr, ℕ, ◌<◌, ◌≤◌, max, Bool, true, false, List, [], ◌∷◌, ◌&&◌, nat_lt, if◌then◌else◌, refl, ◌∙◌, ap, subst, arith}
use Rattle.tick_units.specs.declared.tick.Tick.{Tick}
use Rattle.site_types.proofs.Done.{lt_tells, lt_true, lt_false}
use Rattle.tick_units.specs.declared.last_done.LastDone.{LastDone}
use Rattle.tick_units.specs.LastTicks.{last_at, last_if, never_done}
use Rattle.site_types.specs.Done.{Done, AreBy, latest_before}
use Rattle.coincidence_rules.specs.Applied.{TellsLast}

last_step : (at : Tick) (x latest : ℕ) (last : LastDone) → latest ≡ last_at x last → last.tick.0 ≤ at.0 → at.0 ≤ x →
    ((last.tick.0 < at.0) ⊎ (at.0 ≤ last.tick.0)) → (if nat_lt at.0 x then max at.0 latest else latest) ≡ last_at x (last_if true at last)
last_step at x latest last e before after (inl less) =
    let seen : latest ≡ last.tick.0 = e ∙ ap (λ b. if b then last.tick.0 else last.earlier.0) (lt_true last.tick.0 x (omega (arith, less, after))) in
    rw (lt_true last.tick.0 at.0 less) (elim (lt_tells at.0 x) [
      | inl later ↦ rw later.0 (omega (arith, seen, less))
      | inr same ↦ rw same.0 seen
    ])
last_step at x latest last e before after (inr same) =
    rw (lt_false last.tick.0 at.0 same) (elim (lt_tells at.0 x) [
      | inl later ↦ (let first : last.tick.0 < x = (let l = later.1 in omega (arith, l, before)) in
          let seen : latest ≡ last.tick.0 = e ∙ ap (λ b. if b then last.tick.0 else last.earlier.0) (lt_true last.tick.0 x first) in
          rw later.0 (rw (lt_true last.tick.0 x first) (omega (arith, seen, same, before))))
      | inr other ↦ rw other.0 e
    ])

last_by : (at : Tick) (x : ℕ) (last : LastDone) → last.tick.0 ≤ x → at.0 ≤ x → (b : Bool) → (last_if b at last).tick.0 ≤ x
last_by at x last h g false = h
last_by at x last h g true = elim (lt_tells last.tick.0 at.0) [ inl less ↦ rw less.0 g | inr same ↦ rw same.0 h ]

-- one more operation, which is of the kind or not
pub told_last : (test : Done → Bool) (d : Done) (done : List Done) (at : Tick) (last : LastDone) (on : Bool) → d.tick ≡ at.0 → test d ≡ on
    → AreBy at.0 done → TellsLast test done last →
    TellsLast test (d ∷ done) (last_if on at last)
told_last test d done at last on tick e since tells = record { at = at_of on e; by = by_of }
  where
    at_of : (b : Bool) → test d ≡ b → (x : ℕ) → (last_if b at last).tick.0 ≤ x → latest_before test x (d ∷ done) ≡ last_at x (last_if b at last)
    at_of false off x le =
        ap (λ b. if b && nat_lt d.tick x then max d.tick (latest_before test x done) else latest_before test x done) off ∙ tells.at x le
    at_of true is x le =
        let before = tells.by at.0 since in
        let after : at.0 ≤ x = reached le in
        ap (λ b. if b && nat_lt d.tick x then max d.tick (latest_before test x done) else latest_before test x done) is
        ∙ ap (λ n. if nat_lt n x then max n (latest_before test x done) else latest_before test x done) tick
        ∙ last_step at x (latest_before test x done) last (tells.at x (omega (arith, before, after))) before after
        (halves (lt_tells last.tick.0 at.0))
      where
        halves : ((nat_lt last.tick.0 at.0 ≡ true) × (last.tick.0 < at.0)) ⊎ ((nat_lt last.tick.0 at.0 ≡ false) × (at.0 ≤ last.tick.0))
            → (last.tick.0 < at.0) ⊎ (at.0 ≤ last.tick.0)
        halves (inl less) = inl less.1
        halves (inr other) = inr other.1

        reached : (last_if true at last).tick.0 ≤ x → at.0 ≤ x
        reached h = elim (lt_tells last.tick.0 at.0) [
          | inl less ↦ (rw less.0 at h)
          | inr other ↦ (let l : last.tick.0 ≤ x = rw other.0 at h in let o = other.1 in omega (arith, l, o))
        ]

    by_of : (x : ℕ) → AreBy x (d ∷ done) → (last_if on at last).tick.0 ≤ x
    by_of x h = last_by at x last (tells.by x h.1) (subst (λ n. n ≤ x) tick h.0) on

-- nothing was done
pub told_never : (test : Done → Bool) → TellsLast test [] never_done
told_never test = record { at = λ x h. nothing x; by = λ x h. omega arith }
  where
    nothing : (x : ℕ) → 0 ≡ last_at x never_done
    nothing x = elim (lt_tells 0 x) [ inl less ↦ rw less.0 refl | inr other ↦ rw other.0 refl ]
