-- What is kept of operations tells of one more.
use Rattle.std.proofs.Common.{◌≡◌, inl, inr, ℕ, ◌<◌, ◌≤◌, Bool, true, false, List, [], ◌∷◌, ◌&&◌, nat_lt, if◌then◌else◌, refl, sym, ◌∙◌, ap, subst, arith}
use Rattle.tick_units.specs.declared.tick.Tick.{Tick}
use Rattle.site_types.specs.declared.site.Site.{Site}
use Rattle.site_types.specs.declared.point_set.PointSet.{PointSet}
use Rattle.site_types.specs.Done.{Done, AreBy}
use Rattle.site_types.proofs.Done.{lt_tells, lt_true, lt_false}
use Rattle.panel_conditions.specs.declared.point_switch.PointSwitch.{PointSwitch}
use Rattle.panel_conditions.specs.Parts.{points_from, switch_points}
use Rattle.panel_conditions.specs.Points.{points_where}
use Rattle.panel_conditions.specs.Stands.{TellsPoints}
use Rattle.panel_conditions.proofs.BeforeOperation.{points_same}

-- ---- sets of points

if_on : (b v t : Bool) → (if b && true then v else t) ≡ (if b then v else t)
if_on true v t = refl
if_on false v t = refl

if_off : (b v t : Bool) → (if b && false then v else t) ≡ t
if_off true v t = refl
if_off false v t = refl

module _ (site : Site) (panel : ℕ) (test test' : ℕ → ℕ → Bool) (done : List Done) (d : Done) (switch : PointSwitch) (tells :
    TellsPoints site panel test done switch) where
  -- one more operation, which changes nothing
  pub told_same : ((x place : ℕ) → test' x place ≡ test x place) → TellsPoints site panel test' (d ∷ done) switch
  told_same same = record {
    at = λ x h. tells.at x h ∙ sym (points_same site panel (test' x) (test x) (same x));
    by = λ x h. tells.by x h.1;
  }

  -- one more operation, which gives some points a value from the tick after its own on
  module _ (touches : ℕ → Bool) (value : Bool) (change : PointSet → PointSet) (at : Tick) (tick : d.tick ≡ at.0) (since : AreBy at.0 done)
      (next : (x place : ℕ) → test' x place ≡ (if touches place && nat_lt at.0 x then value else test x place))
      (changes : (p : ℕ → Bool) → change (points_where site panel p) ≡ points_where site panel (λ place. if touches place then value else p place))
    where
      changed : (x : ℕ) (set : PointSet) → nat_lt at.0 x ≡ true → set ≡ points_where site panel (test x)
          → change set ≡ points_where site panel (test' x)
      changed x set later is =
          ap change is ∙ changes (test x)
          ∙ points_same site panel (λ place. if touches place then value else test x place) (test' x)
          (λ place.
          sym (next x place ∙ ap (λ b. if touches place && b then value else test x place) later ∙ if_on (touches place) value (test x place)))

      stays : (x : ℕ) (set : PointSet) → nat_lt at.0 x ≡ false → set ≡ points_where site panel (test x) → set ≡ points_where site panel (test' x)
      stays x set not_yet is =
          is
          ∙ points_same site panel (test x) (test' x)
          (λ place.
          sym (next x place ∙ ap (λ b. if touches place && b then value else test x place) not_yet ∙ if_off (touches place) value (test x place)))

      -- the tick is a new one
      moved : switch.since.0 < at.0
          → TellsPoints site panel test' (d ∷ done) (record { before = switch.after; after = change switch.after; since = at })
      moved less = record { at = here; by = λ x h. subst (λ n. n ≤ x) tick h.0 }
        where
          after_is : (x : ℕ) → at.0 ≤ x → switch.after ≡ points_where site panel (test x)
          after_is x h =
              sym (ap (λ b. if b then switch.after else switch.before) (lt_true switch.since.0 x (omega (arith, less, h)))) ∙ tells.at x
              (omega (arith, less, h))

          here : (x : ℕ) → at.0 ≤ x → (if nat_lt at.0 x then change switch.after else switch.after) ≡ points_where site panel (test' x)
          here x h = elim (lt_tells at.0 x) [
            | inl later ↦ ap (λ b. if b then change switch.after else switch.after) later.0 ∙ changed x switch.after later.0 (after_is x h)
            | inr other ↦ ap (λ b. if b then change switch.after else switch.after) other.0 ∙ stays x switch.after other.0 (after_is x h)
          ]

      -- it is that of the last change
      again : at.0 ≤ switch.since.0
          → TellsPoints site panel test' (d ∷ done) (record { before = switch.before; after = change switch.after; since = switch.since })
      again same = record { at = here; by = λ x h. tells.by x h.1 }
        where
          before : switch.since.0 ≤ at.0
          before = tells.by at.0 since

          here : (x : ℕ) → switch.since.0 ≤ x
              → (if nat_lt switch.since.0 x then change switch.after else switch.before) ≡ points_where site panel (test' x)
          here x h = elim (lt_tells switch.since.0 x) [
            | inl later ↦ (let l = later.1 in
                ap (λ b. if b then change switch.after else switch.before) later.0
                ∙ changed x switch.after (lt_true at.0 x (omega (arith, same, l)))
                (sym (ap (λ b. if b then switch.after else switch.before) later.0) ∙ tells.at x h))
            | inr other ↦ (let o = other.1 in
                ap (λ b. if b then change switch.after else switch.before) other.0
                ∙ stays x switch.before (lt_false at.0 x (let b = before in omega (arith, b, o)))
                (sym (ap (λ b. if b then switch.after else switch.before) other.0) ∙ tells.at x h))
          ]

      pub told_points : TellsPoints site panel test' (d ∷ done) (switch_points change at switch)
      told_points = elim (lt_tells switch.since.0 at.0) [
        | inl less ↦
            subst (λ b. TellsPoints site panel test' (d ∷ done) (let w : PointSwitch =
            if b then record { before = switch.after; after = switch.after; since = at } else switch in record w { after = change w.after }))
            (sym less.0) (moved less.1)
        | inr same ↦
            subst (λ b. TellsPoints site panel test' (d ∷ done) (let w : PointSwitch =
            if b then record { before = switch.after; after = switch.after; since = at } else switch in record w { after = change w.after }))
            (sym same.0) (again same.1)
      ]

-- these points from the opening on
pub told_from : (site : Site) (panel : ℕ) (test : ℕ → ℕ → Bool) (set : PointSet) → ((x : ℕ) → set ≡ points_where site panel (test x))
    → TellsPoints site panel test [] (points_from set)
told_from site panel test set is = record { at = λ x h. same (nat_lt 0 x) ∙ is x; by = λ x h. omega arith }
  where
    same : (b : Bool) → (if b then set else set) ≡ set
    same true = refl
    same false = refl
