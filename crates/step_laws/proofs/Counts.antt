-- How many markers depend on a fact that changed, of none that changed and of one zone.
use Rattle.std.proofs.Common.{◌≡◌, ◌≢◌, ◌≤◌, ◌<◌, inl, inr, ◌==◌, ◌||◌, ◌+◌, ℕ, zero, suc, Bool, true, false, List, [], ◌∷◌, refl, sym, ap, subst, ◌∙◌, arith}
use Rattle.std.specs.Prelude.{slice_get, length}
use Rattle.std.specs.List.{list_any, IsDistinct}
use Rattle.std.proofs.lemmas.Bool.{ne_eqb}
use Rattle.tick_units.specs.Orders.{canonical_seats}
use Rattle.site_types.specs.declared.marker.Marker.{Marker}
use Rattle.site_types.specs.declared.site.Site.{Site}
use Rattle.site_types.specs.declared.term.Term.{Term}
use Rattle.site_types.specs.declared.term.Term.TheVariants.{Zone as ZoneTerm, Manual as ManualTerm, Fault as FaultTerm, Marker as MarkerTerm}
use Rattle.cause_effect.specs.Changes.{differ, IsNumberOf, RoseByNumberOf}
use Rattle.cause_effect.specs.Cycles.{has_term, is_marker, terms_of}
use Rattle.cause_effect.specs.Written.{AreTwo}
use Rattle.cause_effect.proofs.Counted.{one_number}
use Rattle.cause_effect.proofs.Equations.{has_within}
use Rattle.cause_effect.proofs.Truths.{equal_number}
use Rattle.panel_effects.specs.ChangedFacts.{DependsOnChangedFact, at_once, by_marker, RoseByBoth, RoseByFacts, has_changed_fact, is_changed_fact}
use Rattle.panel_effects.specs.Stands.{facts_at_effect}
use Rattle.panel_rules.specs.Markers.{Facts, hand_facts}
use Rattle.panel_rules.specs.Moments.{Moment}
use Rattle.panel_core.specs.StepCounts.{RisesOver}
use Rattle.step_laws.specs.WrittenTurns.{AreAlike, UnchangedNoStep, ByDetectorTwoSteps, ByCallPointFourSteps, at_effect}

-- ---- none

no_term : (before after : Facts) → AreAlike before after → (terms : List Term) → list_any (is_changed_fact before after) terms ≡ false
no_term before after alike [] = refl
no_term before after alike (ZoneTerm zone ∷ terms) =
    ap (λ b. b || list_any (is_changed_fact before after) terms) (alike.released zone) ∙ no_term before after alike terms
no_term before after alike (ManualTerm zone ∷ terms) =
    ap (λ b. b || list_any (is_changed_fact before after) terms) (alike.by_hand zone) ∙ no_term before after alike terms
no_term before after alike (FaultTerm panel ∷ terms) =
    ap (λ b. b || list_any (is_changed_fact before after) terms) (alike.faulty panel) ∙ no_term before after alike terms
no_term before after alike (MarkerTerm other ∷ terms) = no_term before after alike terms

none_depends : (site : Site) (before after : Facts) → AreAlike before after → (m : ℕ) → DependsOnChangedFact site before after m → ⊥
none_depends site before after alike m (at_once n h) = let e = no_term before after alike (terms_of (slice_get site.markers n)) in cc (e, h)
none_depends site before after alike m (by_marker n next term d) = none_depends site before after alike next d

none_of : (site : Site) (before after : Facts) → ((m : ℕ) → DependsOnChangedFact site before after m → ⊥)
    → IsNumberOf (DependsOnChangedFact site before after) 0
unfolding IsDistinct
none_of site before after none = record {
  members = [];
  once = tt;
  all = λ m d. absurd (none m d);
  only = λ m h. cc;
  counted = refl;
}

-- ---- two markers

changed_within : (markers : List Marker) (m : ℕ) (p : Term → Bool) → list_any p (terms_of (slice_get markers m)) ≡ true → m < length markers
changed_within [] m p h = cc
changed_within (marker ∷ markers) zero p h = omega arith
changed_within (marker ∷ markers) (suc m) p h = let less = changed_within markers m p h in omega (arith, less)

depends_within : (site : Site) (before after : Facts) (m : ℕ) → DependsOnChangedFact site before after m → m < length site.markers
depends_within site before after m (at_once n h) = changed_within site.markers n (is_changed_fact before after) h
depends_within site before after m (by_marker n next term d) = has_within site n next term

module _ (site : Site) (hall lab : ℕ) (two : AreTwo site hall lab) (before after : Facts) where
  first_terms : has_changed_fact site before after 0
      ≡ (differ (before.released hall) (after.released hall) || (differ (before.released lab) (after.released lab) || false))
  first_terms = ap (list_any (is_changed_fact before after)) two.first

  second_terms : has_changed_fact site before after 1 ≡ (differ (before.released hall) (after.released hall) || false)
  second_terms = ap (list_any (is_changed_fact before after)) two.second

  few : (m : ℕ) → DependsOnChangedFact site before after m → ((m == 0) || ((m == 1) || false)) ≡ true
  few zero d = refl
  few (suc zero) d = refl
  few (suc (suc m)) d = let less = depends_within site before after (suc (suc m)) d in let size = two.size in absurd (omega (arith, less, size))

  free : (m next : ℕ) → has_term site m next ≡ true → ⊥
  free zero next h = let e : false ≡ true = sym (ap (list_any (is_marker next)) two.first) ∙ h in cc e
  free (suc zero) next h = let e : false ≡ true = sym (ap (list_any (is_marker next)) two.second) ∙ h in cc e
  free (suc (suc m)) next h = let less = has_within site (suc (suc m)) next h in let size = two.size in absurd (omega (arith, less, size))

  -- none of the two depends on a change where no zone was released or is so no more
  neither : ((place : ℕ) → differ (before.released place) (after.released place) ≡ false) → (m : ℕ)
      → DependsOnChangedFact site before after m → ⊥
  neither same m (by_marker n next term d) = free n next term
  neither same zero (at_once n h) =
      let e : has_changed_fact site before after 0 ≡ false = first_terms ∙ rw (same hall, same lab) refl in cc (e, h)
  neither same (suc zero) (at_once n h) =
      let e : has_changed_fact site before after 1 ≡ false = second_terms ∙ rw (same hall) refl in cc (e, h)
  neither same (suc (suc m)) (at_once n h) =
      let less = depends_within site before after (suc (suc m)) (at_once n h) in let size = two.size in absurd (omega (arith, less, size))

  -- both depend on the zone that is a term of both
  each : differ (before.released hall) (after.released hall) ≡ true → (m : ℕ) → ((m == 0) || ((m == 1) || false)) ≡ true
      → DependsOnChangedFact site before after m
  each changed zero h =
      at_once 0 (first_terms ∙ ap (λ b. b || (differ (before.released lab) (after.released lab) || false)) changed)
  each changed (suc zero) h = at_once 1 (second_terms ∙ ap (λ b. b || false) changed)
  each changed (suc (suc m)) h = absurd (far (suc (suc m)) (omega arith) h)
    where
      far : (m : ℕ) → 2 ≤ m → ((m == 0) || ((m == 1) || false)) ≡ true → ⊥
      far m much h = let e : ((m == 0) || ((m == 1) || false)) ≡ false =
          rw (ne_eqb m 0 (λ e. omega (arith, much, e)), ne_eqb m 1 (λ e. omega (arith, much, e))) refl in cc (e, h)

  both : differ (before.released hall) (after.released hall) ≡ true → IsNumberOf (DependsOnChangedFact site before after) 2
  unfolding IsDistinct
  both changed = record {
    members = 0 ∷ 1 ∷ [];
    once = ((refl, tt), (tt, tt));
    all = few;
    only = each changed;
    counted = refl;
  }

-- ---- a tick of one panel

-- the steps of the turns are those of the one turn of Effect
at_one_turn : (site : Site) (facts : ℕ → List Moment → Facts) (before : List Moment) (failed : Bool) (earlier later : ℕ)
    → RisesOver site facts failed (canonical_seats 1) before earlier later
    → RoseByFacts site (facts_at_effect facts 1 before) (facts 1 (at_effect before)) earlier later
at_one_turn site facts before failed earlier later rises =
    let link = rises.2.2.2.2.2 in
    let effect = link.2 in
    let keep = effect.2.2 in
    let start : link.0 ≡ earlier = link.1 ∙ rises.2.2.2.2.1 ∙ rises.2.2.2.1 ∙ rises.2.2.1 ∙ rises.2.1 ∙ rises.1 in
    let end : effect.0 ≡ later = sym (keep.2 ∙ keep.1 ∙ effect.2.1) in
    subst (λ n. RoseByFacts site (facts_at_effect facts 1 before) (facts 1 (at_effect before)) n later) start
    (subst (λ n. RoseByFacts site (facts_at_effect facts 1 before) (facts 1 (at_effect before)) link.0 n) end effect.1)

rose : (IsSo : ℕ → Type 0) (count earlier later : ℕ) → IsNumberOf IsSo count → RoseByNumberOf IsSo earlier later → later ≡ earlier + count
rose IsSo count earlier later is rises = rises.1 ∙ ap (λ n. earlier + n) (one_number IsSo rises.0 count rises.2 is)

both_rose : (IsSo IsSoToo : ℕ → Type 0) (first second earlier later : ℕ) → IsNumberOf IsSo first → IsNumberOf IsSoToo second
    → RoseByBoth IsSo IsSoToo earlier later → later ≡ earlier + (first + second)
both_rose IsSo IsSoToo first second earlier later is is_too rises =
    let one = rose IsSo first earlier rises.between is rises.first in
    let other = rose IsSoToo second rises.between later is_too rises.second in omega (arith, one, other)

hand_alike : (before after : Facts) → AreAlike before after → AreAlike (hand_facts before) (hand_facts after)
hand_alike before after alike = record {
  released = alike.by_hand;
  by_hand = alike.by_hand;
  faulty = λ panel. refl;
}

pub no_step : UnchangedNoStep
no_step site facts before failed earlier later alike rises =
    both_rose _ _ 0 0 earlier later
    (none_of site _ _ (none_depends site _ _ alike))
    (none_of site _ _ (none_depends site _ _ (hand_alike _ _ alike)))
    (at_one_turn site facts before failed earlier later rises)

pub two_steps : ByDetectorTwoSteps
two_steps site hall lab two facts before failed earlier later releases rises =
    both_rose _ _ 2 0 earlier later
    (both site hall lab two _ _ (releases.released hall ∙ equal_number hall))
    (none_of site _ _ (neither site hall lab two _ _ releases.by_hand))
    (at_one_turn site facts before failed earlier later rises)

pub four_steps : ByCallPointFourSteps
four_steps site hall lab two facts before failed earlier later releases rises =
    both_rose _ _ 2 2 earlier later
    (both site hall lab two _ _ (releases.released hall ∙ equal_number hall))
    (both site hall lab two _ _ (releases.by_hand hall ∙ equal_number hall))
    (at_one_turn site facts before failed earlier later rises)
