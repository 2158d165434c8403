-- Sections of a site read hold points of one zone each.
use Rattle.std.proofs.Common.{◌≡◌, ◌<◌, ◌≤◌, ℕ, zero, suc, List, [], ◌∷◌, Bool, true, false, not, ◌||◌, ◌&&◌, ◌==◌}
use Rattle.std.proofs.Common.{nat_lt, nat_le, max, Option, Some, None, ◌⊎◌, inl, inr, map, refl, ap, sym, subst, ◌∙◌}
use Rattle.std.proofs.Common.{arith, eqb-true, eq-eqb, if◌then◌else◌}
use Rattle.std.proofs.lemmas.Bool.{leb-true, leb-false}
use Rattle.std.specs.List.{AllByRecursion, list_any}
use Rattle.std.specs.Prelude.{slice_get, All, filter}
use Rattle.site_types.specs.Sections.{section_of}
use Rattle.site_types.specs.Valid.{AreOnLoop, SectionsCrossNoZones}
use Rattle.site_types.specs.declared.loop_plan.LoopPlan.{LoopPlan}
use Rattle.site_types.specs.declared.named.Thing.{Thing}
use Rattle.site_types.specs.declared.point.Point.{Point as PointPlan}
use Rattle.site_types.specs.declared.site.Site.{Site}
use Rattle.site_document.specs.declared.draft.Draft.{Draft}
use Rattle.site_document.specs.Refusals.{section_crosses_zones}
use Rattle.site_config.specs.declared.section_point.SectionPoint.{SectionPoint}
use Rattle.site_config.specs.declared.spot.Spot.{Spot}
use Rattle.site_config.specs.Crossing.{crossing_at, crossing_in, has_two_zones, in_section, is_on, loop_crossing, on_loop, section_point, spot_of}
use Rattle.site_config.specs.Placing.{SeenPoint, placed_point, point_view}
use Rattle.site_config.proofs.ListsAlike.{all_by_place, by_place, inner, like_at}
use Rattle.site_config.proofs.SiteForms.{SeenAs}
use Rattle.site_config.proofs.CleanKeys.{all_none, none_first, none_later, not_failed}

abbrev Among : {X : Type 0} → X → List X → Type 0
Among x [] = ⊥
Among x (y ∷ ys) = (x ≡ y) ⊎ Among x ys

among_get : {X : Type 0} (xs : List X) (k : ℕ) (x : X) → slice_get xs k ≡ Some x → Among x xs
among_get [] k x at = absurd (cc at)
among_get (y ∷ ys) zero x at = inl (sym (inner y x at))
among_get (y ∷ ys) (suc k) x at = inr (among_get ys k x at)

among_map : {X Y : Type 0} (f : X → Y) (xs : List X) (x : X) → Among x xs → Among (f x) (map f xs)
among_map f [] x is = absurd is
among_map f (y ∷ ys) x (inl same) = inl (ap f same)
among_map f (y ∷ ys) x (inr more) = inr (among_map f ys x more)

head_in : {X : Type 0} (b : Bool) (x y : X) (rest : List X) → x ≡ y → b ≡ true → Among x (if b then y ∷ rest else rest)
head_in true x y rest same e = inl same
head_in false x y rest same e = absurd (cc e)

tail_in : {X : Type 0} (b : Bool) (x y : X) (rest : List X) → Among x rest → Among x (if b then y ∷ rest else rest)
tail_in true x y rest is = inr is
tail_in false x y rest is = is

among_filter : {X : Type 0} (p : X → Bool) (xs : List X) (x : X) → Among x xs → p x ≡ true → Among x (filter p xs)
among_filter p [] x is e = absurd is
among_filter p (y ∷ ys) x (inl same) e = head_in (p y) x y (filter p ys) same (ap p (sym same) ∙ e)
among_filter p (y ∷ ys) x (inr more) e = tail_in (p y) x y (filter p ys) (among_filter p ys x more e)

-- ---- points of one section

neither : (a b : Bool) → (a || b) ≡ false → (a ≡ false) × (b ≡ false)
neither false b e = (refl, e)
neither true b e = absurd (cc e)

not_false : (b : Bool) → not b ≡ false → b ≡ true
not_false true e = refl
not_false false e = absurd (cc e)

one_zone : (zone : ℕ) (xs : List SectionPoint) (x : SectionPoint) → list_any (λ (p : SectionPoint). not (p.zone == zone)) xs ≡ false → Among x xs
    → x.zone ≡ zone
one_zone zone [] x e is = absurd is
one_zone zone (y ∷ ys) x e (inl same) =
    let parts = neither (not (y.zone == zone)) (list_any (λ (p : SectionPoint). not (p.zone == zone)) ys) e in
    ap (λ (p : SectionPoint). p.zone) same ∙ eqb-true y.zone zone (not_false (y.zone == zone) parts.0)
one_zone zone (y ∷ ys) x e (inr more) =
    one_zone zone ys x (neither (not (y.zone == zone)) (list_any (λ (p : SectionPoint). not (p.zone == zone)) ys) e).1 more

same_zone : (xs : List SectionPoint) (x y : SectionPoint) → has_two_zones xs ≡ false → Among x xs → Among y xs → x.zone ≡ y.zone
same_zone [] x y e is it = absurd is
same_zone (first ∷ rest) x y e is it = one_zone first.zone (first ∷ rest) x e is ∙ sym (one_zone first.zone (first ∷ rest) y e it)

-- ---- the place of a section

abbrev IsPlaceOf : List ℕ → ℕ → Type 0
IsPlaceOf isolators place = (place ≡ 0) ⊎ ((k : ℕ) × (slice_get isolators k ≡ Some place))

place_later : (p : ℕ) (rest : List ℕ) (place : ℕ) → IsPlaceOf rest place → IsPlaceOf (p ∷ rest) place
place_later p rest place (inl e) = inl e
place_later p rest place (inr (k, at)) = inr (suc k, at)

max_place : (p : ℕ) (rest : List ℕ) (n : ℕ) → IsPlaceOf rest n → (b : Bool) → nat_le n p ≡ b → IsPlaceOf (p ∷ rest) (max p n)
max_place p rest n is true e =
    let low : n ≤ p = leb-true n p e in
    let same : max p n ≡ p = omega arith in inr (zero, ap Some (sym same))
max_place p rest n is false e =
    let high : p < n = leb-false n p e in
    let same : max p n ≡ n = omega arith in
    let P : ℕ → Type 0 = λ m. IsPlaceOf (p ∷ rest) m in subst P (sym same) (place_later p rest n is)

by_test : (b : Bool) (p : ℕ) (rest : List ℕ) (n : ℕ) → IsPlaceOf rest n → IsPlaceOf (p ∷ rest) (if b then max p n else n)
by_test true p rest n is = max_place p rest n is (nat_le n p) refl
by_test false p rest n is = place_later p rest n is

place_of_section : (isolators : List ℕ) (address : ℕ) → IsPlaceOf isolators (section_of isolators address)
place_of_section [] address = inl refl
place_of_section (p ∷ rest) address = by_test (nat_lt p address) p rest (section_of rest address) (place_of_section rest address)

-- ---- the whole

two_at : (plan : LoopPlan) (points : List SectionPoint) (place : ℕ) → crossing_at plan points place ≡ None
    → has_two_zones (in_section place points) ≡ false
unfolding crossing_at
two_at plan points place e = not_failed (has_two_zones (in_section place points)) (section_crosses_zones plan.panel plan.line place) e

clean_by : (plan : LoopPlan) (points : List SectionPoint) (place : ℕ) → crossing_at plan points 0 ≡ None
    → AllByRecursion (λ n. crossing_at plan points n ≡ None) plan.isolators → IsPlaceOf plan.isolators place → crossing_at plan points place ≡ None
clean_by plan points place zero' all (inl e) = ap (crossing_at plan points) e ∙ zero'
clean_by plan points place zero' all (inr (k, at)) = by_place (λ n. crossing_at plan points n ≡ None) plan.isolators all k place at

loop_clean_at : (spots : List Spot) (plan : LoopPlan) (place : ℕ) → loop_crossing spots plan ≡ None → IsPlaceOf plan.isolators place
    → crossing_at plan (on_loop plan spots) place ≡ None
unfolding loop_crossing
loop_clean_at spots plan place e is =
    clean_by plan (on_loop plan spots) place (none_first (crossing_at plan (on_loop plan spots) 0) _ e)
    (all_none (crossing_at plan (on_loop plan spots)) plan.isolators (none_later (crossing_at plan (on_loop plan spots) 0) _ e)) is

loops_clean : (spots : List Spot) (loops : List LoopPlan) → crossing_in spots loops ≡ None
    → AllByRecursion (λ plan. loop_crossing spots plan ≡ None) loops
unfolding crossing_in
loops_clean spots loops e = all_none (loop_crossing spots) loops e

both : (x y : Bool) → x ≡ true → y ≡ true → (x && y) ≡ true
both x y e f = rw (e, f)

stands_in : (plan : LoopPlan) (spots : List Spot) (spot : Spot) → Among spot spots → spot.panel ≡ plan.panel → spot.line ≡ plan.line → (place : ℕ)
    → section_of plan.isolators spot.address ≡ place → Among (section_point plan spot) (in_section place (on_loop plan spots))
unfolding on_loop
stands_in plan spots spot is panel line place e =
    among_filter (λ (p : SectionPoint). p.section == place) (map (section_point plan) (filter (is_on plan) spots)) (section_point plan spot)
    (among_map (section_point plan) (filter (is_on plan) spots) spot
    (among_filter (is_on plan) spots spot is (both (spot.panel == plan.panel) (spot.line == plan.line) (eq-eqb spot.panel plan.panel panel)
    (eq-eqb spot.line plan.line line))))
    (eq-eqb (section_of plan.isolators spot.address) place e)

zones_agree : (look : List ℕ → Option Thing) (draft : Draft) (site : Site) → SeenAs look draft site
    → crossing_in (map (spot_of look) draft.points) draft.loops ≡ None → (i : ℕ) (plan : LoopPlan) → slice_get site.loops i ≡ Some plan
    → (j : ℕ) (p : PointPlan)
    → slice_get site.points j ≡ Some p → (k : ℕ) (q : PointPlan) → slice_get site.points k ≡ Some q → AreOnLoop plan p q
    → section_of plan.isolators p.address ≡ section_of plan.isolators q.address → p.zone ≡ q.zone
unfolding placed_point
zones_agree look draft site seen clean i plan at j p pt k q qt on same =
    let spots : List Spot = map (spot_of look) draft.points in
    let there : slice_get draft.loops i ≡ Some plan = ap (λ (ls : List LoopPlan). slice_get ls i) (sym seen.loops) ∙ at in
    let loop' = by_place (λ l. loop_crossing spots l ≡ None) draft.loops (loops_clean spots draft.loops clean) i plan there in
    let place : ℕ = section_of plan.isolators p.address in
    let none = loop_clean_at spots plan place loop' (place_of_section plan.isolators p.address) in
    let two = two_at plan (on_loop plan spots) place none in
    let (d, dt, ds) = like_at point_view (placed_point look) site.points draft.points seen.points j p pt in
    let (e, et, es) = like_at point_view (placed_point look) site.points draft.points seen.points k q qt in
    let one = stands_in plan spots (spot_of look d) (among_map (spot_of look) draft.points d (among_get draft.points j d dt))
    (ap (λ (s : SeenPoint). s.panel) (sym ds) ∙ on.panels.0) (ap (λ (s : SeenPoint). s.line) (sym ds) ∙ on.lines.0) place
    (ap (λ (s : SeenPoint). section_of plan.isolators s.address) (sym ds)) in
    let other = stands_in plan spots (spot_of look e) (among_map (spot_of look) draft.points e (among_get draft.points k e et))
    (ap (λ (s : SeenPoint). s.panel) (sym es) ∙ on.panels.1) (ap (λ (s : SeenPoint). s.line) (sym es) ∙ on.lines.1) place
    (ap (λ (s : SeenPoint). section_of plan.isolators s.address) (sym es) ∙ sym same) in
    ap (λ (s : SeenPoint). s.zone) ds
    ∙ same_zone (in_section place (on_loop plan spots)) (section_point plan (spot_of look d)) (section_point plan (spot_of look e)) two one other
    ∙ ap (λ (s : SeenPoint). s.zone) (sym es)

pub sections : (look : List ℕ → Option Thing) (draft : Draft) (site : Site) → SeenAs look draft site
    → crossing_in (map (spot_of look) draft.points) draft.loops ≡ None → SectionsCrossNoZones site
sections look draft site seen clean =
    all_by_place (λ (plan : LoopPlan). All (λ (p : PointPlan). All (λ (q : PointPlan). AreOnLoop plan p q →
    section_of plan.isolators p.address ≡ section_of plan.isolators q.address → p.zone ≡ q.zone) site.points) site.points) site.loops
    (λ i plan at. all_by_place (λ (p : PointPlan). All (λ (q : PointPlan). AreOnLoop plan p q →
    section_of plan.isolators p.address ≡ section_of plan.isolators q.address → p.zone ≡ q.zone) site.points) site.points
    (λ j p pt. all_by_place (λ (q : PointPlan). AreOnLoop plan p q → section_of plan.isolators p.address ≡ section_of plan.isolators q.address
    → p.zone ≡ q.zone) site.points
    (λ k q qt on same. zones_agree look draft site seen clean i plan at j p pt k q qt on same)))
