-- What a name of a draft stands for is what bears it, where no name or number stands twice.
use Rattle.std.proofs.Common.{◌≡◌, ℕ, zero, ◌+◌, List, [], ◌++◌, true, Option, Some, None, option_map, ◌⊎◌, inl, inr, refl, ap, sym, subst, ◌∙◌, zero-add}
use Rattle.std.proofs.lemmas.Slice.Eq.{bytes_eq-Decides}
use Rattle.std.specs.Prelude.{slice_get}
use Rattle.std.specs.Str.{bytes_eq}
use Rattle.site_types.specs.declared.named.Thing.{Thing}
use Rattle.site_types.specs.declared.named.Thing.TheVariants.{Point, Zone, Output, Marker}
use Rattle.site_document.specs.declared.draft.Draft.{Draft}
use Rattle.site_document.specs.declared.draft_marker.DraftMarker.{DraftMarker}
use Rattle.site_document.specs.declared.draft_output.DraftOutput.{DraftOutput}
use Rattle.site_document.specs.declared.draft_point.DraftPoint.{DraftPoint}
use Rattle.site_document.specs.declared.draft_zone.DraftZone.{DraftZone}
use Rattle.site_config.specs.declared.claim.Claim.{Claim}
use Rattle.site_config.specs.Claims.{claims_from, claims_of, first_twice, loop_twice, marker_claim, named_in, onto, output_claim, point_claim, twice_in, zone_claim}
use Rattle.site_config.proofs.ListsAlike.{inner}
use Rattle.site_config.proofs.ClaimHolders.{IsHeld, IsIn, IsOf, fresh_names, fresh_numbers, held, in_either, in_from, in_left, in_right, is_held, name_test, named_holder, number_test, of_from}
use Rattle.site_config.proofs.CleanKeys.{none_later}

-- the name of a thing of a draft
abbrev pub draft_name : Draft → Thing → Option (List ℕ)
draft_name draft (Point place) = option_map (λ (p : DraftPoint). p.name) (slice_get draft.points place)
draft_name draft (Zone place) = option_map (λ (z : DraftZone). z.name) (slice_get draft.zones place)
draft_name draft (Output place) = option_map (λ (o : DraftOutput). o.name) (slice_get draft.outputs place)
draft_name draft (Marker place) = option_map (λ (m : DraftMarker). m.name) (slice_get draft.markers place)

pub claims_once : (draft : Draft) → twice_in draft ≡ None → first_twice [] (claims_of draft) ≡ None
unfolding twice_in
claims_once draft e = none_later (loop_twice [] 1 draft.loops) (first_twice [] (claims_of draft)) e

-- ---- the claims of each list

pub zone_made : (draft : Draft) (k : ℕ) (z : DraftZone) → slice_get draft.zones k ≡ Some z → IsIn (zone_claim k z) (claims_of draft)
unfolding claims_of
zone_made draft k z at =
    let P : ℕ → Type 0 = λ m. IsIn (zone_claim m z) (claims_from zone_claim 0 draft.zones) in
    in_left _ _ (claims_from marker_claim 0 draft.markers)
    (in_left _ _ (claims_from output_claim 0 draft.outputs)
    (in_left _ _ (claims_from point_claim 0 draft.points) (subst P (zero-add k) (in_from zone_claim 0 draft.zones k z at))))

pub point_made : (draft : Draft) (k : ℕ) (p : DraftPoint) → slice_get draft.points k ≡ Some p → IsIn (point_claim k p) (claims_of draft)
unfolding claims_of
point_made draft k p at =
    let P : ℕ → Type 0 = λ m. IsIn (point_claim m p) (claims_from point_claim 0 draft.points) in
    in_left _ _ (claims_from marker_claim 0 draft.markers)
    (in_left _ _ (claims_from output_claim 0 draft.outputs)
    (in_right _ (claims_from zone_claim 0 draft.zones) _ (subst P (zero-add k) (in_from point_claim 0 draft.points k p at))))

pub output_made : (draft : Draft) (k : ℕ) (o : DraftOutput) → slice_get draft.outputs k ≡ Some o → IsIn (output_claim k o) (claims_of draft)
unfolding claims_of
output_made draft k o at =
    let P : ℕ → Type 0 = λ m. IsIn (output_claim m o) (claims_from output_claim 0 draft.outputs) in
    in_left _ _ (claims_from marker_claim 0 draft.markers)
    (in_right _ (claims_from zone_claim 0 draft.zones ++ claims_from point_claim 0 draft.points) _
    (subst P (zero-add k) (in_from output_claim 0 draft.outputs k o at)))

pub marker_made : (draft : Draft) (k : ℕ) (m : DraftMarker) → slice_get draft.markers k ≡ Some m → IsIn (marker_claim k m) (claims_of draft)
unfolding claims_of
marker_made draft k m at =
    let P : ℕ → Type 0 = λ n. IsIn (marker_claim n m) (claims_from marker_claim 0 draft.markers) in
    in_right _ (claims_from zone_claim 0 draft.zones ++ claims_from point_claim 0 draft.points ++ claims_from output_claim 0 draft.outputs) _
    (subst P (zero-add k) (in_from marker_claim 0 draft.markers k m at))

-- ---- a name stands for the thing that bears it

same_bytes : (xs : List ℕ) → bytes_eq xs xs ≡ true
same_bytes xs = (bytes_eq-Decides xs xs).1 refl

stands : (draft : Draft) (c : Claim) → twice_in draft ≡ None → IsIn c (claims_of draft) → named_in draft c.name ≡ Some c.thing
unfolding named_in
stands draft c once made =
    named_holder (onto [] (claims_of draft)) c.name
    ∙ held name_test [] (claims_of draft) c c.name (fresh_names [] (claims_of draft) (claims_once draft once)) made (same_bytes c.name)

-- a thing of a draft, by its name
named_zone : (draft : Draft) (k : ℕ) (name : List ℕ) (o : Option DraftZone) → twice_in draft ≡ None → slice_get draft.zones k ≡ o
    → option_map (λ (z : DraftZone). z.name) o ≡ Some name → named_in draft name ≡ Some (Zone k)
named_zone draft k name None once at e = absurd (cc e)
named_zone draft k name (Some z) once at e =
    let P : List ℕ → Type 0 = λ n. named_in draft n ≡ Some (Zone k) in
    subst P (inner z.name name e) (stands draft (zone_claim k z) once (zone_made draft k z at))

named_point : (draft : Draft) (k : ℕ) (name : List ℕ) (o : Option DraftPoint) → twice_in draft ≡ None → slice_get draft.points k ≡ o
    → option_map (λ (p : DraftPoint). p.name) o ≡ Some name → named_in draft name ≡ Some (Point k)
named_point draft k name None once at e = absurd (cc e)
named_point draft k name (Some p) once at e =
    let P : List ℕ → Type 0 = λ n. named_in draft n ≡ Some (Point k) in
    subst P (inner p.name name e) (stands draft (point_claim k p) once (point_made draft k p at))

named_output : (draft : Draft) (k : ℕ) (name : List ℕ) (o : Option DraftOutput) → twice_in draft ≡ None → slice_get draft.outputs k ≡ o
    → option_map (λ (p : DraftOutput). p.name) o ≡ Some name → named_in draft name ≡ Some (Output k)
named_output draft k name None once at e = absurd (cc e)
named_output draft k name (Some o) once at e =
    let P : List ℕ → Type 0 = λ n. named_in draft n ≡ Some (Output k) in
    subst P (inner o.name name e) (stands draft (output_claim k o) once (output_made draft k o at))

named_marker : (draft : Draft) (k : ℕ) (name : List ℕ) (o : Option DraftMarker) → twice_in draft ≡ None → slice_get draft.markers k ≡ o
    → option_map (λ (m : DraftMarker). m.name) o ≡ Some name → named_in draft name ≡ Some (Marker k)
named_marker draft k name None once at e = absurd (cc e)
named_marker draft k name (Some m) once at e =
    let P : List ℕ → Type 0 = λ n. named_in draft n ≡ Some (Marker k) in
    subst P (inner m.name name e) (stands draft (marker_claim k m) once (marker_made draft k m at))

pub bears : (draft : Draft) (t : Thing) (name : List ℕ) → twice_in draft ≡ None → draft_name draft t ≡ Some name → named_in draft name ≡ Some t
bears draft (Point k) name once e = named_point draft k name (slice_get draft.points k) once refl e
bears draft (Zone k) name once e = named_zone draft k name (slice_get draft.zones k) once refl e
bears draft (Output k) name once e = named_output draft k name (slice_get draft.outputs k) once refl e
bears draft (Marker k) name once e = named_marker draft k name (slice_get draft.markers k) once refl e

-- ---- and what it stands for bears it

-- the claim is that of what stands at its thing's place
abbrev pub IsBorne : Draft → Claim → Type 0
IsBorne draft c = draft_name draft c.thing ≡ Some c.name

zone_borne : (draft : Draft) (c : Claim) → IsOf zone_claim 0 draft.zones c → IsBorne draft c
zone_borne draft c h =
    let P : Claim → Type 0 = λ d. IsBorne draft d in
    let k : zero + h.place ≡ h.place = zero-add h.place in
    subst P (sym (h.is ∙ ap (λ m. zone_claim m h.what) k)) (ap (option_map (λ (z : DraftZone). z.name)) h.at)

point_borne : (draft : Draft) (c : Claim) → IsOf point_claim 0 draft.points c → IsBorne draft c
point_borne draft c h =
    let P : Claim → Type 0 = λ d. IsBorne draft d in
    let k : zero + h.place ≡ h.place = zero-add h.place in
    subst P (sym (h.is ∙ ap (λ m. point_claim m h.what) k)) (ap (option_map (λ (p : DraftPoint). p.name)) h.at)

output_borne : (draft : Draft) (c : Claim) → IsOf output_claim 0 draft.outputs c → IsBorne draft c
output_borne draft c h =
    let P : Claim → Type 0 = λ d. IsBorne draft d in
    let k : zero + h.place ≡ h.place = zero-add h.place in
    subst P (sym (h.is ∙ ap (λ m. output_claim m h.what) k)) (ap (option_map (λ (o : DraftOutput). o.name)) h.at)

marker_borne : (draft : Draft) (c : Claim) → IsOf marker_claim 0 draft.markers c → IsBorne draft c
marker_borne draft c h =
    let P : Claim → Type 0 = λ d. IsBorne draft d in
    let k : zero + h.place ≡ h.place = zero-add h.place in
    subst P (sym (h.is ∙ ap (λ n. marker_claim n h.what) k)) (ap (option_map (λ (m : DraftMarker). m.name)) h.at)

two_borne : (draft : Draft) (c : Claim) → IsIn c (claims_from zone_claim 0 draft.zones) ⊎ IsIn c (claims_from point_claim 0 draft.points)
    → IsBorne draft c
two_borne draft c (inl is) = zone_borne draft c (of_from zone_claim 0 draft.zones c is)
two_borne draft c (inr is) = point_borne draft c (of_from point_claim 0 draft.points c is)

three_borne : (draft : Draft) (c : Claim)
    → IsIn c (claims_from zone_claim 0 draft.zones ++ claims_from point_claim 0 draft.points) ⊎ IsIn c (claims_from output_claim 0 draft.outputs)
    → IsBorne draft c
three_borne draft c (inl is) = two_borne draft c (in_either c (claims_from zone_claim 0 draft.zones) (claims_from point_claim 0 draft.points) is)
three_borne draft c (inr is) = output_borne draft c (of_from output_claim 0 draft.outputs c is)

four_borne : (draft : Draft) (c : Claim)
    → IsIn c (claims_from zone_claim 0 draft.zones ++ claims_from point_claim 0 draft.points ++ claims_from output_claim 0 draft.outputs)
    ⊎ IsIn c (claims_from marker_claim 0 draft.markers) → IsBorne draft c
four_borne draft c (inl is) =
    three_borne draft c
    (in_either c (claims_from zone_claim 0 draft.zones ++ claims_from point_claim 0 draft.points) (claims_from output_claim 0 draft.outputs) is)
four_borne draft c (inr is) = marker_borne draft c (of_from marker_claim 0 draft.markers c is)

borne : (draft : Draft) (c : Claim) → IsIn c (claims_of draft) → IsBorne draft c
unfolding claims_of
borne draft c is =
    four_borne draft c
    (in_either c (claims_from zone_claim 0 draft.zones ++ claims_from point_claim 0 draft.points ++ claims_from output_claim 0 draft.outputs)
    (claims_from marker_claim 0 draft.markers) is)

borne_so : (draft : Draft) (name : List ℕ) (t : Thing) (h : IsHeld name_test (claims_of draft) name t) → draft_name draft t ≡ Some name
borne_so draft name t h =
    ap (draft_name draft) (sym h.holds) ∙ borne draft h.claim h.made ∙ ap Some ((bytes_eq-Decides h.claim.name name).0 h.passes)

pub borne_by : (draft : Draft) (name : List ℕ) (t : Thing) → named_in draft name ≡ Some t → draft_name draft t ≡ Some name
unfolding named_in
borne_by draft name t e =
    borne_so draft name t (is_held name_test (claims_of draft) name t (sym (named_holder (onto [] (claims_of draft)) name) ∙ e))

-- ---- numbers

-- two claims of one number are of one thing
pub one_number : (draft : Draft) (c d : Claim) (q : List ℕ) → twice_in draft ≡ None → IsIn c (claims_of draft) → IsIn d (claims_of draft)
    → number_test c q ≡ true → number_test d q ≡ true → c.thing ≡ d.thing
one_number draft c d q once made_c made_d is_c is_d =
    let fresh = fresh_numbers [] (claims_of draft) (claims_once draft once) in
    inner c.thing d.thing (sym (held number_test [] (claims_of draft) c q fresh made_c is_c) ∙ held number_test [] (claims_of draft) d q fresh made_d
    is_d)
