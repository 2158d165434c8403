-- Of the things of one kind at most one has a name, so what is kept of a name is what is kept of the thing
-- that is found by it.
use Rattle.std.proofs.Common.{◌≡◌, ◌↔◌, ℕ, Bool, true, false, List, get_or, Option, Some, None, slice_get, ◌&&◌, refl, sym, ◌∙◌, ap}
use Rattle.std.specs.List.{list_any}
use Rattle.std.specs.Prelude.{option_map}
use Rattle.std.specs.Str.{bytes_eq}
use Rattle.std.proofs.lemmas.List.Folds.{list_any_at, list_any_none}
use Rattle.std.proofs.lemmas.Option.{slice_get-get_or, get_or_from_slice_get, slice_get_within, same_Some}
use Rattle.std.proofs.lemmas.Slice.Eq.{bytes_eq-Decides}
use Rattle.site_types.specs.declared.site.Site.{Site}
use Rattle.site_types.specs.declared.point.Point.{Point as PointPlan}
use Rattle.site_types.specs.declared.zone.Zone.{Zone as ZonePlan}
use Rattle.site_types.specs.declared.output.Output.{Output as OutputPlan}
use Rattle.site_types.specs.declared.retained.Retained.{Retained}
use Rattle.site_types.specs.declared.named.Thing.{Thing}
use Rattle.site_types.specs.declared.named.Thing.TheVariants.{Point, Zone, Output, Marker}
use Rattle.site_types.specs.declared.restriction.Restriction.{Restriction}
use Rattle.site_types.specs.declared.restriction.Restriction.TheVariants.{PointOff, ZoneOff, OutputOff, InTest}
use Rattle.site_types.specs.Carry.{point_was_off, zone_was_off, output_was_off, zone_was_tested, is_restricted}
use Rattle.site_types.specs.Carry.{was_restricted}
use Rattle.site_types.specs.Done.{kept_point, kept_zone, kept_output, kept_test}
use Rattle.site_types.specs.Things.{name_at, thing_named}

-- of things of which one at most has the name, the one that has it tells
pub the_one : {X : Type 0} (name_of : X → List ℕ) (kept : X → Bool) (xs : List X) (name : List ℕ) (i : ℕ) (x : X) → slice_get xs i ≡ Some x
    → name_of x ≡ name
    → ((j : ℕ) (y : X) → slice_get xs j ≡ Some y → name_of y ≡ name → j ≡ i) → list_any (λ y. bytes_eq (name_of y) name && kept y) xs ≡ kept x
the_one {X = X} name_of kept xs name i x is named alone = by (kept x) refl
  where
    by : (b : Bool) → kept x ≡ b → list_any (λ y. bytes_eq (name_of y) name && kept y) xs ≡ kept x
    by true e =
        let same : bytes_eq (name_of x) name ≡ true = (bytes_eq-Decides (name_of x) name).1 named in
        let holds : (bytes_eq (name_of x) name && kept x) ≡ true = ap (λ b. b && kept x) same ∙ e in
        list_any_at (λ y. bytes_eq (name_of y) name && kept y) xs i x (slice_get_within xs i x is)
        (ap (λ y. bytes_eq (name_of y) name && kept y) (get_or_from_slice_get xs i x x is) ∙ holds)
        ∙ sym e
    by false e =
        list_any_none (λ y. bytes_eq (name_of y) name && kept y) xs
        (λ j d small. off j (get_or xs j d) (slice_get-get_or xs j d small) (bytes_eq (name_of (get_or xs j d)) name) refl) ∙ sym e
      where
        off : (j : ℕ) (y : X) → slice_get xs j ≡ Some y → (b : Bool) → bytes_eq (name_of y) name ≡ b → (bytes_eq (name_of y) name && kept y) ≡ false
        off j y at false f = ap (λ b. b && kept y) f
        off j y at true f =
            let place : j ≡ i = alone j y at ((bytes_eq-Decides (name_of y) name).0 f) in
            let same : y ≡ x = same_Some y x (sym at ∙ ap (slice_get xs) place ∙ is) in
            ap (λ b. b && kept y) f ∙ ap kept same ∙ e

pub not_one : {X : Type 0} (name_of : X → List ℕ) (kept : X → Bool) (xs : List X) (name : List ℕ)
    → ((j : ℕ) (y : X) → slice_get xs j ≡ Some y → name_of y ≡ name → ⊥)
    → list_any (λ y. bytes_eq (name_of y) name && kept y) xs ≡ false
not_one {X = X} name_of kept xs name none =
    list_any_none (λ y. bytes_eq (name_of y) name && kept y) xs
    (λ j d small. off j (get_or xs j d) (slice_get-get_or xs j d small) (bytes_eq (name_of (get_or xs j d)) name) refl)
  where
    off : (j : ℕ) (y : X) → slice_get xs j ≡ Some y → (b : Bool) → bytes_eq (name_of y) name ≡ b → (bytes_eq (name_of y) name && kept y) ≡ false
    off j y at false f = ap (λ b. b && kept y) f
    off j y at true f = absurd (none j y at ((bytes_eq-Decides (name_of y) name).0 f))

-- a name is found exactly where a thing has it
abbrev pub Finds : Site → List ℕ → Type 0
Finds site name = (thing : Thing) → (thing_named site name ≡ Some thing) ↔ (name_at site thing ≡ Some name)

-- what is kept of the thing of a kind that has the name is what is kept of the name
found : {X : Type 0} (site : Site) (kind : ℕ → Thing) (xs : List X) (name_of : X → List ℕ) (kept : Option X → Bool) (name : List ℕ) (i : ℕ)
    → Finds site name → ((j : ℕ) → name_at site (kind j) ≡ option_map name_of (slice_get xs j)) → ((j : ℕ) → Some (kind j) ≡ Some (kind i) → j ≡ i)
    → thing_named site name ≡ Some (kind i) → kept (slice_get xs i) ≡ list_any (λ y. bytes_eq (name_of y) name && kept (Some y)) xs
found {X = X} site kind xs name_of kept name i finds of_kind apart is = go (slice_get xs i) refl
  where
    named : name_at site (kind i) ≡ Some name
    named = (finds (kind i)).0 is

    go : (o : Option X) → slice_get xs i ≡ o → kept o ≡ list_any (λ y. bytes_eq (name_of y) name && kept (Some y)) xs
    go None none = absurd (let e : None ≡ Some name = sym (of_kind i ∙ ap (option_map name_of) none) ∙ named in cc)
    go (Some x) at =
        sym (the_one name_of (λ y. kept (Some y)) xs name i x at (same_Some (name_of x) name (sym (of_kind i ∙ ap (option_map name_of) at) ∙ named))
        (λ j y there same.
        apart j (sym ((finds (kind j)).1 (of_kind j ∙ ap (option_map name_of) there ∙ ap Some same)) ∙ is)))

-- where the name is found for no thing of the kind, nothing is kept of the name
not_found : {X : Type 0} (site : Site) (kind : ℕ → Thing) (xs : List X) (name_of : X → List ℕ) (kept : Option X → Bool) (name : List ℕ)
    → Finds site name → ((j : ℕ) → name_at site (kind j) ≡ option_map name_of (slice_get xs j)) → ((j : ℕ) → thing_named site name ≡ Some (kind j) → ⊥)
    → false ≡ list_any (λ y. bytes_eq (name_of y) name && kept (Some y)) xs
not_found site kind xs name_of kept name finds of_kind none =
    sym (not_one name_of (λ y. kept (Some y)) xs name
    (λ j y at same. none j ((finds (kind j)).1 (of_kind j ∙ ap (option_map name_of) at ∙ ap Some same))))

-- what is kept of what a name stands for
abbrev pub of_found : Site → Retained → Restriction → Option Thing → Bool
of_found site state restriction None = false
of_found site state restriction (Some thing) = is_restricted site state restriction thing

no_disabled_point : (site : Site) (state : Retained) (name : List ℕ) → Finds site name → ((j : ℕ) → thing_named site name ≡ Some (Point j) → ⊥)
    → false ≡ point_was_off site state name
no_disabled_point site state name finds none =
    not_found site Point site.points (λ (x : PointPlan). x.name.bytes) (kept_point state) name finds (λ j. refl) none

no_disabled_zone : (site : Site) (state : Retained) (name : List ℕ) → Finds site name → ((j : ℕ) → thing_named site name ≡ Some (Zone j) → ⊥)
    → false ≡ zone_was_off site state name
no_disabled_zone site state name finds none =
    not_found site Zone site.zones (λ (x : ZonePlan). x.name.bytes) (kept_zone state) name finds (λ j. refl) none

no_disabled_output : (site : Site) (state : Retained) (name : List ℕ) → Finds site name → ((j : ℕ) → thing_named site name ≡ Some (Output j) → ⊥)
    → false ≡ output_was_off site state name
no_disabled_output site state name finds none =
    not_found site Output site.outputs (λ (x : OutputPlan). x.name.bytes) (kept_output state) name finds (λ j. refl) none

no_tested_zone : (site : Site) (state : Retained) (name : List ℕ) → Finds site name → ((j : ℕ) → thing_named site name ≡ Some (Zone j) → ⊥)
    → false ≡ zone_was_tested site state name
no_tested_zone site state name finds none =
    not_found site Zone site.zones (λ (x : ZonePlan). x.name.bytes) (kept_test state) name finds (λ j. refl) none

-- what is kept of what the name stands for is what is kept of the name
pub restricted_by_name : (site : Site) (state : Retained) (restriction : Restriction) (name : List ℕ) → Finds site name → (o : Option Thing)
    → thing_named site name ≡ o → of_found site state restriction o ≡ was_restricted site state restriction name
restricted_by_name site state PointOff name finds (Some (Point i)) is =
    found site Point site.points (λ (x : PointPlan). x.name.bytes) (kept_point state) name i finds (λ j. refl) (λ j e. cc) is
restricted_by_name site state PointOff name finds None is = no_disabled_point site state name finds (λ j e. cc)
restricted_by_name site state PointOff name finds (Some (Zone i)) is = no_disabled_point site state name finds (λ j e. cc)
restricted_by_name site state PointOff name finds (Some (Output i)) is = no_disabled_point site state name finds (λ j e. cc)
restricted_by_name site state PointOff name finds (Some (Marker i)) is = no_disabled_point site state name finds (λ j e. cc)
restricted_by_name site state ZoneOff name finds (Some (Zone i)) is =
    found site Zone site.zones (λ (x : ZonePlan). x.name.bytes) (kept_zone state) name i finds (λ j. refl) (λ j e. cc) is
restricted_by_name site state ZoneOff name finds None is = no_disabled_zone site state name finds (λ j e. cc)
restricted_by_name site state ZoneOff name finds (Some (Point i)) is = no_disabled_zone site state name finds (λ j e. cc)
restricted_by_name site state ZoneOff name finds (Some (Output i)) is = no_disabled_zone site state name finds (λ j e. cc)
restricted_by_name site state ZoneOff name finds (Some (Marker i)) is = no_disabled_zone site state name finds (λ j e. cc)
restricted_by_name site state OutputOff name finds (Some (Output i)) is =
    found site Output site.outputs (λ (x : OutputPlan). x.name.bytes) (kept_output state) name i finds (λ j. refl) (λ j e. cc) is
restricted_by_name site state OutputOff name finds None is = no_disabled_output site state name finds (λ j e. cc)
restricted_by_name site state OutputOff name finds (Some (Point i)) is = no_disabled_output site state name finds (λ j e. cc)
restricted_by_name site state OutputOff name finds (Some (Zone i)) is = no_disabled_output site state name finds (λ j e. cc)
restricted_by_name site state OutputOff name finds (Some (Marker i)) is = no_disabled_output site state name finds (λ j e. cc)
restricted_by_name site state InTest name finds (Some (Zone i)) is =
    found site Zone site.zones (λ (x : ZonePlan). x.name.bytes) (kept_test state) name i finds (λ j. refl) (λ j e. cc) is
restricted_by_name site state InTest name finds None is = no_tested_zone site state name finds (λ j e. cc)
restricted_by_name site state InTest name finds (Some (Point i)) is = no_tested_zone site state name finds (λ j e. cc)
restricted_by_name site state InTest name finds (Some (Output i)) is = no_tested_zone site state name finds (λ j e. cc)
restricted_by_name site state InTest name finds (Some (Marker i)) is = no_tested_zone site state name finds (λ j e. cc)
