-- A name is found where a thing of the site has it, so what is found tells whether there is one of a kind.
use Rattle.std.proofs.Common.{◌≡◌, ℕ, Bool, true, false, List, get_or, Option, Some, None, slice_get, refl, sym, ◌∙◌, ap}
use Rattle.std.specs.List.{list_any}
use Rattle.std.specs.Prelude.{option_map}
use Rattle.std.specs.Str.{bytes_eq}
use Rattle.std.proofs.lemmas.List.Folds.{list_any_at, list_any_none}
use Rattle.std.proofs.lemmas.Option.{slice_get-get_or, get_or_from_slice_get, slice_get_within, same_Some}
use Rattle.std.proofs.lemmas.Slice.Eq.{bytes_eq-Decides}
use Rattle.site_types.specs.declared.site.Site.{Site}
use Rattle.site_types.specs.declared.point.Point.{Point as PointPlan}
use Rattle.site_types.specs.declared.zone.Zone.{Zone as ZonePlan}
use Rattle.site_types.specs.declared.output.Output.{Output as OutputPlan}
use Rattle.site_types.specs.declared.named.Thing.{Thing}
use Rattle.site_types.specs.declared.named.Thing.TheVariants.{Point, Zone, Output, Marker}
use Rattle.site_types.specs.Things.{name_at, thing_named}
use Rattle.site_types.proofs.Namesakes.{Finds}
use Rattle.dropped_settings.specs.declared.kind.Kind.{Kind}
use Rattle.dropped_settings.specs.declared.kind.Kind.TheVariants as kind
use Rattle.dropped_settings.specs.Names.{has_name, is_of_kind}

-- a thing of the kind is found
found : {X : Type 0} (site : Site) (thing : ℕ → Thing) (xs : List X) (name_of : X → List ℕ) (name : List ℕ) (i : ℕ) → Finds site name
    → ((j : ℕ) → name_at site (thing j) ≡ option_map name_of (slice_get xs j)) → thing_named site name ≡ Some (thing i)
    → true ≡ list_any (λ (x : X). bytes_eq (name_of x) name) xs
found {X = X} site thing xs name_of name i finds of_kind is = go (slice_get xs i) refl
  where
    named : name_at site (thing i) ≡ Some name
    named = (finds (thing i)).0 is

    go : (o : Option X) → slice_get xs i ≡ o → true ≡ list_any (λ (x : X). bytes_eq (name_of x) name) xs
    go None none = absurd (let e : None ≡ Some name = sym (of_kind i ∙ ap (option_map name_of) none) ∙ named in cc)
    go (Some x) at =
        let same : name_of x ≡ name = same_Some (name_of x) name (sym (of_kind i ∙ ap (option_map name_of) at) ∙ named) in
        sym (list_any_at (λ (y : X). bytes_eq (name_of y) name) xs i x (slice_get_within xs i x at)
        (ap (λ (y : X). bytes_eq (name_of y) name) (get_or_from_slice_get xs i x x at) ∙ (bytes_eq-Decides (name_of x) name).1 same))

-- none of the kind is found
missing : {X : Type 0} (site : Site) (thing : ℕ → Thing) (xs : List X) (name_of : X → List ℕ) (name : List ℕ) → Finds site name
    → ((j : ℕ) → name_at site (thing j) ≡ option_map name_of (slice_get xs j)) → ((j : ℕ) → thing_named site name ≡ Some (thing j) → ⊥)
    → false ≡ list_any (λ (x : X). bytes_eq (name_of x) name) xs
missing {X = X} site thing xs name_of name finds of_kind none =
    sym (list_any_none (λ (y : X). bytes_eq (name_of y) name) xs
    (λ j d small. off j (get_or xs j d) (slice_get-get_or xs j d small) (bytes_eq (name_of (get_or xs j d)) name) refl))
  where
    off : (j : ℕ) (y : X) → slice_get xs j ≡ Some y → (b : Bool) → bytes_eq (name_of y) name ≡ b → bytes_eq (name_of y) name ≡ false
    off j y at false f = f
    off j y at true f =
        absurd (none j ((finds (thing j)).1 (of_kind j ∙ ap (option_map name_of) at ∙ ap Some ((bytes_eq-Decides (name_of y) name).0 f))))

no_point : (site : Site) (name : List ℕ) → Finds site name → ((j : ℕ) → thing_named site name ≡ Some (Point j) → ⊥)
    → false ≡ has_name site kind.Point name
no_point site name finds none = missing site Point site.points (λ (x : PointPlan). x.name.bytes) name finds (λ j. refl) none

no_zone : (site : Site) (name : List ℕ) → Finds site name → ((j : ℕ) → thing_named site name ≡ Some (Zone j) → ⊥)
    → false ≡ has_name site kind.Zone name
no_zone site name finds none = missing site Zone site.zones (λ (x : ZonePlan). x.name.bytes) name finds (λ j. refl) none

no_output : (site : Site) (name : List ℕ) → Finds site name → ((j : ℕ) → thing_named site name ≡ Some (Output j) → ⊥)
    → false ≡ has_name site kind.Output name
no_output site name finds none = missing site Output site.outputs (λ (x : OutputPlan). x.name.bytes) name finds (λ j. refl) none

-- whether what was found is of a kind
abbrev pub finds_kind : Kind → Option Thing → Bool
finds_kind kind None = false
finds_kind kind (Some thing) = is_of_kind kind thing

pub kind_by_name : (site : Site) (this : Kind) (name : List ℕ) → Finds site name → (o : Option Thing) → thing_named site name ≡ o
    → finds_kind this o ≡ has_name site this name
kind_by_name site kind.Point name finds (Some (Point i)) is =
    found site Point site.points (λ (x : PointPlan). x.name.bytes) name i finds (λ j. refl) is
kind_by_name site kind.Point name finds None is = no_point site name finds (λ j e. cc)
kind_by_name site kind.Point name finds (Some (Zone i)) is = no_point site name finds (λ j e. cc)
kind_by_name site kind.Point name finds (Some (Output i)) is = no_point site name finds (λ j e. cc)
kind_by_name site kind.Point name finds (Some (Marker i)) is = no_point site name finds (λ j e. cc)
kind_by_name site kind.Zone name finds (Some (Zone i)) is =
    found site Zone site.zones (λ (x : ZonePlan). x.name.bytes) name i finds (λ j. refl) is
kind_by_name site kind.Zone name finds None is = no_zone site name finds (λ j e. cc)
kind_by_name site kind.Zone name finds (Some (Point i)) is = no_zone site name finds (λ j e. cc)
kind_by_name site kind.Zone name finds (Some (Output i)) is = no_zone site name finds (λ j e. cc)
kind_by_name site kind.Zone name finds (Some (Marker i)) is = no_zone site name finds (λ j e. cc)
kind_by_name site kind.Output name finds (Some (Output i)) is =
    found site Output site.outputs (λ (x : OutputPlan). x.name.bytes) name i finds (λ j. refl) is
kind_by_name site kind.Output name finds None is = no_output site name finds (λ j e. cc)
kind_by_name site kind.Output name finds (Some (Point i)) is = no_output site name finds (λ j e. cc)
kind_by_name site kind.Output name finds (Some (Zone i)) is = no_output site name finds (λ j e. cc)
kind_by_name site kind.Output name finds (Some (Marker i)) is = no_output site name finds (λ j e. cc)
