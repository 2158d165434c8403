-- The printed name of a thing that the site has is short and plain, and names that thing.
use Rattle.std.proofs.Common.{◌≡◌, ◌∙◌, ◌<◌, ℕ, zero, suc, Bool, true, List, [], ◌∷◌, Option, Some, None, length, get_or, refl, sym, ap, subst, arith}
use Rattle.std.specs.Prelude.{nat_lt, option_map, slice_get, All}
use Rattle.std.proofs.lemmas.Bool.{ltb-true}
use Rattle.std.proofs.lemmas.Option.{get_or_from_slice_get, slice_get_within}
use Rattle.site_types.specs.Events.{is_some_with}
use Rattle.site_types.specs.Names.{is_name}
use Rattle.site_types.specs.Things.{name_at, thing_named}
use Rattle.site_types.specs.Valid.{IsOutput, IsPoint, IsValid, IsZone}
use Rattle.site_types.specs.declared.site.Site.{Site}
use Rattle.site_types.specs.declared.named.Named.{Named}
use Rattle.site_types.specs.declared.named.Thing.{Thing}
use Rattle.site_types.specs.declared.named.Thing.TheVariants.{Point as PointThing, Zone as ZoneThing, Output as OutputThing}
use Rattle.site_types.specs.declared.point.Point.{Point as PointPlan}
use Rattle.site_types.specs.declared.zone.Zone.{Zone as ZonePlan}
use Rattle.site_types.specs.declared.output.Output.{Output as OutputPlan}
use Rattle.site_types.proofs.Finding.{thing_named_iff}
use Rattle.record_lines.specs.Events.{point_in, point_of}
use Rattle.record_lines.specs.Printed.{known_name, name_text}
use Rattle.line_fields.proofs.PlainFields.{is_fit, name_fit}

pub record IsNamed (site : Site) (thing : Thing) : Type 0 where
  pub fit : is_fit 20 (name_text site thing) ≡ true
  pub found : thing_named site (name_text site thing) ≡ Some thing

named_from : (site : Site) → IsValid site → (thing : Thing) (name : List ℕ) → name_at site thing ≡ Some name → is_name name ≡ true
    → IsNamed site thing
named_from site valid thing name has form =
    let is : name_text site thing ≡ name = ap known_name has in
    record {
      fit = ap (is_fit 20) is ∙ name_fit name form;
      found = ap (thing_named site) is ∙ (thing_named_iff site valid.names name thing).1 has;
    }

-- an element that is there has what holds of all
pub at_place : {X : Type 0} (P : X → Type 0) (xs : List X) (place : ℕ) (x : X) → All P xs → slice_get xs place ≡ Some x → P x
at_place P xs place x all at = subst P (get_or_from_slice_get xs place x x at) (all place x (slice_get_within xs place x at))

pub point_named : (site : Site) → IsValid site → (place : ℕ) (point : PointPlan) → slice_get site.points place ≡ Some point
    → IsNamed site (PointThing place)
point_named site valid place point at =
    named_from site valid (PointThing place) point.name.bytes (ap (option_map (λ (p : PointPlan). p.name.bytes)) at)
    (at_place (IsPoint site) site.points place point valid.forms.points at).name

pub zone_named : (site : Site) → IsValid site → (place : ℕ) (zone : ZonePlan) → slice_get site.zones place ≡ Some zone → IsNamed site (ZoneThing place)
zone_named site valid place zone at =
    named_from site valid (ZoneThing place) zone.name.bytes (ap (option_map (λ (z : ZonePlan). z.name.bytes)) at)
    (at_place (IsZone site) site.zones place zone valid.forms.zones at).name

pub output_named : (site : Site) → IsValid site → (place : ℕ) (output : OutputPlan) → slice_get site.outputs place ≡ Some output
    → IsNamed site (OutputThing place)
output_named site valid place output at =
    named_from site valid (OutputThing place) output.name.bytes (ap (option_map (λ (o : OutputPlan). o.name.bytes)) at)
    (at_place (IsOutput site) site.outputs place output valid.forms.outputs at).name

-- ---- as the tests of events tell that they are there

there_within : {X : Type 0} (xs : List X) (place : ℕ) → place < length xs → (x : X) × (slice_get xs place ≡ Some x)
there_within [] place within = absurd (omega arith)
there_within (x ∷ xs) zero within = (x, refl)
there_within (x ∷ xs) (suc place) within = there_within xs place (omega arith)

there_with : {X : Type 0} (test : X → Bool) (found : Option X) → is_some_with test found ≡ true → (x : X) × (found ≡ Some x)
there_with test None passes = cc
there_with test (Some x) passes = (x, refl)

pub point_there : (site : Site) → IsValid site → (place : ℕ) → nat_lt place (length site.points) ≡ true → IsNamed site (PointThing place)
point_there site valid place has =
    let there = there_within site.points place (ltb-true place (length site.points) has) in
    point_named site valid place there.0 there.1

pub zone_there : (site : Site) → IsValid site → (test : ZonePlan → Bool) (place : ℕ) → is_some_with test (slice_get site.zones place) ≡ true
    → IsNamed site (ZoneThing place)
zone_there site valid test place has =
    let there = there_with test (slice_get site.zones place) has in
    zone_named site valid place there.0 there.1

pub point_with : (site : Site) → IsValid site → (test : PointPlan → Bool) (place : ℕ) → is_some_with test (slice_get site.points place) ≡ true
    → IsNamed site (PointThing place)
point_with site valid test place has =
    let there = there_with test (slice_get site.points place) has in
    point_named site valid place there.0 there.1

pub output_there : (site : Site) → IsValid site → (test : OutputPlan → Bool) (place : ℕ) → is_some_with test (slice_get site.outputs place) ≡ true
    → IsNamed site (OutputThing place)
output_there site valid test place has =
    let there = there_with test (slice_get site.outputs place) has in
    output_named site valid place there.0 there.1

-- ---- as the names tell

-- the entry of a name that stands for a point tells which point has it
pub entry_point : (site : Site) → IsValid site → (names : List Named) (place : ℕ) (named : Named) (point : ℕ) (name : List ℕ) → names ≡ site.names
    → place < length names → named ≡ get_or names place named → named.thing ≡ PointThing point → named.name.bytes ≡ name → Some point ≡ point_of site name
entry_point site valid names place named point name theirs within at is same =
    let named_right : All (λ (n : Named). name_at site n.thing ≡ Some n.name.bytes) names =
    subst (λ ns. All (λ (n : Named). name_at site n.thing ≡ Some n.name.bytes) ns) (sym theirs) valid.names.right in
    let right = subst (λ (n : Named). name_at site n.thing ≡ Some n.name.bytes) (sym at) (named_right place named within) in
    let has : name_at site (PointThing point) ≡ Some name = ap (name_at site) (sym is) ∙ right ∙ ap (λ (b : List ℕ). Some b) same in
    sym (ap point_in ((thing_named_iff site valid.names name (PointThing point)).1 has))
