-- The places that the body of a visit says are those of points of the site.
use Rattle.std.proofs.Common.{◌≡◌, ◌<◌, ◌||◌, ℕ, zero, suc, Bool, true, false, List, [], ◌∷◌, Option, Some, None, get_or, length, refl, sym, ap, ◌∙◌, map, subst}
use Rattle.std.specs.Prelude.{All, ◌↔◌, Result, Ok, Err, IfErr, codes, if◌then◌else◌, nat_le, option_map, slice_get}
use Rattle.std.specs.Option.{option_and_then}
use Rattle.std.specs.Str.{bytes_eq}
use Rattle.std.proofs.lemmas.Cmp.{nat_list_eq_equiv}
use Rattle.std.proofs.lemmas.List.Elements.{All-cons, All-nil}
use Rattle.std.proofs.lemmas.Option.{same_Some, slice_get_read, slice_get_within}
use Rattle.serde_json.specs.Data.{Items, item, no_items}
use Rattle.serde_json.specs.Events.{items_len}
use Rattle.serde_json.specs.Find.{as_str}
use Rattle.service_register.specs.Points.{PointRow, lists_point, point_row, points_of}
use Rattle.service_register.specs.Answers.{IsOfTest}
use Rattle.service_register.specs.declared.refusal.RegisterRefusal.{RegisterRefusal}
use Rattle.service_register.specs.declared.refusal.RegisterRefusal.TheVariants.{Differs, KeeperFault, NoMemory, NoSuchPoint, NoSuchVisit}
use Rattle.site_types.specs.Things.{thing_named}
use Rattle.site_types.specs.Valid.{AreNames, IsValid}
use Rattle.site_types.specs.declared.named.Thing.{Thing}
use Rattle.site_types.specs.declared.named.Thing.TheVariants.{Point, Zone, Output, Marker}
use Rattle.site_types.specs.declared.point.Point.{Point as PointPlan}
use Rattle.site_types.specs.declared.site.Site.{Site}
use Rattle.site_types.proofs.Finding.{thing_named_iff}
use Rattle.desk_bodies.specs.Bodies.{SaysBody, VisitSaid, code_under, engineer_under, few_places, has_members, list_under, number_under, parts_of}
use Rattle.desk_bodies.specs.Bodies.{place_at, place_said, places_of, point_place, points_in, visit_of, visit_of_parts, with_place}
use Rattle.desk_register.specs.Taken.{IsOfTests}

-- ---- one place

has_name : (points : List PointPlan) (place : ℕ) (name : List ℕ) (point : Option PointPlan) → slice_get points place ≡ point
    → option_map (λ (p : PointPlan). p.name.bytes) point ≡ Some name → place < length points
has_name points place name None at is = absurd (cc)
has_name points place name (Some point) at is = slice_get_within points place point at

by_thing : (site : Site) → AreNames site → (name : List ℕ) (place : ℕ) (thing : Option Thing) → thing_named site name ≡ thing
    → place_at thing ≡ Some place → place < length site.points
by_thing site names name place None found is = absurd (cc)
by_thing site names name place (Some (Point other)) found is =
    let has = (thing_named_iff site names name (Point other)).0 found in
    subst (λ (n : ℕ). n < length site.points) (same_Some other place is)
    (has_name site.points other name (slice_get site.points other) refl has)
by_thing site names name place (Some (Zone other)) found is = absurd (cc)
by_thing site names name place (Some (Output other)) found is = absurd (cc)
by_thing site names name place (Some (Marker other)) found is = absurd (cc)

by_text : (site : Site) → AreNames site → (place : ℕ) (text : Option (List ℕ)) → option_and_then (point_place site) text ≡ Some place
    → place < length site.points
by_text site names place None is = absurd (cc)
by_text site names place (Some name) is = by_thing site names name place (thing_named site name) refl is

-- ---- a list of places

-- places of points of a site
abbrev pub ArePlaces : Site → List ℕ → Type 0
ArePlaces site places = All (λ place. place < length site.points) places

first_and_rest : (place : Option ℕ) (rest : Option (List ℕ)) (places : List ℕ) → with_place place rest ≡ Some places
    → (p : ℕ) × (ps : List ℕ) × (place ≡ Some p) × (rest ≡ Some ps) × (places ≡ p ∷ ps)
first_and_rest None rest places is = absurd (cc)
first_and_rest (Some p) None places is = absurd (cc)
first_and_rest (Some p) (Some ps) places is = (p, ps, refl, refl, sym (same_Some (p ∷ ps) places is))

by_items : (site : Site) → AreNames site → (items : Items) (places : List ℕ) → places_of site items ≡ Some places → ArePlaces site places
by_items site names no_items places is =
    subst (ArePlaces site) (same_Some [] places is) (All-nil (λ place. place < length site.points))
by_items site names (item value rest) places is =
    let parts = first_and_rest (place_said site value) (places_of site rest) places is in
    subst (ArePlaces site) (sym parts.4)
    (All-cons (λ place. place < length site.points) parts.0 parts.1
    (by_text site names parts.0 (as_str value) parts.2) (by_items site names rest parts.1 parts.3))

-- ---- a body

if_so : {X : Type 0} (test : Bool) (o : Option X) (x : X) → (if test then o else None) ≡ Some x → o ≡ Some x
if_so true o x is = is
if_so false o x is = absurd (cc)

by_list : (site : Site) → AreNames site → (items : Option Items) (places : List ℕ) → option_and_then (few_places site) items ≡ Some places
    → ArePlaces site places
by_list site names None places is = absurd (cc)
by_list site names (Some items) places is =
    by_items site names items places (if_so (nat_le (items_len items) 384) (places_of site items) places is)

last_part : (code : Option (Option (List ℕ))) (day : Option ℕ) (engineer : Option (List ℕ)) (number : Option ℕ) (places : Option (List ℕ)) (said : VisitSaid)
    → visit_of_parts code day engineer number places ≡ Some said → places ≡ Some said.points
last_part None day engineer number places said is = absurd (cc)
last_part (Some code) None engineer number places said is = absurd (cc)
last_part (Some code) (Some day) None number places said is = absurd (cc)
last_part (Some code) (Some day) (Some engineer) None places said is = absurd (cc)
last_part (Some code) (Some day) (Some engineer) (Some number) None said is = absurd (cc)
last_part (Some code) (Some day) (Some engineer) (Some number) (Some places) said is = points_of_said code day engineer number places said is
  where
    points_of_said : (code : Option (List ℕ)) (day : ℕ) (engineer : List ℕ) (number : ℕ) (places : List ℕ) (said : VisitSaid)
        → visit_of_parts (Some code) (Some day) (Some engineer) (Some number) (Some places) ≡ Some said → Some places ≡ Some said.points
    points_of_said code day engineer number places said is = ap (option_map (λ (s : VisitSaid). s.points)) is

pub said_places : (site : Site) → IsValid site → (body : List ℕ) (said : VisitSaid) → SaysBody (visit_of site) body said → ArePlaces site said.points
said_places site valid body said says =
    let value = says.0 in
    let whole = if_so (has_members 5 value) (parts_of site value) said says.2 in
    by_list site valid.names (list_under value) said.points
    (last_part (code_under value) (number_under (codes "day") value) (engineer_under value) (number_under (codes "visit") value)
    (points_in site value) said whole)

-- ---- the register lists it

or_true : (b : Bool) → (b || true) ≡ true
or_true true = refl
or_true false = refl

-- a point of the site is among the points of its register
pub listed_at : (site : Site) (points : List PointPlan) (place : ℕ) (point : PointPlan) → slice_get points place ≡ Some point
    → lists_point point.name.bytes (map (point_row site) points) ≡ true
listed_at site [] place point at = absurd (cc)
listed_at site (first ∷ rest) zero point at =
    let same : bytes_eq first.name.bytes point.name.bytes ≡ true =
    ap (λ (p : PointPlan). bytes_eq p.name.bytes point.name.bytes) (same_Some first point at) ∙ nat_list_eq_equiv.refl point.name.bytes in
    ap (λ b. b || lists_point point.name.bytes (map (point_row site) rest)) same
listed_at site (first ∷ rest) (suc place) point at =
    ap (λ b. bytes_eq first.name.bytes point.name.bytes || b) (listed_at site rest place point at)
    ∙ or_true (bytes_eq first.name.bytes point.name.bytes)

-- the point that is read at a place
pub read_at : (read points : List PointPlan) (place : ℕ) (point : PointPlan) → read ≡ points → place < length points → point ≡ get_or read place point
    → slice_get points place ≡ Some point
read_at read points place point same within is =
    slice_get_read points (length points) place point refl within (is ∙ ap (λ (list : List PointPlan). get_or list place point) same)

pub site_lists : (site : Site) (points : List PointRow) (place : ℕ) (point : PointPlan) → points ≡ points_of site
    → slice_get site.points place ≡ Some point → lists_point point.name.bytes points ≡ true
site_lists site points place point are at =
    ap (lists_point point.name.bytes) are ∙ listed_at site site.points place point at

-- a test of a point that is listed isn't refused for the point
pub listed_refusal : (result : Result (Unit {0}) RegisterRefusal) (name : List ℕ) (points : List PointRow) → lists_point name points ≡ true
    → (result ≡ Err NoSuchPoint) ↔ (lists_point name points ≡ false) → IfErr result IsOfTest → IfErr result IsOfTests
listed_refusal (Ok done) name points is iff of = tt
listed_refusal (Err NoSuchPoint) name points is iff of = absurd (let none = iff.0 refl in cc)
listed_refusal (Err (Differs other)) name points is iff of = of
listed_refusal (Err NoSuchVisit) name points is iff of = tt
listed_refusal (Err KeeperFault) name points is iff of = tt
listed_refusal (Err NoMemory) name points is iff of = tt
