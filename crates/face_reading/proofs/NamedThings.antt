-- The name of a thing on a panel's page is plain, and is read back to that thing.
use Rattle.std.proofs.Common.{◌≡◌, ◌∙◌, ◌<◌, ◌≤◌, ◌^◌, ◌&&◌, ℕ, zero, suc, Bool, true, false, cond, List, [], ◌∷◌, Some, None, refl, sym, ap, subst, arith}
use Rattle.std.specs.Prelude.{◌==◌, codes, decimal, nat_lt, option_map, slice_get, if◌then◌else◌}
use Rattle.std.specs.List.{find, list_all}
use Rattle.std.specs.Option.{option_and_then}
use Rattle.std.proofs.lemmas.Bool.{and_parts, eqb-true, lt-ltb}
use Rattle.std.proofs.lemmas.Option.{same_Some}
use Rattle.site_types.specs.declared.named.Thing.TheVariants.{Point as PointThing, Zone as ZoneThing, Output as OutputThing}
use Rattle.site_types.specs.declared.output.Output.{Output}
use Rattle.site_types.specs.declared.point.Point.{Point}
use Rattle.site_types.specs.declared.site.Site.{Site}
use Rattle.site_types.specs.declared.zone.Zone.{Zone}
use Rattle.site_types.specs.Valid.{IsValid}
use Rattle.site_types.proofs.Finding.{thing_named_iff}
use Rattle.site_types.proofs.Spelling.{number_of-decimal}
use Rattle.site_types.proofs.ValidSites.{output_at as output_form, point_at as point_is, zone_at as zone_form}
use Rattle.face_text.specs.declared.group.Group.{Group}
use Rattle.face_text.specs.declared.group.Group.TheVariants.{Zones, Firsts, Missing, Broken, Shorted, Supplies, Silent, Links, Unconfirmed, Outputs, Confirmed, PointsOff, ZonesOff, OutputsOff, Tests}
use Rattle.face_text.specs.Slots.{last_of, name_in, number_if, output_name, point_name, supply_name, zone_name}
use Rattle.face_reading.specs.Spelled.{number_spelled, numbered, output_at, output_named, output_spelled}
use Rattle.face_reading.specs.Spelled.{point_at, point_named, point_spelled, thing_spelled, zone_at, zone_named}
use Rattle.face_reading.specs.Spelled.{zone_spelled}
use Rattle.line_fields.specs.Numbers.{number_below}
use Rattle.line_fields.proofs.PlainFields.{decimal_plain, is_plain, name_plain}

-- ---- what is found in a list by a test

pub record IsFound {X : Type 0} (key : X → List ℕ) (test : X → Bool) (xs : List X) (name : List ℕ) : Type 0 where
  pub it : X
  pub place : ℕ
  pub is : slice_get xs place ≡ Some it
  pub passes : test it ≡ true
  pub named : key it ≡ name

found_first : {X : Type 0} (key : X → List ℕ) (test : X → Bool) (x : X) (xs : List X) (name : List ℕ) (b : Bool) → test x ≡ b
    → option_map key (cond b (Some x) (find test xs)) ≡ Some name →
    (option_map key (find test xs) ≡ Some name → IsFound key test xs name) → IsFound key test (x ∷ xs) name
found_first key test x xs name true passes is later = record { it = x; place = 0; is = refl; passes = passes; named = same_Some (key x) name is }
found_first key test x xs name false passes is later =
    let rest = later is in
    record { it = rest.it; place = suc rest.place; is = rest.is; passes = rest.passes; named = rest.named }

pub found : {X : Type 0} (key : X → List ℕ) (test : X → Bool) (xs : List X) (name : List ℕ) → option_map key (find test xs) ≡ Some name
    → IsFound key test xs name
found key test [] name is = cc
found key test (x ∷ xs) name is = found_first key test x xs name (test x) refl is (found key test xs name)

-- ---- zones, points and outputs

pub record ZoneBack (site : Site) (panel number : ℕ) (name : List ℕ) : Type 0 where
  pub plain : list_all is_plain name ≡ true
  pub back : (group : ℕ → Group) → zone_spelled (λ zone. group zone.panel) site name ≡ Some (numbered (group panel) number)

pub zone_back : (site : Site) → IsValid site → (panel number : ℕ) (name : List ℕ) → zone_name site panel number ≡ Some name
    → ZoneBack site panel number name
zone_back site valid panel number name is =
    let it = found (λ (zone : Zone). zone.name.bytes) (λ (zone : Zone). (zone.panel == panel) && (zone.number == number)) site.zones name is in
    let zone = it.it in
    let tests = and_parts (zone.panel == panel) (zone.number == number) it.passes in
    let at_panel = eqb-true zone.panel panel tests.0 in
    let at_number = eqb-true zone.number number tests.1 in
    let has = (thing_named_iff site valid.names name (ZoneThing it.place)).1 (ap (option_map (λ (z : Zone). z.name.bytes)) it.is ∙ ap Some it.named)
    in
    let named : zone_named site name ≡ Some zone = ap (zone_at site) has ∙ it.is in
    record {
      plain = ap (list_all is_plain) (sym it.named) ∙ name_plain zone.name.bytes (zone_form site valid it.place zone it.is).name;
      back = λ group. ap (option_map (λ (z : Zone). numbered (group z.panel) z.number)) named ∙ ap (λ p. Some (numbered (group p) zone.number))
          at_panel ∙ ap (λ n. Some (numbered (group panel) n)) at_number;
    }

pub record PointBack (site : Site) (line number : ℕ) (name : List ℕ) : Type 0 where
  pub plain : list_all is_plain name ≡ true
  pub back : (group : ℕ → Group) → point_spelled (λ point. group point.line) site name ≡ Some (numbered (group line) number)

pub point_back : (site : Site) → IsValid site → (panel line number : ℕ) (name : List ℕ) → point_name site panel line number ≡ Some name
    → PointBack site line number name
point_back site valid panel line number name is =
    let it =
    found (λ (point : Point). point.name.bytes) (λ (point : Point). (point.panel == panel) && (point.line == line) && (point.address == number))
    site.points name is in
    let point = it.it in
    let tests = and_parts ((point.panel == panel) && (point.line == line)) (point.address == number) it.passes in
    let at_line = eqb-true point.line line (and_parts (point.panel == panel) (point.line == line) tests.0).1 in
    let at_number = eqb-true point.address number tests.1 in
    let has = (thing_named_iff site valid.names name (PointThing it.place)).1 (ap (option_map (λ (p : Point). p.name.bytes)) it.is ∙ ap Some it.named)
    in
    let named : point_named site name ≡ Some point = ap (point_at site) has ∙ it.is in
    record {
      plain = ap (list_all is_plain) (sym it.named) ∙ name_plain point.name.bytes (point_is site valid it.place point it.is).name;
      back = λ group. ap (option_map (λ (p : Point). numbered (group p.line) p.address)) named ∙ ap (λ l. Some (numbered (group l) point.address))
          at_line ∙ ap (λ n. Some (numbered (group line) n)) at_number;
    }

pub record OutputBack (site : Site) (number : ℕ) (name : List ℕ) : Type 0 where
  pub plain : list_all is_plain name ≡ true
  pub back : (group : Group) → output_spelled group site name ≡ Some (numbered group number)

pub output_back : (site : Site) → IsValid site → (panel number : ℕ) (name : List ℕ) → output_name site panel number ≡ Some name
    → OutputBack site number name
output_back site valid panel number name is =
    let it = found (λ (output : Output). output.name.bytes) (λ (output : Output). (output.panel == panel) && (output.number == number)) site.outputs
    name is in
    let output = it.it in
    let tests = and_parts (output.panel == panel) (output.number == number) it.passes in
    let at_number = eqb-true output.number number tests.1 in
    let has =
    (thing_named_iff site valid.names name (OutputThing it.place)).1 (ap (option_map (λ (o : Output). o.name.bytes)) it.is ∙ ap Some it.named) in
    let named : output_named site name ≡ Some output = ap (output_at site) has ∙ it.is in
    record {
      plain = ap (list_all is_plain) (sym it.named) ∙ name_plain output.name.bytes (output_form site valid it.place output it.is).name;
      back = λ group. ap (option_map (λ (o : Output). numbered group o.number)) named ∙ ap (λ n. Some (numbered group n)) at_number;
    }

-- ---- numbers

-- the digits of a number below a bound spell it
pub below_back : (bound number : ℕ) → number < bound → number < 2 ^ 64 → number_below bound (decimal number) ≡ Some number
below_back bound number small wide =
    ap (option_and_then (λ n. if nat_lt n bound then Some n else None)) (number_of-decimal number wide) ∙ ap (λ b. if b then Some number else None)
    (lt-ltb number bound small)

pub record NumberBack (number : ℕ) (name : List ℕ) : Type 0 where
  pub plain : list_all is_plain name ≡ true
  pub back : (group : Group) → number_spelled group name ≡ Some (numbered group number)

number_there : (there : Bool) (number : ℕ) (name : List ℕ) → number_if there number ≡ Some name → decimal number ≡ name
number_there true number name is = same_Some (decimal number) name is
number_there false number name is = cc

pub number_back : (there : Bool) (number : ℕ) (name : List ℕ) → number < 256 → number_if there number ≡ Some name → NumberBack number name
number_back there number name small is =
    let digits = number_there there number name is in
    let wide : number < 2 ^ 64 = omega (arith, small) in
    record {
      plain = ap (list_all is_plain) (sym digits) ∙ decimal_plain number wide;
      back = λ group. ap (option_map (λ n. numbered group n)) (ap (number_below 256) (sym digits) ∙ below_back 256 number small wide);
    }

-- ---- supplies

pub record SupplyBack (site : Site) (number : ℕ) (name : List ℕ) : Type 0 where
  pub plain : list_all is_plain name ≡ true
  pub back : (second : List ℕ) → thing_spelled site (codes "fault") name second ≡ Some (numbered Supplies number)

supply_as : (site : Site) (number : ℕ) (word name : List ℕ) → SupplyBack site number word → Some word ≡ Some name → SupplyBack site number name
supply_as site number word name back is = subst (SupplyBack site number) (same_Some word name is) back

pub supply_back : (site : Site) (number : ℕ) (name : List ℕ) → number ≤ 4 → supply_name number ≡ Some name → SupplyBack site number name
supply_back site zero name most is = cc
supply_back site (suc zero) name most is = supply_as site 1 (codes "mains") name (record { plain = refl; back = λ second. refl }) is
supply_back site (suc (suc zero)) name most is = supply_as site 2 (codes "standby") name (record { plain = refl; back = λ second. refl }) is
supply_back site (suc (suc (suc zero))) name most is = supply_as site 3 (codes "voltage") name (record { plain = refl; back = λ second. refl }) is
supply_back site (suc (suc (suc (suc zero)))) name most is =
    supply_as site 4 (codes "charger") name (record { plain = refl; back = λ second. refl }) is
supply_back site (suc (suc (suc (suc (suc more))))) name most is = absurd (omega arith)

-- ---- things of all groups

-- the fields of a thing's line behind its panel's number
abbrev pub words_of : Group → List ℕ → List ℕ → List (List ℕ)
words_of (Zones panel) name state = codes "zone" ∷ name ∷ state ∷ []
words_of (Firsts panel) name state = codes "first" ∷ name ∷ state ∷ []
words_of (Missing line) name state = codes "fault" ∷ codes "missing" ∷ name ∷ state ∷ []
words_of Broken name state = codes "fault" ∷ codes "broken" ∷ name ∷ state ∷ []
words_of Shorted name state = codes "fault" ∷ codes "shorted" ∷ name ∷ state ∷ []
words_of Supplies name state = codes "fault" ∷ name ∷ state ∷ []
words_of Silent name state = codes "fault" ∷ codes "silent" ∷ name ∷ state ∷ []
words_of Links name state = codes "fault" ∷ codes "link" ∷ name ∷ state ∷ []
words_of Unconfirmed name state = codes "fault" ∷ codes "unconfirmed" ∷ name ∷ state ∷ []
words_of Outputs name state = codes "output" ∷ name ∷ state ∷ []
words_of Confirmed name state = codes "confirmed" ∷ name ∷ state ∷ []
words_of (PointsOff line) name state = codes "disabled" ∷ codes "point" ∷ name ∷ state ∷ []
words_of ZonesOff name state = codes "disabled" ∷ codes "zone" ∷ name ∷ state ∷ []
words_of OutputsOff name state = codes "disabled" ∷ codes "output" ∷ name ∷ state ∷ []
words_of Tests name state = codes "test" ∷ name ∷ state ∷ []

-- a field of them
abbrev pub word_at : ℕ → List (List ℕ) → List ℕ
word_at zero [] = []
word_at zero (word ∷ words) = word
word_at (suc place) [] = []
word_at (suc place) (word ∷ words) = word_at place words

pub record ThingBack (site : Site) (group : Group) (number : ℕ) (name : List ℕ) : Type 0 where
  pub plain : list_all is_plain name ≡ true
  pub back : (state : List ℕ)
      → thing_spelled site (word_at 0 (words_of group name state)) (word_at 1 (words_of group name state)) (word_at 2 (words_of group name state))
      ≡ Some (numbered group number)

-- what the site has on a panel's page under a name is read back by that name
pub thing_back : (site : Site) → IsValid site → (panel : ℕ) (group : Group) (number : ℕ) (name : List ℕ) → number ≤ last_of group
    → name_in site panel group number ≡ Some name → ThingBack site group number name
thing_back site valid panel (Zones other) number name most is = let it = zone_back site valid other number name is in
    record { plain = it.plain; back = λ state. it.back Zones }
thing_back site valid panel (Firsts other) number name most is = let it = zone_back site valid other number name is in
    record { plain = it.plain; back = λ state. it.back Firsts }
thing_back site valid panel (Missing line) number name most is = let it = point_back site valid panel line number name is in
    record { plain = it.plain; back = λ state. it.back Missing }
thing_back site valid panel Broken number name most is = let it = number_back _ number name (omega arith) is in
    record { plain = it.plain; back = λ state. it.back Broken }
thing_back site valid panel Shorted number name most is = let it = number_back _ number name (omega arith) is in
    record { plain = it.plain; back = λ state. it.back Shorted }
thing_back site valid panel Supplies number name most is = let it = supply_back site number name most is in
    record { plain = it.plain; back = λ state. it.back state }
thing_back site valid panel Silent number name most is = let it = number_back _ number name (omega arith) is in
    record { plain = it.plain; back = λ state. it.back Silent }
thing_back site valid panel Links number name most is = let it = number_back _ number name (omega arith) is in
    record { plain = it.plain; back = λ state. it.back Links }
thing_back site valid panel Unconfirmed number name most is = let it = output_back site valid panel number name is in
    record { plain = it.plain; back = λ state. it.back Unconfirmed }
thing_back site valid panel Outputs number name most is = let it = output_back site valid panel number name is in
    record { plain = it.plain; back = λ state. it.back Outputs }
thing_back site valid panel Confirmed number name most is = let it = output_back site valid panel number name is in
    record { plain = it.plain; back = λ state. it.back Confirmed }
thing_back site valid panel (PointsOff line) number name most is = let it = point_back site valid panel line number name is in
    record { plain = it.plain; back = λ state. it.back PointsOff }
thing_back site valid panel ZonesOff number name most is = let it = zone_back site valid panel number name is in
    record { plain = it.plain; back = λ state. it.back (λ p. ZonesOff) }
thing_back site valid panel OutputsOff number name most is = let it = output_back site valid panel number name is in
    record { plain = it.plain; back = λ state. it.back OutputsOff }
thing_back site valid panel Tests number name most is = let it = zone_back site valid panel number name is in
    record { plain = it.plain; back = λ state. it.back (λ p. Tests) }
