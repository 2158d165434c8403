-- What stands at a guessed place is what a search finds: a number of a panel is of one thing, and a name of one entry.
use Rattle.std.proofs.Common.{◌≡◌, ◌∙◌, ◌<◌, ◌&&◌, ℕ, zero, suc, Bool, true, false, cond, List, [], ◌∷◌, Option, Some, refl, sym, ap, subst, length, get_or, arith}
use Rattle.std.specs.Prelude.{◌==◌, IfSome, bytes_eq, option_map, slice_get}
use Rattle.std.specs.Cmp.Lexicographic.{slice_cmp}
use Rattle.std.specs.Bool.{then_some}
use Rattle.std.specs.List.{find}
use Rattle.std.specs.Ordering.{nat_cmp}
use Rattle.std.specs.declared.cmp.Ordering.TheVariants.{Equal}
use Rattle.std.proofs.lemmas.Bool.{and_parts, and_from, eqb-true}
use Rattle.std.proofs.lemmas.Bool.Decides.{Decides-eqb}
use Rattle.std.proofs.lemmas.Cmp.{nat_list_cmp_total, tied_itself}
use Rattle.std.proofs.lemmas.Option.{same_Some, slice_get-get_or}
use Rattle.std.proofs.lemmas.Slice.Eq.{bytes_eq-Decides}
use Rattle.site_types.specs.declared.named.Named.{Named}
use Rattle.site_types.specs.declared.output.Output.{Output}
use Rattle.site_types.specs.declared.point.Point.{Point}
use Rattle.site_types.specs.declared.site.Site.{Site}
use Rattle.site_types.specs.declared.zone.Zone.{Zone}
use Rattle.site_types.specs.Things.{thing_named}
use Rattle.site_types.specs.Valid.{IsUniqueBy, IsValid, output_key, point_key, zone_key}
use Rattle.site_types.proofs.Finding.{thing_at}
use Rattle.face_text.specs.Slots.{output_name, point_name, zone_name}

-- what is given only where something is so
pub when_so : {X : Type 0} (so : Bool) (x : X) (given : Option X) (P : X → Type 0) → given ≡ then_some so x → (so ≡ true → P x) → IfSome given P
when_so true x given P is holds = subst (λ o. IfSome o P) (sym is) (holds refl)
when_so false x given P is holds = subst (λ o. IfSome o P) (sym is) tt

-- both of two numbers are the ones that are looked for
pub both_are : (a b c d : ℕ) → ((a == b) && (c == d)) ≡ true → (a ≡ b) × (c ≡ d)
both_are a b c d so = let parts = and_parts (a == b) (c == d) so in (eqb-true a b parts.0, eqb-true c d parts.1)

-- ---- what is found in a list whose keys are unique

-- what is read of a slice stands in the list
pub stands_at : {X : Type 0} (slice xs : List X) (place : ℕ) (x : X) → slice ≡ xs → place < length slice → x ≡ get_or slice place x
    → slice_get xs place ≡ Some x
stands_at slice xs place x is within at =
    ap (λ s. slice_get s place) (sym is) ∙ slice_get-get_or slice place x within ∙ ap (λ y. Some y) (sym at)

rest_unique : {X : Type 0} (key : X → List ℕ) (first : X) (rest : List X) → IsUniqueBy key (first ∷ rest) → IsUniqueBy key rest
rest_unique key first rest unique j k a b p q same = let e = unique (suc j) (suc k) a b p q same in omega (arith, e)

passed_first : {X : Type 0} (test : X → Bool) (x first : X) (rest : List X) → first ≡ x → test x ≡ true → find test (first ∷ rest) ≡ Some x
passed_first test x first rest is passes = ap (λ b. cond b (Some first) (find test rest)) (ap test is ∙ passes) ∙ ap (λ y. Some y) is

passed_later : {X : Type 0} (test : X → Bool) (x first : X) (rest : List X) (b : Bool) → test first ≡ b → (b ≡ true → ⊥) → find test rest ≡ Some x
    → find test (first ∷ rest) ≡ Some x
passed_later test x first rest true is other later = absurd (other refl)
passed_later test x first rest false is other later = ap (λ b. cond b (Some first) (find test rest)) is ∙ later

-- what passes is the one that is found, where all that pass have its key
pub found_at : {X : Type 0} (key : X → List ℕ) (test : X → Bool) (xs : List X) (place : ℕ) (x : X) → IsUniqueBy key xs
    → slice_get xs place ≡ Some x → test x ≡ true → ((y : X) → test y ≡ true → key y ≡ key x) → find test xs ≡ Some x
found_at key test [] place x unique at passes alike = cc
found_at key test (first ∷ rest) zero x unique at passes alike = passed_first test x first rest (same_Some first x at) passes
found_at key test (first ∷ rest) (suc place) x unique at passes alike =
    passed_later test x first rest (test first) refl
    (λ also. let e = unique 0 (suc place) first x refl at (alike first also) in absurd (omega (arith, e)))
    (found_at key test rest place x (rest_unique key first rest unique) at passes alike)

-- ---- numbers of a panel

two_same : (a b c d : ℕ) → a ≡ c → b ≡ d → ((a == c) && (b == d)) ≡ true
two_same a b c d one other = and_from (a == c) (b == d) ((Decides-eqb a c).1 one) ((Decides-eqb b d).1 other)

same_two : (a b c d p q : ℕ) → ((a == p) && (b == q)) ≡ true → c ≡ p → d ≡ q → (a ∷ b ∷ []) ≡ (c ∷ d ∷ [])
same_two a b c d p q passes one other =
    let tests = and_parts (a == p) (b == q) passes in
    ap (λ n. n ∷ b ∷ []) (eqb-true a p tests.0 ∙ sym one) ∙ ap (λ n. c ∷ n ∷ []) (eqb-true b q tests.1 ∙ sym other)

pub zone_is : (site : Site) → IsValid site → (panel number place : ℕ) (zone : Zone) → slice_get site.zones place ≡ Some zone → zone.panel ≡ panel
    → zone.number ≡ number → zone_name site panel number ≡ Some zone.name.bytes
zone_is site valid panel number place zone at of_panel is_number =
    ap (option_map (λ (z : Zone). z.name.bytes))
    (found_at zone_key (λ (z : Zone). (z.panel == panel) && (z.number == number)) site.zones place zone valid.twins.zones at
    (two_same zone.panel zone.number panel number of_panel is_number)
    (λ other passes. same_two other.panel other.number zone.panel zone.number panel number passes of_panel is_number))

pub output_is : (site : Site) → IsValid site → (panel number place : ℕ) (output : Output) → slice_get site.outputs place ≡ Some output
    → output.panel ≡ panel → output.number ≡ number → output_name site panel number ≡ Some output.name.bytes
output_is site valid panel number place output at of_panel is_number =
    ap (option_map (λ (o : Output). o.name.bytes))
    (found_at output_key (λ (o : Output). (o.panel == panel) && (o.number == number)) site.outputs place output valid.twins.outputs at
    (two_same output.panel output.number panel number of_panel is_number)
    (λ other passes. same_two other.panel other.number output.panel output.number panel number passes of_panel is_number))

pub point_is : (site : Site) → IsValid site → (panel line address place : ℕ) (point : Point) → slice_get site.points place ≡ Some point
    → point.panel ≡ panel → point.line ≡ line → point.address ≡ address → point_name site panel line address ≡ Some point.name.bytes
point_is site valid panel line address place point at of_panel of_line is_address =
    ap (option_map (λ (p : Point). p.name.bytes))
    (found_at point_key (λ (p : Point). (p.panel == panel) && (p.line == line) && (p.address == address)) site.points place point
    valid.twins.points at
    (and_from ((point.panel == panel) && (point.line == line)) (point.address == address)
    (two_same point.panel point.line panel line of_panel of_line) ((Decides-eqb point.address address).1 is_address))
    (λ other passes.
    let tests = and_parts ((other.panel == panel) && (other.line == line)) (other.address == address) passes in
    let front = same_two other.panel other.line point.panel point.line panel line tests.0 of_panel of_line in
    ap (λ n. other.panel ∷ other.line ∷ n ∷ []) (eqb-true other.address address tests.1 ∙ sym is_address)
    ∙ three other.panel other.line point.panel point.line point.address front))
  where
    three : (a b c d n : ℕ) → (a ∷ b ∷ []) ≡ (c ∷ d ∷ []) → (a ∷ b ∷ n ∷ []) ≡ (c ∷ d ∷ n ∷ [])
    three a b c d n same = cc

-- ---- names

pub thing_is : (site : Site) → IsValid site → (name : List ℕ) (place : ℕ) (named : Named) → slice_get site.names place ≡ Some named
    → bytes_eq named.name.bytes name ≡ true → thing_named site name ≡ Some named.thing
thing_is site valid name place named at same =
    let is : named.name.bytes ≡ name = (bytes_eq-Decides named.name.bytes name).0 same in
    thing_at site.names valid.names.rising name place named at
    (subst (λ (b : List ℕ). slice_cmp nat_cmp named.name.bytes b ≡ Equal) is (tied_itself nat_list_cmp_total named.name.bytes))
