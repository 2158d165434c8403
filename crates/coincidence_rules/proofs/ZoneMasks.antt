-- The bits of a mask of zones are the tests of the zones with their numbers.
use Rattle.std.proofs.Common.{◌≡◌, ℕ, ◌+◌, ◌-◌, ◌<◌, ◌^◌, Bool, true, false, List, [], ◌∷◌, length, Some, None, slice_get, get_or, ◌==◌, nat_lt, refl, ◌∙◌, ap, subst, cond, arith}
use Rattle.std.specs.List.{position, position_or_len}
use Rattle.std.proofs.lemmas.Bool.{eqb-true, eq-eqb}
use Rattle.std.proofs.lemmas.Bool.Decides.{nat_tests}
use Rattle.std.proofs.lemmas.Option.{slice_get-get_or, get_or_from_slice_get}
use Rattle.std.proofs.lemmas.List.Sums.{position_or_len_is}
use Rattle.std.proofs.lemmas.List.Quantifiers.{position-Some}
use Rattle.site_types.specs.declared.site.Site.{Site}
use Rattle.site_types.specs.declared.zone.Zone.{Zone}
use Rattle.site_types.specs.Bits.{has_bit}
use Rattle.site_types.proofs.Masks.{has_bit-mask, mask_from_bits}
use Rattle.coincidence_rules.specs.Places.{on_zone, is_numbered, numbered, zones_where}
use Rattle.coincidence_rules.specs.Wired.{IsWired}
use Rattle.coincidence_rules.proofs.Lists.{and_both, both_and, get_small}

pub has_bit-zones : (site : Site) (panel : ℕ) (test : ℕ → Bool) (k : ℕ) → k < 32
    → has_bit (zones_where site panel test) k ≡ on_zone test (numbered site panel (k + 1))
unfolding zones_where
has_bit-zones site panel test k small = has_bit-mask 32 (λ j. on_zone test (numbered site panel (j + 1))) k small

pub zones_from_bits : (site : Site) (panel : ℕ) (test : ℕ → Bool) (mask : ℕ) → mask < 2 ^ 32
    → ((k : ℕ) → k < 32 → has_bit mask k ≡ on_zone test (numbered site panel (k + 1))) → mask ≡ zones_where site panel test
unfolding zones_where
zones_from_bits site panel test mask below same = mask_from_bits 32 mask (λ j. on_zone test (numbered site panel (j + 1))) below same

-- a zone is found by its number
pub numbered_of : (site : Site) (place : ℕ) (zone : Zone) → IsWired site → slice_get site.zones place ≡ Some zone
    → numbered site zone.panel zone.number ≡ Some place
numbered_of site place zone wired is = found (position_or_len test site.zones) first small
  where
    test : Zone → Bool
    test = is_numbered zone.panel zone.number

    small : place < length site.zones
    small = get_small site.zones place zone is

    here : get_or site.zones place zone ≡ zone
    here = get_or_from_slice_get site.zones place zone zone is

    passes : test (get_or site.zones place zone) ≡ true
    passes =
        ap test here ∙ both_and (zone.panel == zone.panel) (zone.number == zone.number) (eq-eqb zone.panel zone.panel refl)
        (eq-eqb zone.number zone.number refl)

    only : (k : ℕ) → k < place → (b : Bool) → test (get_or site.zones k zone) ≡ b → b ≡ false
    only k less false e = refl
    only k less true e =
        let other = get_or site.zones k zone in
        let both = and_both (other.panel == zone.panel) (other.number == zone.number) e in
        let at : slice_get site.zones k ≡ Some other = slice_get-get_or site.zones k zone (omega (arith, less, small)) in
        let one = wired.numbered k place other zone at is (eqb-true other.panel zone.panel both.0) (eqb-true other.number zone.number both.1) in
        absurd (omega (arith, one, less))

    first : position_or_len test site.zones ≡ place
    first = position_or_len_is test site.zones place zone (omega (arith, small)) (λ k less. only k less (test (get_or site.zones k zone)) refl)
        (λ _. passes)

    lt_true : (a b : ℕ) → a < b → nat_lt a b ≡ true
    lt_true a b h = grind (arith, nat_tests)

    found : (n : ℕ) → n ≡ place → place < length site.zones → cond (nat_lt n (length site.zones)) (Some n) None ≡ Some place
    found n e less =
        ap (λ m. cond (nat_lt m (length site.zones)) (Some m) None) e ∙ ap (λ b. cond b (Some place) None) (lt_true place (length site.zones) less)

-- and what is found by a number is the zone with it
pub record HasNumber (site : Site) (panel number place : ℕ) : Type 0 where
  pub zone : Zone
  pub is : slice_get site.zones place ≡ Some zone
  pub panel_is : zone.panel ≡ panel
  pub number_is : zone.number ≡ number

pub of_numbered : (site : Site) (panel number place : ℕ) → numbered site panel number ≡ Some place → HasNumber site panel number place
of_numbered site panel number place h = go site.zones refl
  where
    go : (zones : List Zone) → site.zones ≡ zones → HasNumber site panel number place
    go [] e = let none : position (is_numbered panel number) [] ≡ Some place = subst (λ l. position (is_numbered panel number) l ≡ Some place) e h in
        cc
    go (z ∷ zs) e =
        let p = position-Some (is_numbered panel number) site.zones place z h in
        let zone = get_or site.zones place z in
        let both = and_both (zone.panel == panel) (zone.number == number) p.1 in
        record {
          zone = zone;
          is = slice_get-get_or site.zones place z p.0;
          panel_is = eqb-true zone.panel panel both.0;
          number_is =
              eqb-true zone.number number both.1;
        }

-- the bit of a zone is its test
pub has_bit-zone : (site : Site) (test : ℕ → Bool) (place : ℕ) (zone : Zone) → IsWired site → slice_get site.zones place ≡ Some zone
    → has_bit (zones_where site zone.panel test) (zone.number - 1) ≡ test place
has_bit-zone site test place zone wired is =
    let number = (wired.zones place zone is).1 in
    has_bit-zones site zone.panel test (zone.number - 1) (omega (arith, number))
    ∙ ap (λ n. on_zone test (numbered site zone.panel n)) (let e : zone.number - 1 + 1 ≡ zone.number = omega (arith, number) in e)
    ∙ ap (on_zone test) (numbered_of site place zone wired is)
