-- A point of a panel stands at its address, and no other does.
use Rattle.std.proofs.Common.{◌≡◌, ◌≢◌, ◌⊎◌, inl, inr, ℕ, ◌<◌, Bool, true, false, List, [], ◌∷◌, map, length, get_or}
use Rattle.std.proofs.Common.{Option, Some, None, option_map, slice_get, ◌==◌, ◌&&◌, nat_le, nat_lt, if◌then◌else◌}
use Rattle.std.proofs.Common.{refl, sym, ◌∙◌, ap, subst, cond, arith}
use Rattle.std.specs.List.{position, position_or_len}
use Rattle.std.proofs.lemmas.Bool.{eqb-true, eq-eqb}
use Rattle.std.proofs.lemmas.Bool.Decides.{nat_tests, eqb_tells}
use Rattle.std.proofs.lemmas.Option.{slice_get-get_or, get_or_from_slice_get, slice_get_within, slice_get-map, same_Some}
use Rattle.std.proofs.lemmas.List.Sums.{position_or_len_is}
use Rattle.std.proofs.lemmas.List.Quantifiers.{position-Some}
use Rattle.site_types.specs.declared.site.Site.{Site}
use Rattle.site_types.specs.declared.point.Point.{Point}
use Rattle.site_types.specs.Bits.{IsPlace, with_point}
use Rattle.site_types.specs.Changes.{HasOwnPlaces}
use Rattle.site_types.proofs.Done.{lt_true}
use Rattle.coincidence_rules.proofs.Lists.{and_both, both_and}
use Rattle.panel_conditions.specs.Points.{is_addressed, addressed, on_point, points_where}
use Rattle.panel_conditions.specs.PointSets.{loop_address, address_in, is_place, put_at}
use Rattle.panel_conditions.proofs.PointSets.{put_is, sets_agree}

-- what is found at an address is a point that stands there
pub record StandsAt (site : Site) (panel line address place : ℕ) : Type 0 where
  pub point : Point
  pub is : slice_get site.points place ≡ Some point
  pub panel_is : point.panel ≡ panel
  pub line_is : point.line ≡ line
  pub address_is : point.address ≡ address

pub of_addressed : (site : Site) (panel line address place : ℕ) → addressed site panel line address ≡ Some place
    → StandsAt site panel line address place
of_addressed site panel line address place h = go site.points refl
  where
    go : (points : List Point) → site.points ≡ points → StandsAt site panel line address place
    go [] e = let none : position (is_addressed panel line address) [] ≡ Some place =
        subst (λ l. position (is_addressed panel line address) l ≡ Some place) e h in cc
    go (p ∷ ps) e =
        let found = position-Some (is_addressed panel line address) site.points place p h in
        let point = get_or site.points place p in
        let both = and_both (point.panel == panel) ((point.line == line) && (point.address == address)) found.1 in
        let rest = and_both (point.line == line) (point.address == address) both.1 in
        record {
          point = point;
          is = slice_get-get_or site.points place p found.0;
          panel_is = eqb-true point.panel panel both.0;
          line_is = eqb-true point.line line rest.0;
          address_is = eqb-true point.address address rest.1;
        }

-- a point is found at its address
pub addressed_of : (site : Site) (place : ℕ) (point : Point) → HasOwnPlaces site → slice_get site.points place ≡ Some point
    → addressed site point.panel point.line point.address ≡ Some place
addressed_of site place point own is = found (position_or_len test site.points) first small
  where
    test : Point → Bool
    test = is_addressed point.panel point.line point.address

    small : place < length site.points
    small = slice_get_within site.points place point is

    here : get_or site.points place point ≡ point
    here = get_or_from_slice_get site.points place point point is

    passes : test (get_or site.points place point) ≡ true
    passes =
        ap test here
        ∙ both_and (point.panel == point.panel) ((point.line == point.line) && (point.address == point.address)) (eq-eqb point.panel point.panel refl)
        (both_and (point.line == point.line) (point.address == point.address) (eq-eqb point.line point.line refl)
        (eq-eqb point.address point.address refl))

    only : (k : ℕ) → k < place → (b : Bool) → test (get_or site.points k point) ≡ b → b ≡ false
    only k less false e = refl
    only k less true e =
        let other = get_or site.points k point in
        let both = and_both (other.panel == point.panel) ((other.line == point.line) && (other.address == point.address)) e in
        let rest = and_both (other.line == point.line) (other.address == point.address) both.1 in
        let at : slice_get site.points k ≡ Some other = slice_get-get_or site.points k point (omega (arith, less, small)) in
        let one =
        own.points_apart k place other point at is (eqb-true other.panel point.panel both.0) (eqb-true other.line point.line rest.0)
        (eqb-true other.address point.address rest.1) in
        absurd (omega (arith, one, less))

    first : position_or_len test site.points ≡ place
    first = position_or_len_is test site.points place point (omega (arith, small)) (λ k less. only k less (test (get_or site.points k point)) refl)
        (λ _. passes)

    found : (n : ℕ) → n ≡ place → place < length site.points → cond (nat_lt n (length site.points)) (Some n) None ≡ Some place
    found n e less =
        ap (λ m. cond (nat_lt m (length site.points)) (Some m) None) e ∙ ap (λ b. cond b (Some place) None) (lt_true place (length site.points) less)

pub neq_false : (m n : ℕ) → m ≢ n → (m == n) ≡ false
neq_false m n apart = elim (eqb_tells m n) [ inl same ↦ absurd (apart same.1) | inr far ↦ far.0 ]

-- a place gets a value, each other one keeps its own
abbrev pub but_at : ℕ → Bool → (ℕ → Bool) → ℕ → Bool
but_at place on test other = if place == other then on else test other

but_same : (place : ℕ) (on : Bool) (test : ℕ → Bool) → but_at place on test place ≡ on
but_same place on test = ap (λ b. if b then on else test place) (eq-eqb place place refl)

but_other : (place other : ℕ) (on : Bool) (test : ℕ → Bool) → place ≢ other → test other ≡ but_at place on test other
but_other place other on test apart =
    elim (eqb_tells place other) [ inl same ↦ absurd (apart same.1) | inr far ↦ ap (λ b. if b then on else test other) (sym far.0) ]

-- nothing changes at an address where another point stands, or none
elsewhere : (place : ℕ) (on : Bool) (test : ℕ → Bool) (o : Option ℕ) → (o ≡ Some place → ⊥) → on_point test o ≡ on_point (but_at place on test) o
elsewhere place on test None apart = refl
elsewhere place on test (Some other) apart = but_other place other on test (λ e. apart (ap (λ n. Some n) (sym e)))

place_true : (line address : ℕ) → IsPlace line address → is_place (record { line = line; address = address }) ≡ true
place_true line address h =
    let a = h.0 in let b = h.1 in let c = h.2 in let d = h.3 in
    both_and (nat_le 1 line && nat_le line 4) (nat_le 1 address && nat_le address 192)
    (both_and (nat_le 1 line) (nat_le line 4) (grind (arith, nat_tests, a)) (grind (arith, nat_tests, b)))
    (both_and (nat_le 1 address) (nat_le address 192) (grind (arith, nat_tests, c)) (grind (arith, nat_tests, d)))

module _ (site : Site) (panel place : ℕ) (on : Bool) (test : ℕ → Bool) (own : HasOwnPlaces site) where
  other_panel : (point : Point) → slice_get site.points place ≡ Some point → point.panel ≢ panel
      → points_where site panel test ≡ points_where site panel (but_at place on test)
  other_panel point is far =
      sets_agree site panel test (but_at place on test)
      (λ line address. elsewhere place on test (addressed site panel line address) (λ e.
      let found = of_addressed site panel line address place e in
      far (ap (λ p. p.panel) (same_Some point found.point (sym is ∙ found.is)) ∙ found.panel_is)))

  no_point : slice_get site.points place ≡ None → points_where site panel test ≡ points_where site panel (but_at place on test)
  no_point none =
      sets_agree site panel test (but_at place on test)
      (λ line address. elsewhere place on test (addressed site panel line address) (λ e. let found = of_addressed site panel line address place e in
      let no_way = sym none ∙ found.is in cc))

  at_address : (point : Point) → slice_get site.points place ≡ Some point → point.panel ≡ panel
      → with_point (points_where site panel test) point.line point.address on ≡ points_where site panel (but_at place on test)
  at_address point is at =
      let here : addressed site panel point.line point.address ≡ Some place =
      subst (λ n. addressed site n point.line point.address ≡ Some place) at (addressed_of site place point own is) in
      put_is site panel test (but_at place on test) point.line point.address on (ap (on_point (but_at place on test)) here ∙ but_same place on test)
      (own.point place point is).1
      (λ l a apart. elsewhere place on test (addressed site panel l a) (λ e.
      let found = of_addressed site panel l a place e in
      let same = same_Some point found.point (sym is ∙ found.is) in
      clash l a apart (sym (ap (λ p. p.line) same ∙ found.line_is)) (sym (ap (λ p. p.address) same ∙ found.address_is))))
    where
      clash : (l a : ℕ) → (l ≢ point.line) ⊎ (a ≢ point.address) → l ≡ point.line → a ≡ point.address → ⊥
      clash l a (inl far) e f = far e
      clash l a (inr far) e f = far f

  -- the point at a place is put in or taken out
  pub put_point : (o : Option Point) → slice_get site.points place ≡ o
      → put_at (address_in (option_map (loop_address panel) o)) on (points_where site panel test) ≡ points_where site panel (but_at place on test)
  put_point None is = no_point is
  put_point (Some point) is = elim (eqb_tells point.panel panel) [
    | inl same ↦ ap (λ b. put_at (if b then Some (record { line = point.line; address = point.address }) else None) on (points_where site panel test))
        same.0
        ∙ ap (λ b. if b then with_point (points_where site panel test) point.line point.address on else points_where site panel test)
        (place_true point.line point.address (own.point place point is).1)
        ∙ at_address point is same.1
    | inr far ↦ ap (λ b. put_at (if b then Some (record { line = point.line; address = point.address }) else None) on (points_where site panel test))
        far.0
        ∙ other_panel point is far.1
  ]

  -- by the list of addresses
  pub put_place : put_at (address_in (slice_get (map (loop_address panel) site.points) place)) on (points_where site panel test)
      ≡ points_where site panel (but_at place on test)
  put_place =
      ap (λ o. put_at (address_in o) on (points_where site panel test)) (slice_get-map (loop_address panel) site.points place)
      ∙ put_point (slice_get site.points place) refl
