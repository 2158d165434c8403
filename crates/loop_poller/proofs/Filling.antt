-- The points of a loop as they are found one after another.
use Rattle.std.proofs.Common.{◌≡◌, ℕ, ◌+◌, ◌-◌, ◌<◌, ◌≤◌, ◌==◌, ◌&&◌, List, [], ◌∷◌, ◌++◌, length, take, get_or}
use Rattle.std.proofs.Common.{Option, Some, None, true, false, slice_get, slice_index_or, slice_set, refl, sym, ◌∙◌}
use Rattle.std.proofs.Common.{ap, arith, inl, inr}
use Rattle.std.specs.List.{position}
use Rattle.std.proofs.lemmas.Bool.{and_left, and_right, cases_eq, eq-eqb, ne_eqb}
use Rattle.std.proofs.lemmas.Grind.{get_or-set_at}
use Rattle.std.proofs.lemmas.List.{get_or-set_other, get_or-take, length-take-le, take_more}
use Rattle.std.proofs.lemmas.List.Quantifiers.{position-Some}
use Rattle.std.proofs.lemmas.Option.{slice_get-get_or, slice_get_within}
use Rattle.site_types.specs.declared.point.Point.{Point}
use Rattle.site_types.specs.declared.site.Site.{Site}
use Rattle.site_types.specs.Profile.{last_address_of}
use Rattle.site_types.specs.Valid.{IsValid, point_key}
use Rattle.site_types.proofs.ValidSites.{point_at}
use Rattle.loop_poller.proofs.Lines.{at_from, is_at}
use Rattle.loop_poller.proofs.Positions.{position_new, position_same}

-- what a list has at a place, whatever stands for nothing
pub read_at : {X : Type 0} (xs : List X) (i : ℕ) (x d : X) → i < length xs → x ≡ get_or xs i x → get_or xs i d ≡ x
read_at xs i x d within e = let a = slice_get-get_or xs i d within in let b = slice_get-get_or xs i x within in cc

-- the points found so far, by address
abbrev pub AreFound : Site → ℕ → ℕ → ℕ → List (Option ℕ) → Type 0
AreFound site panel line n points = (address : ℕ) → 1 ≤ address → address ≤ last_address_of site.format
    → slice_index_or points (address - 1) None ≡ position (is_at panel line address) (take n site.points)

here_is_at : (panel line address : ℕ) (point : Point) → point.panel ≡ panel → point.line ≡ line → address ≡ point.address
    → is_at panel line address point ≡ true
here_is_at panel line address point p l a =
    let e : (point.panel == panel) ≡ true = eq-eqb point.panel panel p in
    let f : (point.line == line) ≡ true = eq-eqb point.line line l in
    let g : (point.address == address) ≡ true = eq-eqb point.address address (sym a) in
    rw (e, f, g) refl

other_is_not_at : (panel line address : ℕ) (point : Point) → (address ≡ point.address → ⊥) → is_at panel line address point ≡ false
other_is_not_at panel line address point a =
    and_right (point.panel == panel) ((point.line == line) && (point.address == address))
    (and_right (point.line == line) (point.address == address) (ne_eqb point.address address (λ e. a (sym e))))

pub panel_is_not_at : (panel line address : ℕ) (point : Point) → (point.panel ≡ panel → ⊥) → is_at panel line address point ≡ false
panel_is_not_at panel line address point a =
    and_left (point.panel == panel) ((point.line == line) && (point.address == address)) (ne_eqb point.panel panel a)

pub line_is_not_at : (panel line address : ℕ) (point : Point) → (point.line ≡ line → ⊥) → is_at panel line address point ≡ false
line_is_not_at panel line address point a =
    and_right (point.panel == panel) ((point.line == line) && (point.address == address))
    (and_left (point.line == line) (point.address == address) (ne_eqb point.line line a))

module _ (site : Site) (panel line n : ℕ) (point : Point) (is : slice_get site.points n ≡ Some point) where
  next_taken : take (n + 1) site.points ≡ take n site.points ++ point ∷ []
  next_taken =
      let within = slice_get_within site.points n point is in
      let read : get_or site.points n point ≡ point = (let e = slice_get-get_or site.points n point within in cc) in
      take_more site.points n point within ∙ ap (λ p. take n site.points ++ p ∷ []) read

  pub found_past : (points : List (Option ℕ)) → ((address : ℕ) → is_at panel line address point ≡ false) → AreFound site panel line n points
      → AreFound site panel line (n + 1) points
  found_past points none found address low high =
      found address low high
      ∙ sym (ap (position (is_at panel line address)) next_taken ∙ position_same (is_at panel line address) (take n site.points) point (none address))

  -- no address is found twice
  no_twin : IsValid site → (address : ℕ) → point.panel ≡ panel → point.line ≡ line → address ≡ point.address → (o : Option ℕ)
      → position (is_at panel line address) (take n site.points) ≡ o → o ≡ None
  no_twin valid address p l a None e = refl
  no_twin valid address p l a (Some i) e =
      let found = position-Some (is_at panel line address) (take n site.points) i point e in
      let here = slice_get_within site.points n point is in
      let taken = length-take-le n site.points (omega arith) in
      let before : i < n = omega (arith, found.0, taken) in
      let same : get_or (take n site.points) i point ≡ get_or site.points i point = get_or-take n site.points i point before in
      let at = at_from panel line address (get_or site.points i point) (ap (is_at panel line address) (sym same) ∙ found.1) in
      let q : slice_get site.points i ≡ Some (get_or site.points i point) = slice_get-get_or site.points i point (omega arith) in
      let panel_is = at.panel_is ∙ sym p in
      let line_is = at.line_is ∙ sym l in
      let address_is = at.address_is ∙ a in
      let key : point_key (get_or site.points i point) ≡ point_key point = cc in
      let i_is = valid.twins.points i n (get_or site.points i point) point q is key in
      absurd (omega arith)

  pub found_here : IsValid site → (points : List (Option ℕ)) → length points ≡ last_address_of site.format → point.panel ≡ panel → point.line ≡ line
      → AreFound site panel line n points → AreFound site panel line (n + 1) (slice_set points (point.address - 1) (Some n))
  found_here valid points size p l found address low high =
      let form = point_at site valid n point is in
      let within : point.address - 1 < length points = omega arith in
      let here = slice_get_within site.points n point is in
      elim (cases_eq address point.address) [
        | inl same ↦ (let none = no_twin valid address p l same (position (is_at panel line address) (take n site.points)) refl in
            get_or-set_at points (point.address - 1) (address - 1) (Some n) None (omega arith) within
            ∙ sym (ap (position (is_at panel line address)) next_taken ∙ position_new (is_at panel line address) (take n site.points) point
            (here_is_at panel line address point p l same) none ∙ ap Some (length-take-le n site.points (omega arith))))
        | inr other ↦ get_or-set_other points (point.address - 1) (address - 1) (Some n) None (λ e. other (omega arith))
            ∙ found address low high
            ∙ sym (ap (position (is_at panel line address)) next_taken ∙ position_same (is_at panel line address) (take n site.points) point
            (other_is_not_at panel line address point other))
      ]
