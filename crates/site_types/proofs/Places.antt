-- In a valid site each point, zone and output has a place of its own in what is retained.
use Rattle.std.proofs.Common.{◌≡◌, ◌≤◌, ℕ, List, [], ◌∷◌, Some, subst, slice_get, arith}
use Rattle.std.specs.Prelude.{All}
use Rattle.std.proofs.lemmas.Option.{get_or_from_slice_get, slice_get_within}
use Rattle.site_types.specs.declared.site.Site.{Site}
use Rattle.site_types.specs.Valid.{IsValid, IsPoint, IsZone, IsOutput}
use Rattle.site_types.specs.Profile.{last_address_of}
use Rattle.site_types.specs.Changes.{HasOwnPlaces}

-- what holds of all items holds of the one at a place
pub all_at : {X : Type 0} (P : X → Type 0) (xs : List X) (i : ℕ) (x : X) → All P xs → slice_get xs i ≡ Some x → P x
all_at P xs i x all is = subst P (get_or_from_slice_get xs i x x is) (all i x (slice_get_within xs i x is))

address_fits : (format address : ℕ) → format ≤ 2 → address ≤ last_address_of format → address ≤ 192
address_fits format address le within = omega (arith, le, within)

pub places_of : (site : Site) → IsValid site → HasOwnPlaces site
places_of site valid = record {
  point = λ i p is.
      let at = all_at (IsPoint site) site.points i p valid.forms.points is in
      let panels = valid.forms.panels in
      let panel = at.panel in
      let line = at.line in
      let address = at.address in
      ((panel.0, omega (arith, panels.1, panel.1)), (line.0, line.1, address.0, address_fits site.format p.address valid.forms.format.1 address.1));
  zone = λ i z is.
      let at = all_at (IsZone site) site.zones i z valid.forms.zones is in
      let panels = valid.forms.panels in
      let panel = at.panel in
      ((panel.0, omega (arith, panels.1, panel.1)), at.number);
  output = λ i o is.
      let at = all_at (IsOutput site) site.outputs i o valid.forms.outputs is in
      let panels = valid.forms.panels in
      let panel = at.panel in
      ((panel.0, omega (arith, panels.1, panel.1)), at.number);
  points_apart =
      λ i j p q is is' panel line address.
      valid.twins.points i j p q is is' (three p.panel q.panel p.line q.line p.address q.address panel line address);
  zones_apart = λ i j y z is is' panel number. valid.twins.zones i j y z is is' (two y.panel z.panel y.number z.number panel number);
  outputs_apart = λ i j n o is is' panel number. valid.twins.outputs i j n o is is' (two n.panel o.panel n.number o.number panel number);
}
  where
    two : (a b c d : ℕ) → a ≡ b → c ≡ d → a ∷ c ∷ [] ≡ b ∷ d ∷ []
    two a b c d e f = cc

    three : (a b c d x y : ℕ) → a ≡ b → c ≡ d → x ≡ y → a ∷ c ∷ x ∷ [] ≡ b ∷ d ∷ y ∷ []
    three a b c d x y e f g = cc
