-- The set of a panel's points that pass a test. Points are places in the site's list.
use Rattle.std.specs.Prelude.{ℕ, ◌+◌, Bool, false, Option, Some, None, [], ◌∷◌, ◌==◌, ◌&&◌}
use Rattle.std.specs.List.{position}
use Rattle.site_types.specs.declared.site.Site.{Site}
use Rattle.site_types.specs.declared.point.Point.{Point}
use Rattle.site_types.specs.declared.point_set.PointSet.{PointSet}
use Rattle.site_types.specs.Bits.{mask_of}

abbrev pub is_addressed : ℕ → ℕ → ℕ → Point → Bool
is_addressed panel line address p = (p.panel == panel) && ((p.line == line) && (p.address == address))

-- the place of the point of a panel that has this line and address
abbrev pub addressed : Site → ℕ → ℕ → ℕ → Option ℕ
addressed site panel line address = position (is_addressed panel line address) site.points

-- there is such a point, and it passes the test
abbrev pub on_point : (ℕ → Bool) → Option ℕ → Bool
on_point test None = false
on_point test (Some point) = test point

-- the addresses of one number of a loop, those that come after so many
unfoldable pub addresses_where : Site → ℕ → (ℕ → Bool) → ℕ → ℕ → ℕ
addresses_where site panel test line past =
    mask_of 96 (λ k. on_point test (addressed site panel line (past + k + 1)))

-- the set of the points of a panel that pass a test
unfoldable pub points_where : Site → ℕ → (ℕ → Bool) → PointSet
points_where site panel test =
    record {
      loops =
          (addresses_where site panel test 1 0 ∷ addresses_where site panel test 1 96 ∷ [])
          ∷ (addresses_where site panel test 2 0 ∷ addresses_where site panel test 2 96 ∷ [])
          ∷ (addresses_where site panel test 3 0 ∷ addresses_where site panel test 3 96 ∷ [])
          ∷ (addresses_where site panel test 4 0 ∷ addresses_where site panel test 4 96 ∷ [])
          ∷ [];
    }
