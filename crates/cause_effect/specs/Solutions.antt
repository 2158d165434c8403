-- The values of markers that satisfy every equation.
use Rattle.std.specs.Prelude.{◌≡◌, ℕ, Bool, true, slice_index_or}
use Rattle.site_types.specs.Bits.{has_bit}
use Rattle.site_types.specs.declared.site.Site.{Site}
use Rattle.marker_table.specs.declared.facts.Facts.{Facts}
use Rattle.marker_table.specs.Equations.{equation}

-- every marker has the value that its terms make of it; a place without a marker is false
abbrev pub IsSolution : Site → Facts → (ℕ → Bool) → Type 0
IsSolution site facts values = (m : ℕ) → values m ≡ equation site facts values m

-- each bit of some masks is a bit of others
abbrev pub LieWithin : (ℕ → ℕ) → (ℕ → ℕ) → Type 0
LieWithin fewer more = (place bit : ℕ) → has_bit (fewer place) bit ≡ true → has_bit (more place) bit ≡ true

-- all that is true in some facts is true in others
pub record AreWithin (fewer more : Facts) : Type 0 where
  pub zones :
      LieWithin (λ panel. slice_index_or fewer.zones panel 0) (λ panel. slice_index_or more.zones panel 0)
  pub manual :
      LieWithin (λ panel. slice_index_or fewer.manual panel 0) (λ panel. slice_index_or more.manual panel 0)
  pub faults : (bit : ℕ) → has_bit fewer.faults bit ≡ true → has_bit more.faults bit ≡ true

-- there is a solution, and every other one equals it
pub record HasOneSolution (site : Site) (facts : Facts) : Type 0 where
  pub values : ℕ → Bool
  pub solves : IsSolution site facts values
  pub only : (other : ℕ → Bool) → IsSolution site facts other → (m : ℕ) → other m ≡ values m
