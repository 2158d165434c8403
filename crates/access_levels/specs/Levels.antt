-- The level of a code, and the least level of each operation.
use Rattle.std.specs.Prelude.{◌<◌, ◌≤◌, ℕ, zero, suc, Bool, List, [], Option, Some, None, slice_index_or, Contains}
use Rattle.std.specs.Prelude.{if◌then◌else◌}
use Rattle.std.specs.List.{list_any}
use Rattle.std.specs.Str.{bytes_eq}
use Rattle.sha2.specs.Sha256.{sha256}
use Rattle.site_types.specs.declared.site.Site.{Site}
use Rattle.site_types.specs.declared.operation.Operation.{Operation}
use Rattle.site_types.specs.declared.operation.Operation.TheVariants.{Mute, Override, Silence, Resound, Reset, Cancel}
use Rattle.site_types.specs.declared.operation.Operation.TheVariants.{Disable, Enable, Test, Untest, Delays, Clear}

-- a code opens a level: level 1 is open to all, levels 2 to 4 to the codes whose SHA-256 stands in the
-- level's list
abbrev pub Opens : Site → Option (List ℕ) → ℕ → Type 0
Opens site code zero = ⊥
Opens site code (suc zero) = Unit {0}
Opens site None (suc (suc place)) = ⊥
Opens site (Some code) (suc (suc place)) =
    (place < 3) × Contains (slice_index_or site.codes place []) (sha256 code)

-- the level of a code is the greatest that it opens
pub record IsLevelOf (site : Site) (code : Option (List ℕ)) (level : ℕ) : Type 0 where
  pub opens : Opens site code level
  pub greatest : (other : ℕ) → Opens site code other → other ≤ level

-- whether a list has this SHA-256
abbrev pub holds : List (List ℕ) → List ℕ → Bool
holds codes digest = list_any (λ one. bytes_eq one digest) codes

-- the greatest level whose list has this SHA-256, else 1; the lists are those of levels 2, 3 and 4
abbrev pub level_in : List (List (List ℕ)) → List ℕ → ℕ
level_in lists digest =
    if holds (slice_index_or lists 2 []) digest then 4 else
    (if holds (slice_index_or lists 1 []) digest then 3 else
    (if holds (slice_index_or lists 0 []) digest then 2 else 1))

-- the level of a code, or of none, as a number
abbrev pub level_of : Site → Option (List ℕ) → ℕ
level_of site None = 1
level_of site (Some code) = level_in site.codes (sha256 code)

-- the least level of an operation
abbrev pub needed_by : Operation → ℕ
needed_by Mute = 1
needed_by Override = 1
needed_by Silence = 2
needed_by Resound = 2
needed_by Reset = 2
needed_by (Cancel zone) = 2
needed_by (Disable item) = 2
needed_by (Enable item) = 2
needed_by (Delays on) = 2
needed_by (Test zone) = 3
needed_by (Untest zone) = 3
needed_by Clear = 4
