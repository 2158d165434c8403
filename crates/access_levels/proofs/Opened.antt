-- The level that is computed is the greatest that a code opens.
use Rattle.std.proofs.Common.{◌≡◌, ◌≤◌, ℕ, zero, suc, Bool, true, false, List, [], Some, None, slice_index_or, if◌then◌else◌, refl, sym, arith}
use Rattle.std.specs.Bool.{Decides}
use Rattle.std.specs.List.{Contains}
use Rattle.std.specs.Str.{bytes_eq}
use Rattle.std.proofs.lemmas.Map.Made.{is_member-Decides}
use Rattle.std.proofs.lemmas.Slice.Eq.{bytes_eq-Decides}
use Rattle.sha2.specs.Sha256.{sha256}
use Rattle.site_types.specs.declared.site.Site.{Site}
use Rattle.access_levels.specs.Levels.{IsLevelOf, Opens, holds, level_in}

-- the test finds what is in the list
holds-Decides : (codes : List (List ℕ)) (digest : List ℕ) → Decides (holds codes digest) (Contains codes digest)
holds-Decides codes digest =
    is_member-Decides {eq = λ a b. bytes_eq b a} (λ a b. let same = bytes_eq-Decides b a in (λ h. sym (same.0 h), λ e. same.1 (sym e))) codes digest

abbrev greatest_of : Bool → Bool → Bool → ℕ
greatest_of fourth third second = if fourth then 4 else (if third then 3 else (if second then 2 else 1))

at_least_1 : (a b c : Bool) → 1 ≤ greatest_of a b c
at_least_1 true b c = omega arith
at_least_1 false true c = omega arith
at_least_1 false false true = omega arith
at_least_1 false false false = omega arith

at_least_2 : (a b c : Bool) → c ≡ true → 2 ≤ greatest_of a b c
at_least_2 true b c e = omega arith
at_least_2 false true c e = omega arith
at_least_2 false false true e = omega arith
at_least_2 false false false e = cc

at_least_3 : (a b c : Bool) → b ≡ true → 3 ≤ greatest_of a b c
at_least_3 true b c e = omega arith
at_least_3 false true c e = omega arith
at_least_3 false false c e = cc

at_least_4 : (a b c : Bool) → a ≡ true → 4 ≤ greatest_of a b c
at_least_4 true b c e = omega arith
at_least_4 false b c e = cc

-- no level above it is opened
greatest : (site : Site) (code : List ℕ) (other : ℕ) → Opens site (Some code) other → other ≤ level_in site.codes (sha256 code)
greatest site code zero h = absurd h
greatest site code (suc zero) h = at_least_1 _ _ _
greatest site code (suc (suc zero)) h = at_least_2 _ _ _ ((holds-Decides (slice_index_or site.codes 0 []) (sha256 code)).1 h.1)
greatest site code (suc (suc (suc zero))) h = at_least_3 _ _ _ ((holds-Decides (slice_index_or site.codes 1 []) (sha256 code)).1 h.1)
greatest site code (suc (suc (suc (suc zero)))) h = at_least_4 _ _ _ ((holds-Decides (slice_index_or site.codes 2 []) (sha256 code)).1 h.1)
greatest site code (suc (suc (suc (suc (suc more))))) h = absurd (omega (arith, h.0))

-- it is opened
opened : (site : Site) (code : List ℕ) (a b c : Bool) →
    (a ≡ true → Contains (slice_index_or site.codes 2 []) (sha256 code)) → (b ≡ true → Contains (slice_index_or site.codes 1 []) (sha256 code)) →
    (c ≡ true → Contains (slice_index_or site.codes 0 []) (sha256 code)) → Opens site (Some code) (greatest_of a b c)
opened site code true b c fourth third second = (omega arith, fourth refl)
opened site code false true c fourth third second = (omega arith, third refl)
opened site code false false true fourth third second = (omega arith, second refl)
opened site code false false false fourth third second = tt

-- the level of a code
pub level_of_code : (site : Site) (code : List ℕ) → IsLevelOf site (Some code) (level_in site.codes (sha256 code))
level_of_code site code =
    record {
      opens =
          opened site code _ _ _ (holds-Decides (slice_index_or site.codes 2 []) (sha256 code)).0
          (holds-Decides (slice_index_or site.codes 1 []) (sha256 code)).0 (holds-Decides (slice_index_or site.codes 0 []) (sha256 code)).0;
      greatest = greatest site code;
    }

-- the level of none
pub level_of_none : (site : Site) → IsLevelOf site None 1
level_of_none site = record { opens = tt; greatest = at_most_1 site }
  where
    at_most_1 : (site : Site) (other : ℕ) → Opens site None other → other ≤ 1
    at_most_1 site zero h = absurd h
    at_most_1 site (suc zero) h = omega arith
    at_most_1 site (suc (suc place)) h = absurd h
