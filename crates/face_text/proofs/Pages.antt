-- The groups of the page have masks in every face, and numbers up to 192.
use Rattle.std.proofs.Common.{◌≡◌, ◌<◌, ◌≤◌, ℕ, zero, suc, List, [], ◌∷◌, refl, length, get_or, arith, rules}
use Rattle.std.specs.List.{AllByRecursion}
use Rattle.face_text.specs.declared.group.Group.{Group}
use Rattle.face_text.specs.declared.group.Group.TheVariants.{Zones, Firsts, Missing, Broken, Shorted, Supplies, Silent, Links, Unconfirmed, Outputs, Confirmed, PointsOff, ZonesOff, OutputsOff, Tests}
use Rattle.face_text.specs.Slots.{HasPlace, last_of, page}

pub page_length : length page ≡ 35
unfolding page
page_length = refl

pub one_of : (groups : List Group) (k : ℕ) (d : Group) → AllByRecursion HasPlace groups → k < length groups → HasPlace (get_or groups k d)
one_of [] k d all within = absurd (omega (arith, within))
one_of (group ∷ groups) zero d all within = all.0
one_of (group ∷ groups) (suc k) d all within = one_of groups k d all.1 (omega (arith, within))

pub all_have : AllByRecursion HasPlace page
unfolding page
all_have = search rules

pub page_has_places : (k : ℕ) (d : Group) → k < 35 → HasPlace (get_or page k d)
page_has_places k d within = one_of page k d all_have (rw page_length within)

pub last_small : (group : Group) → last_of group ≤ 192
last_small (Zones place) = omega arith
last_small (Firsts place) = omega arith
last_small (Missing place) = omega arith
last_small Broken = omega arith
last_small Shorted = omega arith
last_small Supplies = omega arith
last_small Silent = omega arith
last_small Links = omega arith
last_small Unconfirmed = omega arith
last_small Outputs = omega arith
last_small Confirmed = omega arith
last_small (PointsOff place) = omega arith
last_small ZonesOff = omega arith
last_small OutputsOff = omega arith
last_small Tests = omega arith
