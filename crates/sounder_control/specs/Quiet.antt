-- When the sounders of a panel are quiet, over all silences, resounds and turns so far, the newest first.
use Rattle.std.specs.Prelude.{ℕ, ◌-◌, ◌&&◌, ◌||◌, Bool, false, not, List, [], ◌∷◌, Option, Some, None, replicate}
use Rattle.std.specs.Prelude.{slice_index_or}
use Rattle.std.specs.List.{list_all, range_with_len}
use Rattle.site_types.specs.Bits.{has_bit}
use Rattle.site_types.specs.Limits.{most_panels, most_zones}

-- what befell: a silence, a resound, or a turn with the set of zones that were released at it
pub data Call : Type 0 where
  Silenced : Call
  Resounded : Call
  Drove : List ℕ → Call

-- whether a set has a zone: the bit of its number in the mask of its panel
abbrev pub has_zone : List ℕ → ℕ → ℕ → Bool
has_zone zones panel number = has_bit (slice_index_or zones (panel - 1) 0) (number - 1)

-- whether a test holds of every zone that there may be, by its panel and its number
unfoldable pub every_zone : (ℕ → ℕ → Bool) → Bool
every_zone test =
    list_all (λ panel. list_all (test panel) (range_with_len 1 most_zones)) (range_with_len 1 most_panels)

-- the set has no zone
abbrev pub is_empty : List ℕ → Bool
is_empty zones = every_zone (λ panel number. not (has_zone zones panel number))

-- each zone of a set is in another set
abbrev pub is_within : List ℕ → List ℕ → Bool
is_within zones others =
    every_zone (λ panel number. not (has_zone zones panel number) || has_zone others panel number)

-- a silence that took a set holds at a turn: some zone is released, and each released zone is in the set
abbrev pub keeps_quiet : List ℕ → List ℕ → Bool
keeps_quiet taken zones = not (is_empty zones) && is_within zones taken

-- the zones that were released at the latest turn; none before the first
abbrev pub latest_set : List Call → List ℕ
latest_set [] = replicate most_panels 0
latest_set (Silenced ∷ calls) = latest_set calls
latest_set (Resounded ∷ calls) = latest_set calls
latest_set (Drove zones ∷ calls) = zones

-- the set that the latest silence took, where no resound came since: that of the turn before it
abbrev pub silenced_set : List Call → Option (List ℕ)
silenced_set [] = None
silenced_set (Silenced ∷ calls) = Some (latest_set calls)
silenced_set (Resounded ∷ calls) = None
silenced_set (Drove zones ∷ calls) = silenced_set calls

-- the sets of the turns since the latest silence or resound, the latest first
abbrev pub sets_since : List Call → List (List ℕ)
sets_since [] = []
sets_since (Silenced ∷ calls) = []
sets_since (Resounded ∷ calls) = []
sets_since (Drove zones ∷ calls) = zones ∷ sets_since calls

-- a silence that took a set held at each of these turns
abbrev pub held_at_each : Option (List ℕ) → List (List ℕ) → Bool
held_at_each None sets = false
held_at_each (Some taken) sets = list_all (keeps_quiet taken) sets

-- the sounders are quiet: the last silence or resound is a silence, and it held at each turn since, the
-- latest one included
abbrev pub is_quiet : List Call → Bool
is_quiet calls = held_at_each (silenced_set calls) (sets_since calls)
