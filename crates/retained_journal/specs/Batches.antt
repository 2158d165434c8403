-- What a batch may hold.
use Rattle.std.specs.Prelude.{◌≤◌, Bool, List, [], ◌∷◌, length}
use Rattle.site_types.specs.declared.change.Change.{Change}
use Rattle.site_types.specs.declared.change.Change.TheVariants.{Point}
use Rattle.site_types.specs.Changes.{CanApply}
use Rattle.retained_journal.specs.Cells.{greatest_address}
use Rattle.retained_journal.specs.Places.{most_changes}

-- an address is at most 96, or 192 in a wide journal
abbrev pub HasAddress : Bool → Change → Type 0
HasAddress wide (Point panel line address off) = address ≤ greatest_address wide
HasAddress wide _ = Unit {0}

-- a change that a journal can keep: what it names has a place, also in the file
abbrev pub CanKeep : Bool → Change → Type 0
CanKeep wide change = CanApply change × HasAddress wide change

-- each of these changes can be kept
abbrev pub CanKeepAll : Bool → List Change → Type 0
CanKeepAll wide [] = Unit {0}
CanKeepAll wide (change ∷ rest) = CanKeep wide change × CanKeepAll wide rest

-- a batch that can be committed: 1 to 72 changes that can be kept
pub record IsBatch (wide : Bool) (batch : List Change) : Type 0 where
  pub some : 1 ≤ length batch
  pub few : length batch ≤ most_changes
  pub keeps : CanKeepAll wide batch

-- what each of these changes names has a place
abbrev pub CanMakeAll : List Change → Type 0
CanMakeAll [] = Unit {0}
CanMakeAll (change ∷ rest) = CanApply change × CanMakeAll rest
