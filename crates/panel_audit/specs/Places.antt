-- The first of the zones or outputs of which something holds, and of the panels the first one at which it holds of
-- some.
use Rattle.std.specs.Prelude.{◌≡◌, ℕ, ◌<◌, ◌≤◌, Bool, false, List, length, Option, Some, None, slice_get}
use Rattle.std.specs.Prelude.{slice_index_or}
use Rattle.audit_rules.specs.Breaches.{is_lower}
use Rattle.panel_audit.specs.declared.found.Found.{Found}
use Rattle.panel_audit.specs.declared.numbered.Numbered.{Numbered}
use Rattle.panel_audit.specs.Lowest.{is_left, standing_of}

-- the marks before a place are as they should be
abbrev pub AreWritten : (ℕ → Bool → Type 0) → ℕ → List Bool → Type 0
AreWritten Should place marks = (k : ℕ) → k < place → Should k (slice_index_or marks k false)

-- whether the thing at a place is in some masks and not in others
abbrev pub IsLeftAt : List Numbered → List ℕ → List ℕ → ℕ → Bool → Type 0
IsLeftAt things wanted shown place mark =
    (thing : Numbered) → slice_get things place ≡ Some thing → mark ≡ is_left wanted shown thing

module _ (things : List Numbered) where
  -- something holds of the thing at a place, and no thing of which it holds comes before that one
  pub record IsFirstPlace (Holds : ℕ → Type 0) (place : ℕ) : Type 0 where
    pub thing : Numbered
    pub is : slice_get things place ≡ Some thing
    pub holds : Holds place
    pub least : (other : ℕ) (one : Numbered) → slice_get things other ≡ Some one → Holds other
        → is_lower (standing_of one) (standing_of thing) ≡ false

  -- the place of the first thing of which something holds, or none where it holds of no thing
  abbrev pub FirstPlace : (ℕ → Type 0) → Option ℕ → Type 0
  FirstPlace Holds None = (place : ℕ) → place < length things → Holds place → ⊥
  FirstPlace Holds (Some place) = IsFirstPlace Holds place

  -- at a panel something holds of the thing at a place, and no thing of which it holds there comes before that one; at
  -- no panel before does it hold of any thing
  pub record IsFirstFound (Holds : ℕ → ℕ → Type 0) (panels : ℕ) (found : Found) : Type 0 where
    pub begins : 1 ≤ found.panel
    pub within : found.panel ≤ panels
    pub first : IsFirstPlace (Holds found.panel) found.place
    pub before : (panel : ℕ) → 1 ≤ panel → panel < found.panel → FirstPlace (Holds panel) None

  abbrev pub FirstFound : (ℕ → ℕ → Type 0) → ℕ → Option Found → Type 0
  FirstFound Holds panels None = (panel : ℕ) → 1 ≤ panel → panel ≤ panels → FirstPlace (Holds panel) None
  FirstFound Holds panels (Some found) = IsFirstFound Holds panels found
