-- Marks on the zones some point of which has just been held for a round.
use Rattle.std.specs.Prelude.{◌≡◌, ◌⊎◌, ℕ, ◌<◌, ◌&&◌, nat_le, nat_lt, Bool, true, false, List, Option, Some, slice_get}
use Rattle.site_types.specs.declared.site.Site.{Site}
use Rattle.coincidence_rules.specs.Places.{is_of}
use Rattle.point_runs.specs.declared.point_run.PointRun.{PointRun}

-- a run lasts since a tick or longer
abbrev pub lasts_since : ℕ → PointRun → Bool
lasts_since start run = nat_lt 0 run.since && nat_le run.since start

-- none of the first points of a zone without a mark has a run that lasts since then
abbrev pub AreMarkedFor : Site → List PointRun → ℕ → List Bool → ℕ → Type 0
AreMarkedFor site runs start marks first = (place zone : ℕ) (run : PointRun) → place < first
    → slice_get runs place ≡ Some run → lasts_since start run ≡ true → is_of site zone place ≡ true
    → slice_get marks zone ≡ Some false → ⊥

-- none of all points
abbrev pub AreZonesMarked : Site → List PointRun → ℕ → List Bool → Type 0
AreZonesMarked site runs start marks = (first : ℕ) → AreMarkedFor site runs start marks first

-- neither a zone nor its partner has a mark
abbrev pub HasNoMark : List Bool → ℕ → Option ℕ → Type 0
HasNoMark marks zone partner = (other : ℕ) → (other ≡ zone) ⊎ (partner ≡ Some other)
    → slice_get marks other ≡ Some false

-- after one more point a zone without a mark had none, and the point is not of it where its run lasts
abbrev pub MarksPoint : Site → PointRun → ℕ → ℕ → List Bool → List Bool → Type 0
MarksPoint site run place start old new = (zone : ℕ) → slice_get new zone ≡ Some false
    → (slice_get old zone ≡ Some false) × (lasts_since start run ≡ true → is_of site zone place ≡ false)
