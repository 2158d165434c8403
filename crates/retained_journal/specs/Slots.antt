-- What a slot holds: a gate, a number and a state.
use Rattle.std.specs.Prelude.{◌≡◌, ◌⊎◌, ℕ, ◌+◌, ◌*◌, ◌^◌, ◌<◌, ◌≤◌, Bool, true, false, List, [], ◌∷◌, map}
use Rattle.std.specs.Prelude.{slice_index, slice_index_or, if◌then◌else◌}
use Rattle.std.specs.List.{range_with_len}
use Rattle.site_types.specs.declared.point_set.PointSet.{PointSet}
use Rattle.site_types.specs.declared.retained.Retained.{Retained}
use Rattle.site_types.specs.Changes.{AreCounters}
use Rattle.site_types.specs.Done.{no_points}
use Rattle.retained_journal.specs.Fields.{number_at, mask_at, numbers_at}
use Rattle.retained_journal.specs.Places.{counters_place, delays_place, outputs_place, points_place}
use Rattle.retained_journal.specs.Places.{tests_place, wide_points_place, zones_place}

-- the number of a slot: of two open slots the one with the greater number counts
abbrev pub slot_number : ℕ → List ℕ → ℕ
slot_number at file = number_at 8 (at + 1) file

-- the disabled points of one of the 32 loops: those with addresses 1 to 96, and in a wide journal those with
-- addresses 97 to 192
abbrev pub loop_at : Bool → ℕ → ℕ → List ℕ → List ℕ
loop_at wide at loop file =
    mask_at 12 (at + points_place + 12 * loop) file ∷ (if wide then mask_at 12 (at + wide_points_place + 12 * loop) file else 0) ∷ []

-- the disabled points of a panel, which has four loops
unfoldable pub panel_points : Bool → ℕ → ℕ → List ℕ → PointSet
panel_points wide at panel file =
    record { loops = map (λ line. loop_at wide at (4 * panel + line) file) (range_with_len 0 4) }

-- the disabled points of the eight panels
unfoldable pub points_at : Bool → ℕ → List ℕ → List PointSet
points_at wide at file = map (λ panel. panel_points wide at panel file) (range_with_len 0 8)

-- the alarm counters in a slot
abbrev pub counters_at : ℕ → List ℕ → List ℕ
counters_at at file = numbers_at (at + counters_place) file

-- the state that a slot holds
abbrev pub retained_at : Bool → ℕ → List ℕ → Retained
retained_at wide at file = record {
  points = points_at wide at file;
  zones = numbers_at (at + zones_place) file;
  outputs = numbers_at (at + outputs_place) file;
  delays_off = slice_index file (at + delays_place);
  counters = counters_at at file;
  tests = numbers_at (at + tests_place) file;
}

-- a mask of points has room in a slot: it has no bit for a 97th address
abbrev pub FitHalves : List ℕ → Type 0
FitHalves halves = (half : ℕ) → half < 2 → slice_index halves half < 2 ^ 96

-- the masks of points of the loops of a panel have room in a slot: none has a bit for a 97th address
abbrev pub FitLoops : List (List ℕ) → Type 0
FitLoops loops = (line : ℕ) → line < 4 → FitHalves (slice_index_or loops line [])

-- the masks of points of all panels have room in a slot: none has a bit for a 97th address
abbrev pub FitPoints : List PointSet → Type 0
FitPoints points = (panel : ℕ) → panel < 8 → FitLoops (slice_index_or points panel no_points).loops

-- in a journal that isn't wide no address is above 96
abbrev pub AreNarrow : Bool → List ℕ → Type 0
AreNarrow true halves = Unit {0}
AreNarrow false halves = slice_index halves 1 ≡ 0

-- in a journal that isn't wide no address on the loops of a panel is above 96
abbrev pub HasNarrowLoops : Bool → List (List ℕ) → Type 0
HasNarrowLoops wide loops = (line : ℕ) → line < 4 → AreNarrow wide (slice_index_or loops line [])

-- in a journal that isn't wide no point of any panel has an address above 96
abbrev pub HasNarrowPoints : Bool → List PointSet → Type 0
HasNarrowPoints wide points =
    (panel : ℕ) → panel < 8 → HasNarrowLoops wide (slice_index_or points panel no_points).loops

-- all bytes of a slot are as they were but those of some loops, from one on
abbrev pub SameButLoops : ℕ → ℕ → List ℕ → List ℕ → Type 0
SameButLoops first count old new =
    (i : ℕ) → (i < points_place + 12 * first) ⊎ (points_place + 12 * (first + count) ≤ i)
    → (i < wide_points_place + 12 * first) ⊎ (wide_points_place + 12 * (first + count) ≤ i)
    → slice_index new i ≡ slice_index old i

-- A state that a slot can keep: its points have room, and no counter is past its end.
pub record IsKeepable (wide : Bool) (state : Retained) : Type 0 where
  pub fits : FitPoints state.points
  pub narrow : HasNarrowPoints wide state.points
  pub small : AreCounters state.counters
