-- When the faces of a text told a fault of a panel.
use Rattle.std.specs.Prelude.{◌≡◌, ℕ, ◌+◌, ◌-◌, ◌≤◌, ◌<◌, ◌&&◌, not, Bool, true, List, Option, Some}
use Rattle.std.specs.Prelude.{slice_get}
use Rattle.std.specs.Prelude.{slice_index_or, length, if◌then◌else◌}
use Rattle.face_text.specs.declared.face.Face.{Face}
use Rattle.face_text.specs.declared.step.Step.{Step}
use Rattle.face_text.specs.declared.timeline.Timeline.{Timeline}
use Rattle.face_text.specs.Faces.{is_in_fault}
use Rattle.face_reading.specs.Reading.{face_at}
use Rattle.joined_panels.specs.Latest.{IsLatestTick}
use Rattle.audit_rules.specs.Shown.{text_tells_fault}
use Rattle.shown_causes.specs.declared.fault_told.FaultTold.{FaultTold}
use Rattle.shown_causes.specs.declared.told_faults.ToldFaults.{ToldFaults}

-- when a fault of a panel was told, after one more tick, in which it was told or not
abbrev pub told_after : ℕ → Bool → FaultTold → FaultTold
told_after now fault told =
    record { lasts = fault; last = if told.lasts && not fault then Some (now - 1) else told.last }

-- the last tick by now at which a fault of a panel was told
abbrev pub told_last : ℕ → FaultTold → Option ℕ
told_last now told = if told.lasts then Some now else told.last

abbrev pub IsLastTold : (ℕ → Bool) → ℕ → Option ℕ → Type 0
IsLastTold was_told now last = IsLatestTick (λ tick. (tick ≤ now) × (was_told tick ≡ true)) last

pub record FaultStands (was_told : ℕ → Bool) (now : ℕ) (told : FaultTold) : Type 0 where
  pub lasts : was_told now ≡ told.lasts
  pub last : IsLastTold was_told now (told_last now told)

-- the face of the panel at a place tells a fault
abbrev pub shows_fault_at : List Face → ℕ → Bool
shows_fault_at faces place = is_in_fault (face_at faces (place + 1)).faults

-- the ticks of steps rise from 1 on
pub record DoStepsRise (steps : List Step) : Type 0 where
  pub from_one : (place : ℕ) (step : Step) → slice_get steps place ≡ Some step → 1 ≤ step.tick.0
  pub rise : (j k : ℕ) (one other : Step) → j < k → slice_get steps j ≡ Some one → slice_get steps k ≡ Some other
      → one.tick.0 < other.tick.0

-- the steps that were taken are those of the ticks up to now
pub record FaultsStand (timeline : Timeline) (now : ℕ) (faults : ToldFaults) : Type 0 where
  pub rising : DoStepsRise timeline.steps
  pub within : faults.next ≤ length timeline.steps
  pub earlier : (place : ℕ) (step : Step) → place < faults.next → slice_get timeline.steps place ≡ Some step
      → step.tick.0 ≤ now
  pub later : (step : Step) → slice_get timeline.steps faults.next ≡ Some step → now < step.tick.0
  pub panels : (place : ℕ) (other : FaultTold) → place < 8
      → FaultStands (text_tells_fault timeline (place + 1)) now (slice_index_or faults.panels place other)

abbrev pub TellsLastFault : ToldFaults → ℕ → ℕ → Option ℕ → Type 0
TellsLastFault faults panel now last =
    (timeline : Timeline) → FaultsStand timeline now faults → IsLastTold (text_tells_fault timeline panel) now last
