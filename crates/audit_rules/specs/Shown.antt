-- What a text shows after each tick. The faces after a tick are those of its latest step by then, and before the
-- first step those of the opening.
use Rattle.std.specs.Prelude.{ℕ, nat_le, Bool, List, [], ◌∷◌, if◌then◌else◌}
use Rattle.site_types.specs.declared.output.Output.{Output}
use Rattle.site_types.specs.declared.zone.Zone.{Zone}
use Rattle.face_text.specs.declared.face.Face.{Face}
use Rattle.face_text.specs.declared.group.Group.TheVariants.{Zones, Outputs}
use Rattle.face_text.specs.declared.step.Step.{Step}
use Rattle.face_text.specs.declared.timeline.Timeline.{Timeline}
use Rattle.face_text.specs.Faces.{is_in_fault}
use Rattle.face_reading.specs.Reading.{face_at}
use Rattle.face_text.specs.Slots.{shows}

-- the faces after a tick, with the steps after some faces, whose ticks rise
abbrev pub faces_after : ℕ → List Face → List Step → List Face
faces_after tick faces [] = faces
faces_after tick faces (step ∷ steps) = if nat_le step.tick.0 tick then faces_after tick step.faces steps else faces

module _ (timeline : Timeline) where
  -- the face of a panel after a tick
  abbrev pub face_told_after : ℕ → ℕ → Face
  face_told_after panel tick = face_at (faces_after tick timeline.opened timeline.steps) panel

  -- after a tick a panel shows a zone in alarm
  abbrev pub text_tells_zone : ℕ → Zone → ℕ → Bool
  text_tells_zone panel zone tick = shows (face_told_after panel tick) (Zones zone.panel) zone.number

  -- an output is on
  abbrev pub text_tells_output : Output → ℕ → Bool
  text_tells_output output tick = shows (face_told_after output.panel tick) Outputs output.number

  -- a panel shows a fault
  abbrev pub text_tells_fault : ℕ → ℕ → Bool
  text_tells_fault panel tick = is_in_fault (face_told_after panel tick).faults
