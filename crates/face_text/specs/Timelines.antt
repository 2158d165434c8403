-- The timeline of a run, its text, and which timelines are in form.
use Rattle.std.specs.Prelude.{◌≡◌, ◌≢◌, ◌⊎◌, ◌<◌, ◌≤◌, ◌+◌, ◌^◌, ◌&&◌, ℕ, suc, List, [], ◌∷◌, ◌++◌, length, map}
use Rattle.std.specs.Prelude.{slice_index, Some, slice_get, codes, decimal, IsTrue}
use Rattle.std.specs.List.{range_with_len}
use Rattle.site_types.specs.declared.point_set.PointSet.{PointSet}
use Rattle.site_types.specs.declared.site.Site.{Site}
use Rattle.site_types.specs.Bits.{mask_of}
use Rattle.site_types.specs.Limits.{greatest_count}
use Rattle.face_text.specs.declared.answers.Answers.{Answers}
use Rattle.face_text.specs.declared.face.Face.{Face}
use Rattle.face_text.specs.declared.group.Group.{Group}
use Rattle.face_text.specs.declared.group.Group.TheVariants.{Zones, Firsts, Missing, Broken, Shorted, Supplies}
use Rattle.face_text.specs.declared.group.Group.TheVariants.{Silent, Links, Unconfirmed, Outputs, Confirmed}
use Rattle.face_text.specs.declared.group.Group.TheVariants.{PointsOff, ZonesOff, OutputsOff, Tests}
use Rattle.face_text.specs.declared.op_answer.OpAnswer.{OpAnswer}
use Rattle.face_text.specs.declared.reply.Reply.{Reply}
use Rattle.face_text.specs.declared.reply.Reply.TheVariants.{Done, Denied, Waiting, Already, Store}
use Rattle.face_text.specs.declared.step.Step.{Step}
use Rattle.face_text.specs.declared.timeline.Timeline.{Timeline}
use Rattle.face_text.specs.Answers.{answers_text}
use Rattle.face_text.specs.Changes.{changes_text}
use Rattle.face_text.specs.Faces.{empty_face}
use Rattle.face_text.specs.Slots.{is_named, name_in, shows}

-- ---- the text

-- the first line of a run
abbrev pub opening_line : Site → List ℕ
opening_line site = codes "site " ++ site.name.bytes ++ codes " panels " ++ decimal site.panels ++ codes "\n"

-- the line over what changed and was answered in a tick
abbrev pub tick_line : ℕ → List ℕ
tick_line tick = codes "tick " ++ decimal tick ++ codes "\n"

-- the last line, with the last tick of the run
abbrev pub end_line : ℕ → List ℕ
end_line last = codes "end " ++ decimal last ++ codes "\n"

-- the empty faces of all panels
abbrev pub empty_faces : Site → List Face
empty_faces site = map empty_face (range_with_len 1 site.panels)

-- how the faces of all panels changed, panel by panel
abbrev pub faces_text : Site → List Face → List Face → List ℕ
faces_text site [] faces = []
faces_text site (before ∷ befores) [] = []
faces_text site (before ∷ befores) (after ∷ afters) =
    changes_text site before after ++ faces_text site befores afters

-- a tick: its line, how the faces changed in it, what was answered
abbrev pub step_text : Site → List Face → Step → List ℕ
step_text site before step = tick_line step.tick.0 ++ faces_text site before step.faces
    ++ answers_text step.answers

abbrev pub steps_text : Site → List Face → List Step → List ℕ
steps_text site before [] = []
steps_text site before (step ∷ steps) = step_text site before step ++ steps_text site step.faces steps

-- the text of a run: the site, what is shown at opening, the steps, the end
abbrev pub text_of : Site → Timeline → List ℕ
text_of site timeline =
    opening_line site ++ faces_text site (empty_faces site) timeline.opened
    ++ steps_text site timeline.opened timeline.steps ++ end_line timeline.last.0

-- ---- form

-- of the things of a group that a face shows, those that the site has
abbrev pub kept_of : Site → Face → Group → ℕ → ℕ → ℕ
kept_of site face group first count =
    mask_of count (λ k. is_named (name_in site face.panel group (first + k)) && shows face group (first + k))

abbrev pub kept_points : Site → Face → (ℕ → Group) → PointSet
kept_points site face group =
    record {
      loops =
          map (λ line. kept_of site face (group line) 1 96 ∷ kept_of site face (group line) 97 96 ∷ [])
          (range_with_len 1 4);
    }

-- a face without all that it shows of things that the site hasn't
abbrev pub of_site : Site → Face → Face
of_site site face =
    record face {
      zones = map (λ panel. kept_of site face (Zones panel) 1 32) (range_with_len 1 8);
      firsts = map (λ panel. kept_of site face (Firsts panel) 1 32) (range_with_len 1 8);
      faults = record {
        missing = kept_points site face Missing;
        broken = kept_of site face Broken 1 4;
        shorted = kept_of site face Shorted 1 4;
        supply = kept_of site face Supplies 1 4;
        silent = kept_of site face Silent 1 8;
        links = kept_of site face Links 1 8;
        unconfirmed = kept_of site face Unconfirmed 1 32;
      };
      outputs = kept_of site face Outputs 1 32;
      confirmed = kept_of site face Confirmed 1 32;
      points_off = kept_points site face PointsOff;
      zones_off = kept_of site face ZonesOff 1 32;
      outputs_off = kept_of site face OutputsOff 1 32;
      test = kept_of site face Tests 1 32;
    }

-- a face of a panel holds only things of the site, and a counter up to 999,999
pub record IsFaceOf (site : Site) (panel : ℕ) (face : Face) : Type 0 where
  pub panel_is : face.panel ≡ panel
  pub of_the_site : face ≡ of_site site face
  pub counter : face.counter ≤ greatest_count

-- one face for each panel, in the order of panels
pub record AreFaces (site : Site) (faces : List Face) : Type 0 where
  pub count : length faces ≡ site.panels
  pub each : (place : ℕ) (face : Face) → slice_get faces place ≡ Some face → IsFaceOf site (place + 1) face

-- an operation that was denied needed level 2 to 4, and its code had less
abbrev pub IsReply : Reply → Type 0
IsReply Done = Unit {0}
IsReply (Denied needs has) = (2 ≤ needs) × (needs ≤ 4) × (has < needs)
IsReply Waiting = Unit {0}
IsReply Already = Unit {0}
IsReply Store = Unit {0}

-- numbers rise, from some bound on
abbrev pub AreOpAnswers : ℕ → List OpAnswer → Type 0
AreOpAnswers bound [] = Unit {0}
AreOpAnswers bound (answer ∷ answers) = (bound ≤ answer.number) × (answer.number < 2 ^ 64)
    × IsReply answer.reply × AreOpAnswers (suc answer.number) answers

pub record AreAnswers (site : Site) (answers : Answers) : Type 0 where
  pub ops : AreOpAnswers 0 answers.ops
  pub few : length answers.ops ≤ 64
  pub panels : length answers.busy ≡ 8
  pub counts : (place : ℕ) → slice_index answers.busy place < 2 ^ 64
  pub no_other : (place : ℕ) → site.panels ≤ place → slice_index answers.busy place ≡ 0

-- something was answered, an operation found its panel busy, or Keep's turn failed
abbrev pub HasAnswer : Answers → Type 0
HasAnswer answers = (answers.ops ≢ []) ⊎ ((place : ℕ) × (slice_index answers.busy place ≢ 0))
    ⊎ IsTrue answers.failed

-- ticks rise and don't pass the last, and each step has a change or an answer
abbrev pub AreSteps : Site → ℕ → List Face → ℕ → List Step → Type 0
AreSteps site tick before last [] = tick ≤ last
AreSteps site tick before last (step ∷ steps) =
    (tick < step.tick.0) × AreFaces site step.faces × AreAnswers site step.answers
    × ((step.faces ≢ before) ⊎ HasAnswer step.answers) × AreSteps site step.tick.0 step.faces last steps

-- a timeline is one that a run can have
pub record IsInForm (site : Site) (timeline : Timeline) : Type 0 where
  pub opened : AreFaces site timeline.opened
  pub steps : AreSteps site 0 timeline.opened timeline.last.0 timeline.steps
  pub last : timeline.last.0 < 2 ^ 64
