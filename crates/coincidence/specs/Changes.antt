-- What taking answers and applying an operation make of the part that decides, whatever it stood for.
use Rattle.std.specs.Prelude.{◌≡◌, ◌≢◌, ◌<◌, ℕ, All, Bool, List, [], ◌∷◌, ◌++◌, length, slice_get, slice_index_or}
use Rattle.std.specs.Prelude.{slice_set}
use Rattle.tick_units.specs.declared.tick.Tick.{Tick}
use Rattle.site_types.specs.declared.heard.Heard.{Heard}
use Rattle.tick_units.specs.Lane.{HasRoom, LaneState, with_put}
use Rattle.answer_lanes.specs.declared.answer_group.AnswerGroup.{AnswerGroup}
use Rattle.answer_lanes.specs.declared.run.Run.{Run}
use Rattle.answer_lanes.specs.Points.{answer_at}
use Rattle.answer_lanes.specs.Runs.{HasShortCount, HoldsItems, all_items, items_of}
use Rattle.site_types.specs.declared.answer.Answer.{Answer}
use Rattle.site_types.specs.declared.operation.Operation.{Operation}
use Rattle.site_types.specs.declared.retained.Retained.{Retained}
use Rattle.site_types.specs.declared.site.Site.{Site}
use Rattle.site_types.specs.Done.{Done}
use Rattle.coincidence_rules.specs.declared.finding.Finding.{Finding}
use Rattle.coincidence_rules.specs.Findings.{finding_of, findings_after}
use Rattle.coincidence.specs.declared.decide.Decide.{Decide}
use Rattle.coincidence.specs.declared.judgement.Judgement.{Judgement}
use Rattle.coincidence.specs.declared.point_watch.PointWatch.{PointWatch}
use Rattle.coincidence.specs.Observations.{Judges}
use Rattle.coincidence.specs.Parts.{point_noted, switch_after}
use Rattle.coincidence.specs.Premises.{MayTake, MayApply}
use Rattle.coincidence.specs.Stands.{CanTake, DecidesFor}

-- what is kept of points after an answer of one of them, with whether it counts and the floor before it
abbrev pub NotesPoint : ℕ → Heard → Bool → Tick → Tick → List PointWatch → List PointWatch → Type 0
NotesPoint place heard counted floor stamp old points =
    (watch : PointWatch) → watch ≡ slice_index_or old place watch
    → points ≡ slice_set old place (point_noted heard counted floor stamp watch)

-- what is kept of points after one of them was disabled or enabled at a tick
abbrev pub SwitchesPoint : ℕ → Bool → Tick → List PointWatch → List PointWatch → Type 0
SwitchesPoint place off at old points =
    (watch : PointWatch) → watch ≡ slice_index_or old place watch
    → points ≡ slice_set old place (record watch { off = switch_after off at watch.off })

-- the point was disabled or enabled last before a tick
abbrev pub IsSwitchedBefore : ℕ → ℕ → List PointWatch → Type 0
IsSwitchedBefore place tick points =
    (watch : PointWatch) → watch ≡ slice_index_or points place watch → watch.off.since.0 < tick

-- what is kept of the points is the same but for one of them
abbrev pub KeepsOthers : ℕ → Decide → Decide → Type 0
KeepsOthers place old decide = (k : ℕ) → k ≢ place → slice_get decide.points k ≡ slice_get old.points k

-- the part that decides takes some answers after those that were taken before
abbrev pub TakesAnswers : Decide → List Answer → Decide → Type 0
TakesAnswers old answers decide =
    (site : Site) (kept : Retained) (panel : ℕ) (done : List Done) (taken : List Answer)
    → DecidesFor site kept panel done taken old → MayTake site panel done taken answers
    → DecidesFor site kept panel done (taken ++ answers) decide

-- an answer of which this is said is taken after those before
abbrev pub TakesJudged : Decide → Answer → Judgement → Decide → Type 0
TakesJudged old answer judgement decide =
    (site : Site) (kept : Retained) (panel : ℕ) (done : List Done) (taken : List Answer)
    → DecidesFor site kept panel done taken old → MayTake site panel done taken (answer ∷ [])
    → Judges site kept done answer judgement
    → DecidesFor site kept panel done (taken ++ answer ∷ []) decide

-- one finding more lies in the lane for each of these answers, in their order
abbrev pub PutsFindings : Decide → List Answer → LaneState Finding → LaneState Finding → Type 0
PutsFindings old answers lane findings =
    (site : Site) (kept : Retained) (panel : ℕ) (done : List Done) (taken : List Answer)
    → DecidesFor site kept panel done taken old → MayTake site panel done taken answers
    → findings ≡ with_put lane (findings_after site kept panel done taken answers)

-- where the answer at a place of what stands in a run is this
module _ {S : Type 0} (item_at : S → ℕ → Answer) where
  -- the answers of a run may be taken, and there is room for their findings
  pub record CanTakeRunOf (decide : Decide) (run : Run S) (findings : LaneState Finding) : Type 0 where
    pub short : HasShortCount run
    pub room : HasRoom findings run.count
    pub may : CanTake decide (items_of item_at run)

  -- the answers of a run are taken after those before them, and one finding for each is put into the lane
  pub record TakesRunOf (old : Decide) (run : Run S) (lane : LaneState Finding) (decide : Decide)
      (findings : LaneState Finding) : Type 0 where
    pub taken : TakesAnswers old (items_of item_at run) decide
    pub put : PutsFindings old (items_of item_at run) lane findings

  -- the answers of runs may be taken, and there is room for their findings
  pub record CanTakeRuns (decide : Decide) (runs : List (Run S)) (findings : LaneState Finding) : Type 0 where
    pub held : All HoldsItems runs
    pub room : HasRoom findings (length (all_items item_at runs))
    pub may : CanTake decide (all_items item_at runs)

  -- of some runs some are left; the answers of those in front of them are taken after those before, and one finding
  -- for each is put into the lane
  pub record TakesFirstRuns (old : Decide) (runs left : List (Run S)) (lane : LaneState Finding) (decide : Decide)
      (findings : LaneState Finding) : Type 0 where
    pub front : List (Run S)
    pub parts : runs ≡ front ++ left
    pub taken : TakesAnswers old (all_items item_at front) decide
    pub put : PutsFindings old (all_items item_at front) lane findings

-- the answers of a run of a group may be taken, and there is room for their findings
abbrev pub CanTakeAnswerRun : Decide → Run AnswerGroup → LaneState Finding → Type 0
CanTakeAnswerRun = CanTakeRunOf answer_at

-- the answers of a run of a group are taken after those before them, and one finding for each is put into the lane
abbrev pub TakesAnswerRun : Decide → Run AnswerGroup → LaneState Finding → Decide → LaneState Finding → Type 0
TakesAnswerRun = TakesRunOf answer_at

-- the finding is that of an answer that comes after those taken
abbrev pub FindsNext : Decide → Answer → Finding → Type 0
FindsNext old answer finding =
    (site : Site) (kept : Retained) (panel : ℕ) (done : List Done) (taken : List Answer)
    → DecidesFor site kept panel done taken old → MayTake site panel done taken (answer ∷ [])
    → finding ≡ finding_of site kept panel done taken answer

-- the operation is done in a tick, after those before
abbrev pub AppliesOperation : Decide → Operation → ℕ → Decide → Type 0
AppliesOperation old operation tick decide =
    (site : Site) (kept : Retained) (panel : ℕ) (done : List Done) (taken : List Answer)
    → DecidesFor site kept panel done taken old → MayApply site panel done taken operation tick
    → DecidesFor site kept panel (record { tick = tick; panel = panel; operation = operation } ∷ done) taken
    decide
