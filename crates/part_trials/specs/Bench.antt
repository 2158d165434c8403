-- What a bench knows of the part that it drives, so that each call may come next.
use Rattle.std.specs.Prelude.{◌≡◌, ◌<◌, ◌≤◌, ◌⊎◌, ℕ, true, List, ◌++◌, Some, length, slice_get}
use Rattle.tick_units.specs.Lane.{LaneState}
use Rattle.site_types.specs.declared.site.Site.{Site}
use Rattle.site_types.specs.declared.answer.Answer.{Answer}
use Rattle.site_types.specs.declared.retained.Retained.{Retained}
use Rattle.site_types.specs.declared.operation.Operation.{Operation}
use Rattle.site_types.specs.Events.{has_operands}
use Rattle.site_types.specs.Done.{Done, AreBy}
use Rattle.site_types.specs.Valid.{IsValid}
use Rattle.coincidence_rules.specs.declared.finding.Finding.{Finding}
use Rattle.coincidence.specs.declared.decide.Decide.{Decide}
use Rattle.coincidence.specs.Premises.{IsOwn, MayTake}
use Rattle.coincidence.specs.Stands.{DecidesFor}
use Rattle.part_trials.specs.declared.decide_bench.DecideBench.{DecideBench}

-- the answer stands before another one, or is it: it was given in an earlier tick, or in the same one by a
-- point that isn't later in the site's list
abbrev pub IsUpTo : ℕ → ℕ → Answer → Type 0
IsUpTo stamp point answer = (answer.stamp.0 < stamp) ⊎ ((answer.stamp.0 ≡ stamp) × (answer.point ≤ point))

-- a part that decides for a panel, with the answers that lie before it and room for what it finds: no answer
-- came after the last one given, no operation was done after the last one done
pub record IsReady (site : Site) (panel : ℕ) (decide : Decide) (answers : LaneState Answer) (findings :
    LaneState Finding) (stamp point at : ℕ) : Type 0 where
  pub valid : IsValid site
  pub kept : Retained
  pub done : List Done
  pub taken : List Answer
  pub stands : DecidesFor site kept panel done taken decide
  pub may : MayTake site panel done taken answers.items
  pub last : (k : ℕ) (answer : Answer) → slice_get (taken ++ answers.items) k ≡ Some answer
      → IsUpTo stamp point answer
  pub by : AreBy at done
  pub lanes : (answers.quota ≡ 32) × (answers.capacity ≡ 64) × (findings.quota ≡ 32)
      × (findings.capacity ≡ 64)
  pub few : length answers.items ≤ 32

-- a bench may go on: its part is ready
abbrev pub MayGoOn : DecideBench → Type 0
MayGoOn bench =
    IsReady bench.site bench.panel bench.decide bench.answers bench.findings bench.stamp.0 bench.point bench.at.0

-- an answer later than all before it may be put, and there is room for it
pub record MayPut (site : Site) (panel : ℕ) (answers : LaneState Answer) (stamp point at : ℕ) (answer :
    Answer) : Type 0 where
  pub later : (stamp < answer.stamp.0) ⊎ ((answer.stamp.0 ≡ stamp) × (point < answer.point))
  pub since : at ≤ answer.stamp.0
  pub own : IsOwn site panel answer.point
  pub few : length answers.items < 32
  pub room : answers.put < 1000000

-- an operation later than all before it may be done, and no answer waits
pub record MayDo (site : Site) (panel : ℕ) (answers : LaneState Answer) (stamp at : ℕ) (operation : Operation)
    (tick : ℕ) : Type 0 where
  pub own : has_operands site panel operation ≡ true
  pub none : length answers.items ≡ 0
  pub later : at < tick
  pub since : stamp ≤ tick
