-- What follows for operations: at most one answer each, one by the end of the tick after, and nothing of it
-- is ever taken back.
use Rattle.std.specs.Prelude.{◌≡◌, ◌≤◌, ◌<◌, ℕ, ◌+◌, true, List, [], ◌∷◌, ◌++◌, Some, slice_get}
use Rattle.site_types.specs.declared.retained.Retained.{Retained}
use Rattle.site_types.specs.declared.site.Site.{Site}
use Rattle.site_types.specs.Changes.{IsSized}
use Rattle.site_types.specs.Done.{Done, Setting, IsSetting, at_opening, in_force, is_on}
use Rattle.site_types.specs.Events.{has_event, has_operands}
use Rattle.site_types.specs.Valid.{IsValid}
use Rattle.panel_rules.specs.Moments.{Moment, Began, Happened, Turned, Kept, tick_of, IsRun, IsPanel, IsPast, has_kept}
use Rattle.panel_rules.specs.Operations.{Request, Answered, requests, operations}
use Rattle.panel_rules.specs.Batches.{kept_after}

-- each operation has at most one answer
abbrev pub AnsweredOnce : Type 0
AnsweredOnce =
    (site : Site) (kept : Retained) (moments : List Moment) (i j : ℕ) (a b : Answered)
    → IsRun site.panels moments → slice_get (operations site kept moments).answers i ≡ Some a
    → slice_get (operations site kept moments).answers j ≡ Some b → a.request.number ≡ b.request.number
    → i ≡ j

-- what is answered was asked for, and the answer is given in its tick or the one after
pub record IsAnswerTo (site : Site) (moments : List Moment) (a : Answered) : Type 0 where
  pub place : ℕ
  pub asked : slice_get (requests site moments) place ≡ Some a.request
  pub after : a.request.tick ≤ a.tick
  pub soon : a.tick ≤ a.request.tick + 1

abbrev pub AnswersAreToRequests : Type 0
AnswersAreToRequests =
    (site : Site) (kept : Retained) (moments : List Moment) (i : ℕ) (a : Answered) → IsRun site.panels moments
    → slice_get (operations site kept moments).answers i ≡ Some a → IsAnswerTo site moments a

-- an operation has an answer
pub record HasAnswer (site : Site) (kept : Retained) (moments : List Moment) (request : Request) :
    Type 0 where
  pub place : ℕ
  pub answer : Answered
  pub is : slice_get (operations site kept moments).answers place ≡ Some answer
  pub to : answer.request ≡ request

-- each operation of an earlier tick, of a panel of the site, has an answer once Keep has had its turn
abbrev pub AnsweredByTheNextTick : Type 0
AnsweredByTheNextTick =
    (site : Site) (kept : Retained) (moments : List Moment) (place : ℕ) (request : Request)
    → IsRun site.panels moments → has_kept moments ≡ true
    → slice_get (requests site moments) place ≡ Some request
    → IsPanel site.panels request.panel → request.tick < tick_of moments → HasAnswer site kept moments request

-- of a list with the newest first, an older part: only newer ones came before it
pub record Extends {X : Type 0} (older whole : List X) : Type 0 where
  pub newer : List X
  pub is : whole ≡ newer ++ older

-- a longer record changes nothing of what was answered and done
abbrev pub AnswersStay : Type 0
AnswersStay =
    (site : Site) (kept : Retained) (past moments : List Moment) → IsPast past moments
    → Extends (operations site kept past).answers (operations site kept moments).answers
    × Extends (operations site kept past).done (operations site kept moments).done

-- a setting changes in rising ticks, so at most once in a tick
abbrev pub SettingsChangeOnce : Type 0
SettingsChangeOnce =
    (site : Site) (kept : Retained) (moments : List Moment) (setting : Setting) (i j : ℕ) (d e : Done)
    → slice_get (operations site kept moments).done i ≡ Some d
    → slice_get (operations site kept moments).done j ≡ Some e → is_on setting d ≡ true
    → is_on setting e ≡ true → i < j → e.tick < d.tick

-- each operation asked for is at a panel of the site, which has what it names
abbrev pub AreOfSite : Site → List Moment → Type 0
AreOfSite site moments = (place : ℕ) (r : Request) → slice_get (requests site moments) place ≡ Some r
    → IsPanel site.panels r.panel × (has_operands site r.panel r.operation ≡ true)

-- each event is of the site, at the panel that it names
abbrev pub AreEventsOf : Site → List Moment → Type 0
AreEventsOf site [] = Unit {0}
AreEventsOf site (Began ∷ before) = AreEventsOf site before
AreEventsOf site (Happened event ∷ before) = AreEventsOf site before × (has_event site event ≡ true)
AreEventsOf site (Turned panel task ∷ before) = AreEventsOf site before
AreEventsOf site (Kept failed ∷ before) = AreEventsOf site before

-- where each event is of the site, each operation asked for is at a panel of the site, which has what it names
abbrev pub OperationsAreOfSite : Type 0
OperationsAreOfSite = (site : Site) (moments : List Moment) → AreEventsOf site moments
    → AreOfSite site moments

-- what is kept of each setting is its value from the next tick on
abbrev pub KeptIsInForce : Type 0
KeptIsInForce =
    (site : Site) (kept : Retained) (moments : List Moment) (setting : Setting) → IsValid site → IsSized kept
    → AreOfSite site moments → IsSetting setting
    → at_opening site (kept_after site kept moments) setting ≡ in_force site kept setting
    (tick_of moments + 1) (operations site kept moments).done
