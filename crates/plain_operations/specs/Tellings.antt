-- The answers to requests that are given in a tick.
use Rattle.std.specs.Prelude.{◌≡◌, ℕ, ◌==◌, ◌&&◌, Bool, List, map, Option}
use Rattle.std.specs.List.{filter_map, find}
use Rattle.site_types.specs.declared.retained.Retained.{Retained}
use Rattle.site_types.specs.declared.site.Site.{Site}
use Rattle.panel_rules.specs.Timeline.{answer_in}
use Rattle.panel_rules.specs.Operations.{Request, Answered}
use Rattle.plain_operations.specs.declared.op_answered.OpAnswered.{OpAnswered}
use Rattle.plain_operations.specs.declared.request.Request.{Request as Asked}
use Rattle.plain_operations.specs.Desks.{all_answered, all_requests, answered_of}

-- an answer is one to a request, and given in a tick
abbrev pub answers_in : ℕ → Request → Answered → Bool
answers_in tick request a = (a.request.number == request.number) && (a.tick == tick)

-- the answer to a request, as a timeline has it for any site and whatever is kept
abbrev pub answer_given : ℕ → List Answered → Request → Option Answered
answer_given tick answers request = find (answers_in tick request) answers

-- those answers that are given in a tick, by the numbers of the requests, out of all answers; the oldest come first
abbrev pub AreGivenIn : ℕ → List Asked → List OpAnswered → List OpAnswered → Type 0
AreGivenIn tick requests answers given =
    (site : Site) (kept : Retained)
    → map answered_of given ≡ filter_map (answer_in site kept tick (all_answered answers)) (all_requests requests)
