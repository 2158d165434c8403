-- What is done was asked for with the level that it needs.
use Rattle.std.proofs.Common.{◌≡◌, ℕ, Bool, true, false, List, [], ◌∷◌, Option, Some, None, slice_get, if◌then◌else◌, refl, ap}
use Rattle.std.specs.Prelude.{nat_le, nat_lt}
use Rattle.std.specs.List.{AllByRecursion}
use Rattle.tick_units.specs.declared.task.Task.TheVariants.{Desk}
use Rattle.site_types.specs.declared.retained.Retained.{Retained}
use Rattle.site_types.specs.declared.site.Site.{Site}
use Rattle.site_types.specs.Limits.{most_operations}
use Rattle.access_levels.specs.Levels.{needed_by}
use Rattle.panel_rules.specs.Moments.{Moment, Began, Happened, Turned, Kept, tick_of}
use Rattle.panel_rules.specs.Operations.{Answered, Operations, Reply, Request, Busy, Denied, WasDone, after_desk, after_reply}
use Rattle.panel_rules.specs.Operations.{after_request, answer_all, desk_reply, keep_reply, operations, requests, requests_in, setting_asked}
use Rattle.panel_rules.specs.Operations.{setting_reply}
use Rattle.panel_rules.proofs.Counting.{each_at, each_more}

-- its code has the level
abbrev pub HasRight : Request → Type 0
HasRight r = nat_lt r.level (needed_by r.operation) ≡ false

abbrev IsRight : Answered → Type 0
IsRight a = a.reply ≡ WasDone → HasRight a.request

record AreRight (so_far : Operations) : Type 0 where
  answers : AllByRecursion IsRight so_far.answers
  waiting : AllByRecursion HasRight so_far.waiting

-- what is done at once or goes to Keep has it
record GoesWithRight (r : Request) (reply : Option Reply) : Type 0 where
  done : reply ≡ Some WasDone → HasRight r
  goes : reply ≡ None → HasRight r

module _ (site : Site) (kept : Retained) (r : Request) (so_far : Operations) where
  by_row : (busy denied : Bool) → nat_lt r.level (needed_by r.operation) ≡ denied
      → GoesWithRight r
      (if busy then Some Busy else (if denied then Some (Denied (needed_by r.operation) r.level) else setting_reply site kept r so_far
      (setting_asked r)))
  by_row true denied right = record { done = λ e. absurd cc; goes = λ e. absurd cc }
  by_row false true right = record { done = λ e. absurd cc; goes = λ e. absurd cc }
  by_row false false right = record { done = λ e. right; goes = λ e. right }

  desk_right : GoesWithRight r (desk_reply site kept r so_far)
  desk_right = by_row (nat_le most_operations r.earlier) (nat_lt r.level (needed_by r.operation)) refl

reply_right : (r : Request) (so_far : Operations) (reply : Option Reply) → GoesWithRight r reply → AreRight so_far
    → AreRight (after_reply r so_far reply)
reply_right r so_far None g h = record { answers = h.answers; waiting = each_more HasRight so_far.waiting r h.waiting (g.goes refl) }
reply_right r so_far (Some reply) g h = record { answers = ((λ e. g.done (ap Some e)), h.answers); waiting = h.waiting }

all_desk : (site : Site) (kept : Retained) (taken : List Request) (so_far : Operations) → AreRight so_far
    → AreRight (after_desk site kept taken so_far)
all_desk site kept [] so_far h = h
all_desk site kept (r ∷ taken) so_far h =
    all_desk site kept taken (after_request site kept so_far r)
    (reply_right r so_far (desk_reply site kept r so_far) (desk_right site kept r so_far) h)

all_kept : (tick : ℕ) (failed : Bool) (waiting : List Request) (answers : List Answered) → AllByRecursion HasRight waiting
    → AllByRecursion IsRight answers → AllByRecursion IsRight (answer_all tick failed waiting answers)
all_kept tick failed [] answers all h = h
all_kept tick failed (r ∷ waiting) answers all h =
    all_kept tick failed waiting (record { request = r; tick = tick; reply = keep_reply failed } ∷ answers) all.1 ((λ e. all.0), h)

are_right : (site : Site) (kept : Retained) (m : List Moment) → AreRight (operations site kept m)
are_right site kept [] = record { answers = tt; waiting = tt }
are_right site kept (Began ∷ before) = let h = are_right site kept before in record { answers = h.answers; waiting = h.waiting }
are_right site kept (Happened event ∷ before) = let h = are_right site kept before in record { answers = h.answers; waiting = h.waiting }
are_right site kept (Turned panel Desk ∷ before) =
    all_desk site kept (requests_in panel (tick_of before) (requests site before)) (operations site kept before) (are_right site kept before)
are_right site kept (Turned panel task ∷ before) = let h = are_right site kept before in record { answers = h.answers; waiting = h.waiting }
are_right site kept (Kept failed ∷ before) =
    let h = are_right site kept before in
    record {
      answers = all_kept (tick_of before) failed (operations site kept before).waiting (operations site kept before).answers h.waiting h.answers;
      waiting = tt;
    }

pub done_with_right : (site : Site) (kept : Retained) (m : List Moment) (place : ℕ) (a : Answered)
    → slice_get (operations site kept m).answers place ≡ Some a → a.reply ≡ WasDone → HasRight a.request
done_with_right site kept m place a is done =
    each_at IsRight (operations site kept m).answers place a (are_right site kept m).answers is done
