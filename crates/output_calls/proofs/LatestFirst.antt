-- The operations that a run makes done are listed with the latest first.
use Rattle.std.proofs.Common.{◌≡◌, ◌≤◌, ◌+◌, ◌==◌, ◌&&◌, ℕ, Bool, true, false, List, [], ◌∷◌, map, Option, Some, None}
use Rattle.std.proofs.Common.{sym, subst, arith}
use Rattle.std.specs.List.{AllByRecursion}
use Rattle.tick_units.specs.declared.task.Task.TheVariants.{Poll, Decide, Supply, Desk, Hold, Link, Effect, Drive}
use Rattle.tick_units.specs.declared.task.Task.TheVariants.{Keep}
use Rattle.site_types.specs.declared.retained.Retained.{Retained}
use Rattle.site_types.specs.declared.site.Site.{Site}
use Rattle.site_types.specs.Done.{Done, AreBy}
use Rattle.panel_rules.specs.Moments.{Moment, Began, Happened, Turned, Kept, tick_of}
use Rattle.panel_rules.specs.Operations.{Request, Reply, Busy, Denied, Waiting, Already, Store, WasDone, Operations}
use Rattle.panel_rules.specs.Operations.{requests, requests_in, done_in, after_reply, desk_reply, after_request}
use Rattle.panel_rules.specs.Operations.{after_desk, do_all, after_keep, operations}
use Rattle.panel_rules.proofs.Bools.{parts}
use Rattle.panel_rules.proofs.Counting.{each_filtered}
use Rattle.panel_laws.proofs.AnswerLaws.{eq_is}
use Rattle.output_calls.specs.DoneCalls.{IsLatestFirst, DoneIsLatestFirst}

-- they are, and each was done by a tick
record IsSorted (tick : ℕ) (done : List Done) : Type 0 where
  falls : IsLatestFirst done
  by : AreBy tick done

ticks_by : (tick : ℕ) (done : List Done) → AreBy tick done → AllByRecursion (λ t. t ≤ tick) (map (λ (d : Done). d.tick) done)
ticks_by tick [] by = tt
ticks_by tick (d ∷ done) by = (by.0, ticks_by tick done by.1)

-- one more in the latest tick
one_more : (d : Done) (done : List Done) → IsSorted d.tick done → IsSorted d.tick (d ∷ done)
one_more d done h = record { falls = (ticks_by d.tick done h.by, h.falls); by = (omega arith, h.by) }

by_next : (tick : ℕ) (done : List Done) → AreBy tick done → AreBy (tick + 1) done
by_next tick [] by = tt
by_next tick (d ∷ done) by = (let less = by.0 in omega (arith, less), by_next tick done by.1)

reply_sorted : (r : Request) (so_far : Operations) (reply : Option Reply) → IsSorted r.tick so_far.done → IsSorted r.tick (after_reply r so_far reply).done
reply_sorted r so_far None h = h
reply_sorted r so_far (Some Busy) h = h
reply_sorted r so_far (Some (Denied needs has)) h = h
reply_sorted r so_far (Some Waiting) h = h
reply_sorted r so_far (Some Already) h = h
reply_sorted r so_far (Some Store) h = h
reply_sorted r so_far (Some WasDone) h = one_more (done_in r.tick r) so_far.done h

desk_sorted : (site : Site) (kept : Retained) (tick : ℕ) (taken : List Request) (so_far : Operations)
    → AllByRecursion (λ (r : Request). r.tick ≡ tick) taken → IsSorted tick so_far.done → IsSorted tick (after_desk site kept taken so_far).done
desk_sorted site kept tick [] so_far all h = h
desk_sorted site kept tick (r ∷ taken) so_far all h =
    desk_sorted site kept tick taken (after_request site kept so_far r) all.1
    (subst (λ t. IsSorted t (after_request site kept so_far r).done) all.0
    (reply_sorted r so_far (desk_reply site kept r so_far) (subst (λ t. IsSorted t so_far.done) (sym all.0) h)))

all_sorted : (tick : ℕ) (waiting : List Request) (done : List Done) → IsSorted tick done → IsSorted tick (do_all tick waiting done)
all_sorted tick [] done h = h
all_sorted tick (r ∷ waiting) done h = all_sorted tick waiting (done_in tick r ∷ done) (one_more (done_in tick r) done h)

keep_sorted : (tick : ℕ) (failed : Bool) (so_far : Operations) → IsSorted tick so_far.done → IsSorted tick (after_keep tick failed so_far).done
keep_sorted tick true so_far h = h
keep_sorted tick false so_far h = all_sorted tick so_far.waiting so_far.done h

sorted : (site : Site) (kept : Retained) (m : List Moment) → IsSorted (tick_of m) (operations site kept m).done
sorted site kept [] = record { falls = tt; by = tt }
sorted site kept (Began ∷ before) =
    let h = sorted site kept before in
    record { falls = h.falls; by = by_next (tick_of before) (operations site kept before).done h.by }
sorted site kept (Happened event ∷ before) = sorted site kept before
sorted site kept (Turned panel Desk ∷ before) =
    desk_sorted site kept (tick_of before) (requests_in panel (tick_of before) (requests site before)) (operations site kept before)
    (each_filtered (λ (r : Request). r.tick ≡ tick_of before) (λ (r : Request). (r.panel == panel) && (r.tick == tick_of before)) (requests site before)
    (λ k r is t. eq_is r.tick (tick_of before) (parts (r.panel == panel) (r.tick == tick_of before) t).1)) (sorted site kept before)
sorted site kept (Turned panel Poll ∷ before) = sorted site kept before
sorted site kept (Turned panel Decide ∷ before) = sorted site kept before
sorted site kept (Turned panel Supply ∷ before) = sorted site kept before
sorted site kept (Turned panel Hold ∷ before) = sorted site kept before
sorted site kept (Turned panel Link ∷ before) = sorted site kept before
sorted site kept (Turned panel Effect ∷ before) = sorted site kept before
sorted site kept (Turned panel Drive ∷ before) = sorted site kept before
sorted site kept (Turned panel Keep ∷ before) = sorted site kept before
sorted site kept (Kept failed ∷ before) = keep_sorted (tick_of before) failed (operations site kept before) (sorted site kept before)

pub latest_first : DoneIsLatestFirst
latest_first site kept m = (sorted site kept m).falls
