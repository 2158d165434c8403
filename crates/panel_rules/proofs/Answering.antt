-- Each operation is answered once: those that are asked for, and not open any more, are the ones answered and
-- those that wait.
use Rattle.std.proofs.Common.{◌≡◌, ℕ, zero, suc, ◌+◌, ◌≤◌, List, [], ◌∷◌, Option, Some, None, slice_get, inl, inr, Bool, refl, ap, arith}
use Rattle.std.specs.List.{AllByRecursion}
use Rattle.site_types.specs.declared.event.Event.TheVariants.{Op, Point, Cable, Supply, Link, Confirmed}
use Rattle.site_types.specs.declared.retained.Retained.{Retained}
use Rattle.site_types.specs.declared.site.Site.{Site}
use Rattle.panel_rules.specs.Moments.{Moment, Began, Happened, Turned, Kept, tick_of}
use Rattle.panel_rules.specs.Operations.{Request, Reply, Answered, Operations, requests, after_reply, desk_reply, after_request, after_desk, keep_reply, answer_all, after_keep}
use Rattle.panel_rules.proofs.Places.{get_either}
use Rattle.panel_rules.proofs.Counting.{one, count, count-append, each_to, each_more}

-- how many of a kind were answered or wait
abbrev pub times : (Request → Bool) → Operations → ℕ
times test so_far = count (λ (a : Answered). test a.request) so_far.answers + count test so_far.waiting

module _ (test : Request → Bool) where
  times_reply : (request : Request) (so_far : Operations) (reply : Option Reply)
      → times test (after_reply request so_far reply) ≡ times test so_far + one (test request)
  times_reply request so_far None = let h = count-append test so_far.waiting (request ∷ []) in omega (arith, h)
  times_reply request so_far (Some reply) = omega arith

  pub times_desk : (site : Site) (kept : Retained) (asked : List Request) (so_far : Operations)
      → times test (after_desk site kept asked so_far) ≡ times test so_far + count test asked
  times_desk site kept [] so_far = omega arith
  times_desk site kept (request ∷ asked) so_far =
      let ih = times_desk site kept asked (after_request site kept so_far request) in
      let here = times_reply request so_far (desk_reply site kept request so_far) in
      omega (arith, ih, here)

  times_all : (tick : ℕ) (failed : Bool) (waiting : List Request) (answers : List Answered)
      → count (λ (a : Answered). test a.request) (answer_all tick failed waiting answers) ≡ count (λ (a : Answered). test a.request) answers + count
      test waiting
  times_all tick failed [] answers = omega arith
  times_all tick failed (request ∷ waiting) answers =
      let ih = times_all tick failed waiting (record { request = request; tick = tick; reply = keep_reply failed } ∷ answers) in omega (arith, ih)

  pub times_keep : (tick : ℕ) (failed : Bool) (so_far : Operations) → times test (after_keep tick failed so_far) ≡ times test so_far
  times_keep tick failed so_far = let h = times_all tick failed so_far.waiting so_far.answers in omega (arith, h)

-- ---- what is asked for

-- each of the requests was asked for by now, and is numbered by its place
pub requests_by : (site : Site) (moments : List Moment) → AllByRecursion (λ (r : Request). r.tick ≤ tick_of moments) (requests site moments)
requests_by site [] = tt
requests_by site (Began ∷ before) = each_to _ _ (requests site before) (λ r h. omega (arith, h)) (requests_by site before)
requests_by site (Happened (Op panel code operation) ∷ before) = each_more _ (requests site before) _ (requests_by site before) (omega arith)
requests_by site (Happened (Point point state) ∷ before) = requests_by site before
requests_by site (Happened (Cable panel line piece state) ∷ before) = requests_by site before
requests_by site (Happened (Supply panel kind bad) ∷ before) = requests_by site before
requests_by site (Happened (Link link up) ∷ before) = requests_by site before
requests_by site (Happened (Confirmed output) ∷ before) = requests_by site before
requests_by site (Turned panel task ∷ before) = requests_by site before
requests_by site (Kept failed ∷ before) = requests_by site before

only_item : (x r : Request) (place : ℕ) → slice_get (x ∷ []) place ≡ Some r → (place ≡ 0) × (x ≡ r)
only_item x r zero e = (refl, cc)
only_item x r (suc place) e = cc

pub numbered_by_place : (site : Site) (moments : List Moment) (k : ℕ) (r : Request) → slice_get (requests site moments) k ≡ Some r → r.number ≡ k + 1
numbered_by_place site [] k r is = cc
numbered_by_place site (Began ∷ before) k r is = numbered_by_place site before k r is
numbered_by_place site (Happened (Op panel code operation) ∷ before) k r is =
    elim (get_either (requests site before) _ k r is) [
      | inl g ↦ numbered_by_place site before k r g
      | inr g ↦ (let only = only_item _ r g.place g.is in let same = ap (λ (x : Request). x.number) only.1 in let far = g.far in let here = only.0 in
          omega (arith, far, here, same))
    ]
numbered_by_place site (Happened (Point point state) ∷ before) k r is = numbered_by_place site before k r is
numbered_by_place site (Happened (Cable panel line piece state) ∷ before) k r is = numbered_by_place site before k r is
numbered_by_place site (Happened (Supply panel kind bad) ∷ before) k r is = numbered_by_place site before k r is
numbered_by_place site (Happened (Link link up) ∷ before) k r is = numbered_by_place site before k r is
numbered_by_place site (Happened (Confirmed output) ∷ before) k r is = numbered_by_place site before k r is
numbered_by_place site (Turned panel task ∷ before) k r is = numbered_by_place site before k r is
numbered_by_place site (Kept failed ∷ before) k r is = numbered_by_place site before k r is
