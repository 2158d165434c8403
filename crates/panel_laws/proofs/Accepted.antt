-- An operation that was accepted is done and in force.
use Rattle.std.proofs.Common.{◌≡◌, ℕ, zero, suc, ◌≤◌, ◌<◌, ◌==◌, ◌&&◌, List, [], ◌∷◌, Option, Some, None, slice_get, Bool, true, false, refl, sym, ◌∙◌, ap, subst, arith}
use Rattle.std.specs.Prelude.{nat_lt}
use Rattle.std.specs.List.{list_any, AllByRecursion}
use Rattle.tick_units.specs.declared.task.Task.TheVariants.{Desk}
use Rattle.site_types.specs.declared.retained.Retained.{Retained}
use Rattle.site_types.specs.declared.site.Site.{Site}
use Rattle.site_types.specs.Done.{Done, Setting, in_force, is_on, is_setting, value_set}
use Rattle.site_types.proofs.Done.{lt_false, lt_true, same_setting_itself}
use Rattle.panel_rules.specs.Moments.{Moment, Began, Happened, Turned, Kept, tick_of}
use Rattle.panel_rules.specs.Operations.{Request, Reply, Busy, Denied, Waiting, Already, Store, WasDone, Answered}
use Rattle.panel_rules.specs.Operations.{Operations, setting_asked, requests_in, requests, done_in, after_reply}
use Rattle.panel_rules.specs.Operations.{desk_reply, after_request, after_desk, answer_all, do_all, operations}
use Rattle.panel_rules.specs.Timeline.{failed_ticks}
use Rattle.panel_laws.specs.OtherDeadlines.{is_by_desk, AcceptedIsInForce}
use Rattle.panel_rules.proofs.Bools.{both, either_left, either_right}
use Rattle.panel_rules.proofs.AnswersTell.{eq_true}
use Rattle.panel_rules.proofs.Counting.{each_at, each_to}
use Rattle.panel_laws.proofs.DeskOutcomes.{Outcome, told, at_once, goes_on, outcome}
use Rattle.panel_laws.proofs.AnswerLaws.{answers_are_to}
use Rattle.panel_laws.proofs.SettingLaws.{settings_change_once}

-- ---- a value that holds

-- the latest operation on a setting before a tick decides its value
in_force_by : (site : Site) (kept : Retained) (setting : Setting) (x : ℕ) (done : List Done) (k : ℕ) (d : Done) → slice_get done k ≡ Some d
    → is_on setting d ≡ true → d.tick < x
    → ((j : ℕ) (e : Done) → j < k → slice_get done j ≡ Some e → is_on setting e ≡ true → x ≤ e.tick)
    → in_force site kept setting x done ≡ value_set d.operation
in_force_by site kept setting x [] k d is on l none = absurd cc
in_force_by site kept setting x (e ∷ done) zero d is on l none =
    let same : e ≡ d = cc in
    let test : (is_on setting e && nat_lt e.tick x) ≡ true =
    both (is_on setting e) (nat_lt e.tick x) (ap (is_on setting) same ∙ on) (lt_true e.tick x (subst (λ (y : Done). y.tick < x) (sym same) l)) in
    rw test (ap (λ (y : Done). value_set y.operation) same)
in_force_by site kept setting x (e ∷ done) (suc k) d is on l none =
    go (is_on setting e) refl (in_force_by site kept setting x done k d is on l (λ j f m at t. none (suc j) f (omega (arith, m)) at t))
  where
    go : (b : Bool) → is_on setting e ≡ b → in_force site kept setting x done ≡ value_set d.operation
        → in_force site kept setting x (e ∷ done) ≡ value_set d.operation
    go true t ih = let late = none 0 e (omega arith) refl t in rw (t, lt_false e.tick x late) ih
    go false t ih = rw t ih

-- ---- what was done is among the operations done

record IsDone (done : List Done) (d : Done) : Type 0 where
  place : ℕ
  is : slice_get done place ≡ Some d

more_done : (done : List Done) (e d : Done) → IsDone done d → IsDone (e ∷ done) d
more_done done e d h = record { place = suc h.place; is = h.is }

-- an answer and what it stands for: what was done is there, and what could not be stored was in a tick whose
-- turn of Keep failed
record Stands (done : List Done) (failed : List ℕ) (a : Answered) : Type 0 where
  if_done : a.reply ≡ WasDone → IsDone done (done_in a.tick a.request)
  if_failed : a.reply ≡ Store → list_any (λ tick. tick == a.tick) failed ≡ true

more_stands : (done : List Done) (failed : List ℕ) (e : Done) (answers : List Answered) → AllByRecursion (Stands done failed) answers
    → AllByRecursion (Stands (e ∷ done) failed) answers
more_stands done failed e answers all =
    each_to (Stands done failed) (Stands (e ∷ done) failed) answers
    (λ a h. record { if_done = λ r. more_done done e (done_in a.tick a.request) (h.if_done r); if_failed = h.if_failed }) all

-- Desk never tells that an operation could not be stored
stands_reply : (failed : List ℕ) (r : Request) (so_far : Operations) (reply : Option Reply) → (reply ≡ Some Store → ⊥)
    → AllByRecursion (Stands so_far.done failed) so_far.answers
    → AllByRecursion (Stands (after_reply r so_far reply).done failed) (after_reply r so_far reply).answers
stands_reply failed r so_far None never all = all
stands_reply failed r so_far (Some Busy) never all = (record { if_done = λ e. absurd cc; if_failed = λ e. absurd cc }, all)
stands_reply failed r so_far (Some (Denied needs has)) never all = (record { if_done = λ e. absurd cc; if_failed = λ e. absurd cc }, all)
stands_reply failed r so_far (Some Waiting) never all = (record { if_done = λ e. absurd cc; if_failed = λ e. absurd cc }, all)
stands_reply failed r so_far (Some Already) never all = (record { if_done = λ e. absurd cc; if_failed = λ e. absurd cc }, all)
stands_reply failed r so_far (Some Store) never all = absurd (never refl)
stands_reply failed r so_far (Some WasDone) never all = (
  record { if_done = λ e. record { place = 0; is = refl }; if_failed = λ e. absurd cc },
  more_stands so_far.done failed (done_in r.tick r) so_far.answers all,
)

not_store : (answer : Reply) → is_by_desk answer ≡ true → answer ≡ Store → ⊥
not_store answer by e = let x = sym (ap is_by_desk e) ∙ by in cc

some_is : (a b : Reply) → Some a ≡ Some b → a ≡ b
some_is a b e = cc

never_store : (r : Request) (reply : Option Reply) → Outcome r reply → reply ≡ Some Store → ⊥
never_store r reply (told answer by same) e = not_store answer by (some_is answer Store e)
never_store r reply (at_once none) e = cc
never_store r reply (goes_on setting is) e = cc

stands_desk : (site : Site) (kept : Retained) (failed : List ℕ) (taken : List Request) (so_far : Operations)
    → AllByRecursion (Stands so_far.done failed) so_far.answers
    → AllByRecursion (Stands (after_desk site kept taken so_far).done failed) (after_desk site kept taken so_far).answers
stands_desk site kept failed [] so_far all = all
stands_desk site kept failed (r ∷ taken) so_far all =
    stands_desk site kept failed taken (after_request site kept so_far r)
    (stands_reply failed r so_far (desk_reply site kept r so_far) (never_store r (desk_reply site kept r so_far) (outcome site kept r so_far))
    all)

-- a turn of Keep that failed, and one that did not
not_stored : (done : List Done) (failed : List ℕ) (tick : ℕ) (waiting : List Request) (answers : List Answered)
    → AllByRecursion (Stands done (tick ∷ failed)) answers → AllByRecursion (Stands done (tick ∷ failed)) (answer_all tick true waiting answers)
not_stored done failed tick [] answers all = all
not_stored done failed tick (r ∷ waiting) answers all =
    not_stored done failed tick waiting (record { request = r; tick = tick; reply = Store } ∷ answers) (
      record { if_done = λ e. absurd cc; if_failed = λ e. either_left (tick == tick) (list_any (λ t. t == tick) failed) (eq_true tick tick refl) },
      all,
    )

was_stored : (done : List Done) (failed : List ℕ) (tick : ℕ) (waiting : List Request) (answers : List Answered)
    → AllByRecursion (Stands done failed) answers → AllByRecursion (Stands (do_all tick waiting done) failed) (answer_all tick false waiting answers)
was_stored done failed tick [] answers all = all
was_stored done failed tick (r ∷ waiting) answers all =
    was_stored (done_in tick r ∷ done) failed tick waiting (record { request = r; tick = tick; reply = WasDone } ∷ answers)
    (record { if_done = λ e. record { place = 0; is = refl }; if_failed = λ e. absurd cc }, more_stands done failed (done_in tick r) answers all)

stands : (site : Site) (kept : Retained) (moments : List Moment)
    → AllByRecursion (Stands (operations site kept moments).done (failed_ticks moments)) (operations site kept moments).answers
stands site kept [] = tt
stands site kept (Began ∷ before) = stands site kept before
stands site kept (Happened event ∷ before) = stands site kept before
stands site kept (Turned panel Desk ∷ before) =
    stands_desk site kept (failed_ticks before) (requests_in panel (tick_of before) (requests site before)) (operations site kept before)
    (stands site kept before)
stands site kept (Turned panel task ∷ before) = stands site kept before
stands site kept (Kept true ∷ before) =
    not_stored (operations site kept before).done (failed_ticks before) (tick_of before) (operations site kept before).waiting
    (operations site kept before).answers
    (each_to (Stands (operations site kept before).done (failed_ticks before))
    (Stands (operations site kept before).done (tick_of before ∷ failed_ticks before)) (operations site kept before).answers
    (λ a h. record {
      if_done = h.if_done;
      if_failed =
          λ e. either_right (tick_of before == a.tick) (list_any (λ t. t == a.tick) (failed_ticks before)) (h.if_failed e);
    }) (stands site kept before))
stands site kept (Kept false ∷ before) =
    was_stored (operations site kept before).done (failed_ticks before) (tick_of before) (operations site kept before).waiting
    (operations site kept before).answers (stands site kept before)

was_done : (reply : Reply) → is_by_desk reply ≡ false → (reply ≡ Store → ⊥) → reply ≡ WasDone
was_done Busy by apart = absurd cc
was_done (Denied needs has) by apart = absurd cc
was_done Waiting by apart = absurd cc
was_done Already by apart = absurd cc
was_done Store by apart = absurd (apart refl)
was_done WasDone by apart = refl

pub accepted : AcceptedIsInForce
accepted site kept moments place a setting run is of by free =
    let to = answers_are_to site kept moments place a run is in
    let h =
    each_at (Stands (operations site kept moments).done (failed_ticks moments)) (operations site kept moments).answers place a
    (stands site kept moments) is in
    let done_now : a.reply ≡ WasDone = was_done a.reply by (λ e. (let x = sym (h.if_failed e) ∙ free a.tick to.after to.soon in cc)) in
    let there = h.if_done done_now in
    record {
      was_done = done_now;
      soon = to.soon;
      holds = λ tick l none. in_force_by site kept setting tick (operations site kept moments).done there.place (done_in a.tick a.request) there.is
          mine l
          (λ j e m at t.
          none j e at t (settings_change_once site kept moments setting j there.place e (done_in a.tick a.request) at there.is t mine m));
    }
  where
    mine : is_setting setting (setting_asked a.request) ≡ true
    mine = ap (is_setting setting) of ∙ same_setting_itself setting
