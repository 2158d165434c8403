-- A new desk, and one at the beginning of a tick: nothing of an earlier tick is answered or done in it.
use Rattle.std.proofs.Common.{◌≡◌, ℕ, zero, suc, ◌+◌, ◌-◌, ◌≤◌, ◌==◌, ◌&&◌, Bool, true, false, List, [], ◌∷◌, ◌++◌}
use Rattle.std.proofs.Common.{length, replicate, Option, Some, None, inl, inr, refl, sym, ◌∙◌, ap, arith}
use Rattle.std.specs.Prelude.{filter, nat_lt, slice_index}
use Rattle.std.specs.List.{AllByRecursion, filter_map, list_any}
use Rattle.std.proofs.lemmas.Bool.Decides.{eqb_tells}
use Rattle.tick_units.specs.declared.task.Task.TheVariants.{Desk as DeskTask}
use Rattle.site_types.specs.declared.retained.Retained.{Retained}
use Rattle.site_types.specs.declared.site.Site.{Site}
use Rattle.site_types.specs.Done.{Done}
use Rattle.site_types.specs.Limits.{most_operations}
use Rattle.panel_rules.specs.Moments.{Moment, Began, Happened, Turned, Kept, tick_of}
use Rattle.panel_rules.specs.Operations.{Answered, Busy, Denied, Waiting, Already, Store, WasDone, Operations}
use Rattle.panel_rules.specs.Operations.{Reply, Request, answer_all, do_all, done_in, after_desk, after_reply}
use Rattle.panel_rules.specs.Operations.{after_keep, after_request, desk_reply, keep_reply, operations, requests}
use Rattle.panel_rules.specs.Operations.{requests_in}
use Rattle.panel_rules.specs.Timeline.{answer_in, busy_count, failed_now, failed_ticks, told_answer}
use Rattle.panel_rules.proofs.Answering.{requests_by}
use Rattle.panel_rules.proofs.Counting.{each_at, each_filtered, each_to}
use Rattle.operation_desk.specs.declared.desk.Desk.{Desk}
use Rattle.operation_desk.specs.Requests.{with_done, is_early, requests_from}
use Rattle.operation_desk.specs.Stands.{DesksFor, given_in}

-- ---- what became of operations lies in the past

pub record IsPastOf (tick : ℕ) (so_far : Operations) : Type 0 where
  pub answers : AllByRecursion (λ (a : Answered). a.tick ≤ tick) so_far.answers
  pub done : AllByRecursion (λ (d : Done). d.tick ≤ tick) so_far.done
  pub waiting : AllByRecursion (λ (r : Request). r.tick ≤ tick) so_far.waiting

all_more : {X : Type 0} (P : X → Type 0) (xs : List X) (x : X) → AllByRecursion P xs → P x → AllByRecursion P (xs ++ x ∷ [])
all_more P [] x all here = (here, tt)
all_more P (y ∷ xs) x all here = (all.0, all_more P xs x all.1 here)

past_reply : (tick : ℕ) (r : Request) (so_far : Operations) (o : Option Reply) → r.tick ≤ tick → IsPastOf tick so_far
    → IsPastOf tick (after_reply r so_far o)
past_reply tick r so_far None l h = record { answers = h.answers; done = h.done; waiting = all_more _ so_far.waiting r h.waiting l }
past_reply tick r so_far (Some Busy) l h = record { answers = (l, h.answers); done = h.done; waiting = h.waiting }
past_reply tick r so_far (Some (Denied needs has)) l h = record { answers = (l, h.answers); done = h.done; waiting = h.waiting }
past_reply tick r so_far (Some Waiting) l h = record { answers = (l, h.answers); done = h.done; waiting = h.waiting }
past_reply tick r so_far (Some Already) l h = record { answers = (l, h.answers); done = h.done; waiting = h.waiting }
past_reply tick r so_far (Some Store) l h = record { answers = (l, h.answers); done = h.done; waiting = h.waiting }
past_reply tick r so_far (Some WasDone) l h = record { answers = (l, h.answers); done = (l, h.done); waiting = h.waiting }

past_desk : (site : Site) (kept : Retained) (tick : ℕ) (taken : List Request) (so_far : Operations)
    → AllByRecursion (λ (r : Request). r.tick ≤ tick) taken → IsPastOf tick so_far → IsPastOf tick (after_desk site kept taken so_far)
past_desk site kept tick [] so_far all h = h
past_desk site kept tick (r ∷ taken) so_far all h =
    past_desk site kept tick taken (after_request site kept so_far r) all.1 (past_reply tick r so_far (desk_reply site kept r so_far) all.0 h)

past_answers : (tick : ℕ) (failed : Bool) (waiting : List Request) (answers : List Answered) → AllByRecursion (λ (a : Answered). a.tick ≤ tick) answers
    → AllByRecursion (λ (a : Answered). a.tick ≤ tick) (answer_all tick failed waiting answers)
past_answers tick failed [] answers h = h
past_answers tick failed (r ∷ waiting) answers h =
    past_answers tick failed waiting (record { request = r; tick = tick; reply = keep_reply failed } ∷ answers) (omega arith, h)

past_done : (tick : ℕ) (waiting : List Request) (done : List Done) → AllByRecursion (λ (d : Done). d.tick ≤ tick) done
    → AllByRecursion (λ (d : Done). d.tick ≤ tick) (do_all tick waiting done)
past_done tick [] done h = h
past_done tick (r ∷ waiting) done h = past_done tick waiting (done_in tick r ∷ done) (omega arith, h)

past_kept : (tick : ℕ) (failed : Bool) (so_far : Operations) → IsPastOf tick so_far → IsPastOf tick (after_keep tick failed so_far)
past_kept tick true so_far h = record { answers = past_answers tick true so_far.waiting so_far.answers h.answers; done = h.done; waiting = tt }
past_kept tick false so_far h =
    record {
      answers = past_answers tick false so_far.waiting so_far.answers h.answers;
      done = past_done tick so_far.waiting so_far.done h.done;
      waiting = tt;
    }

pub past_of : (site : Site) (kept : Retained) (moments : List Moment) → IsPastOf (tick_of moments) (operations site kept moments)
past_of site kept [] = record { answers = tt; done = tt; waiting = tt }
past_of site kept (Began ∷ before) =
    let h = past_of site kept before in
    record {
      answers = each_to _ _ (operations site kept before).answers (λ a l. omega (arith, l)) h.answers;
      done = each_to _ _ (operations site kept before).done (λ d l. omega (arith, l)) h.done;
      waiting = each_to _ _ (operations site kept before).waiting (λ r l. omega (arith, l)) h.waiting;
    }
past_of site kept (Happened event ∷ before) =
    let h = past_of site kept before in record { answers = h.answers; done = h.done; waiting = h.waiting }
past_of site kept (Turned panel DeskTask ∷ before) =
    past_desk site kept (tick_of before) (requests_in panel (tick_of before) (requests site before)) (operations site kept before)
    (each_filtered (λ (r : Request). r.tick ≤ tick_of before) _ (requests site before)
    (λ k r is t. each_at (λ (x : Request). x.tick ≤ tick_of before) (requests site before) k r (requests_by site before) is))
    (past_of site kept before)
past_of site kept (Turned panel task ∷ before) =
    let h = past_of site kept before in record { answers = h.answers; done = h.done; waiting = h.waiting }
past_of site kept (Kept failed ∷ before) = past_kept (tick_of before) failed (operations site kept before) (past_of site kept before)

-- ---- so nothing of it is of the next tick

after_it : (a b : ℕ) → a ≤ b → (a == b + 1) ≡ false
after_it a b l = elim (eqb_tells a (b + 1)) [ inl t ↦ (let e = t.1 in absurd (omega (arith, e, l))) | inr t ↦ t.0 ]

shut : (b : Bool) → (b && false) ≡ false
shut true = refl
shut false = refl

none_filtered : {X : Type 0} (test : X → Bool) (xs : List X) → AllByRecursion (λ x. test x ≡ false) xs → filter test xs ≡ []
none_filtered test [] all = refl
none_filtered test (x ∷ xs) all = rw all.0 (none_filtered test xs all.1)

module _ (site : Site) (before : List Moment) where
  pub none_early : filter (is_early (tick_of before + 1)) (requests site before) ≡ []
  none_early =
      none_filtered (is_early (tick_of before + 1)) (requests site before)
      (each_to _ _ (requests site before) (λ r l. ap (λ b. b && nat_lt r.earlier most_operations) (after_it r.tick (tick_of before) l))
      (requests_by site before))

  pub none_in : (panel : ℕ) → requests_in panel (tick_of before + 1) (requests site before) ≡ []
  none_in panel =
      none_filtered (λ (r : Request). (r.panel == panel) && (r.tick == tick_of before + 1)) (requests site before)
      (each_to _ _ (requests site before) (λ r l. ap (λ b. (r.panel == panel) && b) (after_it r.tick (tick_of before) l) ∙ shut (r.panel == panel))
      (requests_by site before))

  module _ (kept : Retained) where
    none_found : (answers : List Answered) (r : Request) → AllByRecursion (λ (a : Answered). a.tick ≤ tick_of before) answers
        → answer_in site kept (tick_of before + 1) answers r ≡ None
    none_found [] r all = refl
    none_found (a ∷ answers) r all =
        rw (ap (λ b. (a.request.number == r.number) && b) (after_it a.tick (tick_of before) all.0) ∙ shut (a.request.number == r.number))
        (none_found answers r all.1)

    none_given_in : (answers : List Answered) (asked : List Request) → AllByRecursion (λ (a : Answered). a.tick ≤ tick_of before) answers
        → given_in site kept (tick_of before + 1) answers asked ≡ []
    none_given_in answers [] all = refl
    none_given_in answers (r ∷ asked) all = rw (none_found answers r all) (none_given_in answers asked all)

    pub none_given : given_in site kept (tick_of before + 1) (operations site kept before).answers (requests site before) ≡ []
    none_given = none_given_in (operations site kept before).answers (requests site before) (past_of site kept before).answers

    failed_by : (moments : List Moment) → AllByRecursion (λ t. t ≤ tick_of moments) (failed_ticks moments)
    failed_by [] = tt
    failed_by (Began ∷ earlier) = each_to _ _ (failed_ticks earlier) (λ t l. omega (arith, l)) (failed_by earlier)
    failed_by (Happened event ∷ earlier) = failed_by earlier
    failed_by (Turned panel task ∷ earlier) = failed_by earlier
    failed_by (Kept true ∷ earlier) = (omega arith, failed_by earlier)
    failed_by (Kept false ∷ earlier) = failed_by earlier

    pub none_failed : failed_now site kept (Began ∷ before) ≡ false
    none_failed = go (failed_ticks before) (failed_by before)
      where
        go : (ticks : List ℕ) → AllByRecursion (λ t. t ≤ tick_of before) ticks → list_any (λ t. t == tick_of before + 1) ticks ≡ false
        go [] all = refl
        go (t ∷ ticks) all = rw (after_it t (tick_of before) all.0) (go ticks all.1)

-- ---- the desk

zeros : (n k : ℕ) → slice_index (replicate n 0) k ≡ 0
zeros zero k = refl
zeros (suc n) zero = refl
zeros (suc n) (suc k) = zeros n k

-- nothing of a tick
pub record IsAnew (tick : ℕ) (old new : Desk) : Type 0 where
  pub now : new.tick.0 ≡ tick
  pub number : new.number ≡ old.number
  pub counts : new.counts ≡ replicate 8 0
  pub asked : new.asked.items ≡ []
  pub waiting : new.waiting ≡ old.waiting
  pub done : new.done.items ≡ []
  pub ops : new.answers.ops ≡ []
  pub busy : new.answers.busy ≡ replicate 8 0
  pub failed : new.answers.failed ≡ false

pub desk_begun : (site : Site) (kept : Retained) (before : List Moment) (old new : Desk) → DesksFor site kept before old
    → IsAnew (tick_of before + 1) old new → DesksFor site kept (Began ∷ before) new
desk_begun site kept before old new h a =
    record {
      number = a.number ∙ h.number;
      counts = λ panel p. ap (λ xs. slice_index xs (panel - 1)) a.counts ∙ zeros 8 (panel - 1) ∙ ap length (sym (none_in site before panel));
      asked = ap requests_from a.asked ∙ sym (none_early site before);
      outcomes =
          record {
            now = a.now;
            unsettled =
                record {
                  waiting_is = ap (λ w. requests_from w.items) a.waiting ∙ h.outcomes.unsettled.waiting_is;
                  older = (operations site kept before).done;
                  done_is = ap (λ ds. with_done (tick_of before + 1) ds (operations site kept before).done) (sym a.done);
                  earlier = each_to _ _ (operations site kept before).done (λ d l. omega (arith, l)) (past_of site kept before).done;
                };
            ops = a.ops ∙ ap (filter_map told_answer) (sym (none_given site before kept));
            few = (let one = ap length a.done in omega (arith, one));
          };
      busy =
          λ panel p. ap (λ xs. slice_index xs (panel - 1)) a.busy ∙ zeros 8 (panel - 1) ∙ ap (busy_count panel) (sym (none_given site before kept));
      idle = λ panel p e. ap (λ xs. slice_index xs (panel - 1)) a.busy ∙ zeros 8 (panel - 1);
      failed = a.failed ∙ sym (none_failed site before kept);
      sized = (ap length a.counts, ap length a.busy);
    }

pub desk_new : (site : Site) (kept : Retained) (new : Desk) → new.tick.0 ≡ 0 → new.number ≡ 0 → new.counts ≡ replicate 8 0 → new.asked.items ≡ []
    → new.waiting.items ≡ [] → new.done.items ≡ [] → new.answers.ops ≡ [] → new.answers.busy ≡ replicate 8 0 → new.answers.failed ≡ false
    → DesksFor site kept [] new
desk_new site kept new now number counts asked waiting done ops busy failed =
    record {
      number = number;
      counts = λ panel p. ap (λ xs. slice_index xs (panel - 1)) counts ∙ zeros 8 (panel - 1);
      asked = ap requests_from asked;
      outcomes =
          record {
            now = now;
            unsettled =
                record {
                  waiting_is = ap requests_from waiting;
                  older = [];
                  done_is = ap (λ ds. with_done 0 ds []) (sym done);
                  earlier = tt;
                };
            ops = ops;
            few = (let one = ap length done in omega (arith, one));
          };
      busy = λ panel p. ap (λ xs. slice_index xs (panel - 1)) busy ∙ zeros 8 (panel - 1);
      idle = λ panel p e. ap (λ xs. slice_index xs (panel - 1)) busy ∙ zeros 8 (panel - 1);
      failed = failed;
      sized = (ap length counts, ap length busy);
    }
