-- What became of operations leaves room for one answer more: each is answered once, and few are told in a tick.
use Rattle.std.proofs.Common.{◌≡◌, ℕ, ◌≤◌, ◌==◌, List, [], ◌∷◌, ◌++◌, length, Option, Some, None, Bool, true, false}
use Rattle.std.proofs.Common.{slice_get, refl, sym, ◌∙◌, ap, subst, arith}
use Rattle.std.specs.List.{AllByRecursion}
use Rattle.site_types.specs.declared.retained.Retained.{Retained}
use Rattle.site_types.specs.declared.site.Site.{Site}
use Rattle.site_types.specs.Valid.{IsValid}
use Rattle.panel_rules.specs.Moments.{Moment, IsRun, has_kept, tick_of}
use Rattle.panel_rules.specs.Operations.{Answered, Operations, Reply, Request, after_desk, after_reply}
use Rattle.panel_rules.specs.Operations.{after_request, desk_reply}
use Rattle.panel_rules.specs.Operations.{operations, requests}
use Rattle.panel_rules.specs.Timeline.{answer_in, is_busy}
use Rattle.panel_rules.proofs.Answering.{numbered_by_place, times, times_desk}
use Rattle.panel_rules.proofs.Counting.{count, count-some, each_at, each_by, each_to}
use Rattle.panel_rules.proofs.OpenRequests.{answered_few}
use Rattle.panel_rules.proofs.AnswersTell.{eq_true}
use Rattle.panel_laws.specs.OperationLaws.{AreOfSite}
use Rattle.panel_laws.proofs.AnswerLaws.{Fits, IsAsked, Waits, numbered_once, owed, sound}
use Rattle.panel_laws.proofs.AnswersFit.{IsEarly, IsFit, answers_fit}
use Rattle.panel_laws.proofs.AnswersRise.{found, told_in_time}
use Rattle.panel_laws.proofs.FewAnswers.{can_be_told, few_asked, told_few}
use Rattle.operation_desk.specs.Stands.{AreNumberedByPlace, told_in}

-- an answer is to one that was asked for; one of the tick that isn't busy, to one of this tick or the last
pub record IsInTime (asked : List Request) (tick : ℕ) (a : Answered) : Type 0 where
  pub from : IsAsked asked a.request
  pub soon : a.tick ≡ tick → is_busy a.reply ≡ false → can_be_told tick a.request ≡ true

pub record IsWaiting (asked : List Request) (tick : ℕ) (r : Request) : Type 0 where
  pub from : IsAsked asked r
  pub soon : can_be_told tick r ≡ true

-- what became of those that were asked for until a tick
pub record CanGoOn (asked : List Request) (tick : ℕ) (so_far : Operations) : Type 0 where
  pub once : (n : ℕ) → times (λ (r : Request). r.number == n) so_far ≤ 1
  pub few : times (can_be_told tick) so_far ≤ 64
  pub answers : AllByRecursion (IsInTime asked tick) so_far.answers
  pub waiting : AllByRecursion (IsWaiting asked tick) so_far.waiting

-- ---- it holds in each run

module _ (site : Site) (kept : Retained) (moments : List Moment) (valid : IsValid site) (run : IsRun site.panels moments) (of :
    AreOfSite site moments) where
  abbrev asked_of : List Request
  asked_of = requests site moments

  abbrev now_of : ℕ
  now_of = tick_of moments

  abbrev became : Operations
  became = operations site kept moments

  once_of : (n : ℕ) → times (λ (r : Request). r.number == n) became ≤ 1
  once_of n =
      let h = answered_few site kept (λ (r : Request). r.number == n) moments run in
      let l = numbered_once n asked_of 0 (λ k r e. (let m = numbered_by_place site moments k r e in omega (arith, m))) in
      omega (arith, h, l)

  few_panels : site.panels ≤ 8
  few_panels = valid.forms.panels.1

  answer_in_time : (k : ℕ) (a : Answered) → slice_get became.answers k ≡ Some a → IsInTime asked_of now_of a
  answer_in_time k a is =
      let f = each_at (Fits asked_of) became.answers k a (sound site kept moments run).answers is in
      let e = each_at IsFit became.answers k a (answers_fit site kept moments).answers is in
      let own = (of f.from.place a.request f.from.is).0 in
      let few = few_panels in
      let after = f.after in
      let soon = f.soon in
      record {
        from = f.from;
        soon =
            λ at free. told_in_time now_of a.request own.0 (omega (arith, own.1, few)) (e.early free) (omega (arith, after, at))
            (omega (arith, soon, at));
      }

  owed_few : (b : Bool) → owed b ≤ 1
  owed_few true = omega arith
  owed_few false = omega arith

  waits_in_time : (k : ℕ) (r : Request) → slice_get became.waiting k ≡ Some r → IsWaiting asked_of now_of r
  waits_in_time k r is =
      let w = each_at (Waits asked_of now_of (has_kept moments)) became.waiting k r (sound site kept moments run).waiting is in
      let e = each_at IsEarly became.waiting k r (answers_fit site kept moments).waiting is in
      let own = (of w.from.place r w.from.is).0 in
      let few = few_panels in
      let by = w.by in
      let soon = w.soon in
      let one = owed_few (has_kept moments) in
      record {
        from = w.from;
        soon = told_in_time now_of r own.0 (omega (arith, own.1, few)) e by (omega (arith, soon, one));
      }

  pub can_go_on : CanGoOn asked_of now_of became
  can_go_on = record {
    once = once_of;
    few =
        (let h = answered_few site kept (can_be_told now_of) moments run in
        let l = few_asked site moments now_of in
        omega (arith, h, l));
    answers = each_by (IsInTime asked_of now_of) became.answers answer_in_time;
    waiting = each_by (IsWaiting asked_of now_of) became.waiting waits_in_time;
  }

-- ---- and before the last of some operations that Desk took

front_each : {X : Type 0} (P : X → Type 0) (xs ys : List X) → AllByRecursion P (xs ++ ys) → AllByRecursion P xs
front_each P [] ys all = tt
front_each P (x ∷ xs) ys all = (all.0, front_each P xs ys all.1)

module _ (asked : List Request) (tick : ℕ) where
  back_answers : (r : Request) (so_far : Operations) (reply : Option Reply)
      → AllByRecursion (IsInTime asked tick) (after_reply r so_far reply).answers → AllByRecursion (IsInTime asked tick) so_far.answers
  back_answers r so_far None h = h
  back_answers r so_far (Some reply) h = h.1

  back_waiting : (r : Request) (so_far : Operations) (reply : Option Reply)
      → AllByRecursion (IsWaiting asked tick) (after_reply r so_far reply).waiting → AllByRecursion (IsWaiting asked tick) so_far.waiting
  back_waiting r so_far None h = front_each (IsWaiting asked tick) so_far.waiting (r ∷ []) h
  back_waiting r so_far (Some reply) h = h

  go_back : (site : Site) (kept : Retained) (r : Request) (so_far : Operations) → CanGoOn asked tick (after_request site kept so_far r)
      → CanGoOn asked tick so_far
  go_back site kept r so_far h = record {
    once =
        λ n. (let t = times_desk (λ (x : Request). x.number == n) site kept (r ∷ []) so_far in let l = h.once n in omega (arith, t, l));
    few = (let t = times_desk (can_be_told tick) site kept (r ∷ []) so_far in let l = h.few in omega (arith, t, l));
    answers = back_answers r so_far (desk_reply site kept r so_far) h.answers;
    waiting = back_waiting r so_far (desk_reply site kept r so_far) h.waiting;
  }

  pub can_go_back : (site : Site) (kept : Retained) (rest : List Request) (so_far : Operations)
      → CanGoOn asked tick (after_desk site kept rest so_far) → CanGoOn asked tick so_far
  can_go_back site kept [] so_far h = h
  can_go_back site kept (r ∷ rest) so_far h =
      go_back site kept r so_far (can_go_back site kept rest (after_request site kept so_far r) h)

-- ---- few are told, few wait

pub record AreFewAsked (asked : List Request) (tick : ℕ) : Type 0 where
  pub numbered : AreNumberedByPlace 0 asked
  pub few : count (can_be_told tick) asked ≤ 64

pub few_of_run : (site : Site) (moments : List Moment) (tick : ℕ) → AreFewAsked (requests site moments) tick
few_of_run site moments tick = record {
  numbered = λ k r is. (let m = numbered_by_place site moments k r is in omega (arith, m));
  few = few_asked site moments tick;
}

-- one number, one operation
pub same_asked : (asked : List Request) (tick : ℕ) (i j : ℕ) (r x : Request) → AreFewAsked asked tick → slice_get asked i ≡ Some r
    → slice_get asked j ≡ Some x → r.number ≡ x.number → r ≡ x
same_asked asked tick i j r x few is is' same =
    let one = few.numbered i r is in
    let two = few.numbered j x is' in
    let place : i ≡ j = omega (arith, one, two, same) in
    let at : Some r ≡ Some x = sym is ∙ ap (slice_get asked) place ∙ is' in
    cc

module _ (site : Site) (kept : Retained) (asked : List Request) (tick : ℕ) (few : AreFewAsked asked tick) where
  pub few_answers : (answers : List Answered) → AllByRecursion (IsInTime asked tick) answers → length (told_in site kept tick answers asked) ≤ 64
  few_answers answers all =
      let l = told_few (answer_in site kept tick answers) (can_be_told tick) asked passes in
      let m = few.few in
      omega (arith, l, m)
    where
      passes : (k : ℕ) (r : Request) (a : Answered) → slice_get asked k ≡ Some r → answer_in site kept tick answers r ≡ Some a
          → is_busy a.reply ≡ false → can_be_told tick r ≡ true
      passes k r a is e free =
          let f = found site kept answers tick r a e in
          let t = each_at (IsInTime asked tick) answers f.place a all f.is in
          let same = same_asked asked tick t.from.place k a.request r few t.from.is is f.number in
          subst (λ (x : Request). can_be_told tick x ≡ true) same (t.soon f.tick_is free)

  -- one that has yet to be answered has no answer
  pub none_among : (answers : List Answered) (r : Request) → count (λ (a : Answered). a.request.number == r.number) answers ≡ 0
      → answer_in site kept tick answers r ≡ None
  none_among answers r unanswered = go (answer_in site kept tick answers r) refl
    where
      go : (o : Option Answered) → answer_in site kept tick answers r ≡ o → o ≡ None
      go None e = refl
      go (Some a) e =
          let f = found site kept answers tick r a e in
          let some = count-some (λ (x : Answered). x.request.number == r.number) answers f.place a f.is (eq_true a.request.number r.number f.number) in
          absurd (omega (arith, some, unanswered))

  module _ (so_far : Operations) (on : CanGoOn asked tick so_far) where
    pub few_told : length (told_in site kept tick so_far.answers asked) ≤ 64
    few_told = few_answers so_far.answers on.answers

    pub few_waiting : length so_far.waiting ≤ 64
    few_waiting =
        let whole = all_counted (can_be_told tick) so_far.waiting (each_to (IsWaiting asked tick) (λ r. can_be_told tick r ≡ true) so_far.waiting
        (λ r w. w.soon) on.waiting) in
        let l = on.few in
        omega (arith, whole, l)
      where
        all_counted : (test : Request → Bool) (xs : List Request) → AllByRecursion (λ r. test r ≡ true) xs → count test xs ≡ length xs
        all_counted test [] all = refl
        all_counted test (x ∷ xs) all = let ih = all_counted test xs all.1 in rw all.0 (omega (arith, ih))

    pub none_yet : (r : Request) → times (λ (x : Request). x.number == r.number) so_far ≡ 0 → answer_in site kept tick so_far.answers r ≡ None
    none_yet r unanswered = none_among so_far.answers r (omega (arith, unanswered))
