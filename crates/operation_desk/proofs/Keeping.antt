-- A turn of Keep: those that wait, one after another.
use Rattle.std.proofs.Common.{◌≡◌, ℕ, zero, suc, ◌+◌, ◌-◌, ◌≤◌, ◌<◌, ◌==◌, ◌&&◌, Bool, true, false, List, [], ◌∷◌}
use Rattle.std.proofs.Common.{length, map, take, Some, None, slice_get, if◌then◌else◌, refl, sym, ◌∙◌, ap}
use Rattle.std.proofs.Common.{subst, arith}
use Rattle.std.specs.Prelude.{slice_index}
use Rattle.std.specs.List.{AllByRecursion}
use Rattle.std.proofs.lemmas.List.{take_all}
use Rattle.std.proofs.lemmas.List.Sums.{fold-append}
use Rattle.face_text.specs.declared.reply.Reply.{Reply}
use Rattle.site_types.specs.declared.retained.Retained.{Retained}
use Rattle.site_types.specs.declared.site.Site.{Site}
use Rattle.site_types.specs.declared.operation.Operation.TheVariants.{Mute}
use Rattle.site_types.specs.Done.{Done}
use Rattle.panel_rules.specs.Moments.{Moment, Began, Happened, Turned, Kept, has_kept, tick_of}
use Rattle.panel_rules.specs.Operations.{Answered, Operations, Request as RequestOf, answer_all, do_all, done_in}
use Rattle.panel_rules.specs.Operations.{keep_reply, operations, requests}
use Rattle.panel_rules.specs.Timeline.{answer_in, busy_count, failed_now, is_busy}
use Rattle.panel_rules.proofs.Counting.{count, each_at, one}
use Rattle.panel_rules.proofs.AnswersTell.{eq_true}
use Rattle.operation_desk.specs.declared.desk.Desk.{Desk}
use Rattle.operation_desk.specs.declared.done_operation.DoneOperation.{DoneOperation}
use Rattle.operation_desk.specs.declared.request.Request.{Request}
use Rattle.operation_desk.specs.Changes.{HasAnswered, HasSameRest, answered_so_far}
use Rattle.operation_desk.specs.Ordered.{put_by_number}
use Rattle.operation_desk.specs.Replies.{numbered_reply, done_with, kept_reply}
use Rattle.operation_desk.specs.Requests.{with_done, reply_from, request_from, requests_from}
use Rattle.operation_desk.specs.Stands.{DesksFor, MayTakeKeepTurn, TellsOutcomes, given_in, told_in}
use Rattle.operation_desk.proofs.Begun.{none_failed}
use Rattle.operation_desk.proofs.Bounds.{CanGoOn, IsInTime, IsWaiting, can_go_on, few_answers, few_of_run, none_among}
use Rattle.operation_desk.proofs.Given.{busy_more}
use Rattle.operation_desk.proofs.Places.{taken_next}
use Rattle.operation_desk.proofs.Taking.{answered_with, done_more, given, outcomes_then, room_then}

-- some operation
abbrev pub any_request : Request
any_request = record { number = 0; tick = record { 0 = 0 }; panel = 0; earlier = 0; level = 0; operation = Mute }

-- the answer, as the rules have it
reply_kept : (failed : Bool) → reply_from (kept_reply failed) ≡ keep_reply failed
reply_kept true = refl
reply_kept false = refl

never_busy : (failed : Bool) → is_busy (keep_reply failed) ≡ false
never_busy true = refl
never_busy false = refl

-- ---- answers to those that wait

count_all : (test : RequestOf → Bool) (tick : ℕ) (failed : Bool) (waiting : List RequestOf) (answers : List Answered)
    → count (λ (a : Answered). test a.request) (answer_all tick failed waiting answers)
    ≡ count test waiting + count (λ (a : Answered). test a.request) answers
count_all test tick failed [] answers = omega arith
count_all test tick failed (r ∷ waiting) answers =
    let ih = count_all test tick failed waiting (record { request = r; tick = tick; reply = keep_reply failed } ∷ answers) in
    omega (arith, ih)

in_time : (asked : List RequestOf) (tick : ℕ) (failed : Bool) (waiting : List RequestOf) (answers : List Answered)
    → AllByRecursion (IsWaiting asked tick) waiting → AllByRecursion (IsInTime asked tick) answers
    → AllByRecursion (IsInTime asked tick) (answer_all tick failed waiting answers)
in_time asked tick failed [] answers waits all = all
in_time asked tick failed (r ∷ waiting) answers waits all =
    in_time asked tick failed waiting (record { request = r; tick = tick; reply = keep_reply failed } ∷ answers) waits.1
    (record { from = waits.0.from; soon = λ at free. waits.0.soon }, all)

front_of : {X : Type 0} (P : X → Type 0) (n : ℕ) (xs : List X) → AllByRecursion P xs → AllByRecursion P (take n xs)
front_of P zero xs all = tt
front_of P (suc n) [] all = tt
front_of P (suc n) (x ∷ xs) all = (all.0, front_of P n xs all.1)

-- ---- one of them

module _ (site : Site) (kept : Retained) (failed : Bool) (before : List Moment) (old : Desk) (h : DesksFor site kept before old) (m :
    MayTakeKeepTurn site failed before) where
  abbrev all : List RequestOf
  all = requests site before

  abbrev tick : ℕ
  tick = tick_of before

  abbrev start : Operations
  start = operations site kept before

  abbrev so_many : ℕ → Operations
  so_many n = answered_so_far tick failed n start

  on : CanGoOn all tick start
  on = can_go_on site kept before m.valid m.run.0 m.of

  count_place : (test : RequestOf → Bool) (xs : List RequestOf) (k : ℕ) (x : RequestOf) → slice_get xs k ≡ Some x → test x ≡ true
      → count test (take k xs) + 1 ≤ count test xs
  count_place test [] k x e t = cc
  count_place test (y ∷ xs) zero x e t = let s : y ≡ x = cc in let here : test y ≡ true = ap test s ∙ t in rw here (omega arith)
  count_place test (y ∷ xs) (suc k) x e t = let ih = count_place test xs k x e t in omega (arith, ih)

  module _ (n : ℕ) (request : Request) (at : slice_get old.waiting.items n ≡ Some request) where
    waits_at : slice_get start.waiting n ≡ Some (request_from request)
    waits_at = ap (λ xs. slice_get xs n) (sym h.outcomes.unsettled.waiting_is) ∙ mapped old.waiting.items n at
      where
        mapped : (ys : List Request) (k : ℕ) → slice_get ys k ≡ Some request → slice_get (map request_from ys) k ≡ Some (request_from request)
        mapped [] k e = cc
        mapped (y ∷ ys) zero e = let s : y ≡ request = cc in ap (λ z. Some (request_from z)) s
        mapped (y ∷ ys) (suc k) e = mapped ys k e

    waiting_is : IsWaiting all tick (request_from request)
    waiting_is = each_at (IsWaiting all tick) start.waiting n (request_from request) on.waiting waits_at

    unanswered : answer_in site kept tick (so_many n).answers (request_from request) ≡ None
    unanswered =
        none_among site kept all tick (few_of_run site before tick) (so_many n).answers (request_from request)
        (let test : RequestOf → Bool = λ (x : RequestOf). x.number == request.number in
        let o = on.once request.number in
        let c = count_all test tick failed (take n start.waiting) start.answers in
        let p = count_place test start.waiting n (request_from request) waits_at (eq_true request.number request.number refl) in
        omega (arith, o, c, p))

    one_done : List Done
    one_done = if failed then (so_many n).done else done_in tick (request_from request) ∷ (so_many n).done

    -- what became of them then
    next : so_many (n + 1) ≡ answered_with site kept all tick (few_of_run site before tick).numbered request (kept_reply failed)
        (if failed then (so_many n).done else done_in tick (request_from request) ∷ (so_many n).done) (so_many n)
    next = go failed refl
      where
        answers_next : (f : Bool) → answer_all tick f (take (n + 1) start.waiting) start.answers
            ≡ given tick request (kept_reply f) ∷ answer_all tick f (take n start.waiting) start.answers
        answers_next f =
            ap (λ xs. answer_all tick f xs start.answers) (taken_next start.waiting n (request_from request) waits_at)
            ∙ fold-append (λ (before : List Answered) (r : RequestOf). (let a : Answered = record { request = r; tick = tick; reply = keep_reply f } in a)
            ∷ before) start.answers (take n start.waiting) (request_from request ∷ [])
            ∙ ap (λ x. (let a : Answered = record { request = request_from request; tick = tick; reply = x } in a)
            ∷ answer_all tick f (take n start.waiting) start.answers) (sym (reply_kept f))

        done_next : do_all tick (take (n + 1) start.waiting) start.done
            ≡ done_in tick (request_from request) ∷ do_all tick (take n start.waiting) start.done
        done_next =
            ap (λ xs. do_all tick xs start.done) (taken_next start.waiting n (request_from request) waits_at)
            ∙ fold-append (λ (before : List Done) (r : RequestOf). done_in tick r ∷ before) start.done (take n start.waiting) (request_from request ∷ [])

        go : (f : Bool) → failed ≡ f → answered_so_far tick f (n + 1) start
            ≡ answered_with site kept all tick (few_of_run site before tick).numbered request (kept_reply f)
            (if f then (answered_so_far tick f n start).done else done_in tick (request_from request) ∷ (answered_so_far tick f n start).done)
            (answered_so_far tick f n start)
        go true e = ap (λ xs. (let o : Operations = record start { answers = xs; done = start.done } in o)) (answers_next true)
        go false e =
            ap (λ xs. (let o : Operations = record start { answers = xs; done = do_all tick (take (n + 1) start.waiting) start.done } in o))
            (answers_next false)
            ∙ ap (λ ds. (let o : Operations = record start {
              answers = given tick request (kept_reply false) ∷ answer_all tick false (take n start.waiting) start.answers;
              done = ds;
            } in o)) done_next

    grows : (f : Bool) (so_far : List Done) (done : List DoneOperation) (older : List Done) → so_far ≡ with_done tick done older
        → (if f then so_far else done_in tick (request_from request) ∷ so_far) ≡ with_done tick (done_with request (kept_reply f) done) older
    grows true so_far done older is = is
    grows false so_far done older is =
        ap (λ ds. done_in tick (request_from request) ∷ ds) is
        ∙ sym (done_more tick done (record { panel = request.panel; operation = request.operation }) older)

    answers_then : AllByRecursion (IsInTime all tick) (given tick request (kept_reply failed) ∷ (so_many n).answers)
    answers_then = (
      record { from = waiting_is.from; soon = λ e free. waiting_is.soon },
      in_time all tick failed (take n start.waiting) start.answers (front_of (IsWaiting all tick) n start.waiting on.waiting) on.answers,
    )

    pub room_kept : (desk : Desk) → HasAnswered site kept failed n before desk → length desk.answers.ops < 64
    room_kept desk told =
        room_then site kept all tick (few_of_run site before tick).numbered request (kept_reply failed) (so_many n) waiting_is.from.place
        waiting_is.from.is unanswered desk.answers.ops told.told.ops
        (few_answers site kept all tick (few_of_run site before tick) (given tick request (kept_reply failed) ∷ (so_many n).answers) answers_then)

    answered_by : (desk new : Desk) → HasAnswered site kept failed n before desk
        → new.answers.ops ≡ put_by_number (numbered_reply request (kept_reply failed)) desk.answers.ops
        → new.done.items ≡ done_with request (kept_reply failed) desk.done.items → new.waiting ≡ desk.waiting → HasSameRest desk new
        → HasAnswered site kept failed (n + 1) before new
    answered_by desk new told ops done waiting rest =
        record {
          told =
              subst (λ (o : Operations). TellsOutcomes site kept all tick o new) (sym next)
              (outcomes_then site kept all tick (few_of_run site before tick).numbered request (kept_reply failed) (so_many n) waiting_is.from.place
              waiting_is.from.is unanswered (if failed then (so_many n).done else done_in tick (request_from request) ∷ (so_many n).done) desk new
              told.told (grows failed (so_many n).done) ops done waiting rest);
          busy =
              λ panel. ap (λ (o : Operations). busy_count panel (given_in site kept tick o.answers all)) next
              ∙ (let more =
              busy_more site kept tick (so_many n).answers (given tick request (kept_reply failed)) all waiting_is.from.place
              (few_of_run site before tick).numbered waiting_is.from.is refl unanswered panel in
              let none = not_busy panel in
              let so_far = told.busy panel in
              omega (arith, more, none, so_far));
        }
      where
        shut : (b : Bool) → one (b && false) ≡ 0
        shut true = refl
        shut false = refl

        not_busy : (panel : ℕ) → one ((request.panel == panel) && is_busy (reply_from (kept_reply failed))) ≡ 0
        not_busy panel =
            ap (λ r. one ((request.panel == panel) && is_busy r)) (reply_kept failed)
            ∙ ap (λ b. one ((request.panel == panel) && b)) (never_busy failed) ∙ shut (request.panel == panel)

    pub answered_more : (desk new : Desk) (reply : Reply) → HasAnswered site kept failed n before desk → reply ≡ kept_reply failed
        → new.answers.ops ≡ put_by_number (numbered_reply request reply) desk.answers.ops
        → new.done.items ≡ done_with request reply desk.done.items → new.waiting ≡ desk.waiting → HasSameRest desk new
        → HasAnswered site kept failed (n + 1) before new
    answered_more desk new reply told says ops done waiting rest =
        answered_by desk new told (ops ∙ ap (λ r. put_by_number (numbered_reply request r) desk.answers.ops) says)
        (done ∙ ap (λ r. done_with request r desk.done.items) says) waiting rest

  -- ---- all of them

  not_failed : (moments : List Moment) → has_kept moments ≡ false → failed_now site kept moments ≡ false
  not_failed [] e = cc
  not_failed (Began ∷ earlier) e = none_failed site earlier kept
  not_failed (Happened event ∷ earlier) e = not_failed earlier e
  not_failed (Turned panel task ∷ earlier) e = not_failed earlier e
  not_failed (Kept f ∷ earlier) e = cc

  failed_then : (f : Bool) → f ≡ failed_now site kept (Kept f ∷ before)
  failed_then true = sym (rw (eq_true tick tick refl) refl)
  failed_then false = sym (not_failed before m.run.1)

  pub desk_kept : (mid new : Desk) → HasAnswered site kept failed (length start.waiting) before mid → HasSameRest old mid
      → new.tick ≡ mid.tick → new.number ≡ mid.number → new.counts ≡ mid.counts → new.asked ≡ mid.asked → new.waiting.items ≡ []
      → new.done ≡ mid.done → new.answers.ops ≡ mid.answers.ops → new.answers.busy ≡ mid.answers.busy → new.answers.failed ≡ failed
      → DesksFor site kept (Kept failed ∷ before) new
  desk_kept mid new told rest now number counts asked waiting done ops busy fails =
      record {
        number = number ∙ rest.number ∙ h.number;
        counts = λ q p. ap (λ xs. slice_index xs (q - 1)) (counts ∙ rest.counts) ∙ h.counts q p;
        asked = ap (λ a. requests_from a.items) (asked ∙ rest.asked) ∙ h.asked;
        outcomes =
            record {
              now = ap (λ t. t.0) now ∙ told.told.now;
              unsettled =
                  record {
                    waiting_is = ap requests_from waiting;
                    older = told.told.unsettled.older;
                    done_is =
                        done_all failed ∙ told.told.unsettled.done_is ∙ ap (λ d. with_done tick d.items told.told.unsettled.older) (sym done);
                    earlier = told.told.unsettled.earlier;
                  };
              ops = ops ∙ told.told.ops ∙ ap (λ xs. told_in site kept tick xs all) (sym answers_all);
              few =
                  (let one = ap (λ d. length d.items) done in
                  let two = ap length ops in
                  let three = told.told.few in
                  omega (arith, one, two, three));
            };
        busy =
            λ q p. ap (λ xs. slice_index xs (q - 1)) (busy ∙ rest.busy) ∙ h.busy q p ∙ sym (told.busy q)
            ∙ ap (λ xs. busy_count q (given_in site kept tick xs all)) (sym answers_all);
        idle = λ q p e. ap (λ xs. slice_index xs (q - 1)) (busy ∙ rest.busy) ∙ h.idle q p e;
        failed = fails ∙ failed_then failed;
        sized = (ap length (counts ∙ rest.counts) ∙ h.sized.0, ap length (busy ∙ rest.busy) ∙ h.sized.1);
      }
    where
      whole : take (length start.waiting) start.waiting ≡ start.waiting
      whole = take_all (length start.waiting) start.waiting (omega arith)

      answers_all : answer_all tick failed start.waiting start.answers ≡ (so_many (length start.waiting)).answers
      answers_all = ap (λ xs. answer_all tick failed xs start.answers) (sym whole)

      done_all : (f : Bool) → (if f then start.done else do_all tick start.waiting start.done) ≡ (answered_so_far tick f (length start.waiting) start).done
      done_all true = refl
      done_all false = ap (λ xs. do_all tick xs start.done) (sym whole)
