-- The answers of a run's text tell what was done.
use Rattle.std.proofs.Common.{◌≡◌, ℕ, zero, suc, ◌+◌, ◌≤◌, ◌==◌, ◌&&◌, ◌||◌, not, Bool, true, false, List, [], ◌∷◌, length, map}
use Rattle.std.proofs.Common.{Some, slice_get, option_map}
use Rattle.std.proofs.Common.{if◌then◌else◌, inl, inr, refl, sym, ◌∙◌, ap, subst, arith}
use Rattle.std.specs.List.{find, fold, filter_map}
use Rattle.std.proofs.lemmas.Bool.Decides.{eqb_tells}
use Rattle.site_types.specs.declared.retained.Retained.{Retained}
use Rattle.site_types.specs.declared.site.Site.{Site}
use Rattle.site_types.specs.Done.{Done}
use Rattle.face_text.specs.declared.op_answer.OpAnswer.{OpAnswer}
use Rattle.face_text.specs.declared.reply.Reply.{Reply as TextReply}
use Rattle.face_text.specs.declared.reply.Reply.TheVariants.{Done as DoneReply, Denied as DeniedReply}
use Rattle.face_text.specs.declared.step.Step.{Step}
use Rattle.panel_rules.specs.Moments.{IsRun, Moment, TickBlock, moments, tick_of, up_to}
use Rattle.panel_rules.specs.Operations.{Answered, Reply, Request, Busy, Denied, Waiting, Already, Store, WasDone, done_in, operations, requests}
use Rattle.panel_rules.specs.Records.{AreOrdered}
use Rattle.panel_rules.specs.Timeline.{answer_in, answers_now, is_told, step_of, timeline_of, told_answer, told_reply}
use Rattle.panel_rules.specs.Timeline.{told_ticks}
use Rattle.panel_rules.proofs.AnswersTell.{eq_true}
use Rattle.panel_rules.proofs.Bools.{both, parts}
use Rattle.panel_rules.proofs.Places.{found_from, found_in, get_behind}
use Rattle.panel_rules.proofs.RecordRuns.{records_are_runs}
use Rattle.panel_laws.proofs.AnswerLaws.{answered_once, answers_are_to, eq_is, same_request}
use Rattle.panel_laws.proofs.AnswersRise.{found}
use Rattle.panel_laws.proofs.AnswersStay.{answers_stay}
use Rattle.panel_laws.proofs.DueOn.{up_to_is_past}
use Rattle.panel_laws.proofs.Steps.{told_are_steps, up_to_tick}
use Rattle.run_text.specs.Failures.{as_recorded}
use Rattle.run_text.proofs.TickTimes.{tick_moments, up_to_none}
use Rattle.audit_rules.specs.ToldDone.{and_answers_of, request_numbered, tells_done}
use Rattle.audit_laws.specs.DoneTold.{DoneIsTold, IsAmongDone}
use Rattle.audit_laws.proofs.DoneAnswers.{answered_done, done_answered, there_then, answered_in_time}
use Rattle.audit_laws.proofs.MomentsTold.{moments_recorded, requests_same}
use Rattle.audit_laws.proofs.StepsTold.{IsToldBy, IsToldIn, told_from, told_to}
use Rattle.audit_laws.proofs.ZonesJudged.{ended_at}

-- ---- what is found

-- the only one that passes is found
find_only : {X : Type 0} (test : X → Bool) (xs : List X) (place : ℕ) (x : X) → slice_get xs place ≡ Some x → test x ≡ true
    → ((k : ℕ) (y : X) → slice_get xs k ≡ Some y → test y ≡ true → y ≡ x) → find test xs ≡ Some x
find_only test [] place x is t only = cc
find_only {X = X} test (y ∷ xs) place x is t only =
    go (test y) refl place is (λ rest at. find_only test xs rest x at t (λ k z. only (suc k) z))
  where
    go : (b : Bool) → test y ≡ b → (place : ℕ) → slice_get (y ∷ xs) place ≡ Some x
        → ((rest : ℕ) → slice_get xs rest ≡ Some x → find test xs ≡ Some x) → (if b then Some y else find test xs) ≡ Some x
    go true e place is ih = ap Some (only 0 y refl e)
    go false e zero is ih = let same : y ≡ x = cc in let u = sym e ∙ ap test same ∙ t in cc
    go false e (suc place) is ih = ih place is

pub record IsMapped {X Y : Type 0} (f : X → Y) (xs : List X) (y : Y) : Type 0 where
  pub source : X
  pub gives : f source ≡ y

pub map_got : {X Y : Type 0} (f : X → Y) (xs : List X) (k : ℕ) (y : Y) → slice_get (map f xs) k ≡ Some y → IsMapped f xs y
map_got f [] k y h = cc
map_got f (x ∷ xs) zero y h = record { source = x; gives = cc }
map_got f (x ∷ xs) (suc k) y h = let g = map_got f xs k y h in record { source = g.source; gives = g.gives }

pub some_same : {X : Type 0} (x y : X) → Some x ≡ Some y → x ≡ y
some_same x y e = cc

-- an answer that tells `done` was so
pub as_done : (a : Answered) (op : OpAnswer) (reply : Reply) → a.reply ≡ reply
    → option_map (λ (text : TextReply). record { number = a.request.number; reply = text }) (told_reply reply) ≡ Some op → tells_done op.reply ≡ true
    → (a.reply ≡ WasDone) × (a.request.number ≡ op.number)
as_done a op Busy is told tells = cc
as_done a op (Denied needs has) is told tells =
    absurd (no_done (DeniedReply needs has) (some_same _ op told) refl)
  where
    no_done : (text : TextReply) → record { number = a.request.number; reply = text } ≡ op → tells_done text ≡ false → ⊥
    no_done text same none = let e = sym none ∙ ap (λ (o : OpAnswer). tells_done o.reply) same ∙ tells in cc
as_done a op Waiting is told tells = absurd (let e = ap (λ (o : OpAnswer). tells_done o.reply) (some_same _ op told) ∙ tells in cc)
as_done a op Already is told tells = absurd (let e = ap (λ (o : OpAnswer). tells_done o.reply) (some_same _ op told) ∙ tells in cc)
as_done a op Store is told tells = absurd (let e = ap (λ (o : OpAnswer). tells_done o.reply) (some_same _ op told) ∙ tells in cc)
as_done a op WasDone is told tells = (is, ap (λ (o : OpAnswer). o.number) (some_same _ op told))

or_right : (a b : Bool) → b ≡ true → (a || b) ≡ true
or_right true b t = refl
or_right false b t = t

or_left : (a b : Bool) → a ≡ true → (a || b) ≡ true
or_left true b t = refl
or_left false b t = cc

some_long : {X : Type 0} (xs : List X) (k : ℕ) (x : X) → slice_get xs k ≡ Some x → (length xs == 0) ≡ false
some_long [] k x is = cc
some_long (y ∷ xs) k x is = elim (eqb_tells (length (y ∷ xs)) 0) [ inl h ↦ (let e = h.1 in absurd (omega (arith, e))) | inr h ↦ h.0 ]

module _ (site : Site) (kept : Retained) (ticks : List TickBlock) (ordered : AreOrdered site.panels ticks) where
  abbrev all : List Moment
  all = moments ticks

  abbrev asked : List Request
  asked = requests site (moments (as_recorded ticks))

  asked_same : requests site (moments (as_recorded ticks)) ≡ requests site (moments ticks)
  asked_same = ap (requests site) (moments_recorded ticks) ∙ requests_same site (moments ticks)

  run_at : (tick : ℕ) → tick ≤ length ticks → IsRun site.panels (up_to tick (moments ticks))
  run_at tick by = (ended_at site.panels ticks tick ordered by).0

  pub run : IsRun site.panels (moments ticks)
  run = (records_are_runs site.panels ticks ordered).0

  -- ---- what is told was done

  -- an answer by number, and the answer of the run that it tells
  pub record IsOf (tick : ℕ) (op : OpAnswer) : Type 0 where
    pub answer : Answered
    pub place : ℕ
    pub is : slice_get (operations site kept all).answers place ≡ Some answer
    pub tick_is : answer.tick ≡ tick
    pub tells : told_answer answer ≡ Some op

  pub op_of : (t place : ℕ) (op : OpAnswer) → slice_get (filter_map told_answer (answers_now site kept (up_to t all))) place ≡ Some op
      → IsOf (tick_of (up_to t all)) op
  op_of t place op is =
      let from = found_from told_answer (answers_now site kept (up_to t all)) place op is in
      let r =
      found_from (answer_in site kept (tick_of (up_to t all)) (operations site kept (up_to t all)).answers) (requests site (up_to t all)) from.place
      from.source from.is in
      let f = found site kept (operations site kept (up_to t all)).answers (tick_of (up_to t all)) r.source from.source r.gives in
      let stays = (answers_stay site kept (up_to t all) all (up_to_is_past t all)).0 in
      record {
        answer = from.source;
        place = f.place + length stays.newer;
        is =
            ap (λ (xs : List Answered). slice_get xs (f.place + length stays.newer)) stays.is
            ∙ get_behind stays.newer (operations site kept (up_to t all)).answers f.place ∙ f.is;
        tick_is = f.tick_is;
        tells = from.gives;
      }

  -- a number is that of the operation that was answered
  pub numbered_is : (place : ℕ) (a : Answered) → slice_get (operations site kept all).answers place ≡ Some a
      → request_numbered a.request.number asked ≡ Some a.request
  numbered_is place a is =
      let whole = answers_are_to site kept all place a run is in
      find_only (λ (x : Request). x.number == a.request.number) asked whole.place a.request
      (ap (λ (xs : List Request). slice_get xs whole.place) asked_same ∙ whole.asked) (eq_true a.request.number a.request.number refl)
      (λ k y at t. same_request site all k whole.place y a.request (ap (λ (xs : List Request). slice_get xs k) (sym asked_same) ∙ at) whole.asked
      (eq_is y.number a.request.number t))

  told_at : (t : ℕ) (d : Done)
      → IsToldIn asked (tick_of (up_to t all)) (filter_map told_answer (answers_now site kept (up_to t all))) d
      → IsAmongDone d (operations site kept all).done
  told_at t d h =
      let of = op_of t h.place h.op h.is in
      let told = as_done of.answer h.op of.answer.reply refl of.tells h.tells in
      let done = answered_done site kept all of.place of.answer of.is told.0 in
      let same : h.request ≡ of.answer.request =
      some_same h.request of.answer.request
      (sym h.numbered ∙ ap (λ n. request_numbered n asked) (sym told.1) ∙ numbered_is of.place of.answer of.is) in
      subst (λ (x : Done). IsAmongDone x (operations site kept all).done)
      (sym (h.same ∙ ap (done_in (tick_of (up_to t all))) same ∙ ap (λ n. done_in n of.answer.request) (sym of.tick_is))) done

  told_was_done : (d : Done) → IsToldBy asked (timeline_of site kept all).steps d → IsAmongDone d (operations site kept all).done
  told_was_done d h =
      let step = map_got (λ t. step_of site kept (up_to t all)) (told_ticks site kept all) h.place h.step h.is in
      told_at step.source d
      (subst (λ (s : Step). IsToldIn asked s.tick.0 s.answers.ops d) (sym step.gives) h.told)

  -- ---- what was done is told

  low : (t place : ℕ) (a : Answered) → slice_get (operations site kept (up_to t all)).answers place ≡ Some a → 1 ≤ t
  low zero place a is =
      absurd (let e = ap (λ (m : List Moment). slice_get (operations site kept m).answers place) (sym (up_to_none ticks)) ∙ is in cc)
  low (suc t) place a is = omega arith

  -- where the text tells an answer that was `done`
  pub record IsToldAt (a : Answered) : Type 0 where
    pub place : ℕ
    pub step : Step
    pub is : slice_get (timeline_of site kept all).steps place ≡ Some step
    pub at : ℕ
    pub op : OpAnswer
    pub op_is : slice_get step.answers.ops at ≡ Some op
    pub tells : tells_done op.reply ≡ true
    pub numbered : request_numbered op.number asked ≡ Some a.request
    pub tick_is : step.tick.0 ≡ a.tick

  pub told_place : (place : ℕ) (a : Answered) → slice_get (operations site kept all).answers place ≡ Some a → a.reply ≡ WasDone → IsToldAt a
  told_place place a is reply =
      let by = answered_in_time site kept all place a is in
      let long = tick_moments ticks in
      let there = there_then site kept all place a is in
      let now : tick_of (up_to a.tick all) ≡ a.tick = up_to_tick a.tick all by in
      let ended = run_at a.tick (omega (arith, by, long)) in
      let fits = answers_are_to site kept (up_to a.tick all) there.place a ended there.is in
      let look =
      find_only (λ (x : Answered). (x.request.number == a.request.number) && (x.tick == tick_of (up_to a.tick all)))
      (operations site kept (up_to a.tick all)).answers there.place a there.is
      (both (a.request.number == a.request.number) (a.tick == tick_of (up_to a.tick all)) (eq_true a.request.number a.request.number refl)
      (eq_true a.tick (tick_of (up_to a.tick all)) (sym now)))
      (λ k y at t. (let p = parts (y.request.number == a.request.number) (y.tick == tick_of (up_to a.tick all)) t in
      let places = answered_once site kept (up_to a.tick all) k there.place y a ended at there.is (eq_is y.request.number a.request.number p.0) in
      some_same y a (sym at ∙ ap (λ j. slice_get (operations site kept (up_to a.tick all)).answers j) places ∙ there.is))) in
      let given =
      found_in (answer_in site kept (tick_of (up_to a.tick all)) (operations site kept (up_to a.tick all)).answers) (requests site (up_to a.tick all))
      fits.place a.request a fits.asked look in
      let op : OpAnswer = record { number = a.request.number; reply = DoneReply } in
      let tells : told_answer a ≡ Some (record { number = a.request.number; reply = DoneReply }) =
      ap (λ (x : Reply). option_map (λ (text : TextReply). record { number = a.request.number; reply = text }) (told_reply x)) reply in
      let op_is = found_in told_answer (answers_now site kept (up_to a.tick all)) given.place a op given.is tells in
      let told : is_told site kept all a.tick ≡ true =
      or_right _ _ (or_left _ _ (ap not (some_long (answers_now site kept (up_to a.tick all)) given.place a given.is))) in
      let step = told_are_steps site kept all a.tick (low a.tick there.place a there.is) by told in
      let numbered = numbered_is place a is in
      record {
        place = step.0;
        step = step_of site kept (up_to a.tick all);
        is = step.1;
        at = op_is.place;
        op = op;
        op_is = op_is.is;
        tells = refl;
        numbered = numbered;
        tick_is = now;
      }

  answer_told : (place : ℕ) (a : Answered) → slice_get (operations site kept all).answers place ≡ Some a → a.reply ≡ WasDone
      → IsAmongDone (done_in a.tick a.request) (fold (and_answers_of asked) [] (timeline_of site kept all).steps)
  answer_told place a is reply =
      let t = told_place place a is reply in
      subst (λ n. IsAmongDone (done_in n a.request) (fold (and_answers_of asked) [] (timeline_of site kept all).steps)) t.tick_is
      (told_to asked (timeline_of site kept all).steps [] t.place t.step t.at t.op a.request t.is t.op_is t.tells t.numbered)

  done_was_told : (d : Done) → IsAmongDone d (operations site kept all).done
      → IsAmongDone d (fold (and_answers_of asked) [] (timeline_of site kept all).steps)
  done_was_told d h =
      let x = done_answered site kept all d h in
      subst (λ (y : Done). IsAmongDone y (fold (and_answers_of asked) [] (timeline_of site kept all).steps)) (sym x.same)
      (answer_told x.place x.answer x.is x.reply)

pub done_told : DoneIsTold
done_told site kept ticks d ordered = (
  (λ h. told_was_done site kept ticks ordered d
      (told_from (requests site (moments (as_recorded ticks))) (timeline_of site kept (moments ticks)).steps d h)),
  (λ h. done_was_told site kept ticks ordered d h),
)
