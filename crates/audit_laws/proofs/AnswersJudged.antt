-- No answer of a run's text is unfounded.
use Rattle.std.proofs.Common.{◌≡◌, ℕ, zero, suc, ◌+◌, ◌≤◌, ◌<◌, ◌++◌, ◌==◌, ◌&&◌, ◌||◌, not, Bool, true, false, List, [], ◌∷◌, length}
use Rattle.std.proofs.Common.{Some, slice_get, inl, inr, refl, sym, ◌∙◌, ap, subst, arith}
use Rattle.std.specs.Prelude.{nat_le, option_map}
use Rattle.std.specs.List.{list_any}
use Rattle.std.proofs.lemmas.Bool.Decides.{leb_tells}
use Rattle.site_types.specs.declared.retained.Retained.{Retained}
use Rattle.site_types.specs.declared.site.Site.{Site}
use Rattle.face_text.specs.declared.op_answer.OpAnswer.{OpAnswer}
use Rattle.face_text.specs.declared.reply.Reply.{Reply as TextReply}
use Rattle.face_text.specs.declared.step.Step.{Step}
use Rattle.panel_rules.specs.Moments.{TickBlock, moments, tick_of, up_to}
use Rattle.panel_rules.specs.Operations.{Answered, Reply, Request, Busy, Denied, Waiting, Already, Store, WasDone, operations, requests}
use Rattle.panel_rules.specs.Records.{AreOrdered}
use Rattle.panel_rules.specs.Timeline.{step_of, timeline_of, told_reply, told_ticks}
use Rattle.panel_rules.proofs.Places.{get_behind, get_front}
use Rattle.panel_laws.specs.TimelineLaws.{AreRising}
use Rattle.panel_laws.proofs.AnswerLaws.{answered_once, answers_are_to, eq_is}
use Rattle.panel_laws.proofs.Steps.{rise}
use Rattle.run_text.specs.Failures.{as_recorded}
use Rattle.audit_rules.specs.Answering.{is_beyond_level, is_unfounded, was_answered, was_asked_by}
use Rattle.audit_rules.specs.ToldDone.{request_numbered, tells_done}
use Rattle.audit_laws.specs.AnswersJudged.{AnswerRuleIsKept}
use Rattle.audit_laws.proofs.DoneTold.{IsOf, as_done, map_got, numbered_is, op_of, run, some_same}
use Rattle.audit_laws.proofs.Levels.{done_with_right}

-- ---- places in a list

pub record Passes {X : Type 0} (test : X → Bool) (xs : List X) : Type 0 where
  pub place : ℕ
  pub item : X
  pub is : slice_get xs place ≡ Some item
  pub passes : test item ≡ true

pub any_got : {X : Type 0} (test : X → Bool) (xs : List X) → list_any test xs ≡ true → Passes test xs
any_got test [] h = cc
any_got {X = X} test (x ∷ xs) h = by (test x) refl h (λ e. any_got test xs e)
  where
    by : (b : Bool) → test x ≡ b → (b || list_any test xs) ≡ true → (list_any test xs ≡ true → Passes test xs) → Passes test (x ∷ xs)
    by true e h ih = record { place = 0; item = x; is = refl; passes = e }
    by false e h ih = let g = ih h in record { place = suc g.place; item = g.item; is = g.is; passes = g.passes }

got_few : {X : Type 0} (xs : List X) (k : ℕ) (x : X) → slice_get xs k ≡ Some x → k < length xs
got_few [] k x h = cc
got_few (y ∷ xs) zero x h = omega arith
got_few (y ∷ xs) (suc k) x h = let ih = got_few xs k x h in omega (arith, ih)

-- steps after a tick are later
later_than : (before last : ℕ) (steps : List Step) (k : ℕ) (step : Step) → AreRising before last steps → slice_get steps k ≡ Some step
    → before < step.tick.0
later_than before last [] k step rising is = cc
later_than before last (s ∷ steps) zero step rising is =
    let same : s ≡ step = cc in let ticks = ap (λ (x : Step). x.tick.0) same in let l = rising.0 in omega (arith, ticks, l)
later_than before last (s ∷ steps) (suc k) step rising is =
    let ih = later_than s.tick.0 last steps k step rising.1 is in let l = rising.0 in omega (arith, ih, l)

in_order : (before last : ℕ) (steps : List Step) (i j : ℕ) (one other : Step) → AreRising before last steps → slice_get steps i ≡ Some one
    → slice_get steps j ≡ Some other → i < j → one.tick.0 < other.tick.0
in_order before last [] i j one other rising is also l = cc
in_order before last (s ∷ steps) zero zero one other rising is also l = absurd (omega (arith, l))
in_order before last (s ∷ steps) zero (suc j) one other rising is also l =
    let same : s ≡ one = cc in
    let ticks = ap (λ (x : Step). x.tick.0) same in
    let m = later_than s.tick.0 last steps j other rising.1 also in omega (arith, ticks, m)
in_order before last (s ∷ steps) (suc i) zero one other rising is also l = absurd (omega (arith, l))
in_order before last (s ∷ steps) (suc i) (suc j) one other rising is also l =
    in_order s.tick.0 last steps i j one other rising.1 is also (omega (arith, l))

-- ---- an answer by number has the number of its operation

pub number_by : (a : Answered) (op : OpAnswer) (reply : Reply)
    → option_map (λ (text : TextReply). record { number = a.request.number; reply = text }) (told_reply reply) ≡ Some op
    → a.request.number ≡ op.number
number_by a op Busy told = cc
number_by a op (Denied needs has) told = ap (λ (o : OpAnswer). o.number) (some_same _ op told)
number_by a op Waiting told = ap (λ (o : OpAnswer). o.number) (some_same _ op told)
number_by a op Already told = ap (λ (o : OpAnswer). o.number) (some_same _ op told)
number_by a op Store told = ap (λ (o : OpAnswer). o.number) (some_same _ op told)
number_by a op WasDone told = ap (λ (o : OpAnswer). o.number) (some_same _ op told)

founded : (asked answered done beyond : Bool) → asked ≡ true → (answered ≡ true → ⊥) → (done ≡ true → beyond ≡ true → ⊥)
    → (not asked || (answered || (done && beyond))) ≡ true → ⊥
founded false answered done beyond a b c h = cc
founded true true done beyond a b c h = b refl
founded true false true true a b c h = c refl refl
founded true false true false a b c h = cc
founded true false false beyond a b c h = cc

module _ (site : Site) (kept : Retained) (ticks : List TickBlock) (ordered : AreOrdered site.panels ticks) where
  abbrev steps : List Step
  steps = (timeline_of site kept (moments ticks)).steps

  abbrev asked : List Request
  asked = requests site (moments (as_recorded ticks))

  -- an answer of a step
  pub of_step : (k : ℕ) (step : Step) → slice_get steps k ≡ Some step → (place : ℕ) (op : OpAnswer) → slice_get step.answers.ops place ≡ Some op
      → IsOf site kept ticks ordered step.tick.0 op
  of_step k step is place op op_is =
      let s = map_got (λ t. step_of site kept (up_to t (moments ticks))) (told_ticks site kept (moments ticks)) k step is in
      subst (λ (x : Step). slice_get x.answers.ops place ≡ Some op → IsOf site kept ticks ordered x.tick.0 op) s.gives
      (op_of site kept ticks ordered s.source place op) op_is

  -- two answers of one number are of one tick
  one_tick : (tick other : ℕ) (op more : OpAnswer) → IsOf site kept ticks ordered tick op → IsOf site kept ticks ordered other more
      → op.number ≡ more.number → tick ≡ other
  one_tick tick other op more of also same =
      let number = number_by of.answer op of.answer.reply of.tells in
      let number_too = number_by also.answer more also.answer.reply also.tells in
      let places =
      answered_once site kept (moments ticks) of.place also.place of.answer also.answer (run site kept ticks ordered) of.is also.is
      (number ∙ same ∙ sym number_too) in
      let answers : of.answer ≡ also.answer =
      some_same of.answer also.answer (sym of.is ∙ ap (λ k. slice_get (operations site kept (moments ticks)).answers k) places ∙ also.is) in
      sym of.tick_is ∙ ap (λ (a : Answered). a.tick) answers ∙ also.tick_is

  none_unfounded : (tick : ℕ) (before : List Step) (step : Step) (after : List Step) → steps ≡ before ++ step ∷ after → step.tick.0 ≡ tick
      → (place : ℕ) (op : OpAnswer) → slice_get step.answers.ops place ≡ Some op → is_unfounded asked tick before op ≡ true → ⊥
  none_unfounded tick before step after splits at place op op_is unfounded =
      founded (was_asked_by tick (request_numbered op.number asked)) (was_answered op.number before) (tells_done op.reply)
      (is_beyond_level (request_numbered op.number asked)) was_asked not_answered not_beyond unfounded
    where
      here : slice_get steps (0 + length before) ≡ Some step
      here = ap (λ (xs : List Step). slice_get xs (0 + length before)) splits ∙ get_behind before (step ∷ after) 0

      of : IsOf site kept ticks ordered step.tick.0 op
      of = of_step (0 + length before) step here place op op_is

      number : of.answer.request.number ≡ op.number
      number = number_by of.answer op of.answer.reply of.tells

      found : request_numbered op.number asked ≡ Some of.answer.request
      found = ap (λ n. request_numbered n asked) (sym number) ∙ numbered_is site kept ticks ordered of.place of.answer of.is

      within : (a b : ℕ) → a ≤ b → nat_le a b ≡ true
      within a b l = elim (leb_tells a b) [ inl h ↦ h.0 | inr h ↦ (let k = h.1 in absurd (omega (arith, k, l))) ]

      was_asked : was_asked_by tick (request_numbered op.number asked) ≡ true
      was_asked =
          let fits = answers_are_to site kept (moments ticks) of.place of.answer (run site kept ticks ordered) of.is in
          let by = fits.after in
          let now = of.tick_is in
          ap (was_asked_by tick) found ∙ within of.answer.request.tick tick (omega (arith, by, now, at))

      not_answered : was_answered op.number before ≡ true → ⊥
      not_answered h =
          let s = any_got (λ (x : Step). list_any (λ (a : OpAnswer). a.number == op.number) x.answers.ops) before h in
          let a = any_got (λ (x : OpAnswer). x.number == op.number) s.item.answers.ops s.passes in
          let earlier : slice_get steps s.place ≡ Some s.item =
          ap (λ (xs : List Step). slice_get xs s.place) splits ∙ get_front before (step ∷ after) s.place s.item s.is in
          let also = of_step s.place s.item earlier a.place a.item a.is in
          let same = one_tick s.item.tick.0 step.tick.0 a.item op also of (eq_is a.item.number op.number a.passes) in
          let few = got_few before s.place s.item s.is in
          let less =
          in_order 0 (tick_of (moments ticks)) steps s.place (0 + length before) s.item step (rise site kept (moments ticks)) earlier here
          (omega (arith, few)) in
          omega (arith, same, less)

      not_beyond : tells_done op.reply ≡ true → is_beyond_level (request_numbered op.number asked) ≡ true → ⊥
      not_beyond tells beyond =
          let done = as_done of.answer op of.answer.reply refl of.tells tells in
          let right = done_with_right site kept (moments ticks) of.place of.answer of.is done.0 in
          let e = sym right ∙ ap is_beyond_level (sym found) ∙ beyond in
          cc

pub answer_rule_kept : AnswerRuleIsKept
answer_rule_kept site kept ticks breach ordered b =
    let u = b.unfounded in
    none_unfounded site kept ticks ordered breach.tick u.before u.step u.after u.splits u.in_tick u.place u.answer u.is u.unfounded
