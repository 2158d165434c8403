-- A run's text tells the last silence or resound of each panel as the run had it.
use Rattle.std.proofs.Common.{◌≡◌, ◌⊎◌, ℕ, zero, suc, ◌+◌, ◌≤◌, ◌<◌, ◌==◌, ◌&&◌, Bool, true, false, List, [], ◌∷◌, Option, Some, None}
use Rattle.std.proofs.Common.{slice_get, if◌then◌else◌, inl, inr, refl, sym, ◌∙◌, ap, subst, arith}
use Rattle.std.specs.Prelude.{nat_lt}
use Rattle.std.specs.List.{AllByRecursion, cons_option, filter_map, fold}
use Rattle.site_types.specs.declared.retained.Retained.{Retained}
use Rattle.site_types.specs.declared.site.Site.{Site}
use Rattle.site_types.specs.Done.{silence_then}
use Rattle.site_types.proofs.Done.{lt_tells}
use Rattle.face_text.specs.declared.op_answer.OpAnswer.{OpAnswer}
use Rattle.face_text.specs.declared.step.Step.{Step}
use Rattle.panel_rules.specs.Moments.{TickBlock, moments, tick_of, up_to}
use Rattle.panel_rules.specs.Operations.{Answered, Reply, Request, WasDone, operations, requests}
use Rattle.panel_rules.specs.Records.{AreOrdered}
use Rattle.panel_rules.specs.Timeline.{answer_in, answers_now, step_of, timeline_of, told_answer, told_ticks}
use Rattle.panel_rules.proofs.Answering.{numbered_by_place}
use Rattle.panel_rules.proofs.Bools.{parts}
use Rattle.panel_rules.proofs.Counting.{each_at, each_by, each_to}
use Rattle.panel_laws.specs.TimelineLaws.{AreRising}
use Rattle.panel_laws.proofs.AnswerLaws.{answered_once, answers_are_to}
use Rattle.panel_laws.proofs.AnswersRise.{found}
use Rattle.panel_laws.proofs.Steps.{rise}
use Rattle.run_text.specs.Failures.{as_recorded}
use Rattle.audit_rules.specs.ToldDone.{request_numbered, tells_done}
use Rattle.audit_laws.proofs.AnswersJudged.{number_by, of_step}
use Rattle.audit_laws.proofs.DoneTold.{IsOf, as_done, map_got, numbered_is, run, some_same, told_place}
use Rattle.audit_laws.proofs.RankedAnswers.{in_own_tick, numbers_rise, run_ranked}
use Rattle.audit_laws.proofs.Silences.{AreRanked, and_told, and_told_in, and_told_of, is_done, is_word, run_tells, says, silence_told, text_tells}
use Rattle.audit_laws.proofs.Silences.{told_by_steps}
use Rattle.audit_laws.specs.ToldSilences.{SilencesAreTold}

-- ---- the newest of ranked answers

module _ (panel x : ℕ) where
  record Newest (answers : List Answered) (a : Answered) : Type 0 where
    place : ℕ
    is : slice_get answers place ≡ Some a
    say : says panel a ≡ true
    before : a.tick < x
    last : (k : ℕ) (b : Answered) → slice_get answers k ≡ Some b → says panel b ≡ true → b.tick < x → b.request.number ≤ a.request.number

  abbrev NoneSays : List Answered → Type 0
  NoneSays answers = (k : ℕ) (b : Answered) → slice_get answers k ≡ Some b → says panel b ≡ true → b.tick < x → ⊥

  abbrev IsDecided : List Answered → Option ℕ → Type 0
  IsDecided answers value = (NoneSays answers × (value ≡ None))
      ⊎ ((a : Answered) × Newest answers a × (value ≡ silence_then a.request.operation a.tick None))

  decided : (answers : List Answered) → AreRanked panel answers → IsDecided answers (silence_told panel x answers)
  decided [] ranked = inl ((λ k b is. cc), refl)
  decided (a ∷ answers) ranked = by (says panel a) refl (lt_tells a.tick x) (decided answers ranked.1)
    where
      passed : (says panel a ≡ true → a.tick < x → ⊥) → IsDecided answers (silence_told panel x answers)
          → IsDecided (a ∷ answers) (silence_told panel x answers)
      passed never (inl h) = inl (none, h.1)
        where
          none : NoneSays (a ∷ answers)
          none zero b is say l = let same : a ≡ b = cc in never (ap (says panel) same ∙ say) (subst (λ (y : Answered). y.tick < x) (sym same) l)
          none (suc k) b is say l = h.0 k b is say l
      passed never (inr h) = inr (h.0, record { place = suc h.1.place; is = h.1.is; say = h.1.say; before = h.1.before; last = last }, h.2)
        where
          last : (k : ℕ) (b : Answered) → slice_get (a ∷ answers) k ≡ Some b → says panel b ≡ true → b.tick < x
              → b.request.number ≤ h.0.request.number
          last zero b is say l =
              let same : a ≡ b = cc in absurd (never (ap (says panel) same ∙ say) (subst (λ (y : Answered). y.tick < x) (sym same) l))
          last (suc k) b is say l = h.1.last k b is say l

      newest : says panel a ≡ true → a.tick < x → Newest (a ∷ answers) a
      newest say l = record { place = 0; is = refl; say = say; before = l; last = last }
        where
          last : (k : ℕ) (b : Answered) → slice_get (a ∷ answers) k ≡ Some b → says panel b ≡ true → b.tick < x
              → b.request.number ≤ a.request.number
          last zero b is too m = let same : a ≡ b = cc in let numbers = ap (λ (y : Answered). y.request.number) same in omega (arith, numbers)
          last (suc k) b is too m =
              let less = each_at (λ (y : Answered). says panel y ≡ true → y.request.number < a.request.number) answers k b (ranked.0 say) is too in
              omega (arith, less)

      by : (s : Bool) → says panel a ≡ s → ((nat_lt a.tick x ≡ true) × (a.tick < x)) ⊎ ((nat_lt a.tick x ≡ false) × (x ≤ a.tick))
          → IsDecided answers (silence_told panel x answers)
          → IsDecided (a ∷ answers) (if s && nat_lt a.tick x then silence_then a.request.operation a.tick None else silence_told panel x answers)
      by false off h ih = passed (λ say l. (let e = sym off ∙ say in cc)) ih
      by true say (inl h) ih = chosen (nat_lt a.tick x) h.0
        where
          chosen : (c : Bool) → c ≡ true
              → IsDecided (a ∷ answers) (if c then silence_then a.request.operation a.tick None else silence_told panel x answers)
          chosen true t = inr (a, newest say h.1, refl)
          chosen false t = cc
      by true say (inr h) ih = chosen (nat_lt a.tick x) h.0
        where
          chosen : (c : Bool) → c ≡ false
              → IsDecided (a ∷ answers) (if c then silence_then a.request.operation a.tick None else silence_told panel x answers)
          chosen true t = cc
          chosen false t = passed (λ too l. (let past = h.1 in absurd (omega (arith, past, l)))) ih

-- ---- in order of numbers

abbrev Asc : {X : Type 0} → (X → ℕ) → List X → Type 0
Asc n [] = Unit {0}
Asc n (x ∷ xs) = AllByRecursion (λ y. n x < n y) xs × Asc n xs

all_map : {X Y : Type 0} (f : X → Option Y) (nx : X → ℕ) (ny : Y → ℕ) → ((x : X) (y : Y) → f x ≡ Some y → ny y ≡ nx x) → (bound : ℕ) (xs : List X)
    → AllByRecursion (λ x. bound < nx x) xs → AllByRecursion (λ y. bound < ny y) (filter_map f xs)
all_map f nx ny keep bound [] all = tt
all_map {X = X} {Y = Y} f nx ny keep bound (x ∷ xs) all = by (f x) refl (all_map f nx ny keep bound xs all.1)
  where
    by : (o : Option Y) → f x ≡ o → AllByRecursion (λ y. bound < ny y) (filter_map f xs)
        → AllByRecursion (λ y. bound < ny y) (cons_option o (filter_map f xs))
    by None e ih = ih
    by (Some y) e ih = (let n = keep x y e in let l = all.0 in omega (arith, n, l), ih)

asc_map : {X Y : Type 0} (f : X → Option Y) (nx : X → ℕ) (ny : Y → ℕ) → ((x : X) (y : Y) → f x ≡ Some y → ny y ≡ nx x) → (xs : List X) → Asc nx xs
    → Asc ny (filter_map f xs)
asc_map f nx ny keep [] asc = tt
asc_map {X = X} {Y = Y} f nx ny keep (x ∷ xs) asc = by (f x) refl (asc_map f nx ny keep xs asc.1)
  where
    by : (o : Option Y) → f x ≡ o → Asc ny (filter_map f xs) → Asc ny (cons_option o (filter_map f xs))
    by None e ih = ih
    by (Some y) e ih =
        let same = keep x y e in
        (subst (λ n. AllByRecursion (λ z. n < ny z) (filter_map f xs)) (sym same) (all_map f nx ny keep (nx x) xs asc.0), ih)

asc_by : (rs : List Request) (past : ℕ) → ((k : ℕ) (r : Request) → slice_get rs k ≡ Some r → r.number ≡ past + k + 1)
    → Asc (λ (r : Request). r.number) rs
asc_by [] past numbered = tt
asc_by (r ∷ rs) past numbered = (
  each_by (λ (s : Request). r.number < s.number) rs
      (λ k s is. (let far = numbered (suc k) s is in let here = numbered 0 r refl in omega (arith, far, here))),
  asc_by rs (past + 1) (λ k s is. (let far = numbered (suc k) s is in omega (arith, far))),
)

key_is : (a : Answered) (request : Request) (tick : ℕ) → request ≡ a.request → a.tick ≡ tick → a.reply ≡ WasDone
    → ◌≡◌ {A = Answered} a (record { request = request; tick = tick; reply = WasDone })
key_is a request tick p q r =
    ap (λ (y : Request). record { request = y; tick = a.tick; reply = a.reply }) (sym p)
    ∙ ap (λ n. record { request = request; tick = n; reply = a.reply }) q
    ∙ ap (λ (y : Reply). record { request = request; tick = tick; reply = y }) r

-- ---- the answers of the text

module _ (site : Site) (kept : Retained) (ticks : List TickBlock) (ordered : AreOrdered site.panels ticks) (panel : ℕ) where
  abbrev asked : List Request
  asked = requests site (moments (as_recorded ticks))

  abbrev given : List Answered
  given = (operations site kept (moments ticks)).answers

  record IsReal (k : Answered) : Type 0 where
    place : ℕ
    is : slice_get given place ≡ Some k

  -- a real one that says it, before another one that does, has the lesser number
  lesser : (a b : Answered) → IsReal a → IsReal b → says panel a ≡ true → says panel b ≡ true → b.tick < a.tick
      → b.request.number < a.request.number
  lesser a b ra rb sa sb l =
      let whole = run site kept ticks ordered in
      let fa = answers_are_to site kept (moments ticks) ra.place a whole ra.is in
      let fb = answers_are_to site kept (moments ticks) rb.place b whole rb.is in
      let ta = in_own_tick panel site kept (moments ticks) whole ra.place a ra.is sa in
      let tb = in_own_tick panel site kept (moments ticks) whole rb.place b rb.is sb in
      numbers_rise site (moments ticks) fb.place fa.place b.request a.request fb.asked fa.asked (omega (arith, ta, tb, l))

  record Good (tick : ℕ) (ops : List OpAnswer) (keys : List Answered) : Type 0 where
    real : AllByRecursion IsReal keys
    ranked : AreRanked panel keys
    less : AllByRecursion (λ (b : Answered). (b.tick < tick) ⊎ AllByRecursion (λ (o : OpAnswer). b.request.number < o.number) ops) keys
    by : AllByRecursion (λ (b : Answered). b.tick ≤ tick) keys

  module _ (tick : ℕ) where
    key_good : (op : OpAnswer) (ops : List OpAnswer) (keys : List Answered) (r : Request) → IsOf site kept ticks ordered tick op
        → tells_done op.reply ≡ true → request_numbered op.number asked ≡ Some r
        → AllByRecursion (λ (o : OpAnswer). op.number < o.number) ops → Good tick (op ∷ ops) keys
        → Good tick ops (record { request = r; tick = tick; reply = WasDone } ∷ keys)
    key_good op ops keys r of tells numbered asc h =
        let key : Answered = record { request = r; tick = tick; reply = WasDone } in
        let done = as_done of.answer op of.answer.reply refl of.tells tells in
        let same : r ≡ of.answer.request =
        some_same r of.answer.request
        (sym numbered ∙ ap (λ n. request_numbered n asked) (sym done.1) ∙ numbered_is site kept ticks ordered of.place of.answer of.is) in
        let number : r.number ≡ op.number = ap (λ (y : Request). y.number) same ∙ done.1 in
        let real : IsReal (record { request = r; tick = tick; reply = WasDone }) =
        record { place = of.place; is = of.is ∙ ap Some (key_is of.answer r tick same of.tick_is done.0) } in
        record {
          real = (real, h.real);
          ranked = (
            (λ say. each_by (λ (b : Answered). says panel b ≡ true → b.request.number < r.number) keys
                (λ k b at too. elim (each_at (λ (y : Answered). (y.tick < tick) ⊎ AllByRecursion (λ (o : OpAnswer). y.request.number < o.number) (op ∷ ops)) keys k b h.less at) [
                  | inl early ↦ lesser (record { request = r; tick = tick; reply = WasDone }) b real (each_at IsReal keys k b h.real at) say too early
                  | inr all ↦ (let l = all.0 in omega (arith, l, number))
                ])),
            h.ranked,
          );
          less = (
            inr (each_to (λ (o : OpAnswer). op.number < o.number) (λ (o : OpAnswer). r.number < o.number) ops
                (λ o l. omega (arith, l, number)) asc),
            dropped keys h.less,
          );
          by = (omega arith, h.by);
        }
      where
        dropped : (bs : List Answered)
            → AllByRecursion (λ (b : Answered). (b.tick < tick) ⊎ AllByRecursion (λ (o : OpAnswer). b.request.number < o.number) (op ∷ ops)) bs
            → AllByRecursion (λ (b : Answered). (b.tick < tick) ⊎ AllByRecursion (λ (o : OpAnswer). b.request.number < o.number) ops) bs
        dropped bs all = each_to _ _ bs (λ b c. elim c [ inl l ↦ inl l | inr n ↦ inr n.1 ]) all

    passed_over : (op : OpAnswer) (ops : List OpAnswer) (keys : List Answered) → Good tick (op ∷ ops) keys → Good tick ops keys
    passed_over op ops keys h = record {
      real = h.real;
      ranked = h.ranked;
      less = each_to (λ (b : Answered). (b.tick < tick) ⊎ AllByRecursion (λ (o : OpAnswer). b.request.number < o.number) (op ∷ ops))
          (λ (b : Answered). (b.tick < tick) ⊎ AllByRecursion (λ (o : OpAnswer). b.request.number < o.number) ops) keys
          (λ b c. elim c [ inl l ↦ inl l | inr n ↦ inr n.1 ]) h.less;
      by = h.by;
    }

    one_op : (op : OpAnswer) (ops : List OpAnswer) (keys : List Answered) → IsOf site kept ticks ordered tick op
        → AllByRecursion (λ (o : OpAnswer). op.number < o.number) ops → Good tick (op ∷ ops) keys → Good tick ops (and_told asked tick keys op)
    one_op op ops keys of asc h = go (tells_done op.reply) refl (request_numbered op.number asked) refl
      where
        go : (b : Bool) → tells_done op.reply ≡ b → (o : Option Request) → request_numbered op.number asked ≡ o
            → Good tick ops (if b then and_told_of tick o keys else keys)
        go false t o e = passed_over op ops keys h
        go true t None e = passed_over op ops keys h
        go true t (Some r) e = key_good op ops keys r of t e asc h

    all_ops : (ops : List OpAnswer) (keys : List Answered)
        → ((k : ℕ) (op : OpAnswer) → slice_get ops k ≡ Some op → IsOf site kept ticks ordered tick op) → Asc (λ (o : OpAnswer). o.number) ops
        → Good tick ops keys → Good tick [] (fold (and_told asked tick) keys ops)
    all_ops [] keys of asc h = h
    all_ops (op ∷ ops) keys of asc h =
        all_ops ops (and_told asked tick keys op) (λ k o is. of (suc k) o is) asc.1 (one_op op ops keys (of 0 op refl) asc.0 h)

  ops_asc : (t : ℕ) → Asc (λ (o : OpAnswer). o.number) (filter_map told_answer (answers_now site kept (up_to t (moments ticks))))
  ops_asc t =
      asc_map told_answer (λ (a : Answered). a.request.number) (λ (o : OpAnswer). o.number) (λ a o told. sym (number_by a o a.reply told))
      (answers_now site kept (up_to t (moments ticks)))
      (asc_map (answer_in site kept (tick_of (up_to t (moments ticks))) (operations site kept (up_to t (moments ticks))).answers)
      (λ (r : Request). r.number) (λ (a : Answered). a.request.number)
      (λ r a look. (found site kept (operations site kept (up_to t (moments ticks))).answers (tick_of (up_to t (moments ticks))) r a look).number)
      (requests site (up_to t (moments ticks)))
      (asc_by (requests site (up_to t (moments ticks))) 0
      (λ k r is. (let n = numbered_by_place site (up_to t (moments ticks)) k r is in omega (arith, n)))))

  record IsStep (step : Step) : Type 0 where
    of : (k : ℕ) (op : OpAnswer) → slice_get step.answers.ops k ≡ Some op → IsOf site kept ticks ordered step.tick.0 op
    asc : Asc (λ (o : OpAnswer). o.number) step.answers.ops

  all_steps : (last : ℕ) (steps : List Step) (tick : ℕ) (keys : List Answered) → ((k : ℕ) (s : Step) → slice_get steps k ≡ Some s → IsStep s)
      → AreRising tick last steps → Good tick [] keys
      → AllByRecursion IsReal (fold (and_told_in asked) keys steps) × AreRanked panel (fold (and_told_in asked) keys steps)
  all_steps last [] tick keys is rising h = (h.real, h.ranked)
  all_steps last (step ∷ steps) tick keys is rising h =
      let late = rising.0 in
      let here = is 0 step refl in
      all_steps last steps step.tick.0 (and_told_in asked keys step) (λ k s at. is (suc k) s at) rising.1
      (all_ops step.tick.0 step.answers.ops keys here.of here.asc
      (record {
        real = h.real;
        ranked = h.ranked;
        less = each_to (λ (b : Answered). b.tick ≤ tick)
            (λ (b : Answered). (b.tick < step.tick.0) ⊎ AllByRecursion (λ (o : OpAnswer). b.request.number < o.number) step.answers.ops) keys
            (λ b l. inl (omega (arith, l, late))) h.by;
        by = each_to (λ (b : Answered). b.tick ≤ tick) (λ (b : Answered). b.tick ≤ step.tick.0) keys (λ b l. omega (arith, l, late)) h.by;
      }))

  abbrev steps : List Step
  steps = (timeline_of site kept (moments ticks)).steps

  steps_are : (k : ℕ) (s : Step) → slice_get steps k ≡ Some s → IsStep s
  steps_are k s is =
      let m = map_got (λ t. step_of site kept (up_to t (moments ticks))) (told_ticks site kept (moments ticks)) k s is in
      record {
        of = λ place op at. of_step site kept ticks ordered k s is place op at;
        asc = subst (λ (y : Step). Asc (λ (o : OpAnswer). o.number) y.answers.ops) m.gives (ops_asc m.source);
      }

  text_good : AllByRecursion IsReal (told_by_steps asked steps) × AreRanked panel (told_by_steps asked steps)
  text_good =
      all_steps (tick_of (moments ticks)) steps 0 [] steps_are (rise site kept (moments ticks))
      (record { real = tt; ranked = tt; less = tt; by = tt })

  -- ---- each answer of the run is among them

  record IsKey (a : Answered) (keys : List Answered) : Type 0 where
    place : ℕ
    is : slice_get keys place ≡ Some a

  kept_one : (tick : ℕ) (op : OpAnswer) (keys : List Answered) (a : Answered) → IsKey a keys → IsKey a (and_told asked tick keys op)
  kept_one tick op keys a h = go (tells_done op.reply) (request_numbered op.number asked)
    where
      go : (b : Bool) (o : Option Request) → IsKey a (if b then and_told_of tick o keys else keys)
      go false o = h
      go true None = h
      go true (Some r) = record { place = suc h.place; is = h.is }

  kept_ops : (tick : ℕ) (ops : List OpAnswer) (keys : List Answered) (a : Answered) → IsKey a keys → IsKey a (fold (and_told asked tick) keys ops)
  kept_ops tick [] keys a h = h
  kept_ops tick (op ∷ ops) keys a h = kept_ops tick ops (and_told asked tick keys op) a (kept_one tick op keys a h)

  kept_steps : (steps : List Step) (keys : List Answered) (a : Answered) → IsKey a keys → IsKey a (fold (and_told_in asked) keys steps)
  kept_steps [] keys a h = h
  kept_steps (step ∷ steps) keys a h = kept_steps steps (and_told_in asked keys step) a (kept_ops step.tick.0 step.answers.ops keys a h)

  added : (tick : ℕ) (op : OpAnswer) (keys : List Answered) (r : Request) → tells_done op.reply ≡ true → request_numbered op.number asked ≡ Some r
      → IsKey (record { request = r; tick = tick; reply = WasDone }) (and_told asked tick keys op)
  added tick op keys r tells numbered = go (tells_done op.reply) tells (request_numbered op.number asked) numbered
    where
      go : (b : Bool) → b ≡ true → (o : Option Request) → o ≡ Some r
          → IsKey (record { request = r; tick = tick; reply = WasDone }) (if b then and_told_of tick o keys else keys)
      go false t o e = cc
      go true t None e = cc
      go true t (Some other) e =
          let same : other ≡ r = cc in
          record { place = 0; is = ap (λ (y : Request). Some (record { request = y; tick = tick; reply = WasDone })) same }

  to_ops : (tick : ℕ) (ops : List OpAnswer) (keys : List Answered) (place : ℕ) (op : OpAnswer) (r : Request) → slice_get ops place ≡ Some op
      → tells_done op.reply ≡ true → request_numbered op.number asked ≡ Some r
      → IsKey (record { request = r; tick = tick; reply = WasDone }) (fold (and_told asked tick) keys ops)
  to_ops tick [] keys place op r is tells numbered = cc
  to_ops tick (other ∷ ops) keys zero op r is tells numbered =
      let same : op ≡ other = cc in
      kept_ops tick ops (and_told asked tick keys other) (record { request = r; tick = tick; reply = WasDone })
      (added tick other keys r (ap (λ (o : OpAnswer). tells_done o.reply) (sym same) ∙ tells)
      (ap (λ (o : OpAnswer). request_numbered o.number asked) (sym same) ∙ numbered))
  to_ops tick (other ∷ ops) keys (suc place) op r is tells numbered =
      to_ops tick ops (and_told asked tick keys other) place op r is tells numbered

  key_to : (steps : List Step) (keys : List Answered) (place : ℕ) (step : Step) (at : ℕ) (op : OpAnswer) (r : Request)
      → slice_get steps place ≡ Some step → slice_get step.answers.ops at ≡ Some op → tells_done op.reply ≡ true
      → request_numbered op.number asked ≡ Some r
      → IsKey (record { request = r; tick = step.tick.0; reply = WasDone }) (fold (and_told_in asked) keys steps)
  key_to [] keys place step at op r is op_is tells numbered = cc
  key_to (other ∷ steps) keys zero step at op r is op_is tells numbered =
      let same : other ≡ step = cc in
      kept_steps steps (and_told_in asked keys other) (record { request = r; tick = step.tick.0; reply = WasDone })
      (subst (λ (s : Step). IsKey (record { request = r; tick = step.tick.0; reply = WasDone }) (and_told_in asked keys s)) (sym same)
      (to_ops step.tick.0 step.answers.ops keys at op r op_is tells numbered))
  key_to (other ∷ steps) keys (suc place) step at op r is op_is tells numbered =
      key_to steps (and_told_in asked keys other) place step at op r is op_is tells numbered

  is_done_then : (a : Answered) → says panel a ≡ true → a.reply ≡ WasDone
  is_done_then a say = by a.reply refl (parts (is_done a.reply) ((a.request.panel == panel) && is_word a.request.operation) say).0
    where
      by : (reply : Reply) → a.reply ≡ reply → is_done reply ≡ true → reply ≡ WasDone
      by WasDone e t = refl
      by reply e t = cc

  run_is_told : (place : ℕ) (a : Answered) → slice_get given place ≡ Some a → says panel a ≡ true → IsKey a (told_by_steps asked steps)
  run_is_told place a is say =
      let t = told_place site kept ticks ordered place a is (is_done_then a say) in
      subst (λ (k : Answered). IsKey k (told_by_steps asked steps))
      (sym (key_is a a.request t.step.tick.0 refl (sym t.tick_is) (is_done_then a say)))
      (key_to steps [] t.place t.step t.at t.op a.request t.is t.op_is t.tells t.numbered)

  same_told : (x : ℕ) → silence_told panel x (told_by_steps asked steps) ≡ silence_told panel x given
  same_told x =
      meet (decided panel x (told_by_steps asked steps) text_good.1)
      (decided panel x given (run_ranked panel site kept (moments ticks) (run site kept ticks ordered)))
    where
      meet : IsDecided panel x (told_by_steps asked steps) (silence_told panel x (told_by_steps asked steps))
          → IsDecided panel x given (silence_told panel x given)
          → silence_told panel x (told_by_steps asked steps) ≡ silence_told panel x given
      meet (inl a) (inl b) = a.1 ∙ sym b.1
      meet (inl a) (inr b) =
          let k = run_is_told b.1.place b.0 b.1.is b.1.say in absurd (a.0 k.place b.0 k.is b.1.say b.1.before)
      meet (inr a) (inl b) =
          let r = each_at IsReal (told_by_steps asked steps) a.1.place a.0 text_good.0 a.1.is in absurd (b.0 r.place a.0 r.is a.1.say a.1.before)
      meet (inr a) (inr b) =
          let k = run_is_told b.1.place b.0 b.1.is b.1.say in
          let r = each_at IsReal (told_by_steps asked steps) a.1.place a.0 text_good.0 a.1.is in
          let up = b.1.last r.place a.0 r.is a.1.say a.1.before in
          let down = a.1.last k.place b.0 k.is b.1.say b.1.before in
          let number : a.0.request.number ≡ b.0.request.number = omega (arith, up, down) in
          let places = answered_once site kept (moments ticks) r.place b.1.place a.0 b.0 (run site kept ticks ordered) r.is b.1.is number in
          let same : a.0 ≡ b.0 = some_same a.0 b.0 (sym r.is ∙ ap (λ j. slice_get given j) places ∙ b.1.is) in
          a.2 ∙ ap (λ (y : Answered). silence_then y.request.operation y.tick None) same ∙ sym b.2

pub silences_told : SilencesAreTold
silences_told site kept ticks ordered =
    record {
      each =
          λ panel x. text_tells panel (requests site (moments (as_recorded ticks))) (timeline_of site kept (moments ticks)).steps x
          ∙ same_told site kept ticks ordered panel x ∙ sym (run_tells panel site kept (moments ticks) x);
    }
