-- What the steps of a text tell as done: the operations of its answers, the newest first.
use Rattle.std.proofs.Common.{◌≡◌, ◌⊎◌, ℕ, zero, suc, ◌≤◌, Bool, true, false, List, [], ◌∷◌, Option, Some, None, slice_get, if◌then◌else◌}
use Rattle.std.proofs.Common.{inl, inr, refl, sym, ◌∙◌, ap, subst, arith}
use Rattle.std.specs.List.{fold}
use Rattle.site_types.specs.Done.{AreBy, Done, Setting}
use Rattle.face_text.specs.declared.op_answer.OpAnswer.{OpAnswer}
use Rattle.face_text.specs.declared.step.Step.{Step}
use Rattle.panel_rules.specs.Operations.{Request, done_in}
use Rattle.panel_laws.specs.TimelineLaws.{AreRising}
use Rattle.audit_rules.specs.ToldDone.{and_answer, and_answers_of, and_done_of, request_numbered, tells_done}
use Rattle.audit_laws.specs.DoneTold.{IsAmongDone}
use Rattle.audit_laws.proofs.SameDone.{Fall}

-- ---- which they are

-- an answer that tells it, among those of a tick, and among those of steps
pub record IsToldIn (asked : List Request) (tick : ℕ) (ops : List OpAnswer) (d : Done) : Type 0 where
  pub place : ℕ
  pub op : OpAnswer
  pub is : slice_get ops place ≡ Some op
  pub tells : tells_done op.reply ≡ true
  pub request : Request
  pub numbered : request_numbered op.number asked ≡ Some request
  pub same : d ≡ done_in tick request

pub record IsToldBy (asked : List Request) (steps : List Step) (d : Done) : Type 0 where
  pub place : ℕ
  pub step : Step
  pub is : slice_get steps place ≡ Some step
  pub told : IsToldIn asked step.tick.0 step.answers.ops d

module _ (asked : List Request) where
  here_or_before : (tick : ℕ) (before : List Done) (op : OpAnswer) (ops : List OpAnswer) (d : Done) → IsAmongDone d (and_answer asked tick before op)
      → IsAmongDone d before ⊎ IsToldIn asked tick (op ∷ ops) d
  here_or_before tick before op ops d h = by (tells_done op.reply) refl (request_numbered op.number asked) refl h
    where
      first : tells_done op.reply ≡ true → (request : Request) → request_numbered op.number asked ≡ Some request → (place : ℕ)
          → slice_get (done_in tick request ∷ before) place ≡ Some d → IsAmongDone d before ⊎ IsToldIn asked tick (op ∷ ops) d
      first t request e zero is = let same : done_in tick request ≡ d = cc in
          inr (record { place = 0; op = op; is = refl; tells = t; request = request; numbered = e; same = sym same })
      first t request e (suc place) is = inl (record { place = place; is = is })

      by : (b : Bool) → tells_done op.reply ≡ b → (o : Option Request) → request_numbered op.number asked ≡ o
          → IsAmongDone d (if b then and_done_of tick o before else before) → IsAmongDone d before ⊎ IsToldIn asked tick (op ∷ ops) d
      by false t o e g = inl g
      by true t None e g = inl g
      by true t (Some request) e g = first t request e g.place g.is

  from_ops : (tick : ℕ) (ops : List OpAnswer) (before : List Done) (d : Done) → IsAmongDone d (fold (and_answer asked tick) before ops)
      → IsAmongDone d before ⊎ IsToldIn asked tick ops d
  from_ops tick [] before d h = inl h
  from_ops tick (op ∷ ops) before d h =
      elim (from_ops tick ops (and_answer asked tick before op) d h) [
        | inl g ↦ here_or_before tick before op ops d g
        | inr g ↦ inr (record {
          place = suc g.place;
          op = g.op;
          is = g.is;
          tells = g.tells;
          request = g.request;
          numbered = g.numbered;
          same = g.same;
        })
      ]

  from_steps : (steps : List Step) (before : List Done) (d : Done) → IsAmongDone d (fold (and_answers_of asked) before steps)
      → IsAmongDone d before ⊎ IsToldBy asked steps d
  from_steps [] before d h = inl h
  from_steps (step ∷ steps) before d h =
      elim (from_steps steps (and_answers_of asked before step) d h) [
        | inl g ↦
            elim (from_ops step.tick.0 step.answers.ops before d g) [
              | inl old ↦ inl old
              | inr new ↦ inr (record { place = 0; step = step; is = refl; told = new })
            ]
        | inr g ↦ inr (record { place = suc g.place; step = g.step; is = g.is; told = g.told })
      ]

  pub told_from : (steps : List Step) (d : Done) → IsAmongDone d (fold (and_answers_of asked) [] steps) → IsToldBy asked steps d
  told_from steps d h = elim (from_steps steps [] d h) [ inl none ↦ (let e = none.is in absurd cc) | inr g ↦ g ]

  kept_one : (tick : ℕ) (op : OpAnswer) (before : List Done) (d : Done) → IsAmongDone d before → IsAmongDone d (and_answer asked tick before op)
  kept_one tick op before d h = by (tells_done op.reply) (request_numbered op.number asked)
    where
      by : (b : Bool) (o : Option Request) → IsAmongDone d (if b then and_done_of tick o before else before)
      by false o = h
      by true None = h
      by true (Some request) = record { place = suc h.place; is = h.is }

  kept_ops : (tick : ℕ) (ops : List OpAnswer) (before : List Done) (d : Done) → IsAmongDone d before → IsAmongDone d (fold (and_answer asked tick) before ops)
  kept_ops tick [] before d h = h
  kept_ops tick (op ∷ ops) before d h = kept_ops tick ops (and_answer asked tick before op) d (kept_one tick op before d h)

  kept_steps : (steps : List Step) (before : List Done) (d : Done) → IsAmongDone d before → IsAmongDone d (fold (and_answers_of asked) before steps)
  kept_steps [] before d h = h
  kept_steps (step ∷ steps) before d h =
      kept_steps steps (and_answers_of asked before step) d (kept_ops step.tick.0 step.answers.ops before d h)

  added : (tick : ℕ) (op : OpAnswer) (before : List Done) (request : Request) → tells_done op.reply ≡ true
      → request_numbered op.number asked ≡ Some request → IsAmongDone (done_in tick request) (and_answer asked tick before op)
  added tick op before request tells numbered =
      by (tells_done op.reply) tells (request_numbered op.number asked) numbered
    where
      by : (b : Bool) → b ≡ true → (o : Option Request) → o ≡ Some request
          → IsAmongDone (done_in tick request) (if b then and_done_of tick o before else before)
      by false t o e = cc
      by true t None e = cc
      by true t (Some other) e = let same : other ≡ request = cc in
          record { place = 0; is = ap (λ (r : Request). Some (done_in tick r)) same }

  to_ops : (tick : ℕ) (ops : List OpAnswer) (before : List Done) (place : ℕ) (op : OpAnswer) (request : Request)
      → slice_get ops place ≡ Some op → tells_done op.reply ≡ true → request_numbered op.number asked ≡ Some request
      → IsAmongDone (done_in tick request) (fold (and_answer asked tick) before ops)
  to_ops tick [] before place op request is tells numbered = cc
  to_ops tick (other ∷ ops) before zero op request is tells numbered =
      let same : op ≡ other = cc in
      kept_ops tick ops (and_answer asked tick before other) (done_in tick request)
      (added tick other before request (ap (λ (o : OpAnswer). tells_done o.reply) (sym same) ∙ tells)
      (ap (λ (o : OpAnswer). request_numbered o.number asked) (sym same) ∙ numbered))
  to_ops tick (other ∷ ops) before (suc place) op request is tells numbered =
      to_ops tick ops (and_answer asked tick before other) place op request is tells numbered

  pub told_to : (steps : List Step) (before : List Done) (place : ℕ) (step : Step) (at : ℕ) (op : OpAnswer) (request : Request)
      → slice_get steps place ≡ Some step → slice_get step.answers.ops at ≡ Some op → tells_done op.reply ≡ true
      → request_numbered op.number asked ≡ Some request
      → IsAmongDone (done_in step.tick.0 request) (fold (and_answers_of asked) before steps)
  told_to [] before place step at op request is op_is tells numbered = cc
  told_to (other ∷ steps) before zero step at op request is op_is tells numbered =
      let same : other ≡ step = cc in
      kept_steps steps (and_answers_of asked before other) (done_in step.tick.0 request)
      (subst (λ (s : Step). IsAmongDone (done_in step.tick.0 request) (and_answers_of asked before s)) (sym same)
      (to_ops step.tick.0 step.answers.ops before at op request op_is tells numbered))
  told_to (other ∷ steps) before (suc place) step at op request is op_is tells numbered =
      told_to steps (and_answers_of asked before other) place step at op request is op_is tells numbered

  -- ---- in which order

  abbrev Sorted : List Done → Type 0
  Sorted [] = Unit {0}
  Sorted (d ∷ all) = AreBy d.tick all × Sorted all

  by_later : (few more : ℕ) (all : List Done) → few ≤ more → AreBy few all → AreBy more all
  by_later few more [] l h = tt
  by_later few more (d ∷ all) l h = (omega (arith, l, h.0), by_later few more all l h.1)

  record Stands (tick : ℕ) (all : List Done) : Type 0 where
    by : AreBy tick all
    sorted : Sorted all

  one_stands : (tick : ℕ) (op : OpAnswer) (before : List Done) → Stands tick before → Stands tick (and_answer asked tick before op)
  one_stands tick op before h = go (tells_done op.reply) (request_numbered op.number asked)
    where
      go : (b : Bool) (o : Option Request) → Stands tick (if b then and_done_of tick o before else before)
      go false o = h
      go true None = h
      go true (Some request) = record { by = (omega arith, h.by); sorted = (h.by, h.sorted) }

  ops_stand : (tick : ℕ) (ops : List OpAnswer) (before : List Done) → Stands tick before → Stands tick (fold (and_answer asked tick) before ops)
  ops_stand tick [] before h = h
  ops_stand tick (op ∷ ops) before h = ops_stand tick ops (and_answer asked tick before op) (one_stands tick op before h)

  steps_sorted : (last : ℕ) (steps : List Step) (tick : ℕ) (before : List Done) → AreRising tick last steps → Stands tick before
      → Sorted (fold (and_answers_of asked) before steps)
  steps_sorted last [] tick before rising h = h.sorted
  steps_sorted last (step ∷ steps) tick before rising h =
      let later = rising.0 in
      steps_sorted last steps step.tick.0 (and_answers_of asked before step) rising.1
      (ops_stand step.tick.0 step.answers.ops before
      (record { by = by_later tick step.tick.0 before (omega (arith, later)) h.by; sorted = h.sorted }))

  by_at : (tick : ℕ) (all : List Done) (k : ℕ) (d : Done) → AreBy tick all → slice_get all k ≡ Some d → d.tick ≤ tick
  by_at tick [] k d h is = cc
  by_at tick (e ∷ all) zero d h is = let same : e ≡ d = cc in let ticks = ap (λ (y : Done). y.tick) same in let l = h.0 in omega (arith, ticks, l)
  by_at tick (e ∷ all) (suc k) d h is = by_at tick all k d h.1 is

  falls : (setting : Setting) (all : List Done) → Sorted all → Fall setting all
  falls setting [] h i j d e is is' on on' l = cc
  falls setting (x ∷ all) h zero zero d e is is' on on' l = absurd (omega (arith, l))
  falls setting (x ∷ all) h zero (suc j) d e is is' on on' l =
      let same : x ≡ d = cc in let ticks = ap (λ (y : Done). y.tick) same in let m = by_at x.tick all j e h.0 is' in omega (arith, ticks, m)
  falls setting (x ∷ all) h (suc i) zero d e is is' on on' l = absurd (omega (arith, l))
  falls setting (x ∷ all) h (suc i) (suc j) d e is is' on on' l = falls setting all h.1 i j d e is is' on on' (omega (arith, l))

  pub steps_fall : (setting : Setting) (last : ℕ) (steps : List Step) → AreRising 0 last steps
      → Fall setting (fold (and_answers_of asked) [] steps)
  steps_fall setting last steps rising =
      falls setting (fold (and_answers_of asked) [] steps) (steps_sorted last steps 0 [] rising (record { by = tt; sorted = tt }))
