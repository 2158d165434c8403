-- The first answer that nobody may have given, by the rules of an audit.
use Rattle.std.proofs.Common.{◌≡◌, ◌∙◌, ◌<◌, ◌≤◌, ◌++◌, ◌&&◌, ◌||◌, not, ℕ, Bool, true, false, List, [], ◌∷◌}
use Rattle.std.proofs.Common.{Option, Some, None, refl, sym, ap, arith, subst, map, length, append_assoc, append-nil, nat_le, nat_lt, option_map, if◌then◌else◌}
use Rattle.std.proofs.lemmas.List.Folds.{Any-from_list_any, list_any_at}
use Rattle.std.proofs.lemmas.Option.{get_or_from_slice_get, slice_get_read, slice_get_within}
use Rattle.access_levels.specs.Levels.{needed_by}
use Rattle.face_text.specs.declared.op_answer.OpAnswer.{OpAnswer}
use Rattle.face_text.specs.declared.step.Step.{Step}
use Rattle.panel_rules.specs.Operations.{Request, requests}
use Rattle.audit_rules.specs.Answering.{HasUnfounded, is_beyond_level, is_unfounded, was_answered, was_asked_by}
use Rattle.audit_rules.specs.ToldDone.{request_numbered, tells_done}
use Rattle.told_operations.specs.Asked.{asked_of}
use Rattle.told_operations.specs.Founding.{DoRise, FirstIsFound, allows, first_groundless, has_groundless, lacks_ground}
use Rattle.told_operations.proofs.ToldInOrder.{AreNumberedFrom, number_is, numbered_all}

-- ---- one answer

same_truths : (asked was done beyond : Bool) → (not asked || (was || (done && beyond))) ≡ (was || not (asked && not (done && beyond)))
same_truths false false done beyond = refl
same_truths false true done beyond = refl
same_truths true true done beyond = refl
same_truths true false false beyond = refl
same_truths true false true false = refl
same_truths true false true true = refl

never_asked : (was done : Bool) → (not false || (was || (done && false))) ≡ (was || not false)
never_asked false done = refl
never_asked true done = refl

module _ (asked : List Request) (numbered : AreNumberedFrom 0 asked) where
  by_request : (before : List Step) (tick : ℕ) (answer : OpAnswer) (request : Option Request) →
      (not (was_asked_by tick request) || (was_answered answer.number before || (tells_done answer.reply && is_beyond_level request)))
      ≡ (was_answered answer.number before || not (allows tick answer (option_map asked_of request)))
  by_request before tick answer None = never_asked (was_answered answer.number before) (tells_done answer.reply)
  by_request before tick answer (Some request) =
      same_truths (nat_le request.tick tick) (was_answered answer.number before) (tells_done answer.reply)
      (nat_lt request.level (needed_by request.operation))

  same_ground : (before : List Step) (tick : ℕ) (answer : OpAnswer)
      → is_unfounded asked tick before answer ≡ lacks_ground (map asked_of asked) before tick answer
  same_ground before tick answer =
      by_request before tick answer (request_numbered answer.number asked)
      ∙ ap (λ o. was_answered answer.number before || not (allows tick answer o)) (sym (number_is asked numbered answer.number))

  -- ---- steps

  -- among some steps, behind others, one of a tick has such an answer
  record HasGroundless (before steps : List Step) (tick : ℕ) : Type 0 where
    pub front : List Step
    pub step : Step
    pub after : List Step
    pub splits : steps ≡ front ++ step ∷ after
    pub in_tick : step.tick.0 ≡ tick
    pub lacks : has_groundless (map asked_of asked) (before ++ front) step ≡ true

  unfounded : (steps : List Step) (tick : ℕ) → HasGroundless [] steps tick → HasUnfounded asked steps tick
  unfounded steps tick has =
      let any = Any-from_list_any (lacks_ground (map asked_of asked) has.front has.step.tick.0) has.step.answers.ops has.lacks in
      record {
        before = has.front;
        step = has.step;
        after = has.after;
        splits = has.splits;
        in_tick = has.in_tick;
        place = any.0;
        answer = any.1;
        is = slice_get_read has.step.answers.ops (length has.step.answers.ops) any.0 any.1 refl any.2 (sym any.3);
        unfounded = ap (λ t. is_unfounded asked t has.front any.1) (sym has.in_tick) ∙ same_ground has.front has.step.tick.0 any.1 ∙ any.4;
      }

  groundless : (steps : List Step) (tick : ℕ) → HasUnfounded asked steps tick → HasGroundless [] steps tick
  groundless steps tick has = record {
    front = has.before;
    step = has.step;
    after = has.after;
    splits = has.splits;
    in_tick = has.in_tick;
    lacks =
        list_any_at (lacks_ground (map asked_of asked) has.before has.step.tick.0) has.step.answers.ops has.place has.answer
        (slice_get_within has.step.answers.ops has.place has.answer has.is)
        (ap (lacks_ground (map asked_of asked) has.before has.step.tick.0) (get_or_from_slice_get has.step.answers.ops has.place has.answer has.answer has.is)
        ∙ sym (same_ground has.before has.step.tick.0 has.answer) ∙ ap (λ t. is_unfounded asked t has.before has.answer) has.in_tick ∙ has.unfounded);
  }

  -- of steps whose ticks rise each is later than what was before
  rises_past : (tick : ℕ) (steps front after : List Step) (step : Step) → DoRise tick steps → steps ≡ front ++ step ∷ after → tick < step.tick.0
  rises_past tick [] [] after step rise splits = cc
  rises_past tick [] (f ∷ front) after step rise splits = cc
  rises_past tick (s ∷ steps) [] after step rise splits =
      let same : s ≡ step = cc in
      subst (λ (t : Step). tick < t.tick.0) same rise.0
  rises_past tick (s ∷ steps) (f ∷ front) after step rise splits =
      let rest : steps ≡ front ++ step ∷ after = cc in
      let behind = rises_past s.tick.0 steps front after step rise.1 rest in
      let first = rise.0 in
      omega (arith, behind, first)

  record IsFirst (before steps : List Step) (first : Option ℕ) : Type 0 where
    pub some : (tick : ℕ) → first ≡ Some tick → HasGroundless before steps tick
    pub least : (tick other : ℕ) → first ≡ Some tick → HasGroundless before steps other → tick ≤ other
    pub none : first ≡ None → (other : ℕ) → ¬ HasGroundless before steps other

  -- what a later step has
  shifted : (before steps : List Step) (step : Step) (tick : ℕ) → HasGroundless (before ++ step ∷ []) steps tick → HasGroundless before (step ∷ steps) tick
  shifted before steps step tick has = record {
    front = step ∷ has.front;
    step = has.step;
    after = has.after;
    splits = ap (λ ss. step ∷ ss) has.splits;
    in_tick = has.in_tick;
    lacks = ap (λ front. has_groundless (map asked_of asked) front has.step) (sym (append_assoc before (step ∷ []) has.front)) ∙ has.lacks;
  }

  -- the first step has it, or a later one
  data HeadOrLater (before steps : List Step) (step : Step) (tick : ℕ) : Type 0 where
    at_head : step.tick.0 ≡ tick → has_groundless (map asked_of asked) before step ≡ true → HeadOrLater before steps step tick
    at_later : HasGroundless (before ++ step ∷ []) steps tick → HeadOrLater before steps step tick

  parted : (before steps : List Step) (step : Step) (tick : ℕ) → HasGroundless before (step ∷ steps) tick → HeadOrLater before steps step tick
  parted before steps step tick has = go has.front has.splits has.lacks
    where
      go : (front : List Step) → step ∷ steps ≡ front ++ has.step ∷ has.after → has_groundless (map asked_of asked) (before ++ front) has.step ≡ true
          → HeadOrLater before steps step tick
      go [] splits lacks =
          let same : has.step ≡ step = cc in
          at_head (subst (λ (s : Step). s.tick.0 ≡ tick) same has.in_tick)
          (subst (λ (s : Step). has_groundless (map asked_of asked) before s ≡ true) same
          (ap (λ front. has_groundless (map asked_of asked) front has.step) (sym (append-nil before)) ∙ lacks))
      go (f ∷ front) splits lacks =
          let same : f ≡ step = cc in
          let rest : steps ≡ front ++ has.step ∷ has.after = cc in
          at_later (record {
            front = front;
            step = has.step;
            after = has.after;
            splits = rest;
            in_tick = has.in_tick;
            lacks =
                ap (λ front. has_groundless (map asked_of asked) front has.step) (append_assoc before (step ∷ []) front ∙ ap (λ s. before ++ s ∷ front) (sym same))
                ∙ lacks;
          })

  later_than : (tick : ℕ) (before steps : List Step) (other : ℕ) → DoRise tick steps → HasGroundless before steps other → tick < other
  later_than tick before steps other rise has =
      subst (λ t. tick < t) has.in_tick (rises_past tick steps has.front has.after has.step rise has.splits)

  first_of : (tick : ℕ) (before steps : List Step) → DoRise tick steps → IsFirst before steps (first_groundless (map asked_of asked) before steps)
  first_of tick before [] rise = record {
    some = λ t e. absurd cc;
    least = λ t other e has. absurd cc;
    none = λ e other has. empty has.step has.after has.front has.splits;
  }
    where
      empty : (s : Step) (rest front : List Step) → [] ≡ front ++ s ∷ rest → ⊥
      empty s rest [] e = cc
      empty s rest (f ∷ front) e = cc
  first_of tick before (step ∷ steps) rise = by (has_groundless (map asked_of asked) before step) refl (first_of step.tick.0 (before ++ step ∷ []) steps rise.1)
    where
      by : (b : Bool) → has_groundless (map asked_of asked) before step ≡ b
          → IsFirst (before ++ step ∷ []) steps (first_groundless (map asked_of asked) (before ++ step ∷ []) steps)
          → IsFirst before (step ∷ steps) (if b then Some step.tick.0 else first_groundless (map asked_of asked) (before ++ step ∷ []) steps)
      by true lacks later = record {
        some = λ t e. record {
          front = [];
          step = step;
          after = steps;
          splits = refl;
          in_tick = cc;
          lacks = ap (λ front. has_groundless (map asked_of asked) front step) (append-nil before) ∙ lacks;
        };
        least = λ t other e has. elim (parted before steps step other has) [
          | at_head same l ↦ (let now : step.tick.0 ≡ t = cc in omega (arith, now, same))
          | at_later h ↦ (let now : step.tick.0 ≡ t = cc in let after = later_than step.tick.0 (before ++ step ∷ []) steps other rise.1 h in omega (arith, now, after))
        ];
        none = λ e other has. absurd cc;
      }
      by false lacks later = record {
        some = λ t e. shifted before steps step t (later.some t e);
        least = λ t other e has. elim (parted before steps step other has) [
          | at_head same l ↦ absurd cc
          | at_later h ↦ later.least t other e h
        ];
        none = λ e other has. elim (parted before steps step other has) [
          | at_head same l ↦ cc
          | at_later h ↦ later.none e other h
        ];
      }

pub found_first : FirstIsFound
found_first site moments steps rise =
    let asked = requests site moments in
    let numbered = numbered_all site moments in
    let first = first_of asked numbered 0 [] steps rise in
    record {
      some = λ tick e. unfounded asked numbered steps tick (first.some tick e);
      least = λ tick other e has. first.least tick other e (groundless asked numbered steps other has);
      none = λ e other has. first.none e other (groundless asked numbered steps other has);
    }
