-- The answers of a tick, with one more request or answer.
use Rattle.std.proofs.Common.{◌≡◌, ◌∙◌, ◌+◌, ◌<◌, ◌≤◌, ◌==◌, ◌&&◌, ℕ, Bool, true, false, List, [], ◌∷◌, ◌++◌, Option}
use Rattle.std.proofs.Common.{Some, None, add-zero, ap, append-nil, arith, filter, get_or, if◌then◌else◌, length, map}
use Rattle.std.proofs.Common.{refl, sym, take}
use Rattle.std.specs.List.{cons_option, filter_map}
use Rattle.std.proofs.lemmas.List.{length-append, map-append, take_more}
use Rattle.std.proofs.lemmas.List.Elements.{filter-append, filter_map-append}
use Rattle.face_text.specs.declared.op_answer.OpAnswer.{OpAnswer}
use Rattle.panel_rules.specs.Operations.{Answered as AnsweredOf, Request as RequestOf}
use Rattle.panel_rules.specs.Timeline.{busy_count, is_busy, told_answer}
use Rattle.plain_operations.specs.declared.op_answered.OpAnswered.{OpAnswered as Answered}
use Rattle.plain_operations.specs.declared.request.Request.{Request}
use Rattle.plain_operations.specs.Desks.{all_answered, all_requests, answered_of, reply_of, request_of}
use Rattle.plain_operations.specs.Tellings.{answer_given}
use Rattle.plain_operations.proofs.Desks.{all_answered_more, all_requests_more}

-- the answer to a request, by one answer more
pub found_more : (request : RequestOf) (tick : ℕ) (answers : List Answered) (place : ℕ) (d : Answered) (before after : Option AnsweredOf)
    → place < length answers → before ≡ answer_given tick (all_answered (take place answers)) request
    → after ≡ (if ((get_or answers place d).request.number == request.number)
    && ((get_or answers place d).tick.0 == tick) then Some (answered_of (get_or answers place d)) else before)
    → after ≡ answer_given tick (all_answered (take (place + 1) answers)) request
found_more request tick answers place d before after within was is =
    rw (take_more answers place d within, all_answered_more (take place answers) (get_or answers place d), ← was) is

-- the answers to requests, by one request more
module _ (f : RequestOf → Option AnsweredOf) (requests : List Request) (place : ℕ) (d : Request) (within : place < length requests) where
  pub now_more : (now : List Answered) (answer : Option AnsweredOf) → map answered_of now ≡ filter_map f (all_requests (take place requests))
      → answer ≡ f (request_of (get_or requests place d))
      → map answered_of now ++ cons_option answer [] ≡ filter_map f (all_requests (take (place + 1) requests))
  now_more now answer was is =
      rw (
        take_more requests place d within,
        all_requests_more (take place requests) (get_or requests place d),
        filter_map-append f (all_requests (take place requests)) (request_of (get_or requests place d) ∷ []),
        ← was,
        ← is,
      ) refl

-- the answers told, by one more
module _ (now : List Answered) (place : ℕ) (d : Answered) (within : place < length now) where
  pub told_more : (ops : List OpAnswer) (answer : Option OpAnswer) → ops ≡ filter_map told_answer (map answered_of (take place now))
      → answer ≡ told_answer (answered_of (get_or now place d))
      → ops ++ cons_option answer [] ≡ filter_map told_answer (map answered_of (take (place + 1) now))
  told_more ops answer was is =
      rw (
        take_more now place d within,
        map-append answered_of (take place now) (get_or now place d ∷ []),
        filter_map-append told_answer (map answered_of (take place now)) (answered_of (get_or now place d) ∷ []),
        ← was,
        ← is,
      ) refl

  pub busy_more : (panel before after : ℕ) → before ≡ busy_count panel (map answered_of (take place now))
      → after ≡ (if ((get_or now place d).request.panel == panel) && is_busy (reply_of (get_or now place d).reply) then before + 1 else before)
      → after ≡ busy_count panel (map answered_of (take (place + 1) now))
  busy_more panel before after was is =
      is
      ∙ counted ((get_or now place d).request.panel == panel && is_busy (reply_of (get_or now place d).reply)) refl
      ∙ sym
      (rw (take_more now place d within, map-append answered_of (take place now) (get_or now place d ∷ []))
      (ap length (filter-append (λ (a : AnsweredOf). (a.request.panel == panel) && is_busy a.reply) (map answered_of (take place now))
      (answered_of (get_or now place d) ∷ []))
      ∙ length-append (filter (λ (a : AnsweredOf). (a.request.panel == panel) && is_busy a.reply) (map answered_of (take place now)))
      (filter (λ (a : AnsweredOf). (a.request.panel == panel) && is_busy a.reply) (answered_of (get_or now place d) ∷ []))))
    where
      counted : (b : Bool) → ((get_or now place d).request.panel == panel && is_busy (reply_of (get_or now place d).reply)) ≡ b
          → (if b then before + 1 else before)
          ≡ length (filter (λ (a : AnsweredOf). (a.request.panel == panel) && is_busy a.reply) (map answered_of (take place now))) + length
          (filter (λ (a : AnsweredOf). (a.request.panel == panel) && is_busy a.reply) (answered_of (get_or now place d) ∷ []))
      counted true so = rw (so, was) refl
      counted false so = rw (so, was) (sym (add-zero _))

pub count_within : (b : Bool) (before after place : ℕ) → before ≤ place → after ≡ (if b then before + 1 else before) → after ≤ place + 1
count_within true before after place few is = omega arith
count_within false before after place few is = omega arith

-- a list with what there is behind it
module _ {X : Type 0} (xs after whole : List X) (o : Option X) (is : xs ++ cons_option o [] ≡ whole) where
  pub with_none : o ≡ None → after ≡ xs → after ≡ whole
  with_none none same = same ∙ sym (append-nil xs) ∙ ap (λ found. xs ++ cons_option found []) (sym none) ∙ is

  pub with_some : (x : X) → o ≡ Some x → after ≡ xs ++ x ∷ [] → after ≡ whole
  with_some x some more = more ∙ ap (λ found. xs ++ cons_option found []) (sym some) ∙ is
