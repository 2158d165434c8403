-- An operation that Desk takes: its answer, or its place among those that wait.
use Rattle.std.proofs.Common.{◌≡◌, ℕ, ◌+◌, ◌≤◌, ◌<◌, not, List, [], ◌∷◌, ◌++◌, length, Option, Some, None}
use Rattle.std.proofs.Common.{slice_get, refl, sym, ◌∙◌, ap, subst, arith, length-append}
use Rattle.std.specs.Prelude.{filter, option_map}
use Rattle.std.proofs.lemmas.List.Filters.{length-filter_both}
use Rattle.face_text.specs.declared.op_answer.OpAnswer.{OpAnswer}
use Rattle.face_text.specs.declared.reply.Reply.{Reply}
use Rattle.face_text.specs.declared.reply.Reply.TheVariants.{Done as DoneReply, Denied, Waiting, Already, Store}
use Rattle.site_types.specs.declared.retained.Retained.{Retained}
use Rattle.site_types.specs.declared.site.Site.{Site}
use Rattle.site_types.specs.Done.{Done}
use Rattle.panel_rules.specs.Operations.{Answered, Operations, Request as RequestOf, after_reply, after_request}
use Rattle.panel_rules.specs.Operations.{and_done as done_where_told, desk_reply}
use Rattle.panel_rules.specs.Timeline.{answer_in, told_answer}
use Rattle.operation_desk.specs.declared.desk.Desk.{Desk}
use Rattle.operation_desk.specs.declared.done_operation.DoneOperation.{DoneOperation}
use Rattle.operation_desk.specs.declared.request.Request.{Request}
use Rattle.operation_desk.specs.Ordered.{comes_before, put_by_number}
use Rattle.operation_desk.specs.Replies.{AreInForce, Rules, TellsOpen, numbered_reply, done_with}
use Rattle.operation_desk.specs.Requests.{with_done, done_from, reply_from, request_from, requests_from}
use Rattle.operation_desk.specs.Stands.{AreNumberedByPlace, MayRule, TellsOutcomes, told_in}
use Rattle.operation_desk.specs.Changes.{HasSameRest}
use Rattle.operation_desk.proofs.Given.{told_more}

-- ---- what is put among answers, and behind what was done

pub put_length : (op : OpAnswer) (ops : List OpAnswer) → length (put_by_number op ops) ≡ length ops + 1
put_length op ops =
    let both = length-filter_both (comes_before op.number) (λ other. not (comes_before op.number other)) (λ x. refl) ops in
    let split = length-append (filter (comes_before op.number) ops) (op ∷ filter (λ other. not (comes_before op.number other)) ops) in
    omega (arith, both, split)

pub done_more : (tick : ℕ) (done : List DoneOperation) (d : DoneOperation) (older : List Done)
    → with_done tick (done ++ d ∷ []) older ≡ done_from tick d ∷ with_done tick done older
done_more tick [] d older = refl
done_more tick (x ∷ done) d older = done_more tick done d (done_from tick x ∷ older)

-- an answer of the desk, as the rules have it and as it is told
abbrev pub given : ℕ → Request → Reply → Answered
given tick request reply = record { request = request_from request; tick = tick; reply = reply_from reply }

pub told_given : (tick : ℕ) (request : Request) (reply : Reply) → told_answer (given tick request reply) ≡ Some (numbered_reply request reply)
told_given tick request DoneReply = refl
told_given tick request (Denied needs has) = refl
told_given tick request Waiting = refl
told_given tick request Already = refl
told_given tick request Store = refl

-- what was done grows by an operation whose answer says so
done_grows : (tick : ℕ) (request : Request) (reply : Reply) (done : List DoneOperation) (older so_far : List Done) → request.tick.0 ≡ tick
    → so_far ≡ with_done tick done older
    → done_where_told (request_from request) (reply_from reply) so_far ≡ with_done tick (done_with request reply done) older
done_grows tick request DoneReply done older so_far now is =
    ap (λ t. (let d : Done = record { tick = t; panel = request.panel; operation = request.operation } in d) ∷ so_far) now
    ∙ ap (λ ds. (let d : Done = record { tick = tick; panel = request.panel; operation = request.operation } in d) ∷ ds) is
    ∙ sym (done_more tick done (record { panel = request.panel; operation = request.operation }) older)
done_grows tick request (Denied needs has) done older so_far now is = is
done_grows tick request Waiting done older so_far now is = is
done_grows tick request Already done older so_far now is = is
done_grows tick request Store done older so_far now is = is

done_length : (request : Request) (reply : Reply) (done : List DoneOperation) → length (done_with request reply done) ≤ length done + 1
done_length request DoneReply done =
    let split = length-append done ((let d : DoneOperation = record { panel = request.panel; operation = request.operation } in d) ∷ []) in
    omega (arith, split)
done_length request (Denied needs has) done = omega arith
done_length request Waiting done = omega arith
done_length request Already done = omega arith
done_length request Store done = omega arith

-- ---- one answer more

module _ (site : Site) (kept : Retained) (asked : List RequestOf) (tick : ℕ) (numbered : AreNumberedByPlace 0 asked) where
  -- an answer leaves what waits as it was
  abbrev pub answered_with : Request → Reply → List Done → Operations → Operations
  answered_with request reply done so_far =
      record so_far { answers = given tick request reply ∷ so_far.answers; done = done }

  module _ (request : Request) (reply : Reply) (so_far : Operations) (place : ℕ) (is : slice_get asked place ≡ Some (request_from request))
      (unanswered : answer_in site kept tick so_far.answers (request_from request) ≡ None) where
    told_then : told_in site kept tick (given tick request reply ∷ so_far.answers) asked
        ≡ put_by_number (numbered_reply request reply) (told_in site kept tick so_far.answers asked)
    told_then =
        told_more site kept tick so_far.answers (given tick request reply) asked place numbered is refl unanswered (numbered_reply request reply)
        (told_given tick request reply)

    pub room_then : (ops : List OpAnswer) → ops ≡ told_in site kept tick so_far.answers asked
        → length (told_in site kept tick (given tick request reply ∷ so_far.answers) asked) ≤ 64 → length ops < 64
    room_then ops same few =
        let more = ap length told_then ∙ put_length (numbered_reply request reply) (told_in site kept tick so_far.answers asked) in
        let l = ap length same in
        omega (arith, more, l, few)

    pub outcomes_then : (done_then : List Done) (old new : Desk) → TellsOutcomes site kept asked tick so_far old
        → ((done : List DoneOperation) (older : List Done) → so_far.done ≡ with_done tick done older
        → done_then ≡ with_done tick (done_with request reply done) older)
        → new.answers.ops ≡ put_by_number (numbered_reply request reply) old.answers.ops
        → new.done.items ≡ done_with request reply old.done.items → new.waiting ≡ old.waiting → HasSameRest old new
        → TellsOutcomes site kept asked tick (answered_with request reply done_then so_far) new
    outcomes_then done_then old new h grows ops done waiting rest =
        record {
          now = ap (λ t. t.0) rest.tick ∙ h.now;
          unsettled =
              record {
                waiting_is = ap (λ w. requests_from w.items) waiting ∙ h.unsettled.waiting_is;
                older = h.unsettled.older;
                done_is =
                    grows old.done.items h.unsettled.older h.unsettled.done_is
                    ∙ ap (λ ds. with_done tick ds h.unsettled.older) (sym done);
                earlier = h.unsettled.earlier;
              };
          ops = ops ∙ ap (put_by_number (numbered_reply request reply)) h.ops ∙ sym told_then;
          few =
              (let one = ap length done in
              let two = done_length request reply old.done.items in
              let three = ap length ops ∙ put_length (numbered_reply request reply) old.answers.ops in
              let four = h.few in
              omega (arith, one, two, three, four));
        }

-- ---- the operation is taken

-- its answer is the one at Desk's turn
pub taken_reply : (site : Site) (kept : Retained) (request : Request) (reply : Reply) (tick : ℕ) (so_far : Operations) → request.tick.0 ≡ tick
    → Some (reply_from reply) ≡ desk_reply site kept (request_from request) so_far
    → (let o : Operations = record so_far {
      answers = given tick request reply ∷ so_far.answers;
      done = done_where_told (request_from request) (reply_from reply) so_far.done;
    } in o) ≡ after_request site kept so_far (request_from request)
taken_reply site kept request reply tick so_far now e =
    ap (λ t. (let o : Operations = record {
      waiting = so_far.waiting;
      answers = (let a : Answered = record { request = request_from request; tick = t; reply = reply_from reply } in a) ∷ so_far.answers;
      done = done_where_told (request_from request) (reply_from reply) so_far.done;
    } in o)) (sym now)
    ∙ ap (after_reply (request_from request) so_far) e

-- what is ruled over the desk's lists
pub ruled_by : (site : Site) (kept settings : Retained) (asked : List RequestOf) (tick : ℕ) (so_far : Operations) (request : Request) (desk : Desk)
    (waiting : List Request) (done : List DoneOperation) (reply : Option Reply) → Rules site settings waiting done request reply
    → TellsOutcomes site kept asked tick so_far desk → MayRule site kept settings asked tick so_far request
    → waiting ≡ desk.waiting.items → done ≡ desk.done.items
    → option_map reply_from reply ≡ desk_reply site kept (request_from request) so_far
ruled_by site kept settings asked tick so_far request desk waiting done reply rules h m w d =
    rules kept so_far
    (subst (λ t. TellsOpen t so_far waiting done) (sym m.now)
    (subst (λ ws. TellsOpen tick so_far ws done) (sym w) (subst (λ ds. TellsOpen tick so_far desk.waiting.items ds) (sym d) h.unsettled)))
    (subst (λ t. AreInForce site kept t so_far.done settings) (sym m.now) m.in_force) m.panel m.early

module _ (site : Site) (kept settings : Retained) (asked : List RequestOf) (tick : ℕ) (so_far : Operations) (request : Request) (reply : Reply)
    (old : Desk) (h : TellsOutcomes site kept asked tick so_far old) (m : MayRule site kept settings asked tick so_far request)
    (e : Some (reply_from reply) ≡ desk_reply site kept (request_from request) so_far) where
  abbrev done_so : List Done
  done_so = done_where_told (request_from request) (reply_from reply) so_far.done

  same_then : answered_with site kept asked tick m.numbered request reply done_so so_far ≡ after_request site kept so_far (request_from request)
  same_then = taken_reply site kept request reply tick so_far m.now e

  pub room_taken : length old.answers.ops < 64
  room_taken =
      room_then site kept asked tick m.numbered request reply so_far m.place m.is m.unanswered old.answers.ops h.ops
      (subst (λ (o : Operations). length (told_in site kept tick o.answers asked) ≤ 64) (sym same_then) m.few_told)

  pub taken : (new : Desk) → new.answers.ops ≡ put_by_number (numbered_reply request reply) old.answers.ops
      → new.done.items ≡ done_with request reply old.done.items → new.waiting ≡ old.waiting → HasSameRest old new
      → TellsOutcomes site kept asked tick (after_request site kept so_far (request_from request)) new
  taken new ops done waiting rest =
      subst (λ (o : Operations). TellsOutcomes site kept asked tick o new) same_then
      (outcomes_then site kept asked tick m.numbered request reply so_far m.place m.is m.unanswered done_so old new h
      (λ ds older is. done_grows tick request reply ds older so_far.done m.now is) ops done waiting rest)
