use Rattle.std.proofs.Common.{◌≡◌, ◌∷◌, [], ◌+◌, sym, ◌∙◌, subst, arith}
use Rattle.answer_lanes.specs.Points.{answer_at, finding_at}
use Rattle.answer_lanes.specs.Runs.{items_of}
use Rattle.tick_units.specs.Lane.{HasRoom, with_put}
use Rattle.answer_lanes.proofs.Moving.{length_run}
use Rattle.coincidence.specs.Changes.{PutsFindings, TakesAnswers}
use Rattle.coincidence.proofs.Turned.{can_next, held_behind, put_both, put_none, puts_next, puts_none, puts_one, room_held, takes_next, takes_none}
use Rattle.coincidence.proofs.RunItems.{all_before, before, behind, none_before, one_more, parts_at}
use Rattle.coincidence.proofs.decide.Decide.take_each.Goals as goal
use Rattle.coincidence.proofs.decide.Decide.take_each.Goals.{After-loop-place}

pub loop-place-init : goal.loop-place-init
loop-place-init c =
    let old = c.args.self.now in
    let lane = c.args.findings.now in
    let none = sym (none_before c.args.run.now) in
    record {
      taken = subst (λ xs. TakesAnswers old xs old) none (takes_none old);
      put =
          subst (λ fs. PutsFindings old (before c.args.run.now c.args.run.now.taken) lane (with_put lane fs)) (sym c.none-found.ensures.items)
          (subst (λ xs. PutsFindings old xs lane (with_put lane [])) none (subst (PutsFindings old [] lane) (put_none lane) (puts_none old lane)));
      eight = c.none-found.ensures.eight;
    }

pub take-finding-requires : goal.take-finding-requires
take-finding-requires c =
    let run = c.args.run.now in
    let l = c.loop-place in
    let h = l.invariant in
    can_next c.args.self.now l.self (items_of answer_at run) (before run l.place) (c.item.result ∷ []) (before run (l.place + 1)) (behind run l.place)
    (one_more run l.place c.item.result l.auto.place c.item.ensures) (parts_at run l.place l.auto.place c.loop-place-test.true) c.requires.may h.taken

pub gather-requires-clause-room : goal.gather-requires-clause-room
gather-requires-clause-room c =
    let run = c.args.run.now in
    let l = c.loop-place in
    let h = l.invariant in
    let count = length_run answer_at run in
    room_held c.args.self.now l.self (items_of answer_at run) (before run l.place) (c.item.result ∷ []) (before run (l.place + 1)) (behind run l.place)
    (one_more run l.place c.item.result l.auto.place c.item.ensures) (parts_at run l.place l.auto.place c.loop-place-test.true)
    c.args.findings.now l.findings (items_of finding_at l.found) run.count c.requires.may h.put c.requires.room (omega (arith, count))

pub loop-place-preserved : goal.loop-place-preserved
loop-place-preserved c =
    let run = c.args.run.now in
    let l = c.loop-place in
    let h = l.invariant in
    let more = one_more run l.place c.item.result l.auto.place c.item.ensures in
    let parts = parts_at run l.place l.auto.place c.loop-place-test.true in
    let held = items_of finding_at l.found in
    record {
      taken = takes_next c.args.self.now l.self (items_of answer_at run) (before run l.place) (c.item.result ∷ []) (before run (l.place + 1))
          (behind run l.place) more parts c.take-finding.new.self h.taken c.take-finding.ensures.taken;
      put = puts_next c.args.self.now l.self (items_of answer_at run) (before run l.place) (c.item.result ∷ []) (before run (l.place + 1))
          (behind run l.place) more parts c.args.findings.now (with_put l.findings held)
          (with_put c.gather.new.findings (items_of finding_at c.gather.new.found)) h.taken h.put
          (puts_one l.self c.item.result c.take-finding.result (with_put l.findings held)
          (with_put c.gather.new.findings (items_of finding_at c.gather.new.found)) c.take-finding.ensures.found
          (c.gather.ensures.put ∙ sym (put_both l.findings held (c.take-finding.result ∷ []))));
      eight = c.gather.ensures.eight;
    }

-- behind the last place all are taken, and their findings lie in the lane or in the run that is gathered
at_end : (c : After-loop-place) → before c.args.run.now c.loop-place.place ≡ items_of answer_at c.args.run.now
at_end c =
    let least = c.loop-place.auto.place-end (omega arith) in
    let most = c.loop-place-test.false in
    all_before c.args.run.now c.loop-place.place (omega (arith, least, most))

all_found : (c : After-loop-place) → PutsFindings c.args.self.now (items_of answer_at c.args.run.now) c.args.findings.now
    (with_put c.loop-place.findings (items_of finding_at c.loop-place.found))
all_found c =
    let l = c.loop-place in
    subst (λ xs. PutsFindings c.args.self.now xs c.args.findings.now (with_put l.findings (items_of finding_at l.found))) (at_end c) l.invariant.put

pub put_eight-requires-clause-room : goal.put_eight-requires-clause-room
put_eight-requires-clause-room c =
    let run = c.args.run.now in
    let l = c.loop-place in
    let count = length_run answer_at run in
    subst (HasRoom l.findings) (length_run finding_at l.found)
    (held_behind c.args.self.now (items_of answer_at run) c.args.findings.now l.findings (items_of finding_at l.found) run.count c.requires.may
    (all_found (goal.at.put_eight-requires-clause-room c).After-loop-place) c.requires.room (omega (arith, count)))

pub returns : goal.returns
returns c =
    let past = (goal.at.returns c).After-loop-place in
    record {
      taken = subst (λ xs. TakesAnswers c.args.self.now xs c.loop-place.self) (at_end past) c.loop-place.invariant.taken;
      put = subst (PutsFindings c.args.self.now (items_of answer_at c.args.run.now) c.args.findings.now) (sym c.put_eight.ensures) (all_found past);
    }
