use Rattle.std.proofs.Common.{◌≡◌, ◌++◌, [], List, append-nil, refl, sym, ◌∙◌, ap, subst}
use Rattle.tick_units.specs.Lane.{LaneState}
use Rattle.site_types.specs.declared.answer.Answer.{Answer}
use Rattle.answer_lanes.specs.Blocks.{block_answer_at}
use Rattle.answer_lanes.specs.Runs.{all_items}
use Rattle.coincidence.specs.Changes.{PutsFindings, TakesAnswers}
use Rattle.coincidence.specs.Stands.{taken_by}
use Rattle.coincidence.proofs.Turned.{can_next, puts_none, room_next, takes_none}
use Rattle.coincidence.proofs.RunItems.{few_taken}
use Rattle.coincidence.proofs.decide.Decide.turn.Goals as goal

-- where a turn parts no run, it takes the answers of runs that lie in the lane
nothing_more : (lane : LaneState Answer) (items : List Answer) → items ≡ taken_by lane → taken_by lane ≡ items ++ []
nothing_more lane items is = sym is ∙ sym (append-nil items)

pub take_runs-requires-clause-room : goal.take_runs-requires-clause-room
take_runs-requires-clause-room c =
    let self = c.args.self.now in
    let lane = c.args.findings.now in
    let items = all_items block_answer_at c.in-Some.runs.now in
    room_next self self _ [] items items [] refl (nothing_more c.args.answers.now items c.in-Some.ensures.shown.moved) lane lane 32 c.requires.may
    (puts_none self lane) c.requires.room (few_taken c.args.answers.now _ refl c.requires.quota)

pub take_runs-requires-clause-may : goal.take_runs-requires-clause-may
take_runs-requires-clause-may c =
    let self = c.args.self.now in
    let items = all_items block_answer_at c.in-Some.runs.now in
    can_next self self _ [] items items [] refl (nothing_more c.args.answers.now items c.in-Some.ensures.shown.moved) c.requires.may (takes_none self)

pub returns-in-Some-clause-taken : goal.returns-in-Some-clause-taken
returns-in-Some-clause-taken c =
    subst (λ xs. TakesAnswers c.args.self.now xs c.take_runs.new.self) c.in-Some.ensures.shown.moved c.take_runs.ensures.taken

pub returns-in-Some-clause-findings : goal.returns-in-Some-clause-findings
returns-in-Some-clause-findings c =
    subst (λ xs. PutsFindings c.args.self.now xs c.args.findings.now c.take_runs.new.findings) c.in-Some.ensures.shown.moved c.take_runs.ensures.findings

-- else it takes those that it moved out of the lane
pub returns-clause-taken : goal.returns-clause-taken
returns-clause-taken c =
    subst (λ xs. TakesAnswers c.args.self.now xs c.take_runs-2.new.self)
    (ap (all_items block_answer_at) c.as_slice.ensures.value ∙ c.take_turn.ensures.moved) c.take_runs-2.ensures.taken
