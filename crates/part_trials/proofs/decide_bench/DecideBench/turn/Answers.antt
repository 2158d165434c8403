use Rattle.std.proofs.Common.{◌∙◌, ap, arith}
use Rattle.tick_units.specs.Lane.{LaneState}
use Rattle.coincidence_rules.specs.declared.finding.Finding.{Finding}
use Rattle.part_trials.proofs.Benches.{may_take, turned}
use Rattle.part_trials.proofs.decide_bench.DecideBench.turn.Goals as goal

pub take_items-requires : goal.take_items-requires
take_items-requires c =
    let bench = c.args.self.now in
    let h = c.requires in
    let may = may_take bench.site bench.panel bench.decide bench.answers bench.findings bench.stamp.0 bench.point bench.at.0 h in
    let put = ap (λ (l : LaneState Finding). l.quota) (c.turn.ensures.findings bench.site h.kept bench.panel h.done h.taken h.stands may) in
    let quota = h.lanes.2 in
    (omega arith, (omega arith, ((c.new-runs.ensures, c.new-found.ensures), omega (arith, put, quota))))

pub returns : goal.returns
returns c =
    let bench = c.args.self.now in
    let h = c.requires in
    let may = may_take bench.site bench.panel bench.decide bench.answers bench.findings bench.stamp.0 bench.point bench.at.0 h in
    let put = c.turn.ensures.findings bench.site h.kept bench.panel h.done h.taken h.stands may in
    let rest = c.take_items.ensures.rest in
    turned bench.site bench.panel bench.decide c.turn.new.self bench.answers c.turn.new.answers bench.findings c.take_items.new.lane bench.stamp.0
    bench.point bench.at.0 h c.turn.ensures.answers (
      ap (λ (l : LaneState Finding). l.quota) rest ∙ ap (λ (l : LaneState Finding). l.quota) put,
      ap (λ (l : LaneState Finding). l.capacity) rest ∙ ap (λ (l : LaneState Finding). l.capacity) put,
    )
    (c.turn.ensures.taken bench.site h.kept bench.panel h.done h.taken h.stands may)
