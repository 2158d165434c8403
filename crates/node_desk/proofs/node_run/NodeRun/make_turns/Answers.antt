use Rattle.std.proofs.Common.{arith, refl}
use Rattle.site_run.specs.Outside.{disks_of}
use Rattle.node_desk.proofs.Kept.{keeps_turns}
use Rattle.node_desk.proofs.Turning.{failures_below, made_tick, may_turn, some_turned, stores_turns}
use Rattle.node_desk.proofs.node_run.NodeRun.make_turns.Goals as goal

pub turns-store-requires-clause-may : goal.turns-store-requires-clause-may
turns-store-requires-clause-may g c =
    let r = c.requires.may in
    may_turn r.site r.panel r.kept r.history r.ticks r.events c.args.self.now r.begun

pub with_failure-self-requires : goal.with_failure-self-requires
with_failure-self-requires g c =
    let r = c.requires.may in
    let few = failures_below r.site r.panel r.kept r.history r.ticks r.events c.args.self.now r.begun in
    omega (arith, few)

pub face-self-requires : goal.face-self-requires
face-self-requires g c =
    let r = c.requires.may in
    let turns = c.turns-store in
    let disks = disks_of g.D.Disk.honest g.D.Disk.images g.D.Disk.moment g.D.Disk.left_since c.args.disk.now turns.new.disk in
    some_turned r.site r.panel r.kept r.history r.ticks r.events c.args.self.now r.begun disks turns.result turns.new.journal turns.new.self
    turns.ensures.turns turns.ensures.leaves.same

pub returns-clause-makes : goal.returns-clause-makes
returns-clause-makes g c site panel kept history ticks events h =
    let old = c.args.self.now in
    let turns = c.turns-store in
    let disks = disks_of g.D.Disk.honest g.D.Disk.images g.D.Disk.moment g.D.Disk.left_since c.args.disk.now turns.new.disk in
    let stores =
    stores_turns site panel kept history ticks events old h disks turns.result turns.new.journal turns.new.self turns.ensures.turns turns.ensures.leaves.same
    turns.ensures.leaves.keeps_honest turns.ensures.leaves.early turns.ensures.moments turns.ensures.cut in
    made_tick site panel kept history ticks events old h disks turns.result turns.new.journal turns.new.self turns.ensures.turns turns.ensures.leaves.same
    c.face-self.result c.face-self.ensures.shown _ refl refl refl refl refl refl c.with_failure-self.ensures stores

pub returns-clause-disk : goal.returns-clause-disk
returns-clause-disk g c =
    let leaves = c.turns-store.ensures.leaves in
    keeps_turns g.D.Disk.honest g.D.Disk.images g.D.Disk.faults c.args.disk.now c.turns-store.new.disk c.args.self.now _ c.turns-store.result
    leaves.stands leaves.same leaves.early leaves.cause c.with_failure-self.ensures
