use Rattle.std.proofs.Common.{◌≤◌, refl, arith}
use Rattle.site_types.specs.declared.word.Word.{Word}
use Rattle.panel_node.proofs.ZonesShown.{shows_all, shows_next, shows_none_yet}
use Rattle.panel_node.proofs.node.Node.zones_shown.Goals as goal

pub loop-source-init : goal.loop-source-init
loop-source-init c = record {
  alarms = shows_none_yet (λ (word : Word). word.alarm) c.args.self.now;
  firsts = shows_none_yet (λ (word : Word). word.first) c.args.self.now;
}

pub loop-source-preserved : goal.loop-source-preserved
loop-source-preserved c =
    let node = c.args.self.now in
    let l = c.loop-source in
    let word = c.word_shown-word in
    let within : l.source ≤ node.site.panels = (let test = c.loop-source-test.true in omega (arith, test)) in
    record {
      alarms = shows_next (λ (w : Word). w.alarm) node l.source word.result l.alarms l.auto.source within l.invariant.alarms word.ensures;
      firsts = shows_next (λ (w : Word). w.first) node l.source word.result l.firsts l.auto.source within l.invariant.firsts word.ensures;
    }

pub returns : goal.returns
returns c =
    let l = c.loop-source in
    let ended = c.loop-source-test.false in
    record {
      alarms = shows_all (λ (w : Word). w.alarm) c.args.self.now l.source l.alarms refl (omega (arith, ended)) l.invariant.alarms;
      firsts = shows_all (λ (w : Word). w.first) c.args.self.now l.source l.firsts refl (omega (arith, ended)) l.invariant.firsts;
    }
