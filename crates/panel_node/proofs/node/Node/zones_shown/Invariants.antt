use Rattle.site_types.specs.declared.word.Word.{Word}
use Rattle.panel_node.proofs.ZonesShown.{ShowsUpTo}
use Rattle.panel_node.proofs.node.Node.zones_shown.Given as goal

-- the zones of the first panels are those of the words shown
abbrev pub invariant-loop-source : goal.invariant-loop-source
invariant-loop-source l = record {
  alarms : ShowsUpTo (λ (word : Word). word.alarm) l.self l.source l.alarms;
  firsts : ShowsUpTo (λ (word : Word). word.first) l.self l.source l.firsts;
}
