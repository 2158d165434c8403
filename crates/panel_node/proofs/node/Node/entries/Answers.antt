use Rattle.std.proofs.Common.{refl, arith}
use Rattle.panel_node.proofs.KeepTurns.{none_at, own_entries, zeros}
use Rattle.panel_node.proofs.node.Node.entries.Goals as goal

pub returns : goal.returns
returns c =
    let r = c.requires in
    let own = r.stands.own in
    let p = r.stands.parts.member in
    let eight = r.stands.valid.forms.panels.1 in
    own_entries c.args.self.now zeros c.counter_entries.result refl none_at (omega (arith, own, p.0)) (omega (arith, own, p.1, eight))
    c.counter_entries.ensures
