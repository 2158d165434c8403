use Rattle.std.proofs.Common.{◌≤◌, ◌+◌, arith, length}
use Rattle.panel_rules.specs.Operations.{operations}
use Rattle.plain_history.specs.Histories.{history, moment_of}
use Rattle.plain_panel.proofs.Keepings.{all_placed, kept_ok}
use Rattle.plain_panel.proofs.keeping.Keeping.step.Goals as goal

pub returns : goal.returns
returns c =
    kept_ok c.args.coming.now.site.now c.args.coming.now.kept.now (history c.args.coming.now.before.now) c.go_on.result (moment_of c.args.coming.now.moment.now) c.args.self.now
    c.store_at.new.self c.go_on.new.self c.requires.stands
    c.store_at.ensures.stored c.go_on.ensures.stored c.go_on.ensures.desk c.go_on.ensures.state

pub store_at-requires-clause-placed : goal.store_at-requires-clause-placed
store_at-requires-clause-placed c =
    let above : 1 ≤ 1 = omega arith in
    let below : 1 + length c.args.self.now.state.panels.items ≤ 9 =
    omega (arith, c.requires.stands.state.panels.count, c.requires.valid.forms.panels.1) in
    all_placed c.args.coming.now.site.now c.args.coming.now.kept.now (operations c.args.coming.now.site.now c.args.coming.now.kept.now (history c.args.coming.now.before.now)).done
    (history c.args.coming.now.before.now) 1 c.args.self.now.state.panels.items
    c.requires.stands.state.panels.all above below
