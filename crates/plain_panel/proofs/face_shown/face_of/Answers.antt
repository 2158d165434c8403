use Rattle.std.proofs.Common.{refl}
use Rattle.panel_rules.specs.Run.{facts_of}
use Rattle.plain_history.specs.Histories.{all_done}
use Rattle.plain_panel.proofs.face_shown.face_of.Goals as goal

pub returns : goal.returns
returns c before network drives at =
    let done = all_done c.args.settings.now.done.now in
    let facts = facts_of c.args.settings.now.site.now c.args.settings.now.kept.now done in
    rw (
      c.alarms_shown.ensures c.args.settings.now.kept.now done before network,
      c.firsts_shown.ensures c.args.settings.now.kept.now done before network,
      c.faults.ensures c.args.settings.now.site.now c.args.settings.now.kept.now done before network,
      c.outputs_in.ensures facts before drives,
      c.outputs_in-2.ensures facts before drives,
      c.points_off.ensures,
      c.zones_off.ensures,
      c.outputs_off.ensures,
      c.zones_in_test.ensures,
      c.in_force.ensures,
      c.buzzer.ensures c.args.settings.now.kept.now before network,
      at,
    )
    refl
