use Rattle.std.proofs.Common.{◌∷◌, arith}
use Rattle.tick_units.specs.declared.task.Task.TheVariants.{Drive}
use Rattle.panel_rules.specs.Moments.{Turned}
use Rattle.panel_core.proofs.Marked.{drive_marks, may_look, may_look_again, not_false, stands_raised}
use Rattle.panel_core.proofs.system.System.marked_drive_turn.Goals as goal

pub shown_by_drive-before-requires : goal.shown_by_drive-before-requires
shown_by_drive-before-requires c = may_look c.requires

pub shown_by_drive-after-requires : goal.shown_by_drive-after-requires
shown_by_drive-after-requires c = may_look_again c.requires c.drive_turn.ensures.turn

pub mark-requires : goal.mark-requires
mark-requires c = let few = c.requires.stands.valid.forms.panels.1 in let last = c.requires.member.1 in (c.requires.member.0, omega (arith, few, last))

pub returns-clause-turn : goal.returns-clause-turn
returns-clause-turn c site kept before h run =
    stands_raised c.mark.ensures.rest site kept (Turned c.args.panel Drive ∷ before) (c.drive_turn.ensures.turn site kept before h run)

pub returns-clause-marks : goal.returns-clause-marks
returns-clause-marks c =
    drive_marks c.shown_by_drive-before.result c.shown_by_drive-after.result c.drive_turn.ensures.same c.mark.ensures c.drive_turn.ensures.turn c.shown_by_drive-before.ensures
    c.shown_by_drive-after.ensures (λ alike. c.is_same.ensures (not_false _ alike))
