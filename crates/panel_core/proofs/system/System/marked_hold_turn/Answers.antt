use Rattle.std.proofs.Common.{◌∷◌, arith}
use Rattle.tick_units.specs.declared.task.Task.TheVariants.{Hold}
use Rattle.panel_rules.specs.Moments.{Turned}
use Rattle.panel_core.proofs.Marked.{hold_marks, not_false, stands_raised}
use Rattle.panel_core.proofs.system.System.marked_hold_turn.Goals as goal

pub mark-requires : goal.mark-requires
mark-requires c = let few = c.requires.stands.valid.forms.panels.1 in let last = c.requires.member.1 in (c.requires.member.0, omega (arith, few, last))

pub returns-clause-turn : goal.returns-clause-turn
returns-clause-turn c site kept before h run =
    stands_raised c.mark.ensures.rest site kept (Turned c.args.panel Hold ∷ before) (c.hold_turn-same.ensures.turn site kept before h run)

pub returns-clause-marks : goal.returns-clause-marks
returns-clause-marks c =
    hold_marks c.hold_turn-same.ensures.same c.mark.ensures (λ alike. c.hold_turn-same.ensures.again (not_false _ alike))
