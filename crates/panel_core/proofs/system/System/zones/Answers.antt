use Rattle.panel_parts.specs.Applied.{done_so_far}
use Rattle.panel_core.proofs.Shows.{alarm_of, due_shown, shown_caused}
use Rattle.panel_core.proofs.system.System.zones.Goals as goal

pub returns-clause-shown : goal.returns-clause-shown
returns-clause-shown c site kept before h run =
    alarm_of site kept before c.args.self.now c.args.panel c.index-parts.result.now c.word.result c.requires h c.index-parts.ensures
    (c.word.ensures site kept c.args.panel) run

pub returns-clause-due : goal.returns-clause-due
returns-clause-due c site kept before zone plan h run ended is at due =
    due_shown site kept (done_so_far site kept before) c.args.panel before h.valid run zone plan is at c.word.result.alarm
    (alarm_of site kept before c.args.self.now c.args.panel c.index-parts.result.now c.word.result c.requires h c.index-parts.ensures
    (c.word.ensures site kept c.args.panel) run) ended due

pub returns-clause-caused : goal.returns-clause-caused
returns-clause-caused c site kept before zone plan h run is at shown =
    shown_caused site kept (done_so_far site kept before) c.args.panel before h.valid run zone plan is at c.word.result.alarm
    (alarm_of site kept before c.args.self.now c.args.panel c.index-parts.result.now c.word.result c.requires h c.index-parts.ensures
    (c.word.ensures site kept c.args.panel) run) shown
