use Rattle.panel_parts.proofs.Reports.{after_confirmation}
use Rattle.panel_parts.proofs.parts.Parts.confirm.Goals as goal

pub returns : goal.returns
returns c site kept done told panel output plan before h is at number =
    after_confirmation site kept done told panel before c.args.self.now c.confirm.new.self output h
    (c.confirm.ensures site told.facts kept done panel before output plan h.drives is at number)
