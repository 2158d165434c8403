use Rattle.panel_parts.proofs.Reports.{after_point}
use Rattle.panel_parts.proofs.parts.Parts.set_point.Goals as goal

pub returns : goal.returns
returns c site kept done told panel before h at =
    after_point site kept done told panel before c.args.self.now c.set_point.new.self c.args.point c.args.state h at (c.set_point.ensures site panel _ h.polls)
