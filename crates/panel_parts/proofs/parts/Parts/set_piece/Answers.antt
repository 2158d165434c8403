use Rattle.panel_parts.proofs.Reports.{after_piece}
use Rattle.panel_parts.proofs.parts.Parts.set_piece.Goals as goal

pub returns : goal.returns
returns c site kept done told panel before h =
    after_piece site kept done told panel before c.args.self.now c.set_piece.new.self c.args.line c.args.piece c.args.state c.requires.0 c.requires.1 h
    (c.set_piece.ensures site panel _ h.polls)
