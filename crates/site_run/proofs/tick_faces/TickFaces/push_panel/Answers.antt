use Rattle.face_text.proofs.Holding.{puts_nothing}
use Rattle.face_text.proofs.Listing.{same_text}
use Rattle.site_run.proofs.tick_faces.TickFaces.push_panel.Goals as goal

pub returns-then-alike-clause-text : goal.returns-then-alike-clause-text
returns-then-alike-clause-text g c =
    puts_nothing c.args.held.now _ _
    (same_text c.args.self.now.site.now c.args.before.now c.args.after.now (c.requires.alike c.if-alike.true))
