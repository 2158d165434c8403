use Rattle.std.proofs.Common.{refl}
use Rattle.joined_panels.proofs.TicksTaken.{stands_first}
use Rattle.joined_panels.proofs.joined_panels.JoinedPanels.new.Goals as goal

pub returns : goal.returns
returns c = stands_first c.args.site.now _ refl refl c.new-links.ensures.panels c.new-links.ensures.up c.new-ways.ensures
