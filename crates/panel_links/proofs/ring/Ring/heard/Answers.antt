use Rattle.std.proofs.Common.{refl}
use Rattle.panel_links.proofs.ring.Ring.heard.Goals as goal

pub returns-clause-newest : goal.returns-clause-newest
returns-clause-newest c panels calls stands rise =
    record { word = c.word.result; is_newest = c.word.ensures.newest panels calls stands rise; of_word = refl }
