use Rattle.std.proofs.Common.{◌≡◌, true}
use Rattle.asked_markers.proofs.AllFacts.{all_facts_decide}
use Rattle.asked_markers.proofs.laws.all_facts_decide.Goals as goal

pub returns : goal.returns
returns c site masks may output valid tell =
    all_facts_decide site masks (λ zone. may.released zone ≡ true) (λ zone. may.by_hand zone ≡ true) (λ panel. may.faulty panel ≡ true)
    valid tell output
