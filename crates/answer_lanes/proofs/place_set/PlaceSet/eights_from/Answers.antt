use Rattle.std.proofs.Common.{zero, suc, ◌∙◌, arith}
use Rattle.answer_lanes.proofs.place_set.PlaceSet.eights_from.Goals as goal

pub returns : goal.returns
returns c zero k below small = c.joined.ensures 0 k below small ∙ c.eight_from.ensures k small
returns c (suc zero) k below small = c.joined.ensures 1 k below small ∙ c.eight_from-2.ensures k small
returns c (suc (suc zero)) k below small = c.joined.ensures 2 k below small ∙ c.eight_from-3.ensures k small
returns c (suc (suc (suc zero))) k below small = c.joined.ensures 3 k below small ∙ c.eight_from-4.ensures k small
returns c (suc (suc (suc (suc n)))) k below small = absurd (omega (arith, below))
