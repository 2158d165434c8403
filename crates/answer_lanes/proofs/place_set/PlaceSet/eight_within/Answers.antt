use Rattle.std.proofs.Common.{◌∙◌, arith}
use Rattle.std.proofs.lemmas.Grind.{get_or_default_zero}
use Rattle.answer_lanes.proofs.PlaceSets.{eight_bits}
use Rattle.answer_lanes.proofs.place_set.PlaceSet.eight_within.Goals as goal

pub index-requires-2 : goal.index-requires-2
index-requires-2 c = let within = c.requires in omega (arith, within)

pub returns : goal.returns
returns c k small =
    let bytes = c.args.self.now.bytes.items in
    let within = c.requires in
    eight_bits bytes c.args.first c.index.result.now c.index-2.result.now _
    (c.index.ensures ∙ get_or_default_zero bytes _ _ (omega (arith, within)))
    (c.index-2.ensures ∙ get_or_default_zero bytes _ _ (omega (arith, within))) c.eight_of.ensures.byte c.eight_of.ensures.bits k small
