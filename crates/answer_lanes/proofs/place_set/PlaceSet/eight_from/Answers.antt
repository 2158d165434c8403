use Rattle.std.proofs.Common.{sym, ◌∙◌, arith}
use Rattle.std.proofs.lemmas.Grind.{get_or_default_zero}
use Rattle.std.proofs.lemmas.List.{get_or_past}
use Rattle.answer_lanes.proofs.PlaceSets.{eight_bits}
use Rattle.answer_lanes.proofs.place_set.PlaceSet.eight_from.Goals as goal

pub returns-then-byte-len : goal.returns-then-byte-len
returns-then-byte-len c k small =
    let bytes = c.args.self.now.bytes.items in
    let within = c.if-byte-len.true in
    let size = c.len.ensures in
    eight_bits bytes c.args.first c.index-low.result.now c.index-high.result.now _
    (c.index-low.ensures ∙ get_or_default_zero bytes _ _ (omega (arith, within, size)))
    (c.index-high.ensures ∙ get_or_default_zero bytes _ _ (omega (arith, within, size))) c.eight_of.ensures.byte c.eight_of.ensures.bits k small

pub returns : goal.returns
returns c k small =
    let bytes = c.args.self.now.bytes.items in
    let past = c.if-byte-len.false in
    let size = c.len.ensures in
    eight_bits bytes c.args.first c.byte.result 0 _ c.byte.ensures (sym (get_or_past bytes _ 0 (omega (arith, past, size)))) c.byte.type_inv
    c.eight_of-2.ensures.bits k small
