use Rattle.std.proofs.Common.{◌<◌}
use Rattle.answer_lanes.proofs.Words.{bits_joined}
use Rattle.answer_lanes.proofs.eight_words.word_of.Goals as goal

pub returns : goal.returns
returns c =
    let first : c.args.first < 256 = search in
    let second : c.args.second < 256 = search in
    let third : c.args.third < 256 = search in
    bits_joined c.args.first c.args.second c.args.third c.args.fourth c.from_le_bytes.result first second third c.from_le_bytes.ensures
