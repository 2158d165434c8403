use Rattle.line_fields.proofs.Spaces.{take_place}
use Rattle.line_fields.proofs.fields.before_space.Goals as goal

pub returns : goal.returns
returns c = take_place c.args.text.now c.place_of_space.result c.place_of_space.ensures.place
