use Rattle.line_fields.proofs.Spaces.{take_place}
use Rattle.line_fields.proofs.fields.split_field.Goals as goal

pub returns-clause-first : goal.returns-clause-first
returns-clause-first c = take_place c.args.text.now c.place_of_space-place.result c.place_of_space-place.ensures.place
