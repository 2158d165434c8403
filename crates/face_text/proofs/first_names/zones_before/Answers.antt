use Rattle.std.proofs.Common.{sym, ◌∙◌}
use Rattle.face_text.proofs.NextNames.{none_before, none_there}
use Rattle.face_text.proofs.first_names.zones_before.Goals as goal

pub returns-in-Some : goal.returns-in-Some
returns-in-Some c = none_before _ c.args.zones.now c.in-Some.place (sym c.first_zone.ensures ∙ c.in-Some.is)

pub returns-in-None : goal.returns-in-None
returns-in-None c = none_there _ c.args.zones.now (sym c.first_zone.ensures ∙ c.in-None.is)
