use Rattle.std.proofs.Common.{refl, false}
use Rattle.std.proofs.lemmas.List.{get_or-replicate}
use Rattle.isolators.proofs.begins.places_of.Goals as goal

pub loop-isolator-init : goal.loop-isolator-init
loop-isolator-init c = record { size = refl; known = λ place within. get_or-replicate 256 place false false within }
