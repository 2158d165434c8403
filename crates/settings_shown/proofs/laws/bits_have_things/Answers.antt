use Rattle.settings_shown.proofs.BitsOfThings.{bits_of_things as law}
use Rattle.settings_shown.proofs.laws.bits_have_things.Goals as goal

pub returns : goal.returns
returns c = law
