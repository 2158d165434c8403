use Rattle.site_types.proofs.SectionPlaces.{sections_hold as law}
use Rattle.site_types.proofs.laws.sections_hold.Goals as goal

pub returns : goal.returns
returns c = law
