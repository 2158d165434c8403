use Rattle.drill_record.specs.Records.{seeded}
use Rattle.drill_record.proofs.drawer.Drawer.new.Goals as goal

pub returns : goal.returns
unfolding seeded
returns c = c.seed_from_u64.ensures
