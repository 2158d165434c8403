use Rattle.site_types.proofs.Carried.{delays_carried}
use Rattle.site_types.proofs.carry_over.carry_delays.Goals as goal

pub returns : goal.returns
returns c = delays_carried c.args.panels c.args.delays_off c.requires c.ranges.delays_off.fits
