use Rattle.site_run.specs.Records.{moments_in}
use Rattle.site_run.proofs.run.Run.site.Goals as goal

pub returns : goal.returns
returns c site kept p h = c.site.ensures site kept (moments_in p) h.system
