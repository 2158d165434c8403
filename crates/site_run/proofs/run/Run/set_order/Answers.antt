use Rattle.site_run.proofs.GivenOrders.{ordered_by}
use Rattle.site_run.proofs.run.Run.set_order.Goals as goal

pub returns-clause-stands : goal.returns-clause-stands
returns-clause-stands c site kept p h is = ordered_by site kept p.run p.block c.args.self.now c.args.order h is
