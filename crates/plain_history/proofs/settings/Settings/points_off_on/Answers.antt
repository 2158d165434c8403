use Rattle.std.proofs.Common.{rules}
use Rattle.site_types.specs.Done.{PointOff}
use Rattle.panel_conditions.specs.Points.{addressed, addresses_where, on_point}
use Rattle.plain_history.specs.Settings.{is_set}
use Rattle.plain_history.proofs.settings.Settings.points_off_on.Goals as goal

pub returns : goal.returns
unfolding addresses_where
returns c =
    c.addresses_that.ensures
    (λ address. on_point (λ point. is_set c.args.self.now (PointOff point) c.args.tick.0)
    (addressed c.args.self.now.site.now c.args.panel c.args.line address)) (λ address told low high post. search rules)
