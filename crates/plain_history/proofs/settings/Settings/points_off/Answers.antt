use Rattle.std.proofs.Common.{rules}
use Rattle.site_types.specs.Done.{PointOff}
use Rattle.panel_conditions.specs.Points.{addresses_where, points_where}
use Rattle.plain_history.specs.Settings.{is_set}
use Rattle.plain_history.proofs.settings.Settings.points_off.Goals as goal

pub returns : goal.returns
unfolding points_where
returns c =
    c.points_in_halves.ensures
    (addresses_where c.args.self.now.site.now c.args.panel
    (λ point. is_set c.args.self.now (PointOff point) c.args.tick.0))
    (λ line past told few post. search rules)
