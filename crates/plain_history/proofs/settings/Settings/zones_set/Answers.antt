use Rattle.std.proofs.Common.{rules}
use Rattle.coincidence_rules.specs.Places.{numbered, on_zone, zones_where}
use Rattle.plain_history.specs.Settings.{is_set, zone_setting}
use Rattle.plain_history.proofs.settings.Settings.zones_set.Goals as goal

pub returns : goal.returns
unfolding zones_where
returns c =
    c.numbers_that.ensures
    (λ number. on_zone (λ zone. is_set c.args.self.now (zone_setting c.args.which zone) c.args.tick.0)
    (numbered c.args.self.now.site.now c.args.panel number)) (λ number told low high post. search rules)
