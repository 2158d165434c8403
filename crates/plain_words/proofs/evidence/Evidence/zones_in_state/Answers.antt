use Rattle.std.proofs.Common.{rules}
use Rattle.coincidence_rules.specs.Places.{numbered, on_zone, zones_where}
use Rattle.plain_words.specs.Judging.{judged}
use Rattle.plain_words.specs.ZoneStates.{zone_in_state}
use Rattle.plain_words.proofs.evidence.Evidence.zones_in_state.Goals as goal

pub returns : goal.returns
unfolding zones_where
returns c =
    c.numbers_that.ensures
    (λ number. on_zone (λ zone. judged (zone_in_state c.args.state) c.args.self.now zone c.args.tick.0)
    (numbered c.args.self.now.settings.site.now c.args.panel number)) (λ number told low high post. search rules)
