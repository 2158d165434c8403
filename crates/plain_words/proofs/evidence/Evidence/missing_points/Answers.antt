use Rattle.std.proofs.Common.{rules}
use Rattle.panel_conditions.specs.Points.{addresses_where, points_where}
use Rattle.plain_words.specs.Judging.{judged}
use Rattle.plain_words.specs.MissingPoints.{is_shown_missing}
use Rattle.plain_words.proofs.evidence.Evidence.missing_points.Goals as goal

pub returns : goal.returns
unfolding points_where
returns c =
    c.points_in_halves.ensures (addresses_where c.args.self.now.settings.site.now c.args.panel (judged is_shown_missing c.args.self.now c.args.tick.0))
    (λ line past told few post. search rules)
