use Rattle.std.proofs.Common.{◌∙◌, rules, sym}
use Rattle.panel_conditions.specs.Points.{addressed, addresses_where, on_point}
use Rattle.plain_history.specs.Histories.{all_done}
use Rattle.plain_words.specs.Judging.{judged}
use Rattle.plain_words.specs.MissingPoints.{is_shown_missing}
use Rattle.plain_words.proofs.MissingPoints.{none_among}
use Rattle.plain_words.proofs.evidence.Evidence.missing_on.Goals as goal

pub returns : goal.returns
unfolding addresses_where
returns c =
    c.addresses_that.ensures
    (λ address. on_point (judged is_shown_missing c.args.self.now c.args.tick.0)
    (addressed c.args.self.now.settings.site.now c.args.panel c.args.line address)) (λ address told low high post. search rules)

pub returns-then-not-has_points : goal.returns-then-not-has_points
unfolding addresses_where
returns-then-not-has_points c =
    none_among c.args.self.now.settings.site.now c.args.self.now.settings.kept.now c.args.panel (all_done c.args.self.now.settings.done.now) c.args.self.now.answers.now
    c.args.tick.0 c.args.line c.args.past (sym c.has_points.ensures ∙ c.if-not-has_points.true)
