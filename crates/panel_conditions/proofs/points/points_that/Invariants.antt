use Rattle.std.proofs.Common.{◌≡◌}
use Rattle.site_types.specs.Changes.{HasOwnPlaces}
use Rattle.panel_conditions.specs.Parts.{is_asked}
use Rattle.panel_conditions.proofs.Firsts.{among}
use Rattle.panel_conditions.proofs.points.points_that.Given as goal

abbrev pub invariant-loop-point : goal.invariant-loop-point
invariant-loop-point l = HasOwnPlaces l.site → l.set ≡ among l.site l.panel (is_asked l.site l.kept l.asked) l.point-index
