-- Whether a point is reached, with the pieces of each loop's cable in some states.
use Rattle.std.specs.Prelude.{ℕ, Bool, false, Option, Some, None}
use Rattle.site_types.specs.declared.piece_state.PieceState.{PieceState}
use Rattle.site_types.specs.declared.point.Point.{Point}
use Rattle.site_types.specs.declared.site.Site.{Site}
use Rattle.loop_poller.specs.Asked.{is_reached_on}
use Rattle.site_types.specs.Things.{loop_of}

-- a point is reached where its panel, loop and address are, with the pieces by panel and loop
abbrev pub is_point_reached : Site → Option Point → (ℕ → ℕ → ℕ → PieceState) → Bool
is_point_reached site None pieces = false
is_point_reached site (Some p) pieces =
    is_reached_on (loop_of site p.panel p.line) (pieces p.panel p.line) p.address
