-- When a point signals.
use Rattle.std.specs.Prelude.{ℕ, ◌&&◌, Bool, not, List}
use Rattle.site_types.specs.declared.retained.Retained.{Retained}
use Rattle.site_types.specs.declared.site.Site.{Site}
use Rattle.site_types.specs.Done.{Done, is_blocked}
use Rattle.panel_rules.specs.Moments.{Moment, up_to}
use Rattle.field_states.specs.Sounding.{sounds_at}

-- at a tick a point is in alarm, reached and not blocked
abbrev pub signals_at : Site → Retained → List Done → List Moment → ℕ → ℕ → Bool
signals_at site kept done moments point tick =
    sounds_at site (up_to tick moments) point && not (is_blocked site kept done point tick)
