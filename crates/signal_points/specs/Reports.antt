-- Which events speak of points or of cables.
use Rattle.std.specs.Prelude.{◌≡◌, ℕ, Bool, true, false, List}
use Rattle.site_types.specs.declared.event.Event.{Event}
use Rattle.site_types.specs.declared.event.Event.TheVariants.{Point, Cable}
use Rattle.site_types.specs.declared.site.Site.{Site}
use Rattle.panel_rules.specs.Moments.{Moment, and_events}
use Rattle.field_states.specs.Sounding.{sounds_at}

abbrev pub tells_of_field : Event → Bool
tells_of_field (Point point state) = true
tells_of_field (Cable panel line piece state) = true
tells_of_field _ = false

-- after these events the same points are in alarm and reached
abbrev pub ChangeNoSound : Site → List Event → Type 0
ChangeNoSound site events = (before : List Moment) (point : ℕ)
    → sounds_at site (and_events events before) point ≡ sounds_at site before point
