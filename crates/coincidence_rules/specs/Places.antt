-- Which points are of a zone, which of them are detectors, and which zone is a zone's partner. Points and
-- zones are places in the site's lists.
use Rattle.std.specs.Prelude.{ℕ, ◌+◌, Bool, false, not, Option, Some, None, slice_get, ◌==◌, ◌&&◌, ◌||◌}
use Rattle.std.specs.List.{position}
use Rattle.site_types.specs.declared.site.Site.{Site}
use Rattle.site_types.specs.declared.point.Point.{Point}
use Rattle.site_types.specs.declared.zone.Zone.{Zone}
use Rattle.site_types.specs.declared.rule.Rule.{Rule}
use Rattle.site_types.specs.Bits.{mask_of}

abbrev pub lies_in : ℕ → Option Point → Bool
lies_in zone None = false
lies_in zone (Some p) = p.zone == zone

-- the point is of the zone
abbrev pub is_of : Site → ℕ → ℕ → Bool
is_of site zone point = lies_in zone (slice_get site.points point)

abbrev pub is_call_point : Option Point → Bool
is_call_point None = false
is_call_point (Some p) = p.manual

-- the point is a manual call point
abbrev pub is_manual : Site → ℕ → Bool
is_manual site point = is_call_point (slice_get site.points point)

abbrev pub detects : Option Point → Bool
detects None = false
detects (Some p) = not p.manual

-- the point is a detector: every point is one that is not a manual call point
abbrev pub is_detector : Site → ℕ → Bool
is_detector site point = detects (slice_get site.points point)

-- the type of a zone
abbrev pub rule_of : Option Zone → Option Rule
rule_of None = None
rule_of (Some z) = Some z.rule

-- the partner of a zone
abbrev pub partner_of : Option Zone → Option ℕ
partner_of None = None
partner_of (Some z) = z.partner

-- there is such a zone, and it passes the test
abbrev pub on_zone : (ℕ → Bool) → Option ℕ → Bool
on_zone test None = false
on_zone test (Some zone) = test zone

-- the zone has a partner, which passes the test
abbrev pub on_partner : Site → ℕ → (ℕ → Bool) → Bool
on_partner site zone test = on_zone test (partner_of (slice_get site.zones zone))

-- two points make a pair for a zone where both are of it, or one of it and one of its partner; the second of
-- them is told by a test of its zone
abbrev pub pairs_up : Site → ℕ → ℕ → (ℕ → Bool) → Bool
pairs_up site zone point second =
    (is_of site zone point && (second zone || on_partner site zone second))
    || (on_partner site zone (λ other. is_of site other point) && second zone)

abbrev pub is_numbered : ℕ → ℕ → Zone → Bool
is_numbered panel number z = (z.panel == panel) && (z.number == number)

-- the place of the zone of a panel that has this number
abbrev pub numbered : Site → ℕ → ℕ → Option ℕ
numbered site panel number = position (is_numbered panel number) site.zones

-- the mask of the zones of a panel that pass a test: bit `number - 1` is the zone with this number
unfoldable pub zones_where : Site → ℕ → (ℕ → Bool) → ℕ
zones_where site panel test = mask_of 32 (λ k. on_zone test (numbered site panel (k + 1)))
