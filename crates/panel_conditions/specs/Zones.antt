-- What the findings taken tell of a zone at a tick: in alarm, in alarm by hand, released, in first state.
-- Zones are places in the site's list.
use Rattle.std.specs.Prelude.{ℕ, ◌+◌, ◌-◌, Bool, false, not, List, Option, Some, None, slice_get, ◌&&◌, nat_lt, nat_le}
use Rattle.std.specs.List.{list_any}
use Rattle.site_types.specs.declared.site.Site.{Site}
use Rattle.site_types.specs.declared.zone.Zone.{Zone}
use Rattle.site_types.specs.declared.rule.Rule.{Rule}
use Rattle.site_types.specs.declared.rule.Rule.TheVariants.{B}
use Rattle.site_types.specs.Bits.{has_bit}
use Rattle.site_types.specs.Done.{Done, floor_before, cancelled_before}
use Rattle.coincidence_rules.specs.declared.finding.Finding.{Finding}
use Rattle.coincidence_rules.specs.Places.{rule_of}

abbrev pub tells_zone : ℕ → Option Zone → Bool
tells_zone mask None = false
tells_zone mask (Some z) = has_bit mask (z.number - 1)

-- a mask of a finding has the zone
abbrev pub tells : Site → ℕ → ℕ → Bool
tells site zone mask = tells_zone mask (slice_get site.zones zone)

-- a finding stamped after the zone's last floor before a tick passes the test
abbrev pub found_since : Site → List Done → List Finding → ℕ → ℕ → (Finding → Bool) → Bool
found_since site done taken zone tick test =
    list_any (λ f. nat_lt (floor_before site zone tick done) f.stamp.0 && test f) taken

-- the zone is in alarm: an answer confirmed it at a stamp after its floor
abbrev pub alarm_found : Site → List Done → List Finding → ℕ → ℕ → Bool
alarm_found site done taken zone tick =
    found_since site done taken zone tick (λ f. tells site zone f.confirmed)

-- the zone is in alarm by a manual call point
abbrev pub hand_found : Site → List Done → List Finding → ℕ → ℕ → Bool
hand_found site done taken zone tick = found_since site done taken zone tick (λ f. tells site zone f.manual)

-- outputs may act for the zone
abbrev pub release_found : Site → List Done → List Finding → ℕ → ℕ → Bool
release_found site done taken zone tick =
    found_since site done taken zone tick (λ f. tells site zone f.released)

-- a detector's answer counted for the zone after its last floor and its last cancelling, at most so many
-- ticks before
abbrev pub tells_first : Site → List Done → ℕ → ℕ → ℕ → Finding → Bool
tells_first site done within zone tick f =
    (tells site zone f.counted && not (tells site zone f.manual))
    && ((nat_lt (floor_before site zone tick done) f.stamp.0
    && nat_lt (cancelled_before zone tick done) f.stamp.0) && nat_le tick (f.stamp.0 + within))

abbrev pub first_found_by : Site → List Done → List Finding → ℕ → ℕ → Option Rule → Bool
first_found_by site done taken zone tick (Some (B within)) =
    not (alarm_found site done taken zone tick) && list_any (tells_first site done within zone tick) taken
first_found_by site done taken zone tick _ = false

-- the zone is in first state: it is of type B, not in alarm, and a detector of it told; this ends by time
-- alone
abbrev pub first_found : Site → List Done → List Finding → ℕ → ℕ → Bool
first_found site done taken zone tick =
    first_found_by site done taken zone tick (rule_of (slice_get site.zones zone))
