-- When a zone of type B is in its first state: one detector has told, and none has confirmed it.
use Rattle.std.specs.Prelude.{ℕ, ◌+◌, Bool, false, not, List, Option, Some, slice_get, ◌&&◌, nat_lt, nat_le}
use Rattle.std.specs.List.{list_any}
use Rattle.site_types.specs.declared.site.Site.{Site}
use Rattle.site_types.specs.declared.answer.Answer.{Answer}
use Rattle.site_types.specs.declared.rule.Rule.{Rule}
use Rattle.site_types.specs.declared.rule.Rule.TheVariants.{B}
use Rattle.site_types.specs.declared.retained.Retained.{Retained}
use Rattle.site_types.specs.Done.{Done, floor_before, cancelled_before}
use Rattle.coincidence_rules.specs.Places.{is_of, is_detector, rule_of}
use Rattle.coincidence_rules.specs.Counted.{is_counted}
use Rattle.coincidence_rules.specs.Alarm.{is_in_alarm}

-- the answer is of a detector of the zone and counts, after its floor and its last cancelling before a tick,
-- at most so many ticks before that one
abbrev pub tells_first : Site → Retained → List Done → ℕ → ℕ → ℕ → Answer → Bool
tells_first site kept done within zone tick answer =
    ((is_of site zone answer.point && is_detector site answer.point) && is_counted site kept done answer)
    && ((nat_lt (floor_before site zone tick done) answer.stamp.0
    && nat_lt (cancelled_before zone tick done) answer.stamp.0)
    && nat_le tick (answer.stamp.0 + within))

abbrev pub is_first_by : Site → Retained → List Done → List Answer → ℕ → ℕ → Option Rule → Bool
is_first_by site kept done answers zone tick (Some (B within)) =
    not (is_in_alarm site kept done answers zone tick)
    && list_any (tells_first site kept done within zone tick) answers
is_first_by site kept done answers zone tick _ = false

-- the zone is of type B, not in alarm, and a detector of it told
abbrev pub is_first : Site → Retained → List Done → List Answer → ℕ → ℕ → Bool
is_first site kept done answers zone tick =
    is_first_by site kept done answers zone tick (rule_of (slice_get site.zones zone))
