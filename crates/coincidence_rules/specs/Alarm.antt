-- Which zones are in alarm, in alarm by hand, and released, by the answers taken and the operations done
-- before a tick.
use Rattle.std.specs.Prelude.{◌≡◌, ◌<◌, ℕ, Bool, true, List, Option, Some, slice_get, ◌&&◌, ◌||◌, nat_lt}
use Rattle.std.specs.List.{list_any}
use Rattle.site_types.specs.declared.site.Site.{Site}
use Rattle.site_types.specs.declared.answer.Answer.{Answer}
use Rattle.site_types.specs.declared.rule.Rule.{Rule}
use Rattle.site_types.specs.declared.rule.Rule.TheVariants.{C}
use Rattle.site_types.specs.declared.retained.Retained.{Retained}
use Rattle.site_types.specs.Done.{Done, floor_before}
use Rattle.coincidence_rules.specs.Places.{rule_of, pairs_up}
use Rattle.coincidence_rules.specs.Counted.{is_counted}
use Rattle.coincidence_rules.specs.Confirmed.{is_second, is_by_call_point, confirms, is_confirmed_at}

-- an answer after the last floor of the zone before a tick passes the test
abbrev pub since_floor : Site → List Done → List Answer → ℕ → ℕ → (Answer → Bool) → Bool
since_floor site done answers zone tick test =
    list_any (λ answer. nat_lt (floor_before site zone tick done) answer.stamp.0 && test answer) answers

-- the zone is in alarm: it was confirmed at a stamp after its floor
abbrev pub is_in_alarm : Site → Retained → List Done → List Answer → ℕ → ℕ → Bool
is_in_alarm site kept done answers zone tick =
    since_floor site done answers zone tick (confirms site kept done answers zone)

-- a zone is in alarm at a tick exactly where it was confirmed at some stamp after its last floor before that
-- tick
pub record InAlarmWhereConfirmed : Type 0 where
  pub confirmed : (site : Site) (kept : Retained) (done : List Done) (answers : List Answer) (zone tick : ℕ)
      → is_in_alarm site kept done answers zone tick ≡ true
      → (stamp : ℕ) × (floor_before site zone tick done < stamp)
      × (is_confirmed_at site kept done answers zone stamp ≡ true)
  pub in_alarm : (site : Site) (kept : Retained) (done : List Done) (answers : List Answer) (zone tick stamp :
      ℕ) → floor_before site zone tick done < stamp
      → is_confirmed_at site kept done answers zone stamp ≡ true
      → is_in_alarm site kept done answers zone tick ≡ true

-- the answer counts and is of a manual call point of the zone
abbrev pub calls : Site → Retained → List Done → ℕ → Answer → Bool
calls site kept done zone answer = is_counted site kept done answer && is_by_call_point site zone answer.point

-- the zone is in alarm by hand: a manual call point of it confirmed it after its floor
abbrev pub is_by_hand : Site → Retained → List Done → List Answer → ℕ → ℕ → Bool
is_by_hand site kept done answers zone tick =
    since_floor site done answers zone tick (calls site kept done zone)

-- a second point besides the one of this answer, both of the zone or one of it and one of its partner, each
-- after the floor of its own zone
abbrev pub has_second : Site → Retained → List Done → List Answer → ℕ → Answer → Bool
has_second site kept done answers zone answer =
    is_counted site kept done answer
    && pairs_up site zone answer.point (λ other. list_any (is_second site kept done other answer) answers)

-- what releases a zone at an answer: what confirms it; for type C a manual call point of it, or a second
-- point
abbrev pub releases_by : Site → Retained → List Done → List Answer → ℕ → Option Rule → Answer → Bool
releases_by site kept done answers zone (Some C) answer =
    calls site kept done zone answer || has_second site kept done answers zone answer
releases_by site kept done answers zone _ answer = confirms site kept done answers zone answer

-- among these answers, this one releases the zone
abbrev pub releases : Site → Retained → List Done → List Answer → ℕ → Answer → Bool
releases site kept done answers zone answer =
    releases_by site kept done answers zone (rule_of (slice_get site.zones zone)) answer

-- the zone is released: outputs may act for it, by an answer after its floor
abbrev pub is_released : Site → Retained → List Done → List Answer → ℕ → ℕ → Bool
is_released site kept done answers zone tick =
    since_floor site done answers zone tick (releases site kept done answers zone)
