-- What confirms a zone: an answer that counts, with the other answers that its type of coincidence asks for.
-- Answers stand oldest first, and a zone is confirmed at the stamp of the later of two answers, whichever of
-- them stands first.
use Rattle.std.specs.Prelude.{ℕ, ◌+◌, Bool, false, not, List, Option, Some, None, slice_get, ◌==◌, ◌&&◌, ◌||◌, nat_lt}
use Rattle.std.specs.Prelude.{nat_le}
use Rattle.std.specs.List.{list_any, list_all}
use Rattle.site_types.specs.declared.site.Site.{Site}
use Rattle.site_types.specs.declared.answer.Answer.{Answer}
use Rattle.site_types.specs.declared.rule.Rule.{Rule}
use Rattle.site_types.specs.declared.rule.Rule.TheVariants.{Plain, A, B, C}
use Rattle.site_types.specs.declared.retained.Retained.{Retained}
use Rattle.site_types.specs.Done.{Done, floor_before, cancelled_before}
use Rattle.coincidence_rules.specs.Places.{is_of, is_manual, is_detector, rule_of, pairs_up}
use Rattle.coincidence_rules.specs.Counted.{is_counted}

-- for an answer and a zone, the other answer is of another point of the zone; it counts, was not given later, and lies
-- after each floor of the zone that came before the answer
abbrev pub is_second : Site → Retained → List Done → ℕ → Answer → Answer → Bool
is_second site kept done zone answer other =
    ((is_of site zone other.point && is_counted site kept done other) && not (other.point == answer.point))
    && (nat_lt (floor_before site zone answer.stamp.0 done) other.stamp.0
    && nat_le other.stamp.0 answer.stamp.0)

-- for an answer and a zone, the other answer is of another point, a detector of the zone; it counts, was given at most
-- so many ticks before, and lies after each floor of the zone that came before the answer
abbrev pub is_near : Site → Retained → List Done → ℕ → ℕ → Answer → Answer → Bool
is_near site kept done within zone answer other =
    (is_second site kept done zone answer other && is_detector site other.point)
    && nat_le answer.stamp.0 (other.stamp.0 + within)

-- for an answer and a zone, the other answer is of another point, a detector of the zone; it counts, was given at most
-- so many ticks before, and lies after each floor and each cancelling of the zone that came before the answer
abbrev pub is_uncancelled : Site → Retained → List Done → ℕ → ℕ → Answer → Answer → Bool
is_uncancelled site kept done within zone answer other =
    is_near site kept done within zone answer other
    && nat_lt (cancelled_before zone answer.stamp.0 done) other.stamp.0

-- the answer is of the point, and given from one stamp to another
abbrev pub is_between : ℕ → ℕ → ℕ → Answer → Bool
is_between point first last answer =
    (answer.point == point) && (nat_le first answer.stamp.0 && nat_le answer.stamp.0 last)

-- every answer of the point from one stamp to another counts
abbrev pub counts_throughout : Site → Retained → List Done → List Answer → ℕ → ℕ → ℕ → Bool
counts_throughout site kept done answers point first last =
    list_all (λ other. not (is_between point first last other) || is_counted site kept done other) answers

-- a first answer that counts, of the same point, after the zone's floor before the answer and at least so
-- many ticks before it
abbrev pub is_first_of_run : Site → Retained → List Done → ℕ → ℕ → Answer → Answer → Bool
is_first_of_run site kept done verify zone answer first =
    ((first.point == answer.point) && is_counted site kept done first)
    && (nat_lt (floor_before site zone answer.stamp.0 done) first.stamp.0
    && nat_le (first.stamp.0 + verify) answer.stamp.0)

-- one detector of type A: it gave an answer that counts long enough ago, and each of its answers from that
-- one to this one counts
abbrev pub is_verified : Site → Retained → List Done → List Answer → ℕ → ℕ → Answer → Bool
is_verified site kept done answers verify zone answer =
    list_any (λ first. is_first_of_run site kept done verify zone answer first
    && counts_throughout site kept done answers answer.point first.stamp.0 answer.stamp.0) answers

-- what the zone's type asks of an answer of a detector that counts: none and C, that it is of the zone; A,
-- that it is of the zone and verified, or another detector of the zone gave an answer that counts at most
-- `within` ticks before; B, that another detector gave one at most `within` ticks before, which no cancelling
-- undid, both of the zone or one of it and one of its partner
abbrev pub coincides : Site → Retained → List Done → List Answer → ℕ → Option Rule → Answer → Bool
coincides site kept done answers zone None answer = false
coincides site kept done answers zone (Some Plain) answer = is_of site zone answer.point
coincides site kept done answers zone (Some (A verify within)) answer =
    is_of site zone answer.point
    && (is_verified site kept done answers verify zone answer
    || list_any (is_near site kept done within zone answer) answers)
coincides site kept done answers zone (Some (B within)) answer =
    pairs_up site zone answer.point (λ other. list_any (is_uncancelled site kept done within other answer)
    answers)
coincides site kept done answers zone (Some C) answer = is_of site zone answer.point

-- the answer is of a manual call point of the zone, which confirms it at once, whatever its type
abbrev pub is_by_call_point : Site → ℕ → ℕ → Bool
is_by_call_point site zone point = is_of site zone point && is_manual site point

-- among these answers, this one confirms the zone at its stamp
abbrev pub confirms : Site → Retained → List Done → List Answer → ℕ → Answer → Bool
confirms site kept done answers zone answer =
    is_counted site kept done answer
    && (is_by_call_point site zone answer.point
    || (is_detector site answer.point
    && coincides site kept done answers zone (rule_of (slice_get site.zones zone)) answer))

-- the zone was confirmed at a stamp
abbrev pub is_confirmed_at : Site → Retained → List Done → List Answer → ℕ → ℕ → Bool
is_confirmed_at site kept done answers zone stamp =
    list_any (λ answer. (answer.stamp.0 == stamp) && confirms site kept done answers zone answer) answers
