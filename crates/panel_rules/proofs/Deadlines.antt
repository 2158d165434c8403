-- The deadline of a panel's own zones, and their causes.
use Rattle.std.proofs.Common.{◌≡◌, ℕ, ◌+◌, ◌≤◌, ◌<◌, List, ◌⊎◌, inl, inr, Bool, true, false, refl, ◌∙◌, ap, arith}
use Rattle.tick_units.specs.declared.task.Task.TheVariants.{Hold}
use Rattle.site_types.specs.declared.site.Site.{Site}
use Rattle.site_types.specs.declared.retained.Retained.{Retained}
use Rattle.site_types.specs.Done.{Done, moves_floor, cancels, floor_before, cancelled_before}
use Rattle.coincidence_rules.specs.Places.{is_of, is_detector}
use Rattle.coincidence_rules.specs.First.{tells_first, is_first_by}
use Rattle.panel_rules.proofs.Bools.{both, any_at, not_true}
use Rattle.panel_rules.proofs.Floors.{none_since, lt_to, le_to}
use Rattle.panel_rules.proofs.Held.{at_panel, round_counts}
use Rattle.site_types.specs.Profile.{round_of, signal_of}
use Rattle.panel_rules.specs.Moments.{Moment, tick_of, present, latest_turn}
use Rattle.panel_rules.specs.Zones.{panel_of_zone, held_answers, holds_alarm, holds_first}
use Rattle.panel_rules.specs.Due.{IsDueAfter, own, by_way}
use Rattle.panel_rules.specs.Laws.{IsAfterTick, OwnZoneIsShown, OwnZoneIsReleased, OwnZoneIsByHand, OwnZoneIsCaused, OwnHandIsCaused, OwnReleaseIsCaused, LoneSignalIsShown}
use Rattle.panel_rules.proofs.Turns.{turn_lag}
use Rattle.panel_rules.proofs.ValidLayout.{laid_out}
use Rattle.panel_rules.proofs.InAlarm.{signal_holds, hand_holds, out_holds}
use Rattle.panel_rules.proofs.Causes.{alarm_caused, hand_caused, released_caused}

-- what is due has settled the signal's ticks ago, however it is due
pub settled_by : (site : Site) (kept : Retained) (done : List Done) (moments : List Moment) (zone panel settled : ℕ)
    → IsDueAfter site kept done moments zone panel settled → settled + signal_of site.format ≤ tick_of moments
settled_by site kept done moments zone panel settled (own at l) = l
settled_by site kept done moments zone panel settled (by_way first last from by ends joined) = omega (arith, from, by)

-- after a tick Hold's latest turn is of that tick
held_now : (site : Site) (moments : List Moment) (zone : ℕ) → IsAfterTick site moments zone
    → latest_turn (panel_of_zone site zone) Hold moments ≡ tick_of moments
held_now site moments zone after =
    let lag =
    rw (after.ended.each (panel_of_zone site zone) Hold after.panel tt) at
    (turn_lag site.panels (panel_of_zone site zone) Hold moments after.panel tt after.run) in
    omega (arith, lag)

in_time : (site : Site) (kept : Retained) (done : List Done) (moments : List Moment) (zone settled : ℕ) → IsAfterTick site moments zone
    → IsDueAfter site kept done moments zone (panel_of_zone site zone) settled
    → settled + round_of site.format + 1 ≤ latest_turn (panel_of_zone site zone) Hold moments
in_time site kept done moments zone settled after late =
    let format = after.valid.forms.format.0 in
    omega (arith, settled_by site kept done moments zone (panel_of_zone site zone) settled late, held_now site moments zone after, format)

pub own_shown : OwnZoneIsShown
own_shown site kept done moments zone after due =
    signal_holds site kept done moments moments (panel_of_zone site zone) zone (laid_out site after.valid) after.run present after.panel refl
    due.settled due.signal
    (in_time site kept done moments zone due.settled after due.late)

pub own_released : OwnZoneIsReleased
own_released site kept done moments zone after due =
    out_holds site kept done moments moments (panel_of_zone site zone) zone (laid_out site after.valid) after.run present after.panel refl due.settled
    due.signal
    (in_time site kept done moments zone due.settled after due.late)

pub own_by_hand : OwnZoneIsByHand
own_by_hand site kept done moments zone after due =
    hand_holds site kept done moments moments (panel_of_zone site zone) zone (laid_out site after.valid) after.run present after.panel refl
    due.settled due.signal
    (in_time site kept done moments zone due.settled after due.late)

pub own_caused : OwnZoneIsCaused
own_caused site kept done moments zone run panel h = alarm_caused site kept done moments moments zone run present panel h

pub own_hand_caused : OwnHandIsCaused
own_hand_caused site kept done moments zone run panel h = hand_caused site kept done moments moments zone run present panel h

pub own_release_caused : OwnReleaseIsCaused
own_release_caused site kept done moments zone run panel h = released_caused site kept done moments moments zone run present panel h

pub lone_shown : LoneSignalIsShown
lone_shown site kept done moments zone after s = go (holds_alarm site kept done (panel_of_zone site zone) moments zone) refl
  where
    go : (b : Bool) → holds_alarm site kept done (panel_of_zone site zone) moments zone ≡ b
        → (holds_alarm site kept done (panel_of_zone site zone) moments zone ≡ true)
        ⊎ (holds_first site kept done (panel_of_zone site zone) moments zone ≡ true)
    go true e = inl e
    go false e =
        let panel = panel_of_zone site zone in
        let xs = held_answers site panel moments in
        let held = latest_turn panel Hold moments in
        let now = held_now site moments zone after in
        let format = after.valid.forms.format.0 in
        let at = at_panel site zone panel s.point (laid_out site after.valid) s.of_zone refl in
        let c =
        round_counts site kept done moments moments panel after.run present after.panel s.point s.first (laid_out site after.valid) at s.begins
        (omega (arith, s.late, now, format)) s.held in
        let floor = none_since (moves_floor site zone) s.first (tick_of moments) held done s.begins (omega (arith, now)) s.floor in
        let cancelling = none_since (cancels zone) s.first (tick_of moments) held done s.begins (omega (arith, now)) s.cancelling in
        let after_floor : floor_before site zone held done < c.answer.stamp.0 = omega (arith, floor, c.from) in
        let after_cancelling : cancelled_before zone held done < c.answer.stamp.0 = omega (arith, cancelling, c.from) in
        let tells : tells_first site kept done s.within zone held c.answer ≡ true =
        both _ _
        (both _ _ (both _ _ (ap (λ q. is_of site zone q) c.point_is ∙ s.of_zone) (ap (λ q. is_detector site q) c.point_is ∙ s.detects)) c.counts)
        (both _ _
        (both _ _ (lt_to (floor_before site zone held done) c.answer.stamp.0 after_floor)
        (lt_to (cancelled_before zone held done) c.answer.stamp.0 after_cancelling))
        (le_to held (c.answer.stamp.0 + s.within) (omega (arith, s.window, c.from, now)))) in
        inr (ap (λ r. is_first_by site kept done xs zone held r) s.rule ∙ both _ _ (not_true _ e) (any_at (tells_first site kept done s.within zone held) xs c.place c.answer c.is tells))
