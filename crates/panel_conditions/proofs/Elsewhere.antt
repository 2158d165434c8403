-- An operation of another panel changes nothing of what is kept and shown of this one.
use Rattle.std.proofs.Common.{◌≡◌, ℕ, ◌+◌, Bool, false, List, ◌∷◌, Option, Some, None, slice_get, ◌&&◌, refl, sym, ◌∙◌, ap, subst, arith}
use Rattle.std.proofs.lemmas.Bool.{ne_eqb}
use Rattle.tick_units.specs.declared.tick.Tick.{Tick}
use Rattle.site_types.specs.declared.site.Site.{Site}
use Rattle.site_types.specs.declared.point.Point.{Point as PointPlan}
use Rattle.site_types.specs.declared.retained.Retained.{Retained}
use Rattle.site_types.specs.Done.{Done, PointOff, ZoneOff, is_mute, mutes, moves_floor, cancels}
use Rattle.coincidence_rules.specs.declared.finding.Finding.{Finding}
use Rattle.site_types.specs.Bits.{has_bit}
use Rattle.coincidence_rules.specs.Applied.{TellsLast}
use Rattle.coincidence_rules.specs.Wired.{IsWired}
use Rattle.coincidence_rules.proofs.Elsewhere.{IsElsewhere, elsewhere, force_same, last_same}
use Rattle.coincidence_rules.proofs.ZoneMasks.{of_numbered}
use Rattle.panel_conditions.specs.declared.hold.Hold.{Hold}
use Rattle.panel_conditions.specs.declared.point_switch.PointSwitch.{PointSwitch}
use Rattle.panel_conditions.specs.declared.points.Points.{Points}
use Rattle.panel_conditions.specs.declared.zone_watch.ZoneWatch.{ZoneWatch}
use Rattle.panel_conditions.specs.declared.zones.Zones.{Zones}
use Rattle.panel_conditions.specs.Missing.{zone_is_off}
use Rattle.panel_conditions.specs.Parts.{later_tick, sign_mask, watch_shows}
use Rattle.panel_conditions.specs.Points.{addressed, on_point, points_where}
use Rattle.panel_conditions.specs.Stands.{HoldsFor, MayNote, Settled, TellsPoints, Watches, WatchesPoints, WatchesZone, WatchesZones}
use Rattle.panel_conditions.specs.Stands.{point_is_off, zone_of_is_off}
use Rattle.panel_conditions.specs.Turns.{HoldTurn, findings_taken, latest_tick}
use Rattle.panel_conditions.proofs.Addressed.{of_addressed}
use Rattle.panel_conditions.proofs.Drawn.{later_left}
use Rattle.panel_conditions.proofs.PointSets.{sets_agree}
use Rattle.panel_conditions.proofs.Turned.{shows_after, few_after}
use Rattle.panel_conditions.proofs.Unchanged.{shown_in, stays_done}

-- two tests that agree on the points of a panel have the same set of them
own_points_same : (site : Site) (panel : ℕ) (p q : ℕ → Bool)
    → ((place : ℕ) (point : PointPlan) → slice_get site.points place ≡ Some point → point.panel ≡ panel → p place ≡ q place)
    → points_where site panel p ≡ points_where site panel q
own_points_same site panel p q same = sets_agree site panel p q (λ line address. at line address (addressed site panel line address) refl)
  where
    at : (line address : ℕ) (o : Option ℕ) → addressed site panel line address ≡ o → on_point p o ≡ on_point q o
    at line address None e = refl
    at line address (Some place) e = let found = of_addressed site panel line address place e in same place found.point found.is found.panel_is

module _ (site : Site) (kept : Retained) (panel : ℕ) (done : List Done) (d : Done) (away : IsElsewhere site panel d) (wired : IsWired site) where
  zone_same : (taken : List Finding) (k : ℕ) (watch : ZoneWatch) → WatchesZone site panel done taken k watch
      → WatchesZone site panel (d ∷ done) taken k watch
  zone_same taken k watch h = record {
    place = h.place;
    bit = h.bit;
    within = h.within;
    floor = λ place is.
        let zone = of_numbered site panel (k + 1) place is in
        last_same done d (moves_floor site place) watch.floor (away.floors place zone.zone zone.is zone.panel_is) (h.floor place is);
    cancelled = λ place is.
        let zone = of_numbered site panel (k + 1) place is in
        last_same done d (cancels place) watch.cancelled (away.cancelled place zone.zone zone.is zone.panel_is) (h.cancelled place is);
    confirmed = h.confirmed;
    called = h.called;
    released = h.released;
    told = h.told;
  }

  -- a set of the panel's points, where each of them passes the test as before
  points_same : (test test' : ℕ → ℕ → Bool) (switch : PointSwitch)
      → ((x place : ℕ) (point : PointPlan) → slice_get site.points place ≡ Some point → point.panel ≡ panel → test' x place ≡ test x place)
      → TellsPoints site panel test done switch → TellsPoints site panel test' (d ∷ done) switch
  points_same test test' switch same h = record {
    at = λ x since. h.at x since ∙ sym (own_points_same site panel (test' x) (test x) (same x));
    by = λ x all. h.by x all.1;
  }

  zone_off_same : (x place : ℕ) (point : PointPlan) → slice_get site.points place ≡ Some point → point.panel ≡ panel
      → zone_of_is_off site kept (d ∷ done) x place ≡ zone_of_is_off site kept done x place
  zone_off_same x place point is own =
      let zone = wired.zoned place point is in
      ap (λ o. zone_is_off site kept (d ∷ done) o x) is
      ∙ force_same done d site kept (ZoneOff point.zone) x (away.offs point.zone zone.zone zone.is (zone.at_panel ∙ own))
      ∙ ap (λ o. zone_is_off site kept done o x) (sym is)

  watches_points : (taken : List Finding) (points : Points) → WatchesPoints site kept panel done taken points
      → WatchesPoints site kept panel (d ∷ done) taken points
  watches_points taken points h = record {
    own = h.own;
    addresses = h.addresses;
    of_zones = h.of_zones;
    missing = h.missing;
    told = h.told;
    off =
        points_same (point_is_off site kept done) (point_is_off site kept (d ∷ done)) points.off
        (λ x place point is own. force_same done d site kept (PointOff place) x (away.points place point is own)) h.off;
    zone_off = points_same (zone_of_is_off site kept done) (zone_of_is_off site kept (d ∷ done)) points.zone_off zone_off_same h.zone_off;
  }

  mutes_not : mutes panel d ≡ false
  mutes_not = ap (λ b. b && is_mute d.operation) (ne_eqb d.panel panel away.apart)

  pub watches_same : (taken : List Finding) (before after : Hold) → Watches site kept panel done taken before
      → after.zones.watches ≡ before.zones.watches → after.points ≡ before.points → after.muted ≡ before.muted
      → Watches site kept panel (d ∷ done) taken after
  watches_same taken before after h zones points muted = record {
    zones =
        subst (λ w. WatchesZones site panel (d ∷ done) taken w.items) (sym zones)
        (record { count = h.zones.count; each = λ k watch is. zone_same taken k watch (h.zones.each k watch is) });
    points = subst (WatchesPoints site kept panel (d ∷ done) taken) (sym points) (watches_points taken before.points h.points);
    muted = last_same done d (mutes panel) after.muted mutes_not (subst (TellsLast (mutes panel) done) (sym muted) h.muted);
  }

-- zones that were settled stay so where a later tick is noted
settled_noted : (tick : ℕ) (at : Tick) (before after : Zones) → after.watches ≡ before.watches → after.changed ≡ before.changed
    → after.signs ≡ before.signs → after.moved ≡ later_tick before.moved at → Settled tick before → Settled tick after
settled_noted tick at before after watches changed signs moved h = record {
  moved = λ k watch is.
      let was = h.moved k watch (ap (λ w. slice_get w.items k) (sym watches) ∙ is) in
      let left = later_left before.moved at in
      let now = ap (λ (t : Tick). t.0) moved in
      let a = was.0 in
      let b = was.1 in
      (omega (arith, a, left, now), omega (arith, b, left, now));
  held = λ sign k x small le calm first.
      ap (λ w. watch_shows sign x (slice_get w.items k)) watches
      ∙ h.held sign k x small le (ap (λ c. has_bit c k) (sym changed) ∙ calm) (ap (λ s. has_bit s.first k) (sym signs) ∙ first)
      ∙ ap (λ s. has_bit (sign_mask sign s) k) (sym signs);
}

-- the part stands for one operation more, of another panel, once its tick is noted
pub holds_elsewhere : (site : Site) (kept : Retained) (panel : ℕ) (done : List Done) (turns : List HoldTurn) (d : Done) (at : Tick) (was : Hold)
    (zones : Zones) → HoldsFor site kept panel done turns was → MayNote site panel turns d → d.tick ≡ at.0 → zones.watches ≡ was.zones.watches
    → zones.changed ≡ was.zones.changed → zones.signs ≡ was.zones.signs → zones.moved ≡ later_tick was.zones.moved at
    → HoldsFor site kept panel (d ∷ done) turns (record was { zones = zones })
holds_elsewhere site kept panel done turns d at was zones h may tick watches changed signs moved =
    let after : Hold = record was { zones = zones } in
    let away = elsewhere site panel d.tick d.panel may.apart d.operation may.has in
    record {
      watches = watches_same site kept panel done d away may.wired (findings_taken turns) was after h.watches watches refl refl;
      shows = shows_after site kept panel done turns d was h may.turned;
      settled = settled_noted (latest_tick turns) at was.zones zones watches changed signs moved h.settled;
      stays =
          stays_done done d at was after tick moved refl
          (let stamp = shown_in site kept panel done turns was h in let turned = may.turned in omega (arith, stamp, turned, tick)) h.stays;
      rising = h.rising;
      few = few_after site kept panel done turns d was h may.turned;
    }
