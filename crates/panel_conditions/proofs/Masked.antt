-- The masks that are shown are those of the zones that the findings tell.
use Rattle.std.proofs.Common.{◌≡◌, ℕ, zero, suc, ◌+◌, ◌-◌, ◌<◌, ◌≤◌, Bool, true, false, not, List, [], ◌∷◌, length, Option, Some, None, slice_get, ◌&&◌, nat_lt, nat_le, refl, sym, ◌∙◌, ap, arith}
use Rattle.std.specs.List.{list_any}
use Rattle.std.specs.Option.{is_some}
use Rattle.std.proofs.lemmas.Bool.Decides.{nat_tests}
use Rattle.site_types.specs.declared.site.Site.{Site}
use Rattle.site_types.specs.declared.rule.Rule.{Rule}
use Rattle.site_types.specs.declared.rule.Rule.TheVariants.{Plain, A, B, C}
use Rattle.site_types.specs.Bits.{has_bit, mask_of}
use Rattle.site_types.specs.Done.{Done, AreBy, floor_before, cancelled_before}
use Rattle.site_types.proofs.Done.{lt_false}
use Rattle.site_types.proofs.Masks.{mask_same}
use Rattle.coincidence_rules.specs.declared.finding.Finding.{Finding}
use Rattle.coincidence_rules.specs.Places.{numbered, on_zone, rule_of, zones_where}
use Rattle.coincidence_rules.proofs.ZoneMasks.{HasNumber, of_numbered}
use Rattle.coincidence_rules.proofs.Lists.{and_both, both_and}
use Rattle.panel_conditions.specs.declared.sign.Sign.{Sign}
use Rattle.panel_conditions.specs.declared.sign.Sign.TheVariants.{Alarm, Manual, Released, First}
use Rattle.panel_conditions.specs.declared.zone_watch.ZoneWatch.{ZoneWatch}
use Rattle.panel_conditions.specs.Parts.{first_shows, sign_shows, watch_shows}
use Rattle.tick_units.specs.LastTicks.{last_at}
use Rattle.panel_conditions.specs.Zones.{tells, tells_zone, alarm_found, hand_found, release_found, tells_first, first_found_by, first_found}
use Rattle.panel_conditions.specs.Stands.{WatchesZone, WatchesZones, latest_stamp, within_at, within_of, within_rule}
use Rattle.panel_conditions.proofs.Latest.{any_latest}

-- what a sign of a zone tells of the findings
abbrev pub sign_found : Site → List Done → List Finding → ℕ → Sign → ℕ → Bool
sign_found site done taken tick Alarm zone = alarm_found site done taken zone tick
sign_found site done taken tick Manual zone = hand_found site done taken zone tick
sign_found site done taken tick Released zone = release_found site done taken zone tick
sign_found site done taken tick First zone = first_found site done taken zone tick

and_swap : (a b : Bool) → (a && b) ≡ (b && a)
and_swap true true = refl
and_swap true false = refl
and_swap false true = refl
and_swap false false = refl

less_up : (floor m n : ℕ) → m ≤ n → nat_lt floor m ≡ true → nat_lt floor n ≡ true
less_up floor m n le h = grind (arith, nat_tests, le, h)

at_most_up : (tick within m n : ℕ) → m ≤ n → nat_le tick (m + within) ≡ true → nat_le tick (n + within) ≡ true
at_most_up tick within m n le h = grind (arith, nat_tests, le, h)

sub_le : (tick stamp within : ℕ) → nat_le (tick - stamp) within ≡ nat_le tick (stamp + within)
sub_le tick stamp within = grind (arith, nat_tests)

-- a finding after a floor passes a test exactly where the latest one that passes it does
found_latest : (floor : ℕ) (test other : Finding → Bool) → ((f : Finding) → other f ≡ test f) → (taken : List Finding) →
    list_any (λ f. nat_lt floor f.stamp.0 && other f) taken ≡ nat_lt floor (latest_stamp test taken)
found_latest floor test other same taken =
    any_latest (nat_lt floor) (lt_false floor 0 (omega arith)) (less_up floor) test (λ f. nat_lt floor f.stamp.0 && other f)
    (λ f. and_swap (nat_lt floor f.stamp.0) (other f) ∙ ap (λ b. b && nat_lt floor f.stamp.0) (same f)) taken

-- a stamp after the floor and the cancelling, at most so many ticks before
abbrev lasts : ℕ → ℕ → ℕ → ℕ → ℕ → Bool
lasts floor cancelled tick within stamp = (nat_lt floor stamp && nat_lt cancelled stamp) && nat_le tick (stamp + within)

lasts_up : (floor cancelled tick within m n : ℕ) → m ≤ n → lasts floor cancelled tick within m ≡ true → lasts floor cancelled tick within n ≡ true
lasts_up floor cancelled tick within m n le h =
    let outer = and_both (nat_lt floor m && nat_lt cancelled m) (nat_le tick (m + within)) h in
    let inner = and_both (nat_lt floor m) (nat_lt cancelled m) outer.0 in
    both_and (nat_lt floor n && nat_lt cancelled n) (nat_le tick (n + within))
    (both_and (nat_lt floor n) (nat_lt cancelled n) (less_up floor m n le inner.0) (less_up cancelled m n le inner.1))
    (at_most_up tick within m n le outer.1)

lasts_none : (floor cancelled tick within : ℕ) → lasts floor cancelled tick within 0 ≡ false
lasts_none floor cancelled tick within =
    ap (λ b. (b && nat_lt cancelled 0) && nat_le tick (0 + within)) (lt_false floor 0 (omega arith))

-- the mask of a finding tells the zone by its bit
tells_is : (site : Site) (panel k place mask : ℕ) → HasNumber site panel (k + 1) place → tells site place mask ≡ has_bit mask k
tells_is site panel k place mask n =
    ap (tells_zone mask) n.is ∙ ap (has_bit mask) (let e : n.zone.number - 1 ≡ k = (let number = n.number_is in omega (arith, number)) in e)

module _ (site : Site) (panel : ℕ) (done : List Done) (taken : List Finding) (tick k place : ℕ) (watch : ZoneWatch) (h :
    WatchesZone site panel done taken k watch) (since : AreBy tick done)
    (is : numbered site panel (k + 1) ≡ Some place) where
  floor_is : floor_before site place tick done ≡ last_at tick watch.floor
  floor_is = (h.floor place is).at tick ((h.floor place is).by tick since)

  cancelled_is : cancelled_before place tick done ≡ last_at tick watch.cancelled
  cancelled_is = (h.cancelled place is).at tick ((h.cancelled place is).by tick since)

  told_by : (mask : Finding → ℕ) (stamp : ℕ) → stamp ≡ latest_stamp (λ f. has_bit (mask f) k) taken →
      nat_lt (last_at tick watch.floor) stamp ≡ list_any (λ f. nat_lt (floor_before site place tick done) f.stamp.0 && tells site place (mask f))
      taken
  told_by mask stamp e =
      ap (λ floor. nat_lt floor stamp) (sym floor_is)
      ∙ ap (nat_lt (floor_before site place tick done)) e
      ∙ sym (found_latest (floor_before site place tick done) (λ f. has_bit (mask f) k) (λ f. tells site place (mask f))
      (λ f. tells_is site panel k place (mask f) (of_numbered site panel (k + 1) place is)) taken)

  first_told : (within : ℕ) →
      ((nat_lt (last_at tick watch.floor) watch.told.0 && nat_lt (last_at tick watch.cancelled) watch.told.0) && nat_le (tick - watch.told.0) within)
      ≡ list_any (tells_first site done within place tick) taken
  first_told within =
      let floor = floor_before site place tick done in
      let cancelled = cancelled_before place tick done in
      let number = of_numbered site panel (k + 1) place is in
      ap (λ b. (nat_lt (last_at tick watch.floor) watch.told.0 && nat_lt (last_at tick watch.cancelled) watch.told.0) && b)
      (sub_le tick watch.told.0 within)
      ∙ ap (λ n. (nat_lt n watch.told.0 && nat_lt (last_at tick watch.cancelled) watch.told.0) && nat_le tick (watch.told.0 + within)) (sym floor_is)
      ∙ ap (λ n. (nat_lt floor watch.told.0 && nat_lt n watch.told.0) && nat_le tick (watch.told.0 + within)) (sym cancelled_is)
      ∙ ap (lasts floor cancelled tick within) h.told
      ∙ sym (any_latest (lasts floor cancelled tick within) (lasts_none floor cancelled tick within) (lasts_up floor cancelled tick within)
      (λ f. has_bit f.counted k && not (has_bit f.manual k)) (tells_first site done within place tick)
      (λ f. ap (λ b. (b && not (tells site place f.manual)) && lasts floor cancelled tick within f.stamp.0)
      (tells_is site panel k place f.counted number)
      ∙ ap (λ b. (has_bit f.counted k && not b) && lasts floor cancelled tick within f.stamp.0) (tells_is site panel k place f.manual number)) taken)

  first_by : (rule : Rule) → first_shows tick watch (within_rule rule) ≡ first_found_by site done taken place tick (Some rule)
  first_by Plain = refl
  first_by (A verify within) = refl
  first_by (B within) =
      ap (λ b. not b && ((nat_lt (last_at tick watch.floor) watch.told.0 && nat_lt (last_at tick watch.cancelled) watch.told.0)
      && nat_le (tick - watch.told.0) within))
      (told_by (λ f. f.confirmed) watch.confirmed.0 h.confirmed)
      ∙ ap (λ b. not (alarm_found site done taken place tick) && b) (first_told within)
  first_by C = refl

  first_is : first_shows tick watch watch.within ≡ first_found site done taken place tick
  first_is =
      let number = of_numbered site panel (k + 1) place is in
      ap (first_shows tick watch) (h.within ∙ ap (within_at site) is ∙ ap within_of number.is)
      ∙ first_by number.zone.rule
      ∙ sym (ap (λ z. first_found_by site done taken place tick (rule_of z)) number.is)

  sign_is : (sign : Sign) → sign_shows sign tick watch ≡ sign_found site done taken tick sign place
  sign_is Alarm = told_by (λ f. f.confirmed) watch.confirmed.0 h.confirmed
  sign_is Manual = told_by (λ f. f.manual) watch.called.0 h.called
  sign_is Released = told_by (λ f. f.released) watch.released.0 h.released
  sign_is First = first_is

pub none_past : {X : Type 0} (xs : List X) (k : ℕ) → k < length xs → slice_get xs k ≡ None → ⊥
none_past [] k h e = omega (arith, h)
none_past (x ∷ xs) zero h e = cc
none_past (x ∷ xs) (suc k) h e = none_past xs k (omega (arith, h)) e

shown_at : (site : Site) (panel : ℕ) (done : List Done) (taken : List Finding) (watches : List ZoneWatch) (tick : ℕ) (sign : Sign) → AreBy tick done
    → WatchesZones site panel done taken watches →
    (k : ℕ) → k < 32 → watch_shows sign tick (slice_get watches k) ≡ on_zone (sign_found site done taken tick sign) (numbered site panel (k + 1))
shown_at site panel done taken watches tick sign since h k small = watched (slice_get watches k) refl
  where
    placed : (watch : ZoneWatch) → WatchesZone site panel done taken k watch → (o : Option ℕ) → numbered site panel (k + 1) ≡ o →
        (is_some watch.place && sign_shows sign tick watch) ≡ on_zone (sign_found site done taken tick sign) o
    placed watch w None e = ap (λ o. is_some o && sign_shows sign tick watch) (w.place ∙ e)
    placed watch w (Some place) e =
        ap (λ o. is_some o && sign_shows sign tick watch) (w.place ∙ e) ∙ sign_is site panel done taken tick k place watch w since e sign

    watched : (o : Option ZoneWatch) → slice_get watches k ≡ o
        → watch_shows sign tick o ≡ on_zone (sign_found site done taken tick sign) (numbered site panel (k + 1))
    watched None e = absurd (none_past watches k (let c = h.count in omega (arith, c, small)) e)
    watched (Some watch) e = placed watch (h.each k watch e) (numbered site panel (k + 1)) refl

pub zones_shown : (site : Site) (panel : ℕ) (done : List Done) (taken : List Finding) (watches : List ZoneWatch) (tick : ℕ) (sign : Sign)
    → AreBy tick done → WatchesZones site panel done taken watches →
    mask_of 32 (λ k. watch_shows sign tick (slice_get watches k)) ≡ zones_where site panel (sign_found site done taken tick sign)
unfolding zones_where
zones_shown site panel done taken watches tick sign since h =
    mask_same 32 (λ k. watch_shows sign tick (slice_get watches k))
    (λ k. on_zone (sign_found site done taken tick sign) (numbered site panel (k + 1)))
    (shown_at site panel done taken watches tick sign since h)
