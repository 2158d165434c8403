-- A finding that tells nothing but what is shown changes nothing that the zones show.
use Rattle.std.proofs.Common.{◌≡◌, ℕ, ◌-◌, ◌<◌, Bool, true, false, not, inl, inr, ◌||◌, ◌&&◌, Option, Some, None, option_map, slice_get, nat_lt, nat_le}
use Rattle.std.proofs.Common.{bit_or, refl, sym, ◌∙◌, ap, arith}
use Rattle.std.specs.Option.{is_some}
use Rattle.std.proofs.lemmas.Bool.Decides.{nat_tests}
use Rattle.tick_units.specs.declared.tick.Tick.{Tick}
use Rattle.tick_units.specs.LastTicks.{last_at}
use Rattle.site_types.specs.Bits.{has_bit}
use Rattle.site_types.proofs.Masks.{has_bit-or}
use Rattle.site_types.proofs.Done.{lt_tells}
use Rattle.coincidence_rules.specs.declared.finding.Finding.{Finding}
use Rattle.panel_conditions.specs.declared.sign.Sign.{Sign}
use Rattle.panel_conditions.specs.declared.sign.Sign.TheVariants.{Alarm, Manual, Released, First}
use Rattle.panel_conditions.specs.declared.signs.Signs.{Signs}
use Rattle.panel_conditions.specs.declared.zone_watch.ZoneWatch.{ZoneWatch}
use Rattle.panel_conditions.specs.declared.zones.Zones.{Zones}
use Rattle.panel_conditions.specs.Parts.{IsShown, Marks, first_shows, sign_mask, stamp_if, watch_shows, zone_taken}
use Rattle.panel_conditions.specs.Stands.{AreNumbered, Settled}
use Rattle.panel_conditions.proofs.Drawn.{moved_more, settled_more}

-- ---- one sign

lt_later : (floor a b : ℕ) → a < b → nat_lt floor a ≡ true → nat_lt floor b ≡ true
lt_later floor a b less h = grind (arith, nat_tests, less, h)

-- what shows already shows after a later stamp
later_shows : (on shown : Bool) (stamp latest : Tick) (floor : ℕ) → (on ≡ true → (shown && nat_lt floor latest.0) ≡ true)
    → (shown && nat_lt floor (stamp_if on stamp latest).0) ≡ (shown && nat_lt floor latest.0)
later_shows false shown stamp latest floor has = refl
later_shows true false stamp latest floor has = refl
later_shows true true stamp latest floor has = elim (lt_tells latest.0 stamp.0) [
  | inl less ↦ (let shows = has refl in rw less.0 (lt_later floor latest.0 stamp.0 less.1 shows ∙ sym shows))
  | inr other ↦ rw other.0 refl
]

-- what a mask holds of another
held_in : (a m : Bool) → (a || m) ≡ m → a ≡ true → m ≡ true
held_in true m h is = sym h
held_in false m h is = absurd (cc)

told_in : (a b m : Bool) → ((a || b) || m) ≡ m → (a ≡ true → m ≡ true) × (b ≡ true → m ≡ true)
told_in true b m h = (λ on. sym h, λ on. sym h)
told_in false true m h = (λ on. sym h, λ on. sym h)
told_in false false m h = (λ on. absurd (cc), λ on. absurd (cc))

-- what is in a mask is not where the mask is not
not_told : (a m : Bool) → (a ≡ true → m ≡ true) → m ≡ false → a ≡ false
not_told false m h off = refl
not_told true m h off = absurd (let on = h refl in let no_way : true ≡ false = sym on ∙ off in cc)

both : (p a : Bool) → (p && a) ≡ true → (p ≡ true) × (a ≡ true)
both true a h = (refl, h)
both false a h = absurd (cc)

-- a zone in alarm isn't in first state, whatever was told of it
no_first : (x : ℕ) (watch : ZoneWatch) (within : Option ℕ) → nat_lt (last_at x watch.floor) watch.confirmed.0 ≡ true → first_shows x watch within ≡ false
no_first x watch None alarm = refl
no_first x watch (Some within) alarm =
    ap (λ b. not b && ((nat_lt (last_at x watch.floor) watch.told.0 && nat_lt (last_at x watch.cancelled) watch.told.0) && nat_le (x - watch.told.0) within)) alarm

-- ---- one zone

module _ (f : Finding) (signs : Signs) (shown : IsShown f signs) (x : ℕ) (watch : ZoneWatch)
    (shows : (sign : Sign) → watch_shows sign x (Some watch) ≡ has_bit (sign_mask sign signs) watch.bit) where
  in_alarm : (has_bit f.counted watch.bit ≡ true → has_bit signs.alarm watch.bit ≡ true) × (has_bit f.confirmed watch.bit ≡ true → has_bit signs.alarm watch.bit ≡ true)
  in_alarm =
      told_in (has_bit f.counted watch.bit) (has_bit f.confirmed watch.bit) (has_bit signs.alarm watch.bit)
      (ap (λ b. b || has_bit signs.alarm watch.bit) (sym (has_bit-or f.counted f.confirmed watch.bit))
      ∙ sym (has_bit-or (bit_or f.counted f.confirmed) signs.alarm watch.bit) ∙ ap (λ m. has_bit m watch.bit) shown.alarm)

  in_manual : has_bit f.manual watch.bit ≡ true → has_bit signs.manual watch.bit ≡ true
  in_manual =
      held_in (has_bit f.manual watch.bit) (has_bit signs.manual watch.bit)
      (sym (has_bit-or f.manual signs.manual watch.bit) ∙ ap (λ m. has_bit m watch.bit) shown.manual)

  in_released : has_bit f.released watch.bit ≡ true → has_bit signs.released watch.bit ≡ true
  in_released =
      held_in (has_bit f.released watch.bit) (has_bit signs.released watch.bit)
      (sym (has_bit-or f.released signs.released watch.bit) ∙ ap (λ m. has_bit m watch.bit) shown.released)

  alarm_same : watch_shows Alarm x (Some (zone_taken f watch)) ≡ watch_shows Alarm x (Some watch)
  alarm_same =
      later_shows (has_bit f.confirmed watch.bit) (is_some watch.place) f.stamp watch.confirmed (last_at x watch.floor)
      (λ on. shows Alarm ∙ in_alarm.1 on)

  first_same : (alarm : Bool) → has_bit signs.alarm watch.bit ≡ alarm
      → watch_shows First x (Some (zone_taken f watch)) ≡ watch_shows First x (Some watch)
  first_same true on =
      let before = both (is_some watch.place) (nat_lt (last_at x watch.floor) watch.confirmed.0) (shows Alarm ∙ on) in
      let after = both (is_some watch.place) (nat_lt (last_at x watch.floor) (zone_taken f watch).confirmed.0) (alarm_same ∙ shows Alarm ∙ on) in
      ap (λ b. is_some watch.place && b) (no_first x (zone_taken f watch) watch.within after.1 ∙ sym (no_first x watch watch.within before.1))
  first_same false off =
      let counted = not_told (has_bit f.counted watch.bit) (has_bit signs.alarm watch.bit) in_alarm.0 off in
      let confirmed = not_told (has_bit f.confirmed watch.bit) (has_bit signs.alarm watch.bit) in_alarm.1 off in
      ap (λ b. is_some watch.place && b) (untold_first counted confirmed watch.within)
    where
      untold_first : has_bit f.counted watch.bit ≡ false → has_bit f.confirmed watch.bit ≡ false → (within : Option ℕ)
          → first_shows x (zone_taken f watch) within ≡ first_shows x watch within
      untold_first counted confirmed None = refl
      untold_first counted confirmed (Some within) = rw (counted, confirmed) refl

  pub shows_same : (sign : Sign) → watch_shows sign x (Some (zone_taken f watch)) ≡ watch_shows sign x (Some watch)
  shows_same Alarm = alarm_same
  shows_same Manual =
      later_shows (has_bit f.manual watch.bit) (is_some watch.place) f.stamp watch.called (last_at x watch.floor) (λ on. shows Manual ∙ in_manual on)
  shows_same Released =
      later_shows (has_bit f.released watch.bit) (is_some watch.place) f.stamp watch.released (last_at x watch.floor)
      (λ on. shows Released ∙ in_released on)
  shows_same First = first_same (has_bit signs.alarm watch.bit) refl

-- ---- all zones

module _ (tick : ℕ) (f : Finding) (before after : Zones) (numbered : AreNumbered before.watches.items)
    (taken : (k : ℕ) → slice_get after.watches.items k ≡ option_map (zone_taken f) (slice_get before.watches.items k))
    (signs : after.signs ≡ before.signs) (moved : after.moved ≡ before.moved) (h : Settled tick before) where
  settled_shown : after.changed ≡ before.changed → IsShown f before.signs → Settled tick after
  settled_shown changed shown = record {
    moved = moved_more tick f before after taken moved h;
    held = λ sign k x small le calm first.
        let calm_before = ap (λ m. has_bit m k) (sym changed) ∙ calm in
        let first_before = ap (λ s. has_bit s.first k) (sym signs) ∙ first in
        ap (watch_shows sign x) (taken k)
        ∙ same k x (λ s. h.held s k x small le calm_before first_before) sign (slice_get before.watches.items k) refl
        ∙ h.held sign k x small le calm_before first_before ∙ ap (λ s. has_bit (sign_mask sign s) k) (sym signs);
  }
    where
      same : (k x : ℕ) → ((s : Sign) → watch_shows s x (slice_get before.watches.items k) ≡ has_bit (sign_mask s before.signs) k) → (sign : Sign)
          → (o : Option ZoneWatch) → slice_get before.watches.items k ≡ o → watch_shows sign x (option_map (zone_taken f) o) ≡ watch_shows sign x (slice_get before.watches.items k)
      same k x shows sign None e = sym (ap (watch_shows sign x) e)
      same k x shows sign (Some watch) e =
          shows_same f before.signs shown x watch
          (λ s. ap (watch_shows s x) (sym e) ∙ shows s ∙ ap (has_bit (sign_mask s before.signs)) (sym (numbered k watch e))) sign
          ∙ sym (ap (watch_shows sign x) e)

  -- either way the zones stay settled
  pub settled_taken : Marks f before after → Settled tick after
  settled_taken (inl changed) = settled_more tick f before after numbered taken changed signs moved h
  settled_taken (inr stays) = settled_shown stays.0 stays.1
