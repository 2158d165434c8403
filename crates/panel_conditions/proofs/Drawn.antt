-- What zones show stays as it was drawn, where nothing was told and no first state lasts.
use Rattle.std.proofs.Common.{◌≡◌, ◌≢◌, ◌⊎◌, inl, inr, ℕ, ◌-◌, ◌<◌, ◌≤◌, ◌^◌, Bool, true, false, not, List, map}
use Rattle.std.proofs.Common.{Option, Some, None, option_map, slice_get, ◌==◌, ◌&&◌, ◌||◌, nat_lt, nat_le}
use Rattle.std.proofs.Common.{if◌then◌else◌, bit_or, refl, sym, ◌∙◌, ap, subst, arith}
use Rattle.std.specs.Option.{is_some}
use Rattle.std.proofs.lemmas.Bool.Decides.{nat_tests, eqb_tells}
use Rattle.std.proofs.lemmas.Bool.{eq-eqb}
use Rattle.std.proofs.lemmas.Nat.Bits.{bit_at_ones}
use Rattle.std.proofs.lemmas.Option.{same_Some}
use Rattle.site_types.specs.declared.site.Site.{Site}
use Rattle.tick_units.specs.declared.tick.Tick.{Tick}
use Rattle.site_types.specs.Bits.{has_bit, mask_of}
use Rattle.site_types.specs.declared.operation.Operation.{Operation}
use Rattle.site_types.proofs.Masks.{mask_from_bits, mask_same, has_bit-mask, has_bit-or, has_bit-zero}
use Rattle.site_types.proofs.Done.{lt_tells, lt_true}
use Rattle.coincidence_rules.specs.declared.finding.Finding.{Finding}
use Rattle.tick_units.specs.declared.last_done.LastDone.{LastDone}
use Rattle.panel_conditions.specs.declared.sign.Sign.{Sign}
use Rattle.panel_conditions.specs.declared.sign.Sign.TheVariants.{Alarm, Manual, Released, First}
use Rattle.panel_conditions.specs.declared.signs.Signs.{Signs}
use Rattle.panel_conditions.specs.declared.zone_watch.ZoneWatch.{ZoneWatch}
use Rattle.panel_conditions.specs.declared.zones.Zones.{Zones}
use Rattle.panel_conditions.specs.Parts.{first_shows, later_tick, sign_at, sign_mask, signs_at, told_by, watch_shows, zone_done, zone_taken, zone_taken_at, zone_told}
use Rattle.tick_units.specs.LastTicks.{last_at, last_if}
use Rattle.panel_conditions.specs.Stands.{AreNumbered, Settled, are_first_watches}
use Rattle.panel_conditions.proofs.Watched.{get_map}
use Rattle.panel_conditions.proofs.Firsts.{first_at}
use Rattle.panel_conditions.proofs.Addressed.{neq_false}

-- ---- after the latest operation

last_stays : (tick x : ℕ) (last : LastDone) → last.tick.0 < tick → tick ≤ x → last_at x last ≡ last_at tick last
last_stays tick x last less le =
    ap (λ b. if b then last.tick.0 else last.earlier.0) (lt_true last.tick.0 x (omega (arith, less, le)))
    ∙ sym (ap (λ b. if b then last.tick.0 else last.earlier.0) (lt_true last.tick.0 tick less))

fade : (a c d later : Bool) → (later ≡ true → d ≡ true) → (a && (c && d)) ≡ false → (a && (c && later)) ≡ false
fade false c d later up h = refl
fade true false d later up h = refl
fade true true d false up h = refl
fade true true d true up h = absurd (let on = up refl in let no_way : true ≡ false = sym on ∙ h in cc)

passed : (tick x told within : ℕ) → tick ≤ x → nat_le (x - told) within ≡ true → nat_le (tick - told) within ≡ true
passed tick x told within le h = grind (arith, nat_tests, le, h)

module _ (tick x : ℕ) (watch : ZoneWatch) (floor : watch.floor.tick.0 < tick) (cancelled : watch.cancelled.tick.0 < tick) (le : tick ≤ x) where
  first_ends : (o : Option ℕ) → first_shows tick watch o ≡ false → first_shows x watch o ≡ false
  first_ends None h = refl
  first_ends (Some within) h =
      ap (λ n. not (nat_lt n watch.confirmed.0)
      && ((nat_lt n watch.told.0 && nat_lt (last_at x watch.cancelled) watch.told.0) && nat_le (x - watch.told.0) within))
      (last_stays tick x watch.floor floor le)
      ∙ ap (λ n. not (nat_lt (last_at tick watch.floor) watch.confirmed.0)
      && ((nat_lt (last_at tick watch.floor) watch.told.0 && nat_lt n watch.told.0) && nat_le (x - watch.told.0) within))
      (last_stays tick x watch.cancelled cancelled le)
      ∙ fade (not (nat_lt (last_at tick watch.floor) watch.confirmed.0)) (nat_lt (last_at tick watch.floor) watch.told.0
      && nat_lt (last_at tick watch.cancelled) watch.told.0)
      (nat_le (tick - watch.told.0) within) (nat_le (x - watch.told.0) within) (passed tick x watch.told.0 within le) h

  off_with : (p a b : Bool) → (a ≡ false → b ≡ false) → (p && a) ≡ false → (p && b) ≡ (p && a)
  off_with false a b keep h = refl
  off_with true a b keep h = keep h ∙ sym h

  watch_stays : (sign : Sign) → watch_shows First tick (Some watch) ≡ false → watch_shows sign x (Some watch) ≡ watch_shows sign tick (Some watch)
  watch_stays Alarm h = ap (λ n. is_some watch.place && nat_lt n watch.confirmed.0) (last_stays tick x watch.floor floor le)
  watch_stays Manual h = ap (λ n. is_some watch.place && nat_lt n watch.called.0) (last_stays tick x watch.floor floor le)
  watch_stays Released h = ap (λ n. is_some watch.place && nat_lt n watch.released.0) (last_stays tick x watch.floor floor le)
  watch_stays First h =
      off_with (is_some watch.place) (first_shows tick watch watch.within) (first_shows x watch watch.within) (first_ends watch.within) h

-- ---- a turn

all_bits : (k : ℕ) → k < 32 → has_bit (2 ^ 32 - 1) k ≡ true
all_bits k small = ap (λ n. n == 1) (bit_at_ones 32 k small)

sign_of : (sign : Sign) (tick k : ℕ) (watches : List ZoneWatch) (signs : Signs) → k < 32 → signs ≡ signs_at tick watches
    → has_bit (sign_mask sign signs) k ≡ watch_shows sign tick (slice_get watches k)
sign_of Alarm tick k watches signs small e =
    ap (λ s. has_bit s.alarm k) e ∙ has_bit-mask 32 (λ j. watch_shows Alarm tick (slice_get watches j)) k small
sign_of Manual tick k watches signs small e =
    ap (λ s. has_bit s.manual k) e ∙ has_bit-mask 32 (λ j. watch_shows Manual tick (slice_get watches j)) k small
sign_of Released tick k watches signs small e =
    ap (λ s. has_bit s.released k) e ∙ has_bit-mask 32 (λ j. watch_shows Released tick (slice_get watches j)) k small
sign_of First tick k watches signs small e =
    ap (λ s. has_bit s.first k) e ∙ has_bit-mask 32 (λ j. watch_shows First tick (slice_get watches j)) k small

-- the mask of a sign, where the zones to look at are drawn anew
pub drawn_is : (tick now : ℕ) (zones : Zones) (sign : Sign) → Settled tick zones → tick ≤ now →
    mask_of 32 (λ k. if has_bit (bit_or zones.changed zones.signs.first) k then watch_shows sign now (slice_get zones.watches.items k) else has_bit
    (sign_mask sign zones.signs) k)
    ≡ sign_at sign now zones.watches.items
drawn_is tick now zones sign h le =
    mask_same 32 (λ k. if has_bit (bit_or zones.changed zones.signs.first) k then watch_shows sign now (slice_get zones.watches.items k) else has_bit
    (sign_mask sign zones.signs) k)
    (λ k. watch_shows sign now (slice_get zones.watches.items k))
    (λ k small.
    ap (λ b. if b then watch_shows sign now (slice_get zones.watches.items k) else has_bit (sign_mask sign zones.signs) k)
    (has_bit-or zones.changed zones.signs.first k)
    ∙ one k small (has_bit zones.changed k) (has_bit zones.signs.first k) refl refl)
  where
    one : (k : ℕ) → k < 32 → (s f : Bool) → has_bit zones.changed k ≡ s → has_bit zones.signs.first k ≡ f →
        (if s || f then watch_shows sign now (slice_get zones.watches.items k) else has_bit (sign_mask sign zones.signs) k)
        ≡ watch_shows sign now (slice_get zones.watches.items k)
    one k small true f es ef = refl
    one k small false true es ef = refl
    one k small false false es ef = sym (h.held sign k now small le es ef)

or_left : (a b : Bool) → (a || b) ≡ false → (a ≡ false) × (b ≡ false)
or_left false b h = (refl, h)
or_left true b h = absurd (cc)

-- where there is no zone to look at, a mask stays
pub stays_drawn : (tick now : ℕ) (zones : Zones) (sign : Sign) → sign_mask sign zones.signs < 2 ^ 32 → bit_or zones.changed zones.signs.first ≡ 0
    → Settled tick zones → tick ≤ now → sign_mask sign zones.signs ≡ sign_at sign now zones.watches.items
stays_drawn tick now zones sign fits none h le =
    mask_from_bits 32 (sign_mask sign zones.signs) (λ k. watch_shows sign now (slice_get zones.watches.items k)) fits
    (λ k small. let off = calm k in sym (h.held sign k now small le off.0 off.1))
  where
    calm : (k : ℕ) → (has_bit zones.changed k ≡ false) × (has_bit zones.signs.first k ≡ false)
    calm k =
        or_left (has_bit zones.changed k) (has_bit zones.signs.first k)
        (sym (has_bit-or zones.changed zones.signs.first k) ∙ ap (λ m. has_bit m k) none ∙ has_bit-zero k)

pub settled_drawn : (tick now : ℕ) (zones after : Zones) → Settled tick zones → after.watches.items ≡ zones.watches.items → after.moved ≡ zones.moved
    → after.signs ≡ signs_at now zones.watches.items →
    after.changed ≡ (if nat_lt zones.moved.0 now then 0 else 2 ^ 32 - 1) → Settled now after
settled_drawn tick now zones after h watches moved signs changed = record {
  moved =
      λ k watch at. subst (λ m. (watch.floor.tick.0 ≤ m.0) × (watch.cancelled.tick.0 ≤ m.0)) (sym moved)
      (h.moved k watch (subst (λ l. slice_get l k ≡ Some watch) watches at));
  held = λ sign k x small le calm first.
      ap (λ l. watch_shows sign x (slice_get l k)) watches
      ∙ later sign k x small le (lt_tells zones.moved.0 now) calm (sym (sign_of First now k zones.watches.items after.signs small signs) ∙ first)
      (slice_get zones.watches.items k) refl
      ∙ sym (sign_of sign now k zones.watches.items after.signs small signs);
}
  where
    stays : (sign : Sign) (k x : ℕ) → now ≤ x → zones.moved.0 < now → (o : Option ZoneWatch) → slice_get zones.watches.items k ≡ o
        → watch_shows First now o ≡ false → watch_shows sign x o ≡ watch_shows sign now o
    stays sign k x le less None e off = refl
    stays sign k x le less (Some watch) e off =
        let bounds = h.moved k watch e in
        let a = bounds.0 in
        let b = bounds.1 in
        watch_stays now x watch (omega (arith, a, less)) (omega (arith, b, less)) le sign off

    later : (sign : Sign) (k x : ℕ) → k < 32 → now ≤ x → ((nat_lt zones.moved.0 now ≡ true) × (zones.moved.0 < now))
        ⊎ ((nat_lt zones.moved.0 now ≡ false) × (now ≤ zones.moved.0)) → has_bit after.changed k ≡ false →
        watch_shows First now (slice_get zones.watches.items k) ≡ false → (o : Option ZoneWatch) → slice_get zones.watches.items k ≡ o
        → watch_shows sign x (slice_get zones.watches.items k) ≡ watch_shows sign now (slice_get zones.watches.items k)
    later sign k x small le (inl less) calm off o e = stays sign k x le less.1 (slice_get zones.watches.items k) refl off
    later sign k x small le (inr other) calm off o e =
        absurd (let on = ap (λ m. has_bit m k) (changed ∙ ap (λ b. if b then 0 else 2 ^ 32 - 1) other.0) ∙ all_bits k small in
        let no_way : true ≡ false = sym on ∙ calm in cc)

-- ---- a finding

-- a finding that tells nothing of a zone changes nothing of it
or_off : (a b c d : Bool) → (((a || b) || c) || d) ≡ false → (a ≡ false) × (b ≡ false) × (c ≡ false) × (d ≡ false)
or_off false false false false h = (refl, refl, refl, refl)
or_off true b c d h = absurd (cc)
or_off false true c d h = absurd (cc)
or_off false false true d h = absurd (cc)
or_off false false false true h = absurd (cc)

told_bits : (f : Finding) (k : ℕ)
    → has_bit (told_by f) k ≡ (((has_bit f.counted k || has_bit f.confirmed k) || has_bit f.manual k) || has_bit f.released k)
told_bits f k =
    has_bit-or (bit_or (bit_or f.counted f.confirmed) f.manual) f.released k
    ∙ ap (λ b. b || has_bit f.released k)
    (has_bit-or (bit_or f.counted f.confirmed) f.manual k ∙ ap (λ b. b || has_bit f.manual k) (has_bit-or f.counted f.confirmed k))

pub untold : (f : Finding) (watch : ZoneWatch) → has_bit (told_by f) watch.bit ≡ false → zone_taken f watch ≡ watch
untold f watch h =
    let off = or_off (has_bit f.counted watch.bit) (has_bit f.confirmed watch.bit) (has_bit f.manual watch.bit) (has_bit f.released watch.bit)
    (sym (told_bits f watch.bit) ∙ h) in
    rw (off.0, off.1, off.2, off.3) refl

-- what stands at a place, where those of the places to look at that are left are yet to have something new
abbrev pub new_but : {X : Type 0} → ℕ → ℕ → ℕ → X → X → X
new_but left look j new old = if has_bit left j then old else (if has_bit look j then new else old)

pub new_nowhere : {X : Type 0} (look j : ℕ) (new old : X) → old ≡ new_but look look j new old
new_nowhere look j new old = go (has_bit look j)
  where
    go : (b : Bool) → old ≡ (if b then old else (if b then new else old))
    go true = refl
    go false = refl

-- one more place has something new
pub new_more : {X : Type 0} (k left rest look j : ℕ) (new old was after : X) → has_bit left k ≡ true → has_bit look k ≡ true
    → has_bit rest k ≡ false → (j ≢ k → has_bit rest j ≡ has_bit left j) → was ≡ new_but left look j new old → (k ≡ j → after ≡ new)
    → (j ≢ k → after ≡ was) → after ≡ new_but rest look j new old
new_more k left rest look j new old was after on looked off others is here elsewhere = elim (eqb_tells j k) [
  | inl same ↦
      (let e = sym same.1 in
      here e ∙ sym (ap (λ b. if b then old else (if has_bit look j then new else old)) (ap (has_bit rest) (sym e) ∙ off)
      ∙ ap (λ b. if b then new else old) (ap (has_bit look) (sym e) ∙ looked)))
  | inr far ↦ elsewhere far.1 ∙ is ∙ sym (ap (λ b. if b then old else (if has_bit look j then new else old)) (others far.1))
]

-- all places to look at have something new
pub new_everywhere : {X : Type 0} (left look j : ℕ) (new old : X) → left ≡ 0 → new_but left look j new old ≡ (if has_bit look j then new else old)
new_everywhere left look j new old none =
    ap (λ b. if b then old else (if has_bit look j then new else old)) (ap (λ m. has_bit m j) none ∙ has_bit-zero j)

-- what stands at a place, where the zones of a mask are yet to take a finding
abbrev pub taken_but : ℕ → ℕ → Finding → Option ZoneWatch → Option ZoneWatch
taken_but left j f o = if has_bit left j then o else option_map (zone_taken f) o

-- before any zone took a finding
pub taken_not_yet : (f : Finding) (j : ℕ) (o : Option ZoneWatch) → ((watch : ZoneWatch) → o ≡ Some watch → watch.bit ≡ j)
    → o ≡ taken_but (told_by f) j f o
taken_not_yet f j o numbered = go (has_bit (told_by f) j) refl o numbered
  where
    go : (b : Bool) → has_bit (told_by f) j ≡ b → (o : Option ZoneWatch) → ((watch : ZoneWatch) → o ≡ Some watch → watch.bit ≡ j)
        → o ≡ (if b then o else option_map (zone_taken f) o)
    go true e o numbered = refl
    go false e None numbered = refl
    go false e (Some watch) numbered =
        ap (λ w. Some w) (sym (untold f watch (ap (has_bit (told_by f)) (numbered watch refl) ∙ e)))

at_other : (k j : ℕ) (f : Finding) (o : Option ZoneWatch) → (k == j) ≡ false → option_map (zone_taken_at k f j) o ≡ o
at_other k j f None e = refl
at_other k j f (Some watch) e = ap (λ b. Some (if b then zone_told k f watch else watch)) e

at_place : (k j : ℕ) (f : Finding) (o : Option ZoneWatch) → (k == j) ≡ true → k ≡ j
    → ((watch : ZoneWatch) → o ≡ Some watch → watch.bit ≡ j) → option_map (zone_taken_at k f j) o ≡ option_map (zone_taken f) o
at_place k j f None e same numbered = refl
at_place k j f (Some watch) e same numbered =
    ap (λ b. Some (if b then zone_told k f watch else watch)) e
    ∙ ap (λ n. Some (zone_told n f watch)) (same ∙ sym (numbered watch refl))

-- one zone more took a finding
pub taken_more : (k left rest : ℕ) (f : Finding) (j : ℕ) (first o after : Option ZoneWatch)
    → ((watch : ZoneWatch) → first ≡ Some watch → watch.bit ≡ j) → has_bit left k ≡ true → has_bit rest k ≡ false
    → (j ≢ k → has_bit rest j ≡ has_bit left j) → o ≡ taken_but left j f first → after ≡ option_map (zone_taken_at k f j) o
    → after ≡ taken_but rest j f first
taken_more k left rest f j first o after numbered on off others was is = elim (eqb_tells k j) [
  | inl same ↦
      (let e = same.1 in
      let before : o ≡ first = was ∙ ap (λ b. if b then first else option_map (zone_taken f) first) (ap (has_bit left) (sym e) ∙ on) in
      is ∙ ap (option_map (zone_taken_at k f j)) before ∙ at_place k j f first (eq-eqb k j e) e numbered
      ∙ sym (ap (λ b. if b then first else option_map (zone_taken f) first) (ap (has_bit rest) (sym e) ∙ off)))
  | inr far ↦
      is ∙ at_other k j f o (neq_false k j far.1) ∙ was
      ∙ sym (ap (λ b. if b then first else option_map (zone_taken f) first) (others (λ e. far.1 (sym e))))
]

-- all zones took a finding
pub taken_by_all : (f : Finding) (left j : ℕ) (o : Option ZoneWatch) → left ≡ 0 → taken_but left j f o ≡ option_map (zone_taken f) o
taken_by_all f left j o none =
    ap (λ b. if b then o else option_map (zone_taken f) o) (ap (λ m. has_bit m j) none ∙ has_bit-zero j)

-- ---- what was held stays

pub moved_more : (tick : ℕ) (f : Finding) (before after : Zones)
    → ((k : ℕ) → slice_get after.watches.items k ≡ option_map (zone_taken f) (slice_get before.watches.items k)) → after.moved ≡ before.moved
    → Settled tick before → (k : ℕ) (watch : ZoneWatch) → slice_get after.watches.items k ≡ Some watch
    → (watch.floor.tick.0 ≤ after.moved.0) × (watch.cancelled.tick.0 ≤ after.moved.0)
moved_more tick f before after taken moved h k watch at = moved_at k watch (slice_get before.watches.items k) refl (sym (taken k) ∙ at)
  where
    moved_at : (k : ℕ) (watch : ZoneWatch) (o : Option ZoneWatch) → slice_get before.watches.items k ≡ o → option_map (zone_taken f) o ≡ Some watch
        → (watch.floor.tick.0 ≤ after.moved.0) × (watch.cancelled.tick.0 ≤ after.moved.0)
    moved_at k watch None e is = cc
    moved_at k watch (Some w) e is =
        subst (λ (v : ZoneWatch). (v.floor.tick.0 ≤ after.moved.0) × (v.cancelled.tick.0 ≤ after.moved.0)) (same_Some (zone_taken f w) watch is)
        (subst (λ (m : Tick). (w.floor.tick.0 ≤ m.0) × (w.cancelled.tick.0 ≤ m.0)) (sym moved) (h.moved k w e))

pub settled_more : (tick : ℕ) (f : Finding) (before after : Zones) → AreNumbered before.watches.items
    → ((k : ℕ) → slice_get after.watches.items k ≡ option_map (zone_taken f) (slice_get before.watches.items k)) →
    after.changed ≡ bit_or before.changed (told_by f) → after.signs ≡ before.signs → after.moved ≡ before.moved → Settled tick before
    → Settled tick after
settled_more tick f before after numbered taken changed signs moved h = record {
  moved = moved_more tick f before after taken moved h;
  held = λ sign k x small le calm first.
      let off =
      or_left (has_bit before.changed k) (has_bit (told_by f) k)
      (sym (has_bit-or before.changed (told_by f) k) ∙ ap (λ m. has_bit m k) (sym changed) ∙ calm) in
      ap (watch_shows sign x) (taken k ∙ same k off.1 (slice_get before.watches.items k) refl)
      ∙ h.held sign k x small le off.0 (ap (λ s. has_bit s.first k) (sym signs) ∙ first)
      ∙ ap (λ s. has_bit (sign_mask sign s) k) (sym signs);
}
  where
    same : (k : ℕ) → has_bit (told_by f) k ≡ false → (o : Option ZoneWatch) → slice_get before.watches.items k ≡ o → option_map (zone_taken f) o ≡ o
    same k off None e = refl
    same k off (Some watch) e = ap (λ w. Some w) (untold f watch (ap (has_bit (told_by f)) (numbered k watch e) ∙ off))

pub later_left : (a b : Tick) → a.0 ≤ (later_tick a b).0
later_left a b = elim (lt_tells a.0 b.0) [ inl less ↦ (let l = less.1 in rw less.0 (omega (arith, l))) | inr other ↦ rw other.0 (omega arith) ]

pub later_right : (a b : Tick) → b.0 ≤ (later_tick a b).0
later_right a b = elim (lt_tells a.0 b.0) [ inl less ↦ rw less.0 (omega arith) | inr other ↦ rw other.0 other.1 ]

last_within : (on : Bool) (at : Tick) (last : LastDone) (bound : ℕ) → last.tick.0 ≤ bound → at.0 ≤ bound → (last_if on at last).tick.0 ≤ bound
last_within false at last bound a b = a
last_within true at last bound a b = elim (lt_tells last.tick.0 at.0) [ inl less ↦ rw less.0 b | inr other ↦ rw other.0 a ]

pub settled_after : (tick : ℕ) (operation : Operation) (at : Tick) (before after : Zones)
    → after.watches.items ≡ map (zone_done operation at) before.watches.items → after.changed ≡ 2 ^ 32 - 1 →
    after.moved ≡ later_tick before.moved at → Settled tick before → Settled tick after
settled_after tick operation at before after done changed moved h = record {
  moved = λ k watch here.
      let w = get_map (zone_done operation at) before.watches.items k watch (subst (λ l. slice_get l k ≡ Some watch) done here) in
      let bounds = h.moved k w.0 w.1 in
      let left = later_left before.moved at in
      let a = bounds.0 in
      let b = bounds.1 in
      subst (λ (v : ZoneWatch). (v.floor.tick.0 ≤ after.moved.0) × (v.cancelled.tick.0 ≤ after.moved.0)) w.2
      (subst (λ (m : Tick). ((zone_done operation at w.0).floor.tick.0 ≤ m.0) × ((zone_done operation at w.0).cancelled.tick.0 ≤ m.0)) (sym moved) (
        last_within _ at w.0.floor (later_tick before.moved at).0 (omega (arith, a, left)) (later_right before.moved at),
        last_within _ at w.0.cancelled (later_tick before.moved at).0 (omega (arith, b, left)) (later_right before.moved at),
      ));
  held = λ sign k x small le calm first. absurd (let on = ap (λ m. has_bit m k) changed ∙ all_bits k small in let no_way : true ≡ false =
      sym on ∙ calm in cc);
}

-- at first all zones are to be looked at
pub settled_first : (site : Site) (panel : ℕ) (zones : Zones) → zones.watches.items ≡ are_first_watches site panel 32 → zones.changed ≡ 2 ^ 32 - 1
    → Settled 0 zones
settled_first site panel zones first changed = record {
  moved = λ k watch here.
      subst (λ (v : ZoneWatch). (v.floor.tick.0 ≤ zones.moved.0) × (v.cancelled.tick.0 ≤ zones.moved.0))
      (sym (first_at site panel 32 k watch (subst (λ l. slice_get l k ≡ Some watch) first here))) (omega arith, omega arith);
  held = λ sign k x small le calm none. absurd (let on = ap (λ m. has_bit m k) changed ∙ all_bits k small in let no_way : true ≡ false =
      sym on ∙ calm in cc);
}
