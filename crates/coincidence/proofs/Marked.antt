-- The set of the points whose alarms go on is right after what changes it, and after what it tells of changes.
use Rattle.std.proofs.Common.{◌≡◌, ◌+◌, ◌≢◌, ◌⊎◌, inl, inr, ⊎_elim, ℕ, ◌*◌, ◌<◌, ◌≤◌, ◌==◌, ◌||◌, Bool, true, false}
use Rattle.std.proofs.Common.{if◌then◌else◌, List, Some, length, length-set, max, set, slice_get, sym, ◌∙◌, ap}
use Rattle.std.proofs.Common.{subst, arith}
use Rattle.std.proofs.lemmas.Bool.Decides.{eqb_tells}
use Rattle.tick_units.specs.declared.last_done.LastDone.{LastDone}
use Rattle.tick_units.specs.declared.switch.Switch.{Switch}
use Rattle.tick_units.specs.declared.tick.Tick.{Tick}
use Rattle.tick_units.specs.LastTicks.{last_at}
use Rattle.site_types.specs.declared.answer.Answer.{Answer}
use Rattle.site_types.specs.declared.heard.Heard.TheVariants.{Alarm}
use Rattle.site_types.specs.declared.retained.Retained.{Retained}
use Rattle.site_types.specs.declared.site.Site.{Site}
use Rattle.site_types.specs.Done.{Done}
use Rattle.site_types.proofs.Done.{lt_true}
use Rattle.answer_lanes.specs.declared.place_set.PlaceSet.{PlaceSet}
use Rattle.answer_lanes.specs.Places.{HasNone, IsCleared, SetsPlace, has_place}
use Rattle.coincidence_rules.proofs.Lists.{get_set}
use Rattle.coincidence.specs.declared.decide.Decide.{Decide}
use Rattle.coincidence.specs.declared.plain_zone.PlainZone.{PlainZone}
use Rattle.coincidence.specs.declared.point_watch.PointWatch.{PointWatch}
use Rattle.coincidence.specs.declared.zone_watch.ZoneWatch.{ZoneWatch}
use Rattle.coincidence.specs.Parts.{StaysNoted, switch_at, zone_noted}
use Rattle.coincidence.specs.Places.{GoesOnFrom, HasGoingOn}
use Rattle.coincidence.specs.PlainZones.{IsSaidAt}
use Rattle.coincidence.specs.Stands.{DecidesFor}

-- what goes on from a tick on goes on from later ones
pub later_on : (since later : ℕ) (reset : LastDone) (point : PointWatch) (zone : ZoneWatch) → since ≤ later → GoesOnFrom since reset point zone
    → GoesOnFrom later reset point zone
later_on since later reset point zone le g = record {
  detector = g.detector;
  rule = g.rule;
  partner = g.partner;
  counts = λ x from. g.counts x (omega (arith, le, from));
  stays = λ x floor from is. g.stays x floor (omega (arith, le, from)) is;
}

module _ {since : ℕ} {reset : LastDone} {points : List PointWatch} {zones : List ZoneWatch} where
  pub none_going : (places : PlaceSet) → length points + 8 < 8 * length places.bytes.items → HasNone places → HasGoingOn places since reset points zones
  none_going places room none = record { room = room; all = λ place point zone has there zone_there. absurd (let no' = none place in cc) }

  pub cleared_going : {old : PlaceSet} (next : PlaceSet) → HasGoingOn old since reset points zones → IsCleared old next
      → HasGoingOn next since reset points zones
  cleared_going next h cleared =
      none_going next (let room = h.room in let size = cleared.room in omega (arith, room, size)) cleared.none

  -- a point is taken out, whatever becomes of what is kept of it
  pub taken_out : {old : PlaceSet} (next : PlaceSet) (place : ℕ) (point : PointWatch) → HasGoingOn old since reset points zones
      → SetsPlace place false old next → HasGoingOn next since reset (set points place point) zones
  taken_out next place point h sets = record {
    room = let room = h.room in let size = sets.room in let count = length-set points place point in omega (arith, room, size, count);
    all = λ k other zone has there zone_there.
        ⊎_elim (λ here. absurd (let no' = sets.this in let is = sym (ap (has_place next) here.0) ∙ has in cc))
        (λ apart. h.all k other zone (sym (sets.others k apart.0) ∙ has) apart.1 zone_there)
        (get_set points place k point other there);
  }

  -- an answer is noted in a zone
  pub noted_going : {places : PlaceSet} (place : ℕ) (pairs : Bool) (point : ℕ) (stamp : Tick) (z y : ZoneWatch) → slice_get zones place ≡ Some z
      → y ≡ zone_noted pairs point stamp z → HasGoingOn places since reset points zones → HasGoingOn places since reset points (set zones place y)
  noted_going {places} place pairs point stamp z y there noted h = record {
    room = h.room;
    all = λ k other zone has at zone_at.
        ⊎_elim
        (λ here.
        subst (GoesOnFrom since reset other) (sym noted ∙ here.1)
        (same pairs other (h.all k other z has at (ap (slice_get zones) here.0 ∙ there))))
        (λ apart. h.all k other zone has at apart.1)
        (get_set zones place other.zone y zone zone_at);
  }
    where
      same : (b : Bool) (other : PointWatch) → GoesOnFrom since reset other z → GoesOnFrom since reset other (zone_noted b point stamp z)
      same false other g = g
      same true other g = record { detector = g.detector; rule = g.rule; partner = g.partner; counts = g.counts; stays = g.stays }

  -- a point is put in
  pub put_in : {old : PlaceSet} (next : PlaceSet) (place later : ℕ) → HasGoingOn old since reset points zones → SetsPlace place true old next
      → since ≤ later
      → ((point : PointWatch) (zone : ZoneWatch) → slice_get points place ≡ Some point → slice_get zones point.zone ≡ Some zone
      → GoesOnFrom later reset point zone)
      → HasGoingOn next later reset points zones
  put_in next place later h sets le steady = record {
    room = let room = h.room in let size = sets.room in omega (arith, room, size);
    all = λ k point zone has there zone_there. by k point zone has there zone_there (eqb_tells k place);
  }
    where
      by : (k : ℕ) (point : PointWatch) (zone : ZoneWatch) → has_place next k ≡ true → slice_get points k ≡ Some point
          → slice_get zones point.zone ≡ Some zone → ((k == place) ≡ true) × (k ≡ place) ⊎ (((k == place) ≡ false) × (k ≢ place))
          → GoesOnFrom later reset point zone
      by k point zone has there zone_there (inl same) = steady point zone (ap (slice_get points) (sym same.1) ∙ there) zone_there
      by k point zone has there zone_there (inr other) =
          later_on since later reset point zone le (h.all k point zone (sym (sets.others k other.1) ∙ has) there zone_there)

-- ---- what is settled stays so

switch_settled : (switch : Switch) (s x : ℕ) → switch.since.0 < s → s ≤ x → switch_at x switch ≡ switch.now
switch_settled switch s x before from =
    ap (λ b. if b then switch.now else switch.was) (lt_true switch.since.0 x (omega (arith, before, from)))

last_settled : (last : LastDone) (s x : ℕ) → last.tick.0 < s → s ≤ x → last_at x last ≡ last.tick.0
last_settled last s x before from =
    ap (λ b. if b then last.tick.0 else last.earlier.0) (lt_true last.tick.0 x (omega (arith, before, from)))

pub steady_from : (s : ℕ) (reset : LastDone) (zone : PlainZone) (point : PointWatch) (watch : ZoneWatch) → IsSaidAt s reset zone watch
    → zone.settled ≡ true → zone.blocked ≡ false → point.off.since.0 < s → point.off.now ≡ false → point.manual ≡ false
    → StaysNoted Alarm true zone.floor point → GoesOnFrom s reset point watch
steady_from s reset zone point watch said settled open' before on detector stays =
    let old = said.settled settled in
    record {
      detector = detector;
      rule = said.rule;
      partner = said.partner;
      counts = λ x from.
          ap (λ b. b || (switch_at x watch.off || switch_at x watch.test)) (switch_settled point.off s x before from ∙ on)
          ∙ ap (λ b. b || switch_at x watch.test) (switch_settled watch.off s x old.off from ∙ sym (switch_settled watch.off s s old.off (omega arith)))
          ∙ ap (λ b. switch_at s watch.off || b) (switch_settled watch.test s x old.test from ∙ sym (switch_settled watch.test s s old.test (omega arith)))
          ∙ sym said.blocked ∙ open';
      stays = λ x floor from is.
          let floors : zone.floor.0 ≡ floor.0 =
          said.floor ∙ ap (λ n. max n (last_at s watch.moved)) (last_settled reset s s old.last_reset (omega arith) ∙ sym (last_settled reset s x old.last_reset from))
          ∙ ap (λ n. max (last_at x reset) n) (last_settled watch.moved s s old.moved (omega arith) ∙ sym (last_settled watch.moved s x old.moved from))
          ∙ sym is in
          subst (λ (f : Tick). StaysNoted Alarm true f point) (tick_same zone.floor floor floors) stays;
    }
  where
    tick_same : (a b : Tick) → a.0 ≡ b.0 → a ≡ b
    tick_same a b e = let of : ℕ → Tick = λ n. record { 0 = n } in ap of e

-- the part with other marks that are right
pub marked_anew : {site : Site} {kept : Retained} {panel : ℕ} {done : List Done} {taken : List Answer} {decide : Decide}
    → DecidesFor site kept panel done taken decide → (marks : PlaceSet) (since : Tick)
    → HasGoingOn marks since.0 decide.reset decide.points decide.zones.items
    → DecidesFor site kept panel done taken (record decide { going_on = marks; since = since })
marked_anew h marks since right = record {
  wired = h.wired;
  at = h.at;
  point_count = h.point_count;
  zone_count = h.zone_count;
  points = h.points;
  zones = h.zones;
  reset = h.reset;
  going_on = right;
  order = h.order;
  own = h.own;
  told = h.told;
}
