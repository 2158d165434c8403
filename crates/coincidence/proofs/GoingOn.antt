-- Alarms that go on in a plain zone leave all that is kept as it is, and confirm and release that zone.
use Rattle.std.proofs.Common.{◌≡◌, ◌≢◌, inl, inr, ℕ, ◌+◌, ◌<◌, ◌≤◌, ◌^◌, ◌==◌, ◌&&◌, ◌||◌, Bool, true}
use Rattle.std.proofs.Common.{false, not, List, [], ◌∷◌, ◌++◌, Some, length, max, min, slice_get, get_or, bit_and}
use Rattle.std.proofs.Common.{if◌then◌else◌, refl, sym, ◌∙◌, ap, subst, arith}
use Rattle.std.specs.Int.{Width, w8, bit_not}
use mir.Val.{bits}
use Rattle.std.proofs.lemmas.Nat.{and_le_l}
use Rattle.std.proofs.lemmas.List.FromFn.{get_or-map-range_with_len}
use Rattle.std.proofs.lemmas.Option.{get_or_from_slice_get, slice_get-get_or}
use Rattle.site_types.specs.declared.site.Site.{Site}
use Rattle.site_types.specs.declared.answer.Answer.{Answer}
use Rattle.site_types.specs.declared.retained.Retained.{Retained}
use Rattle.site_types.specs.Bits.{has_bit, with_bit}
use Rattle.site_types.specs.Done.{Done}
use Rattle.std.proofs.lemmas.Bool.Decides.{eqb_tells}
use Rattle.site_types.proofs.Done.{lt_tells}
use Rattle.answer_lanes.proofs.MaskBits.{set_below}
use Rattle.site_types.proofs.Masks.{has_bit-and, has_bit-not, has_bit-zero}
use Rattle.answer_lanes.specs.declared.answer_group.AnswerGroup.{AnswerGroup}
use Rattle.answer_lanes.specs.declared.run.Run.{Run}
use Rattle.answer_lanes.specs.Points.{answer_at, mask_if}
use Rattle.answer_lanes.specs.Runs.{items_of}
use Rattle.answer_lanes.proofs.Moving.{length_run}
use Rattle.coincidence_rules.proofs.Lists.{get_left, get_right, get_small, same_place}
use Rattle.coincidence_rules.specs.Counted.{is_alarm, is_silent}
use Rattle.coincidence_rules.specs.Findings.{finding_of}
use Rattle.coincidence.specs.declared.decide.Decide.{Decide}
use Rattle.coincidence.specs.declared.judgement.Judgement.{Judgement}
use Rattle.coincidence.specs.declared.plain_zone.PlainZone.{PlainZone}
use Rattle.coincidence.specs.declared.point_watch.PointWatch.{PointWatch}
use Rattle.coincidence.specs.GoingOn.{AreGoingOn, ConfirmsAgain, IsFrontInZone, IsInZone, IsMarkedAlarm, telling_of}
use Rattle.site_types.specs.declared.heard.Heard.TheVariants.{Alarm}
use Rattle.answer_lanes.specs.Places.{has_place}
use Rattle.coincidence.specs.Places.{GoesOnFrom}
use Rattle.tick_units.specs.LastTicks.{last_at}
use Rattle.coincidence.specs.declared.zone_watch.ZoneWatch.{ZoneWatch}
use Rattle.coincidence.specs.Observations.{Judges}
use Rattle.coincidence.specs.Parts.{StaysNoted, switch_at}
use Rattle.coincidence.specs.PlainZones.{IsKnown, IsOfPoint, IsSaidAt}
use Rattle.coincidence.specs.Premises.{MayTake}
use Rattle.coincidence.specs.Resting.{IsWithinEight}
use Rattle.coincidence.specs.ZoneMasks.{IsMaskAt}
use Rattle.coincidence.specs.Stands.{CanObserve, CanTake, DecidesFor, Fits}
use Rattle.coincidence.proofs.FindingIs.{HasBit, finding_by}
use Rattle.coincidence.proofs.PlainAlarms.{plain_alarm_is}
use Rattle.coincidence.proofs.PlainZones.{gone_on, judged_in, not_silent, point_same, said_of, zone_there}
use Rattle.coincidence.proofs.Turned.{still_can}
use Rattle.coincidence.proofs.Watched.{Watched, fits_next, read_is, watched}

-- ---- each answer of a run can be observed

item_there : (run : Run AnswerGroup) (k : ℕ) → k < run.count → slice_get (items_of answer_at run) k ≡ Some (answer_at run.first (run.taken + k))
item_there run k small =
    let item = answer_at run.first (run.taken + k) in
    let count = length_run answer_at run in
    let within : k < length (items_of answer_at run) = omega (arith, small, count) in
    slice_get-get_or (items_of answer_at run) k item within
    ∙ ap Some (get_or-map-range_with_len (answer_at run.first) run.taken run.count k (run.taken + k) item small refl)

fits_among : (site : Site) (kept : Retained) (panel : ℕ) (done : List Done) (taken answers : List Answer) (k : ℕ) (answer : Answer)
    → MayTake site panel done taken answers → slice_get answers k ≡ Some answer → Fits site panel done taken answer
fits_among site kept panel done taken answers k answer may there = record {
  own = may.own k answer there;
  since = may.since k answer there;
  late = λ j other at. may.order.rising j (length taken + k) other answer (before j (get_small taken j other at))
      (get_left taken answers j other at) (get_right taken answers k answer there);
}
  where
    before : (j : ℕ) → j < length taken → j ≤ length taken + k
    before j less = omega (arith, less)

-- the point of an answer of a run within a group of eight
pub point_of : (run : Run AnswerGroup) (k : ℕ) → IsWithinEight run → k < run.count
    → (answer_at run.first (run.taken + k)).point ≡ run.first.point + (run.taken + k)
point_of run k within small =
    let places = within.places in
    let points = within.points in
    let here : min (run.first.point + (run.taken + k)) 65535 ≡ run.first.point + (run.taken + k) = omega (arith, places, points, small) in
    here

pub item_observed : (decide : Decide) (run : Run AnswerGroup) (k : ℕ) → k < run.count → CanTake decide (items_of answer_at run)
    → CanObserve decide (answer_at run.first (run.taken + k))
item_observed decide run k small can =
    still_can can (λ site kept panel done taken may. fits_among site kept panel done taken (items_of answer_at run) k
    (answer_at run.first (run.taken + k)) may (item_there run k small))

-- of an answer of which the bits tell: it can be observed, and where its point stands
pub told_by_bit : (decide : Decide) (run : Run AnswerGroup) (bits bit : ℕ) → IsWithinEight run → AreGoingOn decide run bits
    → has_bit bits bit ≡ true → CanTake decide (items_of answer_at run)
    → CanObserve decide (answer_at run.first (run.taken + bit))
    × ((answer_at run.first (run.taken + bit)).point ≡ run.first.point + (run.taken + bit))
told_by_bit decide run bits bit within going on can =
    let small = going.within bit on in
    (item_observed decide run bit small can, point_of run bit within small)

-- ---- an alarm that goes on

-- it is of a detector in a zone of which this is said; it counts, and leaves what is kept of its point as it is
pub record GoesOnIn (decide : Decide) (answer : Answer) (zone : PlainZone) : Type 0 where
  pub alarm : is_alarm answer.heard ≡ true
  pub watch : PointWatch
  pub read : watch ≡ get_or decide.points answer.point watch
  pub own : zone.zone ≡ watch.zone
  pub detector : watch.manual ≡ false
  pub counts : (switch_at answer.stamp.0 watch.off || zone.blocked) ≡ false
  pub stays : StaysNoted answer.heard true zone.floor watch

none_of : (b : Bool) → false ≡ (if b then false else false)
none_of true = refl
none_of false = refl

told_by : (answer : Answer) (zones : ℕ) → is_alarm answer.heard ≡ true → is_silent answer.heard ≡ false
    → telling_of zones answer ≡ finding_by answer zones zones 0 zones false
told_by answer zones alarm heard =
    ap (λ b. finding_by answer (mask_if b zones) (mask_if b zones) 0 (mask_if b zones) (is_silent answer.heard)) alarm
    ∙ ap (finding_by answer zones zones 0 zones) heard

module _ {site : Site} {kept : Retained} {panel : ℕ} {done : List Done} {taken : List Answer} {decide : Decide} (stands :
    DecidesFor site kept panel done taken decide) (answer : Answer) (may : MayTake site panel done taken (answer ∷ [])) (zone : PlainZone)
    (known : IsKnown answer.stamp.0 decide zone) (on : GoesOnIn decide answer zone) where
  abbrev fits : Fits site panel done taken answer
  fits = fits_next site kept panel done taken answer may

  abbrev of : IsOfPoint answer decide zone
  of = record {
    known = known;
    own = λ watch read. on.own ∙ ap (λ (w : PointWatch). w.zone) (point_same stands answer fits on.watch on.read watch read);
  }

  abbrev judgement : Judgement
  judgement = record { counted = true; floor = zone.floor }

  judges : Judges site kept done answer judgement
  judges =
      judged_in stands answer fits on.watch on.read zone of on.alarm (switch_at answer.stamp.0 on.watch.off) true refl (sym (ap not on.counts))

  pub stands_on : DecidesFor site kept panel done (taken ++ answer ∷ []) decide
  stands_on = gone_on stands answer may judgement judges (record { watch = on.watch; read = on.read; stays = on.stays }) zone of

  pub found_on : (zones : ℕ) → zones < 2 ^ 32 → HasBit zones zone.number true → telling_of zones answer ≡ finding_of site kept panel done taken answer
  found_on zones below bits =
      let s = said_of stands answer fits on.watch on.read zone of in
      let heard = not_silent answer.heard on.alarm in
      told_by answer zones on.alarm heard
      ∙ plain_alarm_is stands answer may stands_on on.watch s.watch on.read s.read judgement judges heard s.said.rule s.said.partner zones 0 below
      (omega arith) (subst (λ n. HasBit zones n true) (sym s.said.number) bits)
      (λ k small. has_bit-zero k ∙ none_of ((k + 1) == s.watch.number)
      ∙ ap (λ m. if (k + 1) == s.watch.number then (true && m) else false) (sym on.detector))

-- ---- one of a point of which it is known that its alarms go on

-- it is of a point in a zone, one of those whose alarms go on
pub record GoesOnAgain (decide : Decide) (answer : Answer) (zone : ℕ) : Type 0 where
  pub alarm : answer.heard ≡ Alarm
  pub has : has_place decide.going_on answer.point ≡ true
  pub watch : PointWatch
  pub read : watch ≡ get_or decide.points answer.point watch
  pub own : zone ≡ watch.zone
  pub since : decide.since.0 ≤ answer.stamp.0

module _ {site : Site} {kept : Retained} {panel : ℕ} {done : List Done} {taken : List Answer} {decide : Decide} (stands :
    DecidesFor site kept panel done taken decide) (answer : Answer) (may : MayTake site panel done taken (answer ∷ [])) (zone : ℕ)
    (on : GoesOnAgain decide answer zone) where
  abbrev next_fits : Fits site panel done taken answer
  next_fits = fits_next site kept panel done taken answer may

  abbrev kept_zone : ZoneWatch
  kept_zone = (watched stands answer.point next_fits.own).zone_watch

  zone_at : slice_get decide.zones.items on.watch.zone ≡ Some kept_zone
  zone_at = zone_there stands answer next_fits on.watch on.read

  point_at : slice_get decide.points answer.point ≡ Some on.watch
  point_at =
      let w = watched stands answer.point next_fits.own in
      w.is_watch ∙ ap Some (sym (read_is decide.points answer.point on.watch w.watch on.read w.is_watch))

  abbrev said_zone : PlainZone
  said_zone = record {
    zone = on.watch.zone;
    number = kept_zone.number;
    blocked = switch_at answer.stamp.0 kept_zone.off || switch_at answer.stamp.0 kept_zone.test;
    floor = record { 0 = max (last_at answer.stamp.0 decide.reset) (last_at answer.stamp.0 kept_zone.moved) };
    settled = false;
  }

  from : GoesOnFrom decide.since.0 decide.reset on.watch kept_zone
  from = stands.going_on.all answer.point on.watch kept_zone on.has point_at zone_at

  said_known : IsKnown answer.stamp.0 decide said_zone
  said_known watch at =
      subst (IsSaidAt answer.stamp.0 decide.reset said_zone)
      (same_place decide.zones.items on.watch.zone on.watch.zone kept_zone watch refl zone_at at)
      (record { rule = from.rule; partner = from.partner; number = refl; blocked = refl; floor = refl; settled = λ is. absurd (cc) })

  goes_in : GoesOnIn decide answer said_zone
  goes_in = record {
    alarm = ap is_alarm on.alarm;
    watch = on.watch;
    read = on.read;
    own = refl;
    detector = from.detector;
    counts = from.counts answer.stamp.0 on.since;
    stays = subst (λ h. StaysNoted h true said_zone.floor on.watch) (sym on.alarm) (from.stays answer.stamp.0 said_zone.floor on.since refl);
  }

  pub stands_again : DecidesFor site kept panel done (taken ++ answer ∷ []) decide
  stands_again = stands_on stands answer may said_zone said_known goes_in

  pub found_again : (z : ZoneWatch) → z ≡ get_or decide.zones.items zone z → (zones : ℕ) → zones < 2 ^ 32 → HasBit zones z.number true
      → telling_of zones answer ≡ finding_of site kept panel done taken answer
  found_again z read zones below bits =
      let same : z ≡ kept_zone = read_is decide.zones.items zone z kept_zone read (ap (slice_get decide.zones.items) on.own ∙ zone_at) in
      found_on stands answer may said_zone said_known goes_in zones below (subst (λ (w : ZoneWatch). HasBit zones w.number true) same bits)

pub confirms_again : (decide : Decide) (answer : Answer) (zone : ℕ) → GoesOnAgain decide answer zone → (z : ZoneWatch)
    → z ≡ get_or decide.zones.items zone z → (zones : ℕ) → zones < 2 ^ 32 → HasBit zones z.number true → ConfirmsAgain decide answer zones
confirms_again decide answer zone on z read zones below bits = record {
  taken = λ site kept panel done taken stands may. stands_again stands answer may zone on;
  found = λ site kept panel done taken stands may. found_again stands answer may zone on z read zones below bits;
}

-- ---- one of a point of which the site tells the zone

module _ {site : Site} {kept : Retained} {panel : ℕ} {done : List Done} {taken : List Answer} {decide : Decide} (stands :
    DecidesFor site kept panel done taken decide) (answer : Answer) (may : MayTake site panel done taken (answer ∷ []))
    (marked : IsMarkedAlarm decide answer) (since : decide.since.0 ≤ answer.stamp.0) where
  abbrev at_point : Watched site kept panel done taken decide answer.point
  at_point = watched stands answer.point (fits_next site kept panel done taken answer may).own

  on_again : GoesOnAgain decide answer at_point.watch.zone
  on_again = record {
    alarm = marked.alarm;
    has = marked.has;
    watch = at_point.watch;
    read = sym (get_or_from_slice_get decide.points answer.point at_point.watch at_point.watch at_point.is_watch);
    own = refl;
    since = since;
  }

  pub stands_marked : DecidesFor site kept panel done (taken ++ answer ∷ []) decide
  stands_marked = stands_again stands answer may at_point.watch.zone on_again

  pub found_marked : (zones : ℕ) → IsMaskAt site.points site.zones answer.point zones → telling_of zones answer ≡ finding_of site kept panel done taken answer
  found_marked zones mask =
      let w = at_point in
      let read = sym (get_or_from_slice_get decide.zones.items w.point.zone w.zone_watch w.zone_watch w.is_zone_watch) in
      found_again stands answer may w.watch.zone on_again w.zone_watch (read ∙ ap (λ n. get_or decide.zones.items n w.zone_watch) (sym w.watches.zone)) zones
      mask.fits
      (λ k small.
      mask.bits w.point w.zone w.is_point w.is_zone k small ∙ ap (λ n. if (k + 1) == n then true else false) (sym w.watches_zone.number))

-- an alarm of a point whose alarms go on confirms and releases the zone in which the point stands
pub confirms_marked : (decide : Decide) (answer : Answer) (zones : ℕ) → IsMarkedAlarm decide answer → decide.since.0 ≤ answer.stamp.0
    → ((site : Site) (kept : Retained) (panel : ℕ) (done : List Done) (taken : List Answer) → DecidesFor site kept panel done taken decide
    → IsMaskAt site.points site.zones answer.point zones)
    → ConfirmsAgain decide answer zones
confirms_marked decide answer zones marked since mask = record {
  taken = λ site kept panel done taken stands may. stands_marked stands answer may marked since;
  found = λ site kept panel done taken stands may. found_marked stands answer may marked since zones (mask site kept panel done taken stands);
}

-- ---- the answers of a run one after the other

-- a byte is smaller where a bit of it was cleared
pub cleared_smaller : (byte bit rest : ℕ) → rest ≡ with_bit w8 byte bit false → has_bit byte bit ≡ true → has_bit rest bit ≡ false → rest < byte
cleared_smaller byte bit rest is was cleared =
    let least : rest ≤ byte = subst (λ n. n ≤ byte) (sym is) (and_le_l byte _) in
    let apart : rest ≢ byte = λ e. (let at = ap (λ n. has_bit n bit) e in cc) in
    omega (arith, least, apart)

-- only that bit was
only_cleared : (byte bit rest : ℕ) → byte < 2 ^ 8 → ((k : ℕ) → k < 8 → k ≢ bit → has_bit rest k ≡ has_bit byte k) → (k : ℕ)
    → has_bit byte k ≡ true → has_bit rest k ≡ false → k ≡ bit
only_cleared byte bit rest below others k is gone = elim (eqb_tells k bit) [
  | inl same ↦ same.1
  | inr other ↦ absurd (let at = others k (set_below byte k below is) other.1 in cc)
]

module _ {decide : Decide} {run : Run AnswerGroup} {zone : ℕ} where
  pub none_in_front : (bits : ℕ) → IsFrontInZone decide run zone bits bits
  none_in_front bits = record {
    in_zone = λ k is no'. absurd (cc);
    tail = record { among = λ k is. is; before_them = λ k j is no' other. absurd (cc); most = omega arith };
  }

  -- the lowest bit of a byte is cleared, and its answer is of a point in the zone
  pub one_in_front : (bits bit rest : ℕ) → bits < 2 ^ 8 → has_bit bits bit ≡ true → ((k : ℕ) → k < bit → has_bit bits k ≡ false)
      → IsInZone decide (answer_at run.first (run.taken + bit)) zone → rest < bits → rest < 2 ^ 8
      → ((k : ℕ) → k < 8 → k ≢ bit → has_bit rest k ≡ has_bit bits k) → has_bit rest bit ≡ false → IsFrontInZone decide run zone bits rest
  one_in_front bits bit rest below set lowest on less fits others this = record {
    in_zone = λ k is gone.
        subst (λ n. IsInZone decide (answer_at run.first (run.taken + n)) zone) (sym (only_cleared bits bit rest below others k is gone)) on;
    tail = record {
      among = λ k is. was k is;
      before_them = λ k j is gone other.
          let here = only_cleared bits bit rest below others k is gone in
          let from = not_below j (was j other) in
          let apart = differs j other in
          omega (arith, here, from, apart);
      most = omega (arith, less);
    };
  }
    where
      differs : (k : ℕ) → has_bit rest k ≡ true → k ≢ bit
      differs k is e = let at = ap (has_bit rest) e in cc

      was : (k : ℕ) → has_bit rest k ≡ true → has_bit bits k ≡ true
      was k is = sym (others k (set_below rest k fits is) (differs k is)) ∙ is

      not_below : (k : ℕ) → has_bit bits k ≡ true → bit ≤ k
      not_below k has = elim (lt_tells k bit) [
        | inl under ↦ absurd (let no' = lowest k under.1 in cc)
        | inr above ↦ above.1
      ]

  -- those before the last ones of the last ones
  pub more_in_front : (bits left rest : ℕ) → IsFrontInZone decide run zone bits left → IsFrontInZone decide run zone left rest
      → IsFrontInZone decide run zone bits rest
  more_in_front bits left rest first second = record {
    in_zone = λ k is gone. in_one k is gone (has_bit left k) refl;
    tail = record {
      among = λ k is. first.tail.among k (second.tail.among k is);
      before_them = λ k j is gone other. before k j is gone other (has_bit left k) refl;
      most = let a = first.tail.most in let b = second.tail.most in omega (arith, a, b);
    };
  }
    where
      in_one : (k : ℕ) → has_bit bits k ≡ true → has_bit rest k ≡ false → (b : Bool) → has_bit left k ≡ b
          → IsInZone decide (answer_at run.first (run.taken + k)) zone
      in_one k is gone true at = second.in_zone k at gone
      in_one k is gone false at = first.in_zone k is at

      before : (k j : ℕ) → has_bit bits k ≡ true → has_bit rest k ≡ false → has_bit rest j ≡ true → (b : Bool) → has_bit left k ≡ b → k < j
      before k j is gone other true at = second.tail.before_them k j at gone other
      before k j is gone other false at = first.tail.before_them k j is at (second.tail.among j other)

-- fewer of them go on too
pub fewer_go_on : (decide : Decide) (run : Run AnswerGroup) (bits left : ℕ) → AreGoingOn decide run bits
    → ((k : ℕ) → has_bit left k ≡ true → has_bit bits k ≡ true) → AreGoingOn decide run left
fewer_go_on decide run bits left going among = record {
  within = λ k is. going.within k (among k is);
  marked = λ k small is. going.marked k small (among k is);
  since = going.since;
}

-- a mask of which another one takes all bits has no bits beside those
pub bits_among : (w : Width) (mask others k : ℕ) → others < 2 ^ bits w → bit_and mask (bit_not w others) ≡ 0 → k < bits w → has_bit mask k ≡ true
    → has_bit others k ≡ true
bits_among w mask others k below none within is =
    both (has_bit mask k) (has_bit others k) is
    (ap (λ b. has_bit mask k && b) (sym (has_bit-not w others k below within)) ∙ sym (has_bit-and mask (bit_not w others) k)
    ∙ ap (λ n. has_bit n k) none ∙ has_bit-zero k)
  where
    both : (a b : Bool) → a ≡ true → (a && not b) ≡ false → b ≡ true
    both true true e f = refl
    both true false e f = absurd (cc)
    both false b e f = absurd (cc)
