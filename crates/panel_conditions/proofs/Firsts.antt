-- What the parts are at first, one after the other.
use Rattle.std.proofs.Common.{◌≡◌, ◌⊎◌, inl, inr, ℕ, zero, suc, ◌+◌, ◌≤◌, Bool, true, false, List, [], ◌∷◌, ◌++◌, drop, map, take}
use Rattle.std.proofs.Common.{Option, Some, None, option_map, length, replicate, ◌<◌, slice_get, ◌==◌, ◌&&◌, nat_lt}
use Rattle.std.proofs.Common.{if◌then◌else◌, refl, sym, ◌∙◌, ap, subst, add-one, arith}
use Rattle.std.proofs.lemmas.List.{get_or-replicate, length_push, length-replicate, take-append-le, take_all}
use Rattle.std.proofs.lemmas.Option.{get_or_from_slice_get, same_Some, slice_get_within}
use Rattle.std.proofs.lemmas.Bool.Decides.{eqb_tells}
use Rattle.site_types.specs.declared.point_set.PointSet.{PointSet}
use Rattle.site_types.specs.Valid.{IsValid, HasZone}
use Rattle.site_types.proofs.Done.{lt_tells, lt_true, lt_false}
use Rattle.site_types.proofs.Places.{all_at}
use Rattle.site_types.specs.declared.site.Site.{Site}
use Rattle.site_types.specs.declared.point.Point.{Point}
use Rattle.site_types.specs.declared.retained.Retained.{Retained}
use Rattle.panel_conditions.specs.declared.zone_watch.ZoneWatch.{ZoneWatch}
use Rattle.panel_conditions.specs.declared.asked.Asked.TheVariants.{Disabled, ZoneDisabled}
use Rattle.panel_conditions.specs.declared.points.Points.{Points}
use Rattle.panel_conditions.specs.PointSets.{loop_address, put_at, put_at_place}
use Rattle.site_types.specs.Bits.{no_set}
use Rattle.panel_conditions.specs.Points.{points_where}
use Rattle.panel_conditions.specs.Missing.{zone_is_off}
use Rattle.panel_conditions.specs.Parts.{is_asked, is_of_zone, points_from}
use Rattle.panel_conditions.specs.Told.{TellMissing}
use Rattle.panel_conditions.specs.Stands.{are_first_watches, first_watch, AreZoneSets, TellsPoints}
use Rattle.panel_conditions.specs.Stands.{WatchesZone, WatchesZones, WatchesPoints, Shows, nothing_shown, HasPlaces}
use Rattle.panel_conditions.specs.Stands.{HasZoneNumber, set_or_none, point_is_off, zone_of_is_off}
use Rattle.site_types.specs.Changes.{HasOwnPlaces}
use Rattle.site_types.specs.declared.zone.Zone.{Zone}
use Rattle.site_types.specs.Done.{moves_floor, cancels, kept_point}
use Rattle.panel_conditions.proofs.PointSwitches.{told_from}
use Rattle.coincidence_rules.proofs.LastDone.{told_never}
use Rattle.panel_conditions.proofs.Masked.{none_past}
use Rattle.panel_conditions.proofs.BeforeOperation.{points_same}
use Rattle.panel_conditions.proofs.PointSets.{none_is}
use Rattle.panel_conditions.proofs.Addressed.{neq_false, put_point}

pub first_more : (site : Site) (panel n : ℕ) → are_first_watches site panel (n + 1) ≡ are_first_watches site panel n ++ first_watch site panel n ∷ []
unfolding are_first_watches
first_more site panel n = ap (are_first_watches site panel) (add-one n)

-- what stands at a place of a list with one item more
pub get_push : {X : Type 0} (xs : List X) (x : X) (k : ℕ) (y : X) → slice_get (xs ++ x ∷ []) k ≡ Some y
    → (slice_get xs k ≡ Some y) ⊎ ((k ≡ length xs) × (x ≡ y))
get_push [] x zero y h = inr (refl, same_Some x y h)
get_push [] x (suc k) y h = absurd (cc)
get_push (z ∷ xs) x zero y h = inl h
get_push (z ∷ xs) x (suc k) y h = elim (get_push xs x k y h) [ inl a ↦ inl a | inr b ↦ inr (ap suc b.0, b.1) ]

-- the first so many watches of zones
pub length-first : (site : Site) (panel n : ℕ) → length (are_first_watches site panel n) ≡ n
unfolding are_first_watches
length-first site panel zero = refl
length-first site panel (suc n) =
    length_push (are_first_watches site panel n) (first_watch site panel n) ∙ ap (λ k. k + 1) (length-first site panel n) ∙ add-one n

pub first_at : (site : Site) (panel n k : ℕ) (watch : ZoneWatch) → slice_get (are_first_watches site panel n) k ≡ Some watch
    → watch ≡ first_watch site panel k
unfolding are_first_watches
first_at site panel zero k watch h = absurd (cc)
first_at site panel (suc n) k watch h = elim (get_push (are_first_watches site panel n) (first_watch site panel n) k watch h) [
  | inl before ↦ first_at site panel n k watch before
  | inr last ↦ sym last.1 ∙ ap (first_watch site panel) (sym (last.0 ∙ length-first site panel n))
]

pub count_more : {X : Type 0} (before after : List X) (x : X) (n : ℕ) → length before ≡ n → after ≡ before ++ x ∷ [] → length after ≡ n + 1
count_more before after x n count e = ap length e ∙ length_push before x ∙ ap (λ k. k + 1) count

-- at first nothing was found or done

pub has_places : (site : Site) → HasOwnPlaces site → (k : ℕ) (point : Point) → slice_get site.points k ≡ Some point → HasPlaces site point
has_places site own k point is = ((own.point k point is).0, (own.point k point is).1, go (slice_get site.zones point.zone) refl)
  where
    go : (o : Option Zone) → slice_get site.zones point.zone ≡ o → HasZoneNumber o
    go None e = tt
    go (Some z) e = own.zone point.zone z e

zone_first : (site : Site) (panel k : ℕ) → WatchesZone site panel [] [] k (first_watch site panel k)
zone_first site panel k = record {
  place = refl;
  bit = refl;
  within = refl;
  floor = λ place is. told_never (moves_floor site place);
  cancelled = λ place is. told_never (cancels place);
  confirmed = refl;
  called = refl;
  released = refl;
  told = refl;
}

pub zones_first : (site : Site) (panel : ℕ) (watches : List ZoneWatch) → watches ≡ are_first_watches site panel 32
    → WatchesZones site panel [] [] watches
zones_first site panel watches e = record {
  count = ap length e ∙ length-first site panel 32;
  each = λ k watch at.
      subst (WatchesZone site panel [] [] k) (sym (first_at site panel 32 k watch (subst (λ l. slice_get l k ≡ Some watch) e at)))
      (zone_first site panel k);
}

-- one point more was asked
asked_more : (k place : ℕ) (on at : Bool) → (k ≡ place → on ≡ at) → (if k == place then on else (nat_lt place k && at)) ≡ (nat_lt place (k + 1) && at)
asked_more k place on at here = elim (eqb_tells k place) [
  | inl same ↦
      (let e = same.1 in
      ap (λ b. if b then on else (nat_lt place k && at)) same.0 ∙ here e ∙ sym (ap (λ b. b && at) (lt_true place (k + 1) (omega (arith, e)))))
  | inr far ↦ (let f = far.1 in ap (λ b. if b then on else (nat_lt place k && at)) far.0 ∙ ap (λ b. b && at) (elim (lt_tells place k) [
    | inl less ↦ (let l = less.1 in less.0 ∙ sym (lt_true place (k + 1) (omega (arith, l))))
    | inr other ↦ (let o = other.1 in other.0 ∙ sym (lt_false place (k + 1) (omega (arith, o, f))))
  ]))
]

passed_by : (k place : ℕ) (at : Bool) → (k ≡ place → at ≡ false) → (nat_lt place k && at) ≡ (nat_lt place (k + 1) && at)
passed_by k place at none = elim (eqb_tells k place) [
  | inl same ↦
      (let e = same.1 in
      ap (λ b. b && at) (lt_false place k (omega (arith, e))) ∙ sym (ap (λ b. nat_lt place (k + 1) && b) (none e)
      ∙ ap (λ b. b && false) (lt_true place (k + 1) (omega (arith, e)))))
  | inr far ↦ (let f = far.1 in ap (λ b. b && at) (elim (lt_tells place k) [
    | inl less ↦ (let l = less.1 in less.0 ∙ sym (lt_true place (k + 1) (omega (arith, l))))
    | inr other ↦ (let o = other.1 in other.0 ∙ sym (lt_false place (k + 1) (omega (arith, o, f))))
  ]))
]

-- the points of a panel among the first so many that pass a test, one after the other
module _ (site : Site) (panel : ℕ) (test : Option Point → Bool) where
  abbrev pub among : ℕ → PointSet
  among k = points_where site panel (λ place. nat_lt place k && test (slice_get site.points place))

  pub among_more : (k : ℕ) (point : Point) (on : Bool) → HasOwnPlaces site → slice_get site.points k ≡ Some point → on ≡ test (Some point)
      → put_at (loop_address panel point) on (among k) ≡ among (k + 1)
  among_more k point on own is so =
      put_point site panel k on (λ place. nat_lt place k && test (slice_get site.points place)) own (Some point) is
      ∙ points_same site panel _ (λ place. nat_lt place (k + 1) && test (slice_get site.points place))
      (λ place. asked_more k place on (test (slice_get site.points place)) (λ e. so ∙ sym (ap test (ap (slice_get site.points) (sym e) ∙ is))))

  -- one point more that doesn't pass
  pub among_again : (k : ℕ) (point : Point) → slice_get site.points k ≡ Some point → test (Some point) ≡ false → among k ≡ among (k + 1)
  among_again k point is fails =
      points_same site panel (λ place. nat_lt place k && test (slice_get site.points place))
      (λ place. nat_lt place (k + 1) && test (slice_get site.points place))
      (λ place. passed_by k place (test (slice_get site.points place)) (λ e. ap test (ap (slice_get site.points) (sym e) ∙ is) ∙ fails))

  pub among_none : no_set ≡ among 0
  among_none =
      sym (points_same site panel (λ place. nat_lt place 0 && test (slice_get site.points place)) (λ place. false)
      (λ place. ap (λ b. b && test (slice_get site.points place)) (lt_false place 0 (omega arith))) ∙ none_is site panel)

  pub among_all : test None ≡ false → (k : ℕ) → length site.points ≤ k → among k ≡ points_where site panel (λ place. test (slice_get site.points place))
  among_all nowhere k whole =
      points_same site panel (λ place. nat_lt place k && test (slice_get site.points place)) (λ place. test (slice_get site.points place))
      (λ place. one place (slice_get site.points place) refl)
    where
      one : (place : ℕ) (o : Option Point) → slice_get site.points place ≡ o → (nat_lt place k && test o) ≡ test o
      one place None is = ap (λ b. nat_lt place k && b) nowhere ∙ none (nat_lt place k) ∙ sym nowhere
        where
          none : (b : Bool) → (b && false) ≡ false
          none true = refl
          none false = refl
      one place (Some p) is =
          ap (λ b. b && test (Some p)) (lt_true place k (omega (arith, whole, slice_get_within site.points place p is)))

-- a zone that is not there has no points
no_zone_points : (site : Site) (panel zone : ℕ) → IsValid site → length site.zones ≤ zone
    → no_set ≡ points_where site panel (λ place. is_of_zone zone (slice_get site.points place))
no_zone_points site panel zone valid past =
    sym (points_same site panel (λ place. is_of_zone zone (slice_get site.points place)) (λ place. false)
    (λ place. one place (slice_get site.points place) refl) ∙ none_is site panel)
  where
    one : (place : ℕ) (o : Option Point) → slice_get site.points place ≡ o → is_of_zone zone o ≡ false
    one place None is = refl
    one place (Some p) is =
        let of_zone = all_at (λ (point : Point). HasZone site point.panel point.zone) site.points place p valid.references.zone_of_point is in
        let small = slice_get_within site.zones p.zone of_zone.zone of_zone.is in
        neq_false p.zone zone (λ e. omega (arith, small, past, e))

zone_points : (site : Site) (panel : ℕ) (sets : List PointSet) → IsValid site → AreZoneSets site panel (length site.points) sets → (zone : ℕ)
    → set_or_none (slice_get sets zone) ≡ points_where site panel (λ place. is_of_zone zone (slice_get site.points place))
zone_points site panel sets valid h zone = go (slice_get sets zone) refl
  where
    go : (o : Option PointSet) → slice_get sets zone ≡ o
        → set_or_none o ≡ points_where site panel (λ place. is_of_zone zone (slice_get site.points place))
    go (Some points) is = h.each zone points is ∙ among_all site panel (is_of_zone zone) refl (length site.points) (omega arith)
    go None is = elim (lt_tells zone (length sets)) [
      | inl less ↦ absurd (none_past sets zone less.1 is)
      | inr past ↦ (let p = past.1 in let c = h.count in no_zone_points site panel zone valid (omega (arith, p, c)))
    ]

-- at first the sets of zones are empty
pub zone_sets_first : (site : Site) (panel n : ℕ) (sets : List PointSet) (set : PointSet) → set ≡ no_set → n ≡ length site.zones
    → sets ≡ replicate n set → AreZoneSets site panel 0 sets
zone_sets_first site panel n sets set empty size is = record {
  count = ap length is ∙ length-replicate n set ∙ size;
  each = λ zone points at.
      let here : slice_get (replicate n set) zone ≡ Some points = ap (λ l. slice_get l zone) (sym is) ∙ at in
      let within = slice_get_within (replicate n set) zone points here in
      let small : zone < n = omega (arith, within, length-replicate n set) in
      sym (get_or_from_slice_get (replicate n set) zone points set here) ∙ get_or-replicate n zone set set small ∙ empty
      ∙ among_none site panel (is_of_zone zone);
}

-- a point is put into the set of its zone
pub zone_sets_more : (site : Site) (panel k : ℕ) (point : Point) (before after : List PointSet) → HasOwnPlaces site
    → slice_get site.points k ≡ Some point
    → ((zone : ℕ) → slice_get after zone ≡ option_map (put_at_place point.zone (loop_address panel point) zone) (slice_get before zone))
    → length after ≡ length before → AreZoneSets site panel k before → AreZoneSets site panel (k + 1) after
zone_sets_more site panel k point before after own is put same h = record {
  count = same ∙ h.count;
  each = λ zone points at. more zone points (slice_get before zone) refl (sym (put zone) ∙ at);
}
  where
    more : (zone : ℕ) (points : PointSet) (o : Option PointSet) → slice_get before zone ≡ o
        → option_map (put_at_place point.zone (loop_address panel point) zone) o ≡ Some points
        → points ≡ among site panel (is_of_zone zone) (k + 1)
    more zone points None at e = absurd (cc)
    more zone points (Some set) at e = sym (same_Some _ points e) ∙ elim (eqb_tells point.zone zone) [
      | inl here ↦
          ap (λ b. if b then put_at (loop_address panel point) true set else set) here.0
          ∙ ap (put_at (loop_address panel point) true) (h.each zone set at)
          ∙ among_more site panel (is_of_zone zone) k point true own is (sym here.0)
      | inr far ↦
          ap (λ b. if b then put_at (loop_address panel point) true set else set) far.0
          ∙ h.each zone set at ∙ among_again site panel (is_of_zone zone) k point is far.0
    ]

pub points_first : (site : Site) (kept : Retained) (panel : ℕ) (points : Points) → IsValid site → HasOwnPlaces site
    → points.addresses.items ≡ map (loop_address panel) site.points →
    AreZoneSets site panel (length site.points) points.of_zones.items → points.missing ≡ no_set → TellMissing [] points.told →
    (off zone_off : PointSet) → points.off ≡ points_from off → points.zone_off ≡ points_from zone_off →
    off ≡ points_where site panel (λ place. is_asked site kept Disabled (slice_get site.points place))
    → zone_off ≡ points_where site panel (λ place. is_asked site kept ZoneDisabled (slice_get site.points place)) →
    WatchesPoints site kept panel [] [] points
points_first site kept panel points valid own addresses sets missing told off zone_off from zone_from is zone_is = record {
  own = own;
  addresses = addresses;
  of_zones = zone_points site panel points.of_zones.items valid sets;
  missing = missing ∙ sym (none_is site panel);
  told = told;
  off = subst (TellsPoints site panel (point_is_off site kept []) []) (sym from)
      (told_from site panel (point_is_off site kept []) off
      (λ x. is ∙ points_same site panel (λ place. is_asked site kept Disabled (slice_get site.points place)) (point_is_off site kept [] x)
      (λ place. retained (slice_get site.points place))));
  zone_off = subst (TellsPoints site panel (zone_of_is_off site kept []) []) (sym zone_from)
      (told_from site panel (zone_of_is_off site kept []) zone_off
      (λ x. zone_is ∙ points_same site panel (λ place. is_asked site kept ZoneDisabled (slice_get site.points place))
      (zone_of_is_off site kept [] x) (λ place. zone_retained x (slice_get site.points place))));
}
  where
    retained : (o : Option Point) → is_asked site kept Disabled o ≡ kept_point kept o
    retained None = refl
    retained (Some p) = refl

    zone_retained : (x : ℕ) (o : Option Point) → is_asked site kept ZoneDisabled o ≡ zone_is_off site kept [] o x
    zone_retained x None = refl
    zone_retained x (Some p) = refl

pub shows_nothing : (site : Site) (kept : Retained) (panel : ℕ) → Shows site kept panel [] [] nothing_shown
shows_nothing site kept panel = record { word = refl; faults = refl; newly = refl; entries = refl; buzzer = refl }

-- what a slice of the whole list wrote
pub written_back : {X : Type 0} (n : ℕ) (more old : List X) → length more ≡ n → take n (more ++ drop (length more) old) ≡ more
written_back n more old same = take-append-le n more (drop (length more) old) (omega (arith, same)) ∙ take_all n more (omega (arith, same))
