-- What each operation makes of what is kept.
use Rattle.std.proofs.Common.{◌≡◌, ◌≢◌, ◌⊎◌, inl, inr, ⊎_elim, ℕ, ◌<◌, Bool, true, false, List, ◌∷◌, length}
use Rattle.std.proofs.Common.{length-set, set, ◌&&◌, Option, Some, None, slice_get, get_or, ◌==◌, if◌then◌else◌, refl, sym, ◌∙◌}
use Rattle.std.proofs.Common.{ap, subst}
use Rattle.std.proofs.lemmas.Bool.{eqb-true, eq-eqb, ne_eqb}
use Rattle.std.proofs.lemmas.Option.{slice_get-get_or}
use Rattle.std.specs.Vec.{with_item}
use Rattle.tick_units.specs.declared.tick.Tick.{Tick}
use Rattle.site_types.specs.declared.site.Site.{Site}
use Rattle.site_types.specs.declared.point.Point.{Point as PointPlan}
use Rattle.site_types.specs.declared.zone.Zone.{Zone as ZonePlan}
use Rattle.site_types.specs.declared.answer.Answer.{Answer}
use Rattle.site_types.specs.declared.retained.Retained.{Retained}
use Rattle.site_types.specs.declared.item.Item.{Item}
use Rattle.site_types.specs.declared.item.Item.TheVariants.{Point, Zone, Output}
use Rattle.site_types.specs.declared.operation.Operation.{Operation}
use Rattle.site_types.specs.declared.operation.Operation.TheVariants.{Mute, Override, Silence, Resound, Reset, Cancel, Test, Untest, Delays, Clear}
use Rattle.site_types.specs.Events.{is_some_with, has_operands, has_zone}
use Rattle.site_types.specs.Done.{Done, PointOff, ZoneOff, is_on}
use Rattle.coincidence_rules.proofs.Lists.{get_set, get_small}
use Rattle.tick_units.specs.declared.last_done.LastDone.{LastDone}
use Rattle.coincidence.specs.declared.point_watch.PointWatch.{PointWatch}
use Rattle.coincidence.specs.declared.zone_watch.ZoneWatch.{ZoneWatch}
use Rattle.coincidence.specs.declared.decide.Decide.{Decide}
use Rattle.coincidence.specs.Parts.{switch_after}
use Rattle.tick_units.specs.LastTicks.{last_after, last_if}
use Rattle.answer_lanes.specs.declared.place_set.PlaceSet.{PlaceSet}
use Rattle.answer_lanes.specs.Places.{HasNone, IsCleared}
use Rattle.coincidence.proofs.Marked.{cleared_going, marked_anew}
use Rattle.coincidence.specs.Stands.{resets, CanApply, IsOwnZone, DecidesFor, off_operation}
use Rattle.coincidence.specs.Premises.{IsOwn, MayApply}
use Rattle.coincidence.proofs.AppliedOperation.{done_now, point_then, zone_then, IsAfter, stands_after}

-- the part with another zone, or another point, at a place
abbrev with_zone : Decide → ℕ → ZoneWatch → Decide
with_zone decide z y = record decide { zones = with_item decide.zones z y }

abbrev with_point : Decide → ℕ → PointWatch → Decide
with_point decide p y = record decide { points = set decide.points p y }

-- after a write each item is what is made of the item that stood there, where nothing is made of the others
written : {X : Type 0} (xs : List X) (i : ℕ) (x y : X) (change : ℕ → X → X) → i < length xs → x ≡ get_or xs i x → y ≡ change i x
    → ((k : ℕ) (w : X) → k ≢ i → change k w ≡ w)
    → (place : ℕ) (watch : X) → slice_get (set xs i y) place ≡ Some watch → (was : X) × (slice_get xs place ≡ Some was) × (watch ≡ change place was)
written xs i x y change small read new others place watch there =
    ⊎_elim
    (λ here. (
      x,
      subst (λ k. slice_get xs k ≡ Some x) (sym here.0) (slice_get-get_or xs i x small ∙ ap Some (sym read)),
      sym here.1 ∙ new ∙ ap (λ k. change k x) (sym here.0),
    ))
    (λ other. (watch, other.1, sym (others place watch other.0)))
    (get_set xs i place y watch there)

module _ (at : Tick) (panel : ℕ) (operation : Operation) where
  abbrev KeepsPoints : Type 0
  KeepsPoints = (k : ℕ) (w : PointWatch) → point_then at panel operation k w ≡ w

  abbrev KeepsZones : Type 0
  KeepsZones = (k : ℕ) (w : ZoneWatch) → zone_then at panel operation k w ≡ w

  abbrev IsNoReset : Type 0
  IsNoReset = resets panel (done_now at panel operation) ≡ false

  -- an operation that concerns no point or zone, nor the reset
  abbrev pub IsIdle : Type 0
  IsIdle = KeepsPoints × KeepsZones × IsNoReset

  -- what it makes of the zones by their places: of one zone this, of the others nothing. Whether a zone is the one
  -- is told both ways round
  pub record ChangesZone (z : ℕ) (change : Bool → Bool → ZoneWatch → ZoneWatch) : Type 0 where
    pub is : (k : ℕ) (w : ZoneWatch) → zone_then at panel operation k w ≡ change (k == z) (z == k) w
    pub nothing : (w : ZoneWatch) → change false false w ≡ w
    pub points : KeepsPoints
    pub no_reset : IsNoReset

  pub record ChangesPoint (p : ℕ) (change : Bool → PointWatch → PointWatch) : Type 0 where
    pub is : (k : ℕ) (w : PointWatch) → point_then at panel operation k w ≡ change (k == p) w
    pub nothing : (w : PointWatch) → change false w ≡ w
    pub zones : KeepsZones
    pub no_reset : IsNoReset

  module _ (decide : Decide) where
    idle_after : IsIdle → IsAfter at panel operation decide decide
    idle_after idle = record {
      same_panel = refl;
      point_count = refl;
      zone_count = refl;
      points = λ place watch there. (watch, there, sym (idle.0 place watch));
      zones = λ place watch there. (watch, there, sym (idle.1 place watch));
      reset = sym (ap (λ b. last_if b at decide.reset) idle.2);
      going_on = refl;
      told = refl;
    }

    zone_after : (z : ℕ) (x y : ZoneWatch) (change : Bool → Bool → ZoneWatch → ZoneWatch) → ChangesZone z change → z < length decide.zones.items
        → x ≡ get_or decide.zones.items z x → y ≡ change true true x → IsAfter at panel operation decide (with_zone decide z y)
    zone_after z x y change h small read new = record {
      same_panel = refl;
      point_count = refl;
      zone_count = length-set decide.zones.items z y;
      points = λ place watch there. (watch, there, sym (h.points place watch));
      zones =
          written decide.zones.items z x y (zone_then at panel operation) small read
          (new ∙ sym (h.is z x ∙ ap (λ b. change b b x) (eq-eqb z z refl)))
          (λ k w apart.
          h.is k w ∙ ap (λ b. change b (z == k) w) (ne_eqb k z apart) ∙ ap (λ b. change false b w) (ne_eqb z k (λ e. apart (sym e))) ∙ h.nothing w);
      reset = sym (ap (λ b. last_if b at decide.reset) h.no_reset);
      going_on = refl;
      told = refl;
    }

    point_after : (p : ℕ) (x y : PointWatch) (change : Bool → PointWatch → PointWatch) → ChangesPoint p change → p < length decide.points
        → x ≡ get_or decide.points p x → y ≡ change true x → IsAfter at panel operation decide (with_point decide p y)
    point_after p x y change h small read new = record {
      same_panel = refl;
      point_count = length-set decide.points p y;
      zone_count = refl;
      points =
          written decide.points p x y (point_then at panel operation) small read
          (new ∙ sym (h.is p x ∙ ap (λ b. change b x) (eq-eqb p p refl)))
          (λ k w apart. h.is k w ∙ ap (λ b. change b w) (ne_eqb k p apart) ∙ h.nothing w);
      zones = λ place watch there. (watch, there, sym (h.zones place watch));
      reset = sym (ap (λ b. last_if b at decide.reset) h.no_reset);
      going_on = refl;
      told = refl;
    }

reset_after : (at : Tick) (panel : ℕ) (decide : Decide) (reset : LastDone) → reset ≡ last_after at decide.reset
    → IsAfter at panel Reset decide (record decide { reset = reset })
reset_after at panel decide reset e = record {
  same_panel = refl;
  point_count = refl;
  zone_count = refl;
  points = λ place watch there. (watch, there, refl);
  zones = λ place watch there. (watch, there, refl);
  reset = e ∙ sym (ap (λ b. last_if b at decide.reset) (eq-eqb panel panel refl));
  going_on = refl;
  told = refl;
}

-- an operation of one of these kinds is idle, and one on an output
pub idle_is : (at : Tick) (panel : ℕ) (o : Operation)
    → (o ≡ Mute) ⊎ ((o ≡ Override) ⊎ ((o ≡ Silence) ⊎ ((o ≡ Resound) ⊎ (((on : Bool) × (o ≡ Delays on)) ⊎ (o ≡ Clear))))) → IsIdle at panel o
idle_is at panel o (inl e) = subst (IsIdle at panel) (sym e) (λ k w. refl, λ k w. refl, refl)
idle_is at panel o (inr (inl e)) = subst (IsIdle at panel) (sym e) (λ k w. refl, λ k w. refl, refl)
idle_is at panel o (inr (inr (inl e))) = subst (IsIdle at panel) (sym e) (λ k w. refl, λ k w. refl, refl)
idle_is at panel o (inr (inr (inr (inl e)))) = subst (IsIdle at panel) (sym e) (λ k w. refl, λ k w. refl, refl)
idle_is at panel o (inr (inr (inr (inr (inl e))))) = subst (IsIdle at panel) (sym e.1) (λ k w. refl, λ k w. refl, refl)
idle_is at panel o (inr (inr (inr (inr (inr e))))) = subst (IsIdle at panel) (sym e) (λ k w. refl, λ k w. refl, refl)

idle_output : (at : Tick) (panel : ℕ) (off : Bool) (output : ℕ) → IsIdle at panel (off_operation off (Output output))
idle_output at panel true output = (λ k w. refl, λ k w. refl, refl)
idle_output at panel false output = (λ k w. refl, λ k w. refl, refl)

-- ---- what each kind of operation makes of a zone or a point

abbrev cancelled_if : Tick → Bool → Bool → ZoneWatch → ZoneWatch
cancelled_if at here there w = record w { cancelled = last_if there at w.cancelled }

abbrev tested_if : Tick → Bool → Bool → Bool → ZoneWatch → ZoneWatch
tested_if at on here there w = record w { test = if here then switch_after on at w.test else w.test; moved = last_if (on && there) at w.moved }

abbrev off_if : Tick → Bool → Bool → Bool → ZoneWatch → ZoneWatch
off_if at off here there w = record w { off = if here then switch_after off at w.off else w.off; moved = last_if (off && there) at w.moved }

abbrev point_off_if : Tick → Bool → Bool → PointWatch → PointWatch
point_off_if at off here w = record w { off = if here then switch_after off at w.off else w.off }

module _ (at : Tick) (panel z : ℕ) where
  cancel_changes : ChangesZone at panel (Cancel z) z (cancelled_if at)
  cancel_changes = record { is = λ k w. refl; nothing = λ w. refl; points = λ k w. refl; no_reset = refl }

  abbrev test_operation : Bool → Operation
  test_operation on = if on then Test z else Untest z

  test_changes : (on : Bool) → ChangesZone at panel (test_operation on) z (tested_if at on)
  test_changes true = record { is = λ k w. refl; nothing = λ w. refl; points = λ k w. refl; no_reset = refl }
  test_changes false = record { is = λ k w. refl; nothing = λ w. refl; points = λ k w. refl; no_reset = refl }

  off_changes : (off : Bool) → ChangesZone at panel (off_operation off (Zone z)) z (off_if at off)
  off_changes true = record { is = λ k w. refl; nothing = λ w. refl; points = λ k w. refl; no_reset = refl }
  off_changes false = record { is = λ k w. refl; nothing = λ w. refl; points = λ k w. refl; no_reset = refl }

  point_off_changes : (off : Bool) → ChangesPoint at panel (off_operation off (Point z)) z (point_off_if at off)
  point_off_changes true = record { is = λ k w. refl; nothing = λ w. refl; zones = λ k w. refl; no_reset = refl }
  point_off_changes false = record { is = λ k w. refl; nothing = λ w. refl; zones = λ k w. refl; no_reset = refl }

-- what an operation names is of the panel
zone_by : (site : Site) (panel place : ℕ) (o : Option ZonePlan) → slice_get site.zones place ≡ o
    → is_some_with (λ (z : ZonePlan). z.panel == panel) o ≡ true → IsOwnZone site panel place
zone_by site panel place None e h = cc
zone_by site panel place (Some z) e h = record { zone = z; is = e; at = eqb-true z.panel panel h }

pub own_zone : (site : Site) (panel place : ℕ) → has_zone site panel place ≡ true → IsOwnZone site panel place
own_zone site panel place h = zone_by site panel place (slice_get site.zones place) refl h

point_by : (site : Site) (panel place : ℕ) (o : Option PointPlan) → slice_get site.points place ≡ o
    → is_some_with (λ (p : PointPlan). p.panel == panel) o ≡ true → IsOwn site panel place
point_by site panel place None e h = cc
point_by site panel place (Some p) e h = record { point = p; is = e; at = eqb-true p.panel panel h }

pub own_zone_off : (site : Site) (panel : ℕ) (off : Bool) (z : ℕ) → has_operands site panel (off_operation off (Zone z)) ≡ true
    → IsOwnZone site panel z
own_zone_off site panel true z h = own_zone site panel z h
own_zone_off site panel false z h = own_zone site panel z h

pub own_point_off : (site : Site) (panel : ℕ) (off : Bool) (p : ℕ) → has_operands site panel (off_operation off (Point p)) ≡ true → IsOwn site panel p
own_point_off site panel true p h = point_by site panel p (slice_get site.points p) refl h
own_point_off site panel false p h = point_by site panel p (slice_get site.points p) refl h

pub on_zone_off : (at : Tick) (panel : ℕ) (off : Bool) (z : ℕ) → is_on (ZoneOff z) (done_now at panel (off_operation off (Zone z))) ≡ true
on_zone_off at panel true z = eq-eqb z z refl
on_zone_off at panel false z = eq-eqb z z refl

pub on_point_off : (at : Tick) (panel : ℕ) (off : Bool) (p : ℕ) → is_on (PointOff p) (done_now at panel (off_operation off (Point p))) ≡ true
on_point_off at panel true p = eq-eqb p p refl
on_point_off at panel false p = eq-eqb p p refl

module _ {site : Site} {kept : Retained} {panel : ℕ} {done : List Done} {taken : List Answer} {decide : Decide} (stands :
    DecidesFor site kept panel done taken decide) (at : Tick) where
  pub own_small : (z : ℕ) → IsOwnZone site panel z → z < length decide.zones.items
  own_small z own = subst (λ n. z < n) (sym stands.zone_count) (get_small site.zones z own.zone own.is)

  own_point_small : (p : ℕ) → IsOwn site panel p → p < length decide.points
  own_point_small p own = subst (λ n. p < n) (sym stands.point_count) (get_small site.points p own.point own.is)

-- the part without the points whose alarms go on
pub forgotten : {site : Site} {kept : Retained} {panel : ℕ} {done : List Done} {taken : List Answer} {decide : Decide}
    → DecidesFor site kept panel done taken decide → (g : PlaceSet) → IsCleared decide.going_on g
    → DecidesFor site kept panel done taken (record decide { going_on = g })
forgotten {decide = decide} h g cleared = marked_anew h g decide.since (cleared_going g h.going_on cleared)

pub can_forget : (decide : Decide) (operation : Operation) (tick : ℕ) (g : PlaceSet) → IsCleared decide.going_on g → CanApply decide operation tick
    → CanApply (record decide { going_on = g }) operation tick
can_forget decide operation tick g cleared can = record {
  site = can.site;
  kept = can.kept;
  panel = can.panel;
  done = can.done;
  taken = can.taken;
  stands = forgotten can.stands g cleared;
  may = can.may;
}

module _ {site : Site} {kept : Retained} {panel : ℕ} {done : List Done} {taken : List Answer} {decide : Decide} (stands :
    DecidesFor site kept panel done taken decide) (at : Tick) (none : HasNone decide.going_on) where
  -- the operation as it is read
  as_read : (operation one : Operation) (next : Decide) → operation ≡ one → MayApply site panel done taken operation at.0
      → (MayApply site panel done taken one at.0 → IsAfter at panel one decide next)
      → DecidesFor site kept panel (done_now at panel operation ∷ done) taken next
  as_read operation one next e may after =
      let here = subst (λ o. MayApply site panel done taken o at.0) e may in
      subst (λ o. DecidesFor site kept panel (done_now at panel o ∷ done) taken next) (sym e)
      (stands_after site kept panel done taken decide next at one stands here none (after here))

  module _ (operation : Operation) (may : MayApply site panel done taken operation at.0) where
    abbrev StandsNext : Decide → Type 0
    StandsNext next = DecidesFor site kept panel (done_now at panel operation ∷ done) taken next

    pub idle_stands : IsIdle at panel operation → StandsNext decide
    idle_stands idle = stands_after site kept panel done taken decide decide at operation stands may none (idle_after at panel operation decide idle)

    pub reset_stands : (reset : LastDone) → operation ≡ Reset → reset ≡ last_after at decide.reset → StandsNext (record decide { reset = reset })
    reset_stands reset e new = as_read operation Reset _ e may (λ m. reset_after at panel decide reset new)

    module _ (z : ℕ) (x y : ZoneWatch) (read : x ≡ get_or decide.zones.items z x) where
      pub cancel_stands : operation ≡ Cancel z → y ≡ record x { cancelled = last_after at x.cancelled } → StandsNext (with_zone decide z y)
      cancel_stands e new =
          as_read operation (Cancel z) _ e may (λ m. zone_after at panel (Cancel z) decide z x y (cancelled_if at) (cancel_changes at panel z)
          (own_small stands at z (own_zone site panel z m.own)) read new)

      test_read : (on : Bool) → operation ≡ test_operation at panel z on → y ≡ tested_if at on true true x → StandsNext (with_zone decide z y)
      test_read on e new =
          as_read operation (test_operation at panel z on) _ e may (λ m. zone_after at panel (test_operation at panel z on) decide z x y
          (tested_if at on) (test_changes at panel z on) (own_small stands at z (own_tested on m.own)) read new)
        where
          own_tested : (on : Bool) → has_operands site panel (test_operation at panel z on) ≡ true → IsOwnZone site panel z
          own_tested true h = own_zone site panel z h
          own_tested false h = own_zone site panel z h

      pub test_stands : operation ≡ Test z → y ≡ record x { test = switch_after true at x.test; moved = last_if true at x.moved }
          → StandsNext (with_zone decide z y)
      test_stands e new = test_read true e new

      pub untest_stands : operation ≡ Untest z → y ≡ record x { test = switch_after false at x.test; moved = last_if false at x.moved }
          → StandsNext (with_zone decide z y)
      untest_stands e new = test_read false e new

  module _ (off : Bool) (item : Item) (may : MayApply site panel done taken (off_operation off item) at.0) where
    abbrev StandsOff : Decide → Type 0
    StandsOff next = DecidesFor site kept panel (done_now at panel (off_operation off item) ∷ done) taken next

    pub zone_off_stands : (z : ℕ) (x y : ZoneWatch) → item ≡ Zone z → x ≡ get_or decide.zones.items z x
        → y ≡ record x { off = switch_after off at x.off; moved = last_if off at x.moved } → StandsOff (with_zone decide z y)
    zone_off_stands z x y e read new =
        as_read (off_operation off item) (off_operation off (Zone z)) _ (ap (off_operation off) e) may
        (λ m. zone_after at panel (off_operation off (Zone z)) decide z x y (off_if at off) (off_changes at panel z off)
        (own_small stands at z (own_zone_off site panel off z m.own)) read (new ∙ ap (λ b. record x { off = switch_after off at x.off; moved = last_if b at x.moved }) (both off)))
      where
        both : (b : Bool) → b ≡ (b && true)
        both true = refl
        both false = refl

    pub point_off_stands : (p : ℕ) (x : PointWatch) → item ≡ Point p → x ≡ get_or decide.points p x
        → StandsOff (with_point decide p (record x { off = switch_after off at x.off }))
    point_off_stands p x e read =
        as_read (off_operation off item) (off_operation off (Point p)) _ (ap (off_operation off) e) may
        (λ m. point_after at panel (off_operation off (Point p)) decide p x _ (point_off_if at off) (point_off_changes at panel p off)
        (own_point_small stands at p (own_point_off site panel off p m.own)) read refl)

    pub output_off_stands : (output : ℕ) → item ≡ Output output → StandsOff decide
    output_off_stands output e =
        idle_stands (off_operation off item) may (subst (λ i. IsIdle at panel (off_operation off i)) (sym e) (idle_output at panel off output))
