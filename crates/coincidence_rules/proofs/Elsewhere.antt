-- An operation of another panel is on nothing of this one.
use Rattle.std.proofs.Common.{◌≡◌, ◌≢◌, ℕ, max, Bool, true, false, List, ◌∷◌, Option, Some, None, slice_get, ◌==◌, ◌&&◌, nat_lt, if◌then◌else◌, refl, sym, ◌∙◌, ap}
use Rattle.std.proofs.lemmas.Bool.{eqb-true, ne_eqb}
use Rattle.site_types.specs.declared.site.Site.{Site}
use Rattle.site_types.specs.declared.point.Point.{Point as PointPlan}
use Rattle.site_types.specs.declared.zone.Zone.{Zone as ZonePlan}
use Rattle.site_types.specs.declared.retained.Retained.{Retained}
use Rattle.site_types.specs.declared.item.Item.TheVariants.{Point, Zone, Output}
use Rattle.site_types.specs.declared.operation.Operation.{Operation}
use Rattle.site_types.specs.declared.operation.Operation.TheVariants.{Mute, Override, Silence, Resound, Reset, Cancel, Disable, Enable, Test, Untest, Delays, Clear}
use Rattle.site_types.specs.Events.{is_some_with, has_operands}
use Rattle.site_types.specs.Done.{Done, Setting, PointOff, ZoneOff, InTest, is_on, value_set, in_force, latest_before, is_of_panel, moves_floor, cancels}
use Rattle.tick_units.specs.declared.last_done.LastDone.{LastDone}
use Rattle.coincidence_rules.specs.Applied.{TellsLast}

-- the operation is of another panel, and on nothing of this one
pub record IsElsewhere (site : Site) (panel : ℕ) (d : Done) : Type 0 where
  pub apart : d.panel ≢ panel
  pub points : (place : ℕ) (point : PointPlan) → slice_get site.points place ≡ Some point → point.panel ≡ panel → is_on (PointOff place) d ≡ false
  pub offs : (place : ℕ) (zone : ZonePlan) → slice_get site.zones place ≡ Some zone → zone.panel ≡ panel → is_on (ZoneOff place) d ≡ false
  pub tests : (place : ℕ) (zone : ZonePlan) → slice_get site.zones place ≡ Some zone → zone.panel ≡ panel → is_on (InTest place) d ≡ false
  pub cancelled : (place : ℕ) (zone : ZonePlan) → slice_get site.zones place ≡ Some zone → zone.panel ≡ panel → cancels place d ≡ false
  pub floors : (place : ℕ) (zone : ZonePlan) → slice_get site.zones place ≡ Some zone → zone.panel ≡ panel → moves_floor site place d ≡ false

module _ (site : Site) (panel tick at : ℕ) (apart : at ≢ panel) where
  zone_not : (place z : ℕ) (zone : ZonePlan) → slice_get site.zones place ≡ Some zone → zone.panel ≡ panel → (o : Option ZonePlan)
      → slice_get site.zones z ≡ o → is_some_with (λ (y : ZonePlan). y.panel == at) o ≡ true → place ≢ z
  zone_not place z zone is own None e h same = cc
  zone_not place z zone is own (Some y) e h same =
      let s : zone ≡ y = some_same zone y (sym is ∙ ap (slice_get site.zones) same ∙ e) in
      apart (sym (eqb-true y.panel at h) ∙ ap (λ (w : ZonePlan). w.panel) (sym s) ∙ own)
    where
      some_same : (a b : ZonePlan) → Some a ≡ Some b → a ≡ b
      some_same a b e = cc

  point_not : (place p : ℕ) (point : PointPlan) → slice_get site.points place ≡ Some point → point.panel ≡ panel → (o : Option PointPlan)
      → slice_get site.points p ≡ o → is_some_with (λ (y : PointPlan). y.panel == at) o ≡ true → place ≢ p
  point_not place p point is own None e h same = cc
  point_not place p point is own (Some y) e h same =
      let s : point ≡ y = some_same point y (sym is ∙ ap (slice_get site.points) same ∙ e) in
      apart (sym (eqb-true y.panel at h) ∙ ap (λ (w : PointPlan). w.panel) (sym s) ∙ own)
    where
      some_same : (a b : PointPlan) → Some a ≡ Some b → a ≡ b
      some_same a b e = cc

  abbrev done_at : Operation → Done
  done_at operation = record { tick = tick; panel = at; operation = operation }

  points_not : (operation : Operation) → has_operands site at operation ≡ true → (place : ℕ) (point : PointPlan)
      → slice_get site.points place ≡ Some point → point.panel ≡ panel → is_on (PointOff place) (done_at operation) ≡ false
  points_not (Disable (Point p)) h place point is own = ne_eqb place p (point_not place p point is own (slice_get site.points p) refl h)
  points_not (Enable (Point p)) h place point is own = ne_eqb place p (point_not place p point is own (slice_get site.points p) refl h)
  points_not (Disable (Zone z)) h place point is own = refl
  points_not (Disable (Output o)) h place point is own = refl
  points_not (Enable (Zone z)) h place point is own = refl
  points_not (Enable (Output o)) h place point is own = refl
  points_not (Test z) h place point is own = refl
  points_not (Untest z) h place point is own = refl
  points_not (Cancel z) h place point is own = refl
  points_not (Delays on) h place point is own = refl
  points_not Mute h place point is own = refl
  points_not Override h place point is own = refl
  points_not Silence h place point is own = refl
  points_not Resound h place point is own = refl
  points_not Reset h place point is own = refl
  points_not Clear h place point is own = refl

  module _ (place : ℕ) (zone : ZonePlan) (is : slice_get site.zones place ≡ Some zone) (own : zone.panel ≡ panel) where
    here_not : (z : ℕ) → is_some_with (λ (y : ZonePlan). y.panel == at) (slice_get site.zones z) ≡ true → (place == z) ≡ false
    here_not z h = ne_eqb place z (zone_not place z zone is own (slice_get site.zones z) refl h)

    there_not : (z : ℕ) → is_some_with (λ (y : ZonePlan). y.panel == at) (slice_get site.zones z) ≡ true → (z == place) ≡ false
    there_not z h = ne_eqb z place (λ e. zone_not place z zone is own (slice_get site.zones z) refl h (sym e))

    offs_not : (operation : Operation) → has_operands site at operation ≡ true → is_on (ZoneOff place) (done_at operation) ≡ false
    offs_not (Disable (Zone z)) h = here_not z h
    offs_not (Enable (Zone z)) h = here_not z h
    offs_not (Disable (Point p)) h = refl
    offs_not (Disable (Output o)) h = refl
    offs_not (Enable (Point p)) h = refl
    offs_not (Enable (Output o)) h = refl
    offs_not (Test z) h = refl
    offs_not (Untest z) h = refl
    offs_not (Cancel z) h = refl
    offs_not (Delays on) h = refl
    offs_not Mute h = refl
    offs_not Override h = refl
    offs_not Silence h = refl
    offs_not Resound h = refl
    offs_not Reset h = refl
    offs_not Clear h = refl

    tests_not : (operation : Operation) → has_operands site at operation ≡ true → is_on (InTest place) (done_at operation) ≡ false
    tests_not (Test z) h = here_not z h
    tests_not (Untest z) h = here_not z h
    tests_not (Disable (Point p)) h = refl
    tests_not (Disable (Zone z)) h = refl
    tests_not (Disable (Output o)) h = refl
    tests_not (Enable (Point p)) h = refl
    tests_not (Enable (Zone z)) h = refl
    tests_not (Enable (Output o)) h = refl
    tests_not (Cancel z) h = refl
    tests_not (Delays on) h = refl
    tests_not Mute h = refl
    tests_not Override h = refl
    tests_not Silence h = refl
    tests_not Resound h = refl
    tests_not Reset h = refl
    tests_not Clear h = refl

    cancelled_not : (operation : Operation) → has_operands site at operation ≡ true → cancels place (done_at operation) ≡ false
    cancelled_not (Cancel z) h = there_not z h
    cancelled_not (Disable item) h = refl
    cancelled_not (Enable item) h = refl
    cancelled_not (Test z) h = refl
    cancelled_not (Untest z) h = refl
    cancelled_not (Delays on) h = refl
    cancelled_not Mute h = refl
    cancelled_not Override h = refl
    cancelled_not Silence h = refl
    cancelled_not Resound h = refl
    cancelled_not Reset h = refl
    cancelled_not Clear h = refl

    floors_not : (operation : Operation) → has_operands site at operation ≡ true → moves_floor site place (done_at operation) ≡ false
    floors_not Reset h = ap (is_of_panel at) is ∙ ne_eqb at zone.panel (λ e. apart (e ∙ own))
    floors_not (Disable (Zone z)) h = there_not z h
    floors_not (Test z) h = there_not z h
    floors_not (Disable (Point p)) h = refl
    floors_not (Disable (Output o)) h = refl
    floors_not (Enable item) h = refl
    floors_not (Untest z) h = refl
    floors_not (Cancel z) h = refl
    floors_not (Delays on) h = refl
    floors_not Mute h = refl
    floors_not Override h = refl
    floors_not Silence h = refl
    floors_not Resound h = refl
    floors_not Clear h = refl

  -- what is done at another panel is on nothing of this one
  pub elsewhere : (operation : Operation) → has_operands site at operation ≡ true → IsElsewhere site panel (done_at operation)
  elsewhere operation h = record {
    apart = apart;
    points = λ place point is own. points_not operation h place point is own;
    offs = λ place zone is own. offs_not place zone is own operation h;
    tests = λ place zone is own. tests_not place zone is own operation h;
    cancelled = λ place zone is own. cancelled_not place zone is own operation h;
    floors = λ place zone is own. floors_not place zone is own operation h;
  }

-- so what is in force of this one stays, and the latest of each kind of operation
module _ (done : List Done) (d : Done) where
  pub force_same : (site : Site) (kept : Retained) (setting : Setting) (x : ℕ) → is_on setting d ≡ false
      → in_force site kept setting x (d ∷ done) ≡ in_force site kept setting x done
  force_same site kept setting x e = ap (λ b. if b && nat_lt d.tick x then value_set d.operation else in_force site kept setting x done) e

  pub latest_same : (test : Done → Bool) (x : ℕ) → test d ≡ false → latest_before test x (d ∷ done) ≡ latest_before test x done
  latest_same test x e = ap (λ b. if b && nat_lt d.tick x then max d.tick (latest_before test x done) else latest_before test x done) e

  pub last_same : (test : Done → Bool) (last : LastDone) → test d ≡ false → TellsLast test done last → TellsLast test (d ∷ done) last
  last_same test last e h = record { at = λ x since. latest_same test x e ∙ h.at x since; by = λ x all. h.by x all.1 }
