-- What is kept at the start stands for no answers and no operations.
use Rattle.std.proofs.Common.{◌≡◌, ℕ, zero, suc, ◌≤◌, Bool, true, false, List, [], ◌∷◌, length, map, Some, slice_get, nat_lt, nat_le, if◌then◌else◌, refl, sym, ◌∙◌, ap, subst, arith}
use Rattle.std.proofs.lemmas.Bool.Decides.{nat_tests}
use Rattle.site_types.specs.declared.site.Site.{Site}
use Rattle.site_types.specs.declared.point.Point.{Point as PointPlan}
use Rattle.site_types.specs.declared.zone.Zone.{Zone as ZonePlan}
use Rattle.site_types.specs.declared.retained.Retained.{Retained}
use Rattle.site_types.specs.Done.{Setting, PointOff, ZoneOff, InTest, at_opening, kept_point, kept_zone, kept_test}
use Rattle.site_types.specs.Profile.{missing_askings}
use Rattle.site_types.specs.Valid.{IsValid}
use Rattle.coincidence_rules.proofs.LastDone.{told_never}
use Rattle.coincidence_rules.specs.Missing.{latest_of, begins_silent}
use Rattle.coincidence_rules.proofs.ValidWired.{wired_of}
use Rattle.coincidence.specs.declared.decide.Decide.{Decide}
use Rattle.coincidence.specs.Parts.{switch_begun, point_from, zone_from}
use Rattle.tick_units.specs.LastTicks.{never_done}
use Rattle.answer_lanes.specs.Places.{HasFirst}
use Rattle.coincidence_rules.proofs.Lists.{get_small}
use Rattle.coincidence.specs.ZoneMasks.{TellZonesOf}
use Rattle.coincidence.specs.Stands.{TellsSetting, WatchesPoint, WatchesZone, DecidesFor}
use Rattle.coincidence_rules.specs.Applied.{TellsLast}

length_map : {X Y : Type 0} (f : X → Y) (xs : List X) → length (map f xs) ≡ length xs
length_map f [] = refl
length_map f (x ∷ xs) = ap suc (length_map f xs)

get_map : {X Y : Type 0} (f : X → Y) (xs : List X) (k : ℕ) (x : X) (y : Y) → slice_get (map f xs) k ≡ Some y → slice_get xs k ≡ Some x → y ≡ f x
get_map f [] k x y h g = cc
get_map f (z ∷ xs) zero x y h g = let e : z ≡ x = cc in let s : f z ≡ y = cc in sym s ∙ ap f e
get_map f (z ∷ xs) (suc k) x y h g = get_map f xs k x y h g

same_either : (b v : Bool) → v ≡ (if b then v else v)
same_either true v = refl
same_either false v = refl

setting_begins : (site : Site) (kept : Retained) (setting : Setting) (value : Bool) → at_opening site kept setting ≡ value
    → TellsSetting site kept setting [] (switch_begun value)
setting_begins site kept setting value e = record { at = λ x since. e ∙ same_either (nat_lt 0 x) value; since = refl }

none_silent : (n : ℕ) → nat_le (suc n) 0 ≡ false
none_silent n = grind (arith, nat_tests)

none_le : true ≡ nat_le 0 0
none_le = grind (arith, nat_tests)

module _ (site : Site) (kept : Retained) where
  point_begins : (place : ℕ) (point : PointPlan) → slice_get site.points place ≡ Some point
      → WatchesPoint site kept [] [] place point (point_from kept point)
  point_begins place point is = record {
    zone = refl;
    manual = refl;
    off = setting_begins site kept (PointOff place) (kept_point kept (Some point)) (ap (kept_point kept) is);
    silent = silent;
    few = omega arith;
    run = refl;
  }
    where
      silent : (n : ℕ) → n ≤ missing_askings → begins_silent n (latest_of place []) ≡ nat_le n 0
      silent zero le = none_le
      silent (suc n) le = sym (none_silent n)

  zone_begins : (place : ℕ) (zone : ZonePlan) → slice_get site.zones place ≡ Some zone → WatchesZone site kept [] [] place zone (zone_from kept zone)
  zone_begins place zone is = record {
    number = refl;
    rule = refl;
    partner = refl;
    off = setting_begins site kept (ZoneOff place) (kept_zone kept (Some zone)) (ap (kept_zone kept) is);
    test = setting_begins site kept (InTest place) (kept_test kept (Some zone)) (ap (kept_test kept) is);
    moved = told_never _;
    cancelled = told_never _;
    recent = λ point. refl;
  }

  pub stands_begun : IsValid site → (panel : ℕ) (decide : Decide) → decide.panel ≡ panel → decide.points ≡ map (point_from kept) site.points
      → decide.zones.items ≡ map (zone_from kept) site.zones → decide.reset ≡ never_done
      → HasFirst (length site.points) false decide.going_on → TellZonesOf site.points site.zones decide.told.blocks.items
      → DecidesFor site kept panel [] [] decide
  stands_begun valid panel decide at points zones reset none told = record {
    wired = wired_of site valid;
    at = at;
    point_count = ap length points ∙ length_map (point_from kept) site.points;
    zone_count = ap length zones ∙ length_map (zone_from kept) site.zones;
    points = λ place watch point there is own.
        subst (WatchesPoint site kept [] [] place point)
        (sym (get_map (point_from kept) site.points place point watch (ap (λ xs. slice_get xs place) (sym points) ∙ there) is))
        (point_begins place point is);
    zones = λ place watch zone there is own.
        subst (WatchesZone site kept [] [] place zone)
        (sym (get_map (zone_from kept) site.zones place zone watch (ap (λ xs. slice_get xs place) (sym zones) ∙ there) is))
        (zone_begins place zone is);
    reset = subst (TellsLast _ []) (sym reset) (told_never _);
    going_on =
        let count = ap length points ∙ length_map (point_from kept) site.points in record {
          room = let room = none.room in omega (arith, count, room);
          all = λ place point zone has there zone_there.
              absurd (let small = get_small decide.points place point there in let no' = none.is place (omega (arith, small, count)) in cc);
        };
    order = record { rising = λ i j a b le f g. cc; once = λ i j a b f g p s. cc };
    own = λ k a is. cc;
    told = told;
  }
