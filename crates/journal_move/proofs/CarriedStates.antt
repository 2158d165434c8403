-- What a changed site takes over of a state that a slot keeps can be kept in a slot for it.
use Rattle.std.proofs.Common.{inl, inr, ◌≡◌, ◌≢◌, ◌⊎◌, ◌-◌, ◌*◌, ◌≤◌, ◌==◌, ℕ, zero, suc, Bool, true}
use Rattle.std.proofs.Common.{false, List, [], ◌∷◌, ◌++◌, take, replicate, refl, sym, subst, arith, if◌then◌else◌, Some}
use Rattle.std.specs.Prelude.{map, slice_get}
use Rattle.std.specs.List.{filter}
use Rattle.std.proofs.lemmas.Bool.Decides.{eqb_tells}
use Rattle.retained_journal.specs.Batches.{CanKeep, CanKeepAll}
use Rattle.retained_journal.specs.Cells.{greatest_address}
use Rattle.retained_journal.specs.Slots.{IsKeepable}
use Rattle.retained_journal.proofs.Keeping.{keeps-batch}
use Rattle.retained_journal.proofs.NewJournals.{keeps_nothing}
use Rattle.site_types.specs.declared.site.Site.{Site}
use Rattle.site_types.specs.declared.point.Point.{Point as PointPlan}
use Rattle.site_types.specs.declared.zone.Zone.{Zone as ZonePlan}
use Rattle.site_types.specs.declared.output.Output.{Output as OutputPlan}
use Rattle.site_types.specs.declared.retained.Retained.{Retained}
use Rattle.site_types.specs.declared.change.Change.{Change}
use Rattle.site_types.specs.declared.change.Change.TheVariants.{Point, Zone, Output, Test}
use Rattle.site_types.specs.Carry.{carried, output_changes, output_was_off, point_changes, point_was_off, test_changes}
use Rattle.site_types.specs.Carry.{zone_changes, zone_was_off, zone_was_tested}
use Rattle.site_types.specs.Changes.{AreCounters, changed_by, nothing_retained}
use Rattle.site_types.specs.Valid.{IsValid}
use Rattle.site_types.proofs.ValidSites.{output_numbers, point_at, point_numbers, zone_numbers}

-- each change that comes of a list can be kept
keep_next : {X : Type 0} (wide : Bool) (change : X → Change) (x : X) (rest : List X) → CanKeep wide (change x) → CanKeepAll wide (map change rest)
    → (b : Bool) → CanKeepAll wide (map change (if b then x ∷ rest else rest))
keep_next wide change x rest this others true = (this, others)
keep_next wide change x rest this others false = others

keep_all : {X : Type 0} (wide : Bool) (change : X → Change) (test : X → Bool) (xs : List X)
    → ((k : ℕ) (x : X) → slice_get xs k ≡ Some x → CanKeep wide (change x)) → CanKeepAll wide (map change (filter test xs))
keep_all wide change test [] can = tt
keep_all wide change test (x ∷ xs) can =
    keep_next wide change x (filter test xs) (can 0 x refl) (keep_all wide change test xs (λ k y at. can (suc k) y at)) (test x)

both_kept : (wide : Bool) (xs ys : List Change) → CanKeepAll wide xs → CanKeepAll wide ys → CanKeepAll wide (xs ++ ys)
both_kept wide [] ys a b = b
both_kept wide (x ∷ xs) ys a b = (a.0, both_kept wide xs ys a.1 b)

-- the addresses of a site have room in its journal
address_fits : (format address : ℕ) → format ≤ 2 → address ≤ 96 * format → address ≤ greatest_address (format == 2)
address_fits format address two low = by (eqb_tells format 2)
  where
    by : (((format == 2) ≡ true) × (format ≡ 2)) ⊎ (((format == 2) ≡ false) × (format ≢ 2)) → address ≤ greatest_address (format == 2)
    by (inl e) = subst (λ (b : Bool). address ≤ greatest_address b) (sym e.0) (omega (arith, two, low))
    by (inr e) = subst (λ (b : Bool). address ≤ greatest_address b) (sym e.0) (let other = e.1 in omega (arith, other, two, low))

-- the counters of the first panels, and none of the others
zeros : (n : ℕ) → AreCounters (replicate n 0)
zeros zero k = omega arith
zeros (suc n) zero = omega arith
zeros (suc n) (suc k) = zeros n k

small_front : (panels : ℕ) (counters behind : List ℕ) → AreCounters counters → AreCounters behind → AreCounters (take panels counters ++ behind)
small_front zero counters behind small rest k = rest k
small_front (suc panels) [] behind small rest k = rest k
small_front (suc panels) (counter ∷ counters) behind small rest zero = small 0
small_front (suc panels) (counter ∷ counters) behind small rest (suc k) = small_front panels counters behind (λ j. small (suc j)) rest k

-- what is carried over can be kept
pub carried_keeps : (old new : Site) (state : Retained) → IsValid new → AreCounters state.counters
    → IsKeepable (new.format == 2) (carried old new state)
carried_keeps old new state valid small = record {
  fits = kept.fits;
  narrow = kept.narrow;
  small = small_front new.panels state.counters (replicate (8 - new.panels) 0) small (zeros (8 - new.panels));
}
  where
    points : CanKeepAll (new.format == 2) (point_changes old new state)
    points =
        keep_all (new.format == 2) (λ (p : PointPlan). Point p.panel p.line p.address true) (λ (p : PointPlan). point_was_off old state p.name.bytes)
        new.points
        (λ k p at.
        let place = point_numbers new valid k p at in
        (((place.0, place.1), place.2), address_fits new.format p.address valid.forms.format.1 (point_at new valid k p at).address.1))

    zones : CanKeepAll (new.format == 2) (zone_changes old new state)
    zones =
        keep_all (new.format == 2) (λ (z : ZonePlan). Zone z.panel z.number true) (λ (z : ZonePlan). zone_was_off old state z.name.bytes) new.zones
        (λ k z at. let place = zone_numbers new valid k z at in (((place.0, place.1), (place.2, place.3)), tt))

    outputs : CanKeepAll (new.format == 2) (output_changes old new state)
    outputs =
        keep_all (new.format == 2) (λ (o : OutputPlan). Output o.panel o.number true) (λ (o : OutputPlan). output_was_off old state o.name.bytes)
        new.outputs (λ k o at. let place = output_numbers new valid k o at in (((place.0, place.1), (place.2, place.3)), tt))

    tests : CanKeepAll (new.format == 2) (test_changes old new state)
    tests =
        keep_all (new.format == 2) (λ (z : ZonePlan). Test z.panel z.number true) (λ (z : ZonePlan). zone_was_tested old state z.name.bytes) new.zones
        (λ k z at. let place = zone_numbers new valid k z at in (((place.0, place.1), (place.2, place.3)), tt))

    kept :
        IsKeepable (new.format == 2) (changed_by (point_changes old new state ++ zone_changes old new state ++ output_changes old new state
        ++ test_changes old new state) nothing_retained)
    kept =
        keeps-batch (new.format == 2)
        (point_changes old new state ++ zone_changes old new state ++ output_changes old new state ++ test_changes old new state) nothing_retained
        (both_kept (new.format == 2) (point_changes old new state ++ zone_changes old new state ++ output_changes old new state)
        (test_changes old new state)
        (both_kept (new.format == 2) (point_changes old new state ++ zone_changes old new state) (output_changes old new state)
        (both_kept (new.format == 2) (point_changes old new state) (zone_changes old new state) points zones) outputs) tests)
        (keeps_nothing (new.format == 2))
