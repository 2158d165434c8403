-- What a turn does to what is kept of a supply.
use Rattle.std.proofs.Common.{◌≡◌, ℕ, ◌-◌, ◌≤◌, List, [], ◌∷◌, true, false, nat_le, Some, None, unwrap_or, if◌then◌else◌, refl, sym, ◌∙◌, ap, subst, arith}
use Rattle.std.specs.List.{list_any, AllByRecursion}
use Rattle.std.proofs.lemmas.Bool.Decides.{nat_tests}
use Rattle.tick_units.specs.declared.tick.Tick.{Tick}
use Rattle.site_types.specs.declared.supply_kind.SupplyKind.{SupplyKind}
use Rattle.tick_units.proofs.Earliest.{earliest_more}
use Rattle.supply_monitor.specs.declared.watch.Watch.{Watch}
use Rattle.supply_monitor.specs.Supply.{Call, Reported, Turned, is_bad, bad_turns, lasts, AllBefore}
use Rattle.supply_monitor.specs.Stands.{Keeps}
use Rattle.supply_monitor.specs.Watches.{IsSound}
use Rattle.tick_units.specs.Earliest.{IsFalling, earliest_of}

-- where turns fall, the earliest lies farthest back
pub any_earliest : (wait latest turn : ℕ) (first : Tick) (turns : List ℕ) → IsFalling (turn ∷ turns) → earliest_of (turn ∷ turns) ≡ Some first
    → (first.0 ≤ turn) × (list_any (λ tick. nat_le wait (latest - tick)) (turn ∷ turns) ≡ nat_le wait (latest - first.0))
any_earliest wait latest turn first [] f e = let same : turn ≡ first.0 = cc in (omega arith, rw same (grind (arith, nat_tests)))
any_earliest wait latest turn first (next ∷ turns) f e =
    let rest = any_earliest wait latest next first turns f.1 e in
    let before = f.0.0 in
    (omega (arith, rest.0, before), rw rest.1 (grind (arith, nat_tests, rest.0, before)))

below_now : (now : ℕ) (kind : SupplyKind) (calls : List Call) → AllBefore now calls → AllByRecursion (λ tick. tick ≤ now) (bad_turns kind calls)
below_now now kind [] h = tt
below_now now kind (Reported other bad ∷ calls) h = below_now now kind calls h
below_now now kind (Turned tick ∷ calls) h =
    elim (is_bad kind calls) as (λ b. AllByRecursion (λ tick. tick ≤ now) (if b then tick ∷ bad_turns kind calls else [])) [
      | true ↦ (omega (arith, h.0), below_now now kind calls h.1)
      | false ↦ tt
    ]

-- a turn that finds the supply bad
pub turned_bad : (wait : ℕ) (now since : Tick) (kind : SupplyKind) (calls : List Call) (watch : Watch) → Keeps wait kind calls watch
    → AllBefore now.0 calls → watch.bad ≡ true → since ≡ unwrap_or watch.since now
    → Keeps wait kind (Turned now.0 ∷ calls) (record { bad = true; since = Some since; shown = nat_le wait (now.0 - since.0) })
turned_bad wait now since kind calls watch k before bad from =
    let still : is_bad kind calls ≡ true = sym k.bad ∙ bad in
    let falls : IsFalling (now.0 ∷ bad_turns kind calls) = (below_now now.0 kind calls before, k.falling) in
    let first : earliest_of (now.0 ∷ bad_turns kind calls) ≡ Some since =
    sym (ap Some (from ∙ ap (λ s. unwrap_or s now) k.since) ∙ earliest_more now (bad_turns kind calls)) in
    record {
      bad = sym still;
      since = rw still (sym first);
      shown = rw still (sym (any_earliest wait now.0 now.0 since (bad_turns kind calls) falls first).1);
      falling = rw still falls;
    }

-- a turn that finds the supply sound
pub turned_sound : (wait now : ℕ) (kind : SupplyKind) (calls : List Call) (watch : Watch) → Keeps wait kind calls watch → watch.bad ≡ false
    → Keeps wait kind (Turned now ∷ calls) (record { bad = false; since = None; shown = false })
turned_sound wait now kind calls watch k sound =
    let still : is_bad kind calls ≡ false = sym k.bad ∙ sound in
    record { bad = sym still; since = rw still refl; shown = rw still refl; falling = rw still tt }

-- a turn leaves a sound supply as it is, and shows no fault
pub sound_stays : (wait now : ℕ) (kind : SupplyKind) (calls : List Call) (watch : Watch) → IsSound watch → Keeps wait kind calls watch
    → Keeps wait kind (Turned now ∷ calls) watch
sound_stays wait now kind calls watch sound k =
    subst (Keeps wait kind (Turned now ∷ calls)) (sym sound) (turned_sound wait now kind calls watch k (ap (λ (w : Watch). w.bad) sound))

pub sound_hidden : (wait : ℕ) (kind : SupplyKind) (calls : List Call) (watch : Watch) → IsSound watch → Keeps wait kind calls watch
    → false ≡ lasts wait (bad_turns kind calls)
sound_hidden wait kind calls watch sound k = sym (ap (λ (w : Watch). w.shown) sound) ∙ k.shown
