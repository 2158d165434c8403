-- A run of turns lasts for a wait where its least tick lies so far before its latest.
use Rattle.std.proofs.Common.{◌≡◌, ℕ, ◌+◌, ◌-◌, ◌≤◌, ◌<◌, ◌||◌, Bool, true, false, List, [], ◌∷◌, inl, inr, refl, sym, ◌∙◌, ap, arith, if◌then◌else◌}
use Rattle.std.specs.Prelude.{nat_le, nat_lt}
use Rattle.std.specs.List.{list_any}
use Rattle.std.proofs.lemmas.Bool.Decides.{leb_tells}
use Rattle.supply_monitor.specs.Supply.{lasts}
use Rattle.site_types.proofs.Done.{lt_false, lt_true}
use Rattle.panel_rules.proofs.Floors.{le_to}
use Rattle.plain_history.specs.BadRuns.{least_of, run_of, shows}

le_no : (a b : ℕ) → b < a → nat_le a b ≡ false
le_no a b l = elim (leb_tells a b) [ inl t ↦ absurd (omega (arith, t.1)) | inr t ↦ t.0 ]

first_tells : (wait x y : ℕ) → y ≤ x → nat_le wait x ≡ (nat_le wait x || nat_le wait y)
first_tells wait x y l =
    elim (leb_tells wait x) [
      | inl t ↦ rw t.0 refl
      | inr t ↦ rw (t.0, le_no wait y (let k = t.1 in omega (arith, k))) refl
    ]

second_tells : (wait x y : ℕ) → x ≤ y → nat_le wait y ≡ (nat_le wait x || nat_le wait y)
second_tells wait x y l =
    elim (leb_tells wait x) [
      | inl t ↦ rw (t.0, le_to wait y (let k = t.1 in omega (arith, k))) refl
      | inr t ↦ rw t.0 refl
    ]

lesser : (wait latest a b : ℕ) → nat_le wait (latest - (if nat_lt a b then a else b)) ≡ (nat_le wait (latest - a) || nat_le wait (latest - b))
lesser wait latest a b =
    elim (leb_tells (a + 1) b) [
      | inl t ↦ rw (lt_true a b (let l = t.1 in omega (arith, l))) (first_tells wait (latest - a) (latest - b) (let l = t.1 in omega (arith, l)))
      | inr t ↦ rw (lt_false a b (let l = t.1 in omega (arith, l))) (second_tells wait (latest - a) (latest - b) (let l = t.1 in omega (arith, l)))
    ]

or_false : (a : Bool) → (a || false) ≡ a
or_false true = refl
or_false false = refl

least_any : (wait latest tick : ℕ) (ticks : List ℕ)
    → nat_le wait (latest - least_of tick (run_of ticks)) ≡ list_any (λ t. nat_le wait (latest - t)) (tick ∷ ticks)
least_any wait latest tick [] = sym (or_false (nat_le wait (latest - tick)))
least_any wait latest tick (next ∷ ticks) =
    lesser wait latest tick (least_of next (run_of ticks))
    ∙ ap (λ b. nat_le wait (latest - tick) || b) (least_any wait latest next ticks)

pub lasts_by : (wait : ℕ) (ticks : List ℕ) → shows wait (run_of ticks) ≡ lasts wait ticks
lasts_by wait [] = refl
lasts_by wait (latest ∷ ticks) = least_any wait latest latest ticks
