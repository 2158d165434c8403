-- The latest override before a tick tells of all before it.
use Rattle.std.proofs.Common.{◌≡◌, ◌<◌, ◌&&◌, ◌||◌, ℕ, Bool, true, false, List, [], ◌∷◌, Some, if◌then◌else◌, nat_le, nat_lt, refl, sym, ◌∙◌, arith}
use Rattle.std.proofs.lemmas.Bool.Decides.{nat_tests}
use Rattle.tick_units.specs.Earliest.{IsFalling}
use Rattle.output_delays.specs.Overrides.{AllUpTo, is_any_in, last_before}
use Rattle.output_delays.specs.Timers.{is_since}

not_up_to : (a b : ℕ) → b < a → nat_le a b ≡ false
not_up_to a b h = grind (arith, nat_tests)

none_in : (first now tick : ℕ) (ticks : List ℕ) → tick < first → AllUpTo tick ticks → is_any_in first now ticks ≡ false
none_in first now tick [] below up = refl
none_in first now tick (t ∷ ticks) below up = rw (not_up_to first t (omega (arith, below, up.0))) (none_in first now tick ticks below up.1)

-- an override was done meanwhile exactly where the latest one was
pub any_is : (first now : ℕ) (ticks : List ℕ) → IsFalling ticks → is_any_in first now ticks ≡ is_since first (last_before now ticks)
any_is first now [] falls = refl
any_is first now (t ∷ ticks) falls = go (nat_lt t now) (nat_le first t) refl (any_is first now ticks falls.1)
  where
    go : (b a : Bool) → nat_le first t ≡ a → is_any_in first now ticks ≡ is_since first (last_before now ticks) →
        ((a && b) || is_any_in first now ticks) ≡ is_since first (if b then Some (record { 0 = t }) else last_before now ticks)
    go true true e rest = sym e
    go true false e rest = none_in first now t ticks (above e) falls.0 ∙ sym e
      where
        above : nat_le first t ≡ false → t < first
        above f = grind (arith, nat_tests)
    go false true e rest = rest
    go false false e rest = rest
