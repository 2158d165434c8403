-- What is kept of a way tells since when it is up, and when it last was for long.
use Rattle.std.proofs.Common.{◌≡◌, ◌⊎◌, ℕ, ◌+◌, ◌-◌, ◌≤◌, ◌<◌, Bool, true, false, Option, Some, None, not, inl, inr, refl, sym, ◌∙◌, ap, arith}
use mathlib.Core.Bool.{beq}
use Rattle.std.proofs.lemmas.Bool.Decides.{leb_tells}
use Rattle.joined_panels.specs.declared.way.Way.{Way}
use Rattle.joined_panels.specs.Latest.{IsLatestTick}
use Rattle.joined_panels.specs.Stretches.{IsUpFor, IsUpThroughout, KnowsWay}

-- a test and its opposite aren't both true
opposed : (a b : Bool) → a ≡ true → a ≡ not b → b ≡ true → ⊥
opposed a true p q r = cc
opposed a false p q r = cc

other_one : (a b : Bool) → not (beq a b) ≡ true → b ≡ not a
other_one true true n = absurd cc
other_one true false n = refl
other_one false true n = refl
other_one false false n = absurd cc

-- what holds of the same ticks has the same latest one
pub same_latest : (P Q : ℕ → Type 0) → ((tick : ℕ) → P tick → Q tick) → ((tick : ℕ) → Q tick → P tick) → (latest : Option ℕ) → IsLatestTick P latest
    → IsLatestTick Q latest
same_latest P Q to from None h = λ tick q. h tick (from tick q)
same_latest P Q to from (Some latest) h = (to latest h.0, λ tick q. h.1 tick (from tick q))

module _ (was_up : ℕ → Bool) (spread known : ℕ) (way : Way) (knows : KnowsWay was_up spread known way) where
  up_since : (first : ℕ) → way.up ≡ true → way.since ≤ first → IsUpThroughout was_up first known
  up_since first up l tick a b = knows.unchanged tick (omega (arith, l, a)) b ∙ up

  since_first : (first : ℕ) → way.up ≡ true → first ≤ known → IsUpThroughout was_up first known → way.since ≤ first
  since_first first up within h =
      elim (leb_tells way.since first) [
        | inl l ↦ l.1
        | inr l ↦ absurd (earlier l.1)
      ]
    where
      earlier : first < way.since → ⊥
      earlier l =
          let past = knows.past in
          let before : way.since - 1 + 1 ≡ way.since = omega (arith, l) in
          opposed (was_up (way.since - 1)) way.up (h (way.since - 1) (omega (arith, l)) (omega (arith, l, past)))
          (knows.changed (way.since - 1) before) up

  pub since_iff : (first : ℕ) → way.up ≡ true → first ≤ known
      → (way.since ≤ first → IsUpThroughout was_up first known) × (IsUpThroughout was_up first known → way.since ≤ first)
  since_iff first up within = (up_since first up, since_first first up within)

  -- no span reaches over the change, nor into ticks in which the way is down
  module _ (now : ℕ) (some : 1 ≤ spread) (late : now ≤ known + 1) where
    closed_by : (tick : ℕ) → way.up ≡ false → IsUpFor was_up spread now tick → way.since < tick + spread → ⊥
    closed_by tick down h l =
        let past = h.past in
        let last = tick + spread - 1 in
        let there = h.through last (omega (arith, some)) (omega (arith, some)) in
        let stands = knows.unchanged last (omega (arith, l)) (omega (arith, past, late, some)) in
        let off : true ≡ false = sym there ∙ stands ∙ down in
        cc

    short_by : (tick : ℕ) → way.up ≡ true → now < way.since + spread → IsUpFor was_up spread now tick → way.since < tick + spread → ⊥
    short_by tick up short h l =
        let past = h.past in
        let begins : tick < way.since = omega (arith, past, short) in
        let there = h.through (way.since - 1) (omega (arith, begins)) (omega (arith, begins, l)) in
        let before : way.since - 1 + 1 ≡ way.since = omega (arith, begins) in
        opposed (was_up (way.since - 1)) way.up there (knows.changed (way.since - 1) before) up

    within : (tick : ℕ) → (way.up ≡ false) ⊎ ((way.up ≡ true) × (now < way.since + spread)) → IsUpFor was_up spread now tick
        → IsUpFor was_up spread way.since tick
    within tick (inl down) h =
        record {
          past = elim (leb_tells (tick + spread) way.since) [ inl l ↦ l.1 | inr l ↦ absurd (closed_by tick down h l.1) ];
          through = h.through;
        }
    within tick (inr short) h =
        record {
          past = elim (leb_tells (tick + spread) way.since) [ inl l ↦ l.1 | inr l ↦ absurd (short_by tick short.0 short.1 h l.1) ];
          through = h.through;
        }

    pub window_stays : known ≤ now → (way.up ≡ false) ⊎ ((way.up ≡ true) × (now < way.since + spread)) → IsLatestTick (IsUpFor was_up spread now) way.window
    window_stays after which =
        same_latest (IsUpFor was_up spread way.since) (IsUpFor was_up spread now)
        (λ tick h. record { past = (let a = h.past in let b = knows.past in omega (arith, a, b, after)); through = h.through })
        (λ tick h. within tick which h) way.window knows.latest

  -- it changes in the tick after those that are known
  pub taken : (up : Bool) (now : ℕ) (window : Option ℕ) → not (beq up way.up) ≡ true → now ≡ known + 1 → was_up now ≡ up
      → IsLatestTick (IsUpFor was_up spread now) window → KnowsWay was_up spread now (record { up = up; since = now; window = window })
  taken up now window other after is latest =
      record {
        past = omega arith;
        unchanged = λ tick a b. (let e : tick ≡ now = omega (arith, a, b) in ap was_up e ∙ is);
        changed = λ before e. (let same : before ≡ known = omega (arith, e, after) in
            ap was_up same ∙ knows.unchanged known knows.past (omega arith) ∙ other_one up way.up other);
        latest = latest;
      }
