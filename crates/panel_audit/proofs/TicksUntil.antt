-- A history up to a tick is that of the ticks up to it.
use Rattle.std.proofs.Common.{◌≡◌, ◌∙◌, ◌≤◌, ◌<◌, ℕ, List, [], ◌∷◌, refl, sym, ap, arith, length, inl, inr}
use Rattle.std.proofs.lemmas.Bool.Decides.{leb_tells}
use Rattle.panel_rules.specs.Moments.{TickBlock, moments, up_to}
use Rattle.run_text.proofs.TickTimes.{up_to_earlier, whole_up_to}
use Rattle.tick_events.specs.Told.{ticks_until}

until_all : (newest : TickBlock) (ticks : List TickBlock) (tick : ℕ) → length (newest ∷ ticks) ≤ tick → ticks_until tick (newest ∷ ticks) ≡ newest ∷ ticks
until_all newest ticks tick few =
    elim (leb_tells (length (newest ∷ ticks)) tick) [
      | inl h ↦ rw h.0 refl
      | inr h ↦ (let more = h.1 in absurd (omega (arith, few, more)))
    ]

until_earlier : (newest : TickBlock) (ticks : List TickBlock) (tick : ℕ) → tick < length (newest ∷ ticks)
    → ticks_until tick (newest ∷ ticks) ≡ ticks_until tick ticks
until_earlier newest ticks tick early =
    elim (leb_tells (length (newest ∷ ticks)) tick) [
      | inl h ↦ (let few = h.1 in absurd (omega (arith, few, early)))
      | inr h ↦ rw h.0 refl
    ]

pub up_to_until : (ticks : List TickBlock) (tick : ℕ) → tick ≤ length ticks → up_to tick (moments ticks) ≡ moments (ticks_until tick ticks)
up_to_until [] tick by = refl
up_to_until (newest ∷ ticks) tick by =
    elim (leb_tells (length (newest ∷ ticks)) tick) [
      | inl h ↦
          (let most = h.1 in
          let same : tick ≡ length (newest ∷ ticks) = omega (arith, most, by) in
          ap (λ n. up_to n (moments (newest ∷ ticks))) same ∙ whole_up_to (newest ∷ ticks) ∙ ap moments (sym (until_all newest ticks tick most)))
      | inr h ↦
          (let early = h.1 in
          up_to_earlier newest ticks tick (omega (arith, early)) ∙ up_to_until ticks tick (omega (arith, early))
          ∙ ap moments (sym (until_earlier newest ticks tick early)))
    ]

-- and so many they are
pub until_counted : (ticks : List TickBlock) (tick : ℕ) → tick ≤ length ticks → length (ticks_until tick ticks) ≡ tick
until_counted [] tick by = omega (arith, by)
until_counted (newest ∷ ticks) tick by =
    elim (leb_tells (length (newest ∷ ticks)) tick) [
      | inl h ↦ (let most = h.1 in ap length (until_all newest ticks tick most) ∙ (let e : length (newest ∷ ticks) ≡ tick = omega (arith, most, by) in e))
      | inr h ↦ (let early = h.1 in ap length (until_earlier newest ticks tick early) ∙ until_counted ticks tick (omega (arith, early)))
    ]

pub until_whole : (ticks : List TickBlock) → ticks_until (length ticks) ticks ≡ ticks
until_whole [] = refl
until_whole (newest ∷ ticks) = until_all newest ticks (length (newest ∷ ticks)) (omega arith)

pub until_none : (ticks : List TickBlock) → ticks_until 0 ticks ≡ []
until_none [] = refl
until_none (newest ∷ ticks) = until_earlier newest ticks 0 (omega arith) ∙ until_none ticks
