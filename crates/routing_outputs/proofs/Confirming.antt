-- What a confirmation does to the masks, and what they tell of an output.
use Rattle.std.proofs.Common.{◌≡◌, ◌≢◌, inl, inr, ◌+◌, ◌-◌, ◌<◌, ◌^◌, ◌==◌, ◌&&◌, ℕ, Bool, true, false, List, ◌∷◌, sym, ◌∙◌, ap, arith}
use Rattle.std.specs.List.{filter_map, list_any}
use Rattle.std.proofs.lemmas.Bool.Decides.{eqb_tells}
use Rattle.tick_units.specs.declared.tick.Tick.{Tick}
use Rattle.site_types.specs.declared.site.Site.{Site}
use Rattle.site_types.specs.Bits.{has_bit, mask_of}
use Rattle.site_types.specs.Changes.{IsNumber}
use Rattle.site_types.proofs.Masks.{mask_from_bits, mask_same}
use Rattle.routing_outputs.specs.Confirmations.{Call, Turned, is_watched, with_confirmation, run_of, has_confirmation, ticks_of, spans, state_of}
use Rattle.routing_outputs.specs.WatchedOutputs.{is_late}
use Rattle.routing_outputs.specs.Stands.{watched_at, is_running}
use Rattle.site_types.specs.Limits.{output_bits}
use Rattle.output_lists.proofs.Bits.{bit_is}
use Rattle.tick_units.proofs.Listed.{any_at}
use Rattle.routing_outputs.proofs.Runs.{confirmed_other, confirmed_on, confirmed_off, late_turned, output_place, state_by, state_is}

module _ (site : Site) (panel limit : ℕ) (calls : List Call) where
  -- the tests of the three masks
  abbrev pub on_at : ℕ → Bool
  on_at k = is_watched site panel (k + 1) && is_running (run_of (k + 1) calls)

  abbrev pub confirmed_at : ℕ → Bool
  confirmed_at k = is_watched site panel (k + 1) && has_confirmation (k + 1) (run_of (k + 1) calls)

  abbrev pub late_at : ℕ → Bool
  late_at k = is_watched site panel (k + 1) && spans limit (ticks_of (run_of (k + 1) calls))

  -- the bits of those that are late, by the list of outputs
  pub late_outputs : (now : Tick) (k : ℕ) → k < 32 → (before : List Call) (on : ℕ) → calls ≡ Turned now.0 on ∷ before →
      list_any (λ output. (output.place == k) && is_late now limit output) (filter_map (watched_at site panel calls) output_bits) ≡ late_at k
  unfolding output_bits
  late_outputs now k small before on is =
      any_at (watched_at site panel calls) (λ output. output.place) (is_late now limit) (λ j output e. output_place site panel calls j output e) k 32 small
      ∙ rw is (late_turned site panel limit before now on k)

  module _ (number : ℕ) (known : IsNumber number) where
    place_small : number - 1 < 32
    place_small = omega (arith, known.0, known.1)

    number_is : number - 1 + 1 ≡ number
    number_is = omega (arith, known.0)

    -- the number of another bit
    other_number : (k : ℕ) → k ≢ number - 1 → (number == k + 1) ≡ false
    other_number k apart = elim (eqb_tells number (k + 1)) [
      | inl same ↦ absurd (apart (omega (arith, same.1)))
      | inr other ↦ other.0
    ]

    -- what an output is at, by its bits
    pub state_bits : (on confirmed late : ℕ) → on ≡ mask_of 32 on_at → confirmed ≡ mask_of 32 confirmed_at → late ≡ mask_of 32 late_at →
        state_by (has_bit confirmed (number - 1)) (has_bit late (number - 1)) (has_bit on (number - 1)) ≡ state_of site panel limit number calls
    state_bits on confirmed late on_is confirmed_is late_is =
        ap (λ b. state_by b (has_bit late (number - 1)) (has_bit on (number - 1)))
        (bit_is confirmed confirmed_at confirmed_is (number - 1) place_small)
        ∙ ap (λ b. state_by (confirmed_at (number - 1)) b (has_bit on (number - 1))) (bit_is late late_at late_is (number - 1) place_small)
        ∙ ap (state_by (confirmed_at (number - 1)) (late_at (number - 1))) (bit_is on on_at on_is (number - 1) place_small)
        ∙ ap (λ n. state_by (is_watched site panel n && has_confirmation n (run_of n calls)) (is_watched site panel n
        && spans limit (ticks_of (run_of n calls))) (is_watched site panel n && is_running (run_of n calls))) number_is
        ∙ state_is (is_watched site panel number) limit number (run_of number calls)

    -- the tests after a confirmation of the output
    abbrev pub after_at : ℕ → Bool
    after_at k = is_watched site panel (k + 1) && has_confirmation (k + 1) (with_confirmation number (run_of (k + 1) calls))

    away : (k : ℕ) → k ≢ number - 1 → confirmed_at k ≡ after_at k
    away k apart = ap (λ b. is_watched site panel (k + 1) && b) (sym (confirmed_other (k + 1) number (run_of (k + 1) calls) (other_number k apart)))

    -- the confirmation of an output that is on
    pub confirmed_more : (on old new : ℕ) → on ≡ mask_of 32 on_at → old ≡ mask_of 32 confirmed_at → has_bit on (number - 1) ≡ true
        → has_bit new (number - 1) ≡ true →
        ((k : ℕ) → k < 32 → k ≢ number - 1 → has_bit new k ≡ has_bit old k) → new < 2 ^ 32 → new ≡ mask_of 32 after_at
    confirmed_more on old new on_is old_is set this others below = mask_from_bits 32 new after_at below (λ k small. go k small)
      where
        running : (is_watched site panel number && is_running (run_of number calls)) ≡ true
        running = sym (bit_is on on_at on_is (number - 1) place_small ∙ ap (λ n. is_watched site panel n && is_running (run_of n calls)) number_is) ∙
            set

        here : after_at (number - 1) ≡ true
        here = ap (λ n. is_watched site panel n && has_confirmation n (with_confirmation number (run_of n calls))) number_is
            ∙ confirmed_on (is_watched site panel number) number (run_of number calls) running

        go : (k : ℕ) → k < 32 → has_bit new k ≡ after_at k
        go k small = elim (eqb_tells k (number - 1)) [
          | inl same ↦ ap (has_bit new) same.1 ∙ this ∙ sym (ap after_at same.1 ∙ here)
          | inr other ↦ others k small other.1 ∙ bit_is old confirmed_at old_is k small ∙ away k other.1
        ]

    -- the confirmation of one that isn't
    pub confirmed_still : (on old : ℕ) → on ≡ mask_of 32 on_at → old ≡ mask_of 32 confirmed_at → has_bit on (number - 1) ≡ false
        → old ≡ mask_of 32 after_at
    confirmed_still on old on_is old_is clear = old_is ∙ mask_same 32 confirmed_at after_at (λ k small. go k small)
      where
        stopped : (is_watched site panel number && is_running (run_of number calls)) ≡ false
        stopped = sym (bit_is on on_at on_is (number - 1) place_small ∙ ap (λ n. is_watched site panel n && is_running (run_of n calls)) number_is) ∙
            clear

        here : confirmed_at (number - 1) ≡ after_at (number - 1)
        here =
            ap (λ n. is_watched site panel n && has_confirmation n (run_of n calls)) number_is
            ∙ confirmed_off (is_watched site panel number) number number (run_of number calls) stopped
            ∙ sym (ap (λ n. is_watched site panel n && has_confirmation n (with_confirmation number (run_of n calls))) number_is)

        go : (k : ℕ) → k < 32 → confirmed_at k ≡ after_at k
        go k small = elim (eqb_tells k (number - 1)) [
          | inl same ↦ ap confirmed_at same.1 ∙ here ∙ sym (ap after_at same.1)
          | inr other ↦ away k other.1
        ]
