-- Which loops have a fault, as masks: at the start none, and a report on a piece brings one bit up to date.
use Rattle.std.proofs.Common.{◌≡◌, ◌≢◌, ℕ, ◌+◌, ◌-◌, ◌^◌, ◌<◌, ◌≤◌, ◌==◌, Bool, false, List, ◌∷◌, Option, Some, None, if◌then◌else◌, refl, sym, ◌∙◌, ap, arith, inl, inr}
use Rattle.std.proofs.lemmas.Bool.{cases_eq, cases_lt, eq-eqb, ne_eqb}
use Rattle.site_types.specs.declared.loop_plan.LoopPlan.{LoopPlan}
use Rattle.site_types.specs.declared.piece_state.PieceState.{PieceState}
use Rattle.site_types.specs.declared.site.Site.{Site}
use Rattle.site_types.specs.Bits.{has_bit, mask_of}
use Rattle.site_types.specs.Things.{loop_of}
use Rattle.site_types.proofs.Masks.{has_bit-above, has_bit-mask, mask_below, mask_empty, mask_fits, same_mask}
use Rattle.isolators.specs.declared.line_status.LineStatus.{LineStatus}
use Rattle.isolators.specs.Reach.{Cable, is_open, is_short, sound_cable, with_piece}
use Rattle.loop_poller.specs.Asked.{status_on}
use Rattle.loop_poller.specs.Calls.{Call, Cabled, told_cable}
use Rattle.loop_poller.proofs.Sound.{any_false}

-- a cable on which nothing was reported is whole, and has no short
pub sound_whole : (loop : Option LoopPlan) → (status_on loop sound_cable).broken ≡ false
sound_whole None = refl
sound_whole (Some plan) = any_false (λ piece. is_open (sound_cable piece)) 0 (plan.last + 1) (λ k low high. refl)

pub sound_unshorted : (loop : Option LoopPlan) → (status_on loop sound_cable).shorted ≡ false
sound_unshorted None = refl
sound_unshorted (Some plan) = any_false (λ piece. is_short (sound_cable piece)) 0 (plan.last + 1) (λ k low high. refl)

-- the mask of flags none of which is set
pub no_flags : (test : ℕ → Bool) → ((k : ℕ) → test k ≡ false) → 0 ≡ mask_of 4 test
no_flags test none =
    sym (mask_empty 4 (mask_of 4 test) (mask_below 4 test) (λ k small. has_bit-mask 4 test k small ∙ none k))

-- a mask of four flags, one of whose bits is written
pub flag_set : (mask new bit : ℕ) (before after : ℕ → Bool) → bit < 4 → new < 2 ^ 8 → mask ≡ mask_of 4 before → has_bit new bit ≡ after bit
    → ((k : ℕ) → k < 8 → k ≢ bit → has_bit new k ≡ has_bit mask k) → ((k : ℕ) → k ≢ bit → before k ≡ after k) → new ≡ mask_of 4 after
flag_set mask new bit before after within small was this others same =
    same_mask 8 new (mask_of 4 after) small (mask_fits 8 4 after (omega arith)) at
  where
    at : (k : ℕ) → k < 8 → has_bit new k ≡ has_bit (mask_of 4 after) k
    at k below = elim (cases_eq k bit) [
      | inl here ↦ ap (has_bit new) here ∙ this ∙ ap after (sym here) ∙ sym (has_bit-mask 4 after k (omega (arith, within, here)))
      | inr apart ↦ others k below apart ∙ ap (λ m. has_bit m k) was ∙ (elim (cases_lt k 4) [
        | inl low ↦ has_bit-mask 4 before k low ∙ same k apart ∙ sym (has_bit-mask 4 after k low)
        | inr high ↦ has_bit-above 4 (mask_of 4 before) k (mask_below 4 before) high
            ∙ sym (has_bit-above 4 (mask_of 4 after) k (mask_below 4 after) high)
      ])
    ]

-- one flag of each loop, by what was told
module _ (site : Site) (panel : ℕ) (flag : LineStatus → Bool) where
  abbrev pub flag_told : List Call → ℕ → Bool
  flag_told calls k = flag (status_on (loop_of site panel (k + 1)) (told_cable calls (k + 1)))

  -- after a report on a piece of a loop
  pub flag_after : (calls : List Call) (line piece : ℕ) (state : PieceState) (status : LineStatus) (mask new : ℕ) → 1 ≤ line → line ≤ 4 → new < 2 ^ 8
      → status ≡ status_on (loop_of site panel line) (with_piece (told_cable calls line) piece state)
      → mask ≡ mask_of 4 (flag_told calls) → has_bit new (line - 1) ≡ flag status
      → ((k : ℕ) → k < 8 → k ≢ line - 1 → has_bit new k ≡ has_bit mask k) → new ≡ mask_of 4 (flag_told (Cabled line piece state ∷ calls))
  flag_after calls line piece state status mask new low high small is was this others =
      flag_set mask new (line - 1) (flag_told calls) (flag_told (Cabled line piece state ∷ calls)) (omega (arith, high)) small was (this ∙ here) others apart
    where
      told : ℕ → Bool → Cable
      told loop mine = if mine then with_piece (told_cable calls loop) piece state else told_cable calls loop

      here : flag status ≡ flag_told (Cabled line piece state ∷ calls) (line - 1)
      here =
          let back : line ≡ (line - 1) + 1 = omega (arith, low) in
          ap flag (is ∙ ap (λ b. status_on (loop_of site panel line) (told line b)) (sym (eq-eqb line line refl)))
          ∙ ap (λ l. flag (status_on (loop_of site panel l) (told l (line == l)))) back

      apart : (k : ℕ) → k ≢ line - 1 → flag_told calls k ≡ flag_told (Cabled line piece state ∷ calls) k
      apart k other =
          ap (λ b. flag (status_on (loop_of site panel (k + 1)) (told (k + 1) b))) (sym (ne_eqb line (k + 1) (λ e. other (omega (arith, e)))))
