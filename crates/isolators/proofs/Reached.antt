-- What a line keeps against what the rule says of its loop.
use Rattle.std.proofs.Common.{◌≡◌, ℕ, ◌+◌, ◌-◌, ◌<◌, ◌≤◌, ◌==◌, List, Bool, true, false, not, ◌||◌, ◌&&◌, nat_le, slice_index, slice_index_or, slice_set, length, refl, sym, ◌∙◌, ap, arith, inl, inr}
use Rattle.std.specs.List.{list_any, range_with_len}
use Rattle.std.proofs.Math.Bool.{or-false, or-true}
use Rattle.std.proofs.lemmas.Bool.Decides.{nat_tests}
use Rattle.std.proofs.lemmas.Grind.{common_steps}
use Rattle.std.proofs.lemmas.Bool.{cases_eq}
use native.Mathlib.Decide.{dec_lt}
use Rattle.site_types.specs.declared.loop_plan.LoopPlan.{LoopPlan}
use Rattle.site_types.specs.declared.piece_state.PieceState.{PieceState}
use Rattle.site_types.specs.declared.piece_state.PieceState.TheVariants.{Sound, Open, Short}
use Rattle.isolators.specs.declared.loop_line.LoopLine.{LoopLine}
use Rattle.isolators.specs.Reach.{Cable, with_piece, is_short, is_passed, is_reached, is_reached_from_a, is_reached_from_b, holds_short}
use Rattle.site_types.specs.Sections.{section_of_piece, section_of}
use Rattle.isolators.specs.Stands.{PassAhead, PassBehind, StandsFor}
use Rattle.isolators.proofs.Sections.{section_below}
use Rattle.isolators.proofs.Ranges.{all_true, all_false, any-more}

-- one piece more is tested
module _ (test : ℕ → Bool) (n : ℕ) (before after : Bool) (e : before ≡ list_any test (range_with_len 0 n)) where
  pub found_same : test n ≡ false → after ≡ before → after ≡ list_any test (range_with_len 0 (n + 1))
  found_same none same =
      same ∙ e ∙ sym (any-more test n ∙ ap (λ b. list_any test (range_with_len 0 n) || b) none ∙ or-false (list_any test (range_with_len 0 n)))

  pub found_here : test n ≡ true → after ≡ true → after ≡ list_any test (range_with_len 0 (n + 1))
  found_here here now =
      now ∙ sym (any-more test n ∙ ap (λ b. list_any test (range_with_len 0 n) || b) here ∙ or-true (list_any test (range_with_len 0 n)))

-- the sections that hold a short, one piece more being looked at
module _ (plan : LoopPlan) (cable : Cable) (n place : ℕ) (shorted : List Bool) (known :
    slice_index_or shorted place false ≡ list_any (λ piece. is_short (cable piece) && (section_of_piece plan.isolators piece == place))
    (range_with_len 0 n)) where
  pub short_not : is_short (cable n) ≡ false
      → slice_index_or shorted place false ≡ list_any (λ piece. is_short (cable piece) && (section_of_piece plan.isolators piece == place))
      (range_with_len 0 (n + 1))
  short_not sound =
      found_same (λ piece. is_short (cable piece) && (section_of_piece plan.isolators piece == place)) n (slice_index_or shorted place false)
      (slice_index_or shorted place false) known (ap (λ b. b && (section_of_piece plan.isolators n == place)) sound) refl

  pub short_here : (begins : ℕ) → is_short (cable n) ≡ true → begins ≡ section_of_piece plan.isolators n → place < length shorted
      → slice_index_or (slice_set shorted begins true) place false
      ≡ list_any (λ piece. is_short (cable piece) && (section_of_piece plan.isolators piece == place)) (range_with_len 0 (n + 1))
  short_here begins short e within =
      let found : (is_short (cable n) && (section_of_piece plan.isolators n == place)) ≡ (begins == place) =
      ap (λ b. b && (section_of_piece plan.isolators n == place)) short ∙ ap (λ k. k == place) (sym e) in
      elim (cases_eq begins place) [
        | inl same ↦ (let test : (begins == place) ≡ true = grind (arith, nat_tests) in
            let new : slice_index_or (slice_set shorted begins true) place false ≡ true = grind (arith, common_steps) in
            found_here (λ piece. is_short (cable piece) && (section_of_piece plan.isolators piece == place)) n (slice_index_or shorted place false)
            (slice_index_or (slice_set shorted begins true) place false) known (found ∙ test) new)
        | inr other ↦ (let test : (begins == place) ≡ false = grind (arith, nat_tests) in
            let new : slice_index_or (slice_set shorted begins true) place false ≡ slice_index_or shorted place false = grind (arith, common_steps) in
            found_same (λ piece. is_short (cable piece) && (section_of_piece plan.isolators piece == place)) n (slice_index_or shorted place false)
            (slice_index_or (slice_set shorted begins true) place false) known (found ∙ test) new)
      ]

module _ (plan : LoopPlan) (cable : Cable) (address : ℕ) (within : address ≤ plan.last) where
  pub reached_from_a : (ahead : ℕ) → PassAhead plan cable ahead → is_reached_from_a plan cable address ≡ nat_le address ahead
  reached_from_a ahead pass =
      elim (dec_lt ahead address) [
        | yes behind ↦ all_false (is_passed plan cable) 0 address ahead (omega arith) (omega arith) (pass.ends (omega arith)) ∙ grind
            (arith, nat_tests)
        | no not_behind ↦ all_true (is_passed plan cable) 0 address (λ k low high. pass.passed k (omega arith)) ∙ grind (arith, nat_tests)
      ]

  pub reached_from_b : (behind : ℕ) → PassBehind plan cable behind → is_reached_from_b plan cable address ≡ nat_le behind address
  reached_from_b behind pass =
      elim (dec_lt address behind) [
        | yes ahead ↦
            (let within-2 = pass.within in
            all_false (is_passed plan cable) address (plan.last + 1 - address) (behind - 1) (omega arith) (omega arith) (pass.ends (omega arith)) ∙
            grind (arith, nat_tests))
        | no not_ahead ↦ all_true (is_passed plan cable) address (plan.last + 1 - address) (λ k low high. pass.passed k (omega arith) (omega arith)) ∙
            grind (arith, nat_tests)
      ]

-- what the line answers for an address
pub reach_is : (plan : LoopPlan) (cable : Cable) (line : LoopLine) (address : ℕ) → StandsFor plan cable line → 1 ≤ address → address ≤ plan.last
    → address < 257
    → (not (slice_index_or line.shorted (slice_index line.begins (address - 1)) false) && (nat_le address line.ahead || nat_le line.behind address))
    ≡ is_reached plan cable address
reach_is plan cable line address stands first last small =
    let here : (address - 1) + 1 ≡ address = omega arith in
    let begins : slice_index line.begins (address - 1) ≡ section_of plan.isolators address =
    stands.cables.begins (address - 1) (omega arith) ∙ ap (section_of plan.isolators) here in
    let low : section_of plan.isolators address ≤ address - 1 = rw here at (section_below plan.isolators (address - 1)) in
    let short : slice_index_or line.shorted (slice_index line.begins (address - 1)) false ≡ holds_short plan cable (section_of plan.isolators address)
    =
    ap (λ place. slice_index_or line.shorted place false) begins ∙ stands.shorts (section_of plan.isolators address) (omega arith) in
    let from_a = reached_from_a plan cable address last line.ahead stands.ahead in
    let from_b = reached_from_b plan cable address last line.behind stands.behind in
    rw (short, ← from_a, ← from_b) refl

pub by_ahead : (short ahead behind reached : Bool) → (not short && (ahead || behind)) ≡ reached → short ≡ false → ahead ≡ true → ahead ≡ reached
by_ahead short ahead behind reached e p q = let f : (not false && (true || behind)) ≡ reached = rw (p, q) at e in q ∙ f

pub by_behind : (short ahead behind reached : Bool) → (not short && (ahead || behind)) ≡ reached → short ≡ false → ahead ≡ false → behind ≡ reached
by_behind short ahead behind reached e p q = let f : (not false && (false || behind)) ≡ reached = rw (p, q) at e in f

pub not_short : (state : PieceState) → (state ≡ Short → ⊥) → is_short state ≡ false
not_short Sound other = refl
not_short Open other = refl
not_short Short other = absurd (other refl)

-- the pieces after a report
pub told_piece : (pieces : List PieceState) (cable : Cable) (piece k : ℕ) (state : PieceState) → length pieces ≡ 256 → k < 256
    → slice_index_or pieces k Sound ≡ cable k → slice_index_or (slice_set pieces piece state) k Sound ≡ with_piece cable piece state k
told_piece pieces cable piece k state size small known =
    elim (cases_eq k piece) [
      | inl same ↦ (let test : (k == piece) ≡ true = grind (arith, nat_tests) in
          let new : slice_index_or (slice_set pieces piece state) k Sound ≡ state = grind (arith, common_steps) in
          rw test new)
      | inr other ↦ (let test : (k == piece) ≡ false = grind (arith, nat_tests) in
          let new : slice_index_or (slice_set pieces piece state) k Sound ≡ slice_index_or pieces k Sound = grind (arith, common_steps) in
          rw test (new ∙ known))
    ]
