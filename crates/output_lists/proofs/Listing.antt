-- A list with a state for some outputs, made bit after bit.
use Rattle.std.proofs.Common.{◌≡◌, ◌+◌, ◌<◌, ◌≤◌, ◌++◌, ℕ, List, [], ◌∷◌, Option, Some, None, length, append-nil, sym, ◌∙◌, ap, arith, subst}
use Rattle.std.proofs.lemmas.Grind.{common_steps}
use Rattle.std.specs.List.{AllByRecursion, cons_option, filter_map, range_with_len}
use Rattle.site_types.specs.Limits.{output_bits}
use Rattle.tick_units.proofs.Listed.{found_more}

module _ {X : Type 0} (place : X → ℕ) (state_of : ℕ → Option X) where
  -- the states are listed that there are at the bits below a number
  pub record ListsOutputs (count : ℕ) (states : List X) : Type 0 where
    pub items : states ≡ filter_map state_of (range_with_len 0 count)
    pub few : length states ≤ count
    pub placed : AllByRecursion (λ state. place state < 32) states

  one_more_placed : (states : List X) (state : X) → AllByRecursion (λ s. place s < 32) states → place state < 32
      → AllByRecursion (λ s. place s < 32) (states ++ state ∷ [])
  one_more_placed [] state all small = (small, tt)
  one_more_placed (s ∷ states) state all small = (all.0, one_more_placed states state all.1 small)

  -- one bit more, with a state there and with none
  pub one_more : (count : ℕ) (states longer : List X) (state : X) → ListsOutputs count states → state_of count ≡ Some state → place state < 32
      → longer ≡ states ++ state ∷ [] → ListsOutputs (count + 1) longer
  one_more count states longer state lists there small is = record {
    items = is ∙ ap (λ xs. xs ++ state ∷ []) lists.items
        ∙ sym (found_more state_of count ∙ ap (λ o. filter_map state_of (range_with_len 0 count) ++ cons_option o []) there);
    few = rw is (grind (arith, common_steps, lists.few));
    placed = rw is (one_more_placed states state lists.placed small);
  }

  pub none_more : (count : ℕ) (states same : List X) → ListsOutputs count states → state_of count ≡ None → same ≡ states
      → ListsOutputs (count + 1) same
  none_more count states same lists none is = record {
    items = is ∙ lists.items ∙ sym
        (found_more state_of count ∙ ap (λ o. filter_map state_of (range_with_len 0 count) ++ cons_option o []) none
        ∙ append-nil (filter_map state_of (range_with_len 0 count)));
    few = rw is (omega (arith, lists.few));
    placed = rw is lists.placed;
  }

  -- the states of all outputs
  pub all_listed : (count : ℕ) (states : List X) → count ≡ 32 → ListsOutputs count states → states ≡ filter_map state_of output_bits
  unfolding output_bits
  all_listed count states end lists = lists.items ∙ ap (λ n. filter_map state_of (range_with_len 0 n)) end
