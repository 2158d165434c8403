-- Items of runs that are put into a list, each by itself.
use Rattle.std.proofs.Common.{◌≡◌, ℕ, ◌+◌, ◌-◌, ◌<◌, ◌≤◌, List, [], ◌∷◌, ◌++◌, length, map, take, get_or, sym, ◌∙◌, ap, arith, append_assoc, length-append}
use Rattle.std.proofs.lemmas.List.{map-append, take_more}
use Rattle.std.proofs.lemmas.List.Folds.{length-flat_map-take}
use Rattle.std.proofs.lemmas.List.FromFn.{length-map-range_with_len}
use Rattle.std.specs.List.{range_with_len}
use Rattle.answer_lanes.specs.declared.run.Run.{Run}
use Rattle.answer_lanes.specs.Runs.{all_items, items_of}
use Rattle.answer_lanes.proofs.Moving.{items_more, length_run, range_parts}

module _ {S T : Type 0} (item_at : S → ℕ → T) (first : S) (from place : ℕ) (past : from ≤ place) (before so_far : List T)
    (put : so_far ≡ before ++ map (item_at first) (range_with_len from (place - from))) where
  -- how many items there are when those before a place were put
  pub put_so_far : length so_far ≡ length before + (place - from)
  put_so_far = ap length put ∙ length-append before _
      ∙ ap (λ n. length before + n) (length-map-range_with_len (item_at first) from (place - from))

  -- the item at the place is put behind them
  pub put_next : (after : List T) → after ≡ so_far ++ item_at first place ∷ []
      → after ≡ before ++ map (item_at first) (range_with_len from (place + 1 - from))
  put_next after e =
      let item = item_at first in
      let n = place - from in
      let sum : place + 1 - from ≡ n + 1 = omega (arith, past) in
      let at : from + n ≡ place = omega (arith, past) in
      let more : map item (range_with_len from (place + 1 - from)) ≡ map item (range_with_len from n) ++ item place ∷ [] =
      ap (λ k. map item (range_with_len from k)) sum ∙ ap (map item) (range_parts from n 1)
      ∙ map-append item (range_with_len from n) (range_with_len (from + n) 1)
      ∙ ap (λ p. map item (range_with_len from n) ++ item p ∷ []) at in
      e ∙ ap (λ xs. xs ++ item place ∷ []) put ∙ append_assoc before (map item (range_with_len from n)) (item place ∷ [])
      ∙ ap (λ xs. before ++ xs) (sym more)

-- the runs before a place of a list of runs, and the one at it
module _ {S T : Type 0} (item_at : S → ℕ → T) (runs : List (Run S)) (k : ℕ) (run : Run S) (small : k < length runs) (is : run ≡ get_or runs k run) where
  -- their items are those of the runs before the next place
  pub one_run_more : all_items item_at (take (k + 1) runs) ≡ all_items item_at (take k runs) ++ items_of item_at run
  one_run_more =
      ap (all_items item_at) (take_more runs k run small) ∙ items_more item_at (take k runs) (get_or runs k run)
      ∙ ap (λ r. all_items item_at (take k runs) ++ items_of item_at r) (sym is)

  -- they are no more than all
  pub no_more_than_all : length (all_items item_at (take k runs)) + run.count ≤ length (all_items item_at runs)
  no_more_than_all =
      let all = length-flat_map-take (items_of item_at) runs k run small in
      let here = ap (λ r. length (items_of item_at r)) (sym is) ∙ length_run item_at run in
      omega (arith, all, here)
