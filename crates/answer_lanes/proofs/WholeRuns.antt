-- The runs at the front of a lane that are moved whole.
use Rattle.std.proofs.Common.{◌≡◌, ℕ, ◌+◌, ◌-◌, ◌<◌, ◌≤◌, List, All, length, take, get_or, refl, sym, subst, ◌∙◌, ap, arith, length-append}
use Rattle.std.proofs.lemmas.List.Elements.{All-take}
use Rattle.answer_lanes.specs.declared.run.Run.{Run}
use Rattle.answer_lanes.specs.Runs.{HoldsItems, all_items, items_of}
use Rattle.answer_lanes.specs.Moves.{AreWhole}
use Rattle.answer_lanes.proofs.Expanded.{one_run_more}
use Rattle.answer_lanes.proofs.Moving.{few_runs, length_run}

module _ {S T : Type 0} (item_at : S → ℕ → T) (most : ℕ) where
  -- one run more goes whole
  pub one_whole_more : (runs : List (Run S)) (index k n : ℕ) (run : Run S) → index < length runs → run ≡ get_or runs index run → k ≡ index
      → AreWhole item_at most runs k n → run.count ≤ most - n → AreWhole item_at most runs (k + 1) (n + run.count)
  one_whole_more runs index k n run small is at whole fits =
      let hold = whole.hold in
      let few = whole.few in
      let before = ap (λ k. length (all_items item_at (take k runs))) at in
      let more = ap length (one_run_more item_at runs index run small is) ∙ length-append (all_items item_at (take index runs)) (items_of item_at run) in
      let here = length_run item_at run in
      subst (λ k. AreWhole item_at most runs (k + 1) (n + run.count)) (sym at)
      (record { within = omega (arith, small); hold = omega (arith, hold, before, more, here); few = omega (arith, few, fits) })

  -- there are no more of them than may be moved
  pub few_whole : (runs : List (Run S)) (k n : ℕ) → AreWhole item_at most runs k n → All HoldsItems runs → length (take k runs) ≤ most
  few_whole runs k n whole held =
      let most_runs = few_runs item_at (take k runs) (All-take HoldsItems k runs held) in
      let few = whole.few in
      let hold = whole.hold in
      omega (arith, most_runs, few, hold)

  -- the first run by itself, where it holds as many as may be moved
  pub first_whole : (runs : List (Run S)) (run : Run S) → 1 ≤ length runs → run ≡ get_or runs 0 run → run.count ≡ most
      → AreWhole item_at most runs 1 most
  first_whole runs run some is full =
      let none : AreWhole item_at most runs 0 0 = record { within = omega arith; hold = refl; few = omega arith } in
      let one = one_whole_more runs 0 0 0 run (omega (arith, some)) is refl none (omega (arith, full)) in
      let hold = one.hold in
      record { within = one.within; hold = omega (arith, hold, full); few = omega arith }
