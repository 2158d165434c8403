-- Items that a turn takes out of a lane, which were looked at where they lay.
use Rattle.std.proofs.Common.{◌≡◌, ℕ, ◌+◌, ◌-◌, ◌<◌, ◌≤◌, List, [], ◌∷◌, ◌++◌, Some, slice_get, length, take, drop, min}
use Rattle.std.proofs.Common.{refl, sym, ◌∙◌, ap, subst, arith, append-nil, length-drop}
use Rattle.std.proofs.lemmas.List.{take-append-drop}
use Rattle.std.proofs.lemmas.Grind.{flat_map-append}
use Rattle.std.proofs.Math.Seq.{take-append-add}
use Rattle.answer_lanes.specs.declared.run.Run.{Run}
use Rattle.answer_lanes.specs.Runs.{AreInLane, all_items, front_of, items_of, rest_of}
use Rattle.answer_lanes.specs.Moves.{AreWhole, MayMove, PassesItems}
use Rattle.answer_lanes.proofs.Moving.{Moving, ends, goes_on, moved_whole, smaller}

module _ {S T : Type 0} (item_at : S → ℕ → T) where
  -- some of the items to take out were taken, and the others are left
  pub record Passing (count : ℕ) (start : List (Run S)) (left : ℕ) (runs : List (Run S)) : Type 0 where
    pub moved : List (Run S)
    pub moving : Moving item_at count start left moved runs

  -- the runs that go whole were taken
  pub passed_whole : (count : ℕ) (runs : List (Run S)) (k n : ℕ) (runs' : List (Run S)) → MayMove item_at count runs → count ≤ 32
      → AreWhole item_at count runs k n → runs' ≡ drop k runs → Passing count runs (count - n) runs'
  passed_whole count runs k n runs' may few whole rest =
      record { moved = take k runs; moving = moved_whole item_at count runs k n [] (take k runs) runs' may few refl whole refl rest }

  -- so many items of the first run were taken
  pub passes_on : (count : ℕ) (start : List (Run S)) (left : ℕ) (runs : List (Run S)) (h : Passing count start left runs) → 0 < left
      → (run : Run S) → slice_get runs 0 ≡ Some run → (taken : ℕ) → taken ≡ min run.count left → (runs' : List (Run S))
      → (run.count ≤ taken → runs' ≡ drop 1 runs) → (taken < run.count → runs' ≡ rest_of taken run ∷ drop 1 runs)
      → Passing count start (left - taken) runs'
  passes_on count start left runs h some run at taken is runs' whole_run parted_run = record {
    moved = h.moved ++ front_of left run ∷ [];
    moving =
        subst (λ n. Moving item_at count start (left - n) (h.moved ++ front_of left run ∷ []) runs') (sym is)
        (goes_on item_at count start left h.moved runs h.moving some run (front_of left run) at refl (h.moved ++ front_of left run ∷ []) refl runs'
        (subst (λ n. run.count ≤ n → runs' ≡ drop 1 runs) is whole_run)
        (subst (λ n. n < run.count → runs' ≡ rest_of n run ∷ drop 1 runs) is parted_run));
  }

  -- and they are not none
  pub takes_some : (count : ℕ) (start : List (Run S)) (left : ℕ) (runs : List (Run S)) (h : Passing count start left runs) → 0 < left
      → (run : Run S) → slice_get runs 0 ≡ Some run → (taken : ℕ) → taken ≡ min run.count left → left - taken < left
  takes_some count start left runs h some run at taken is =
      subst (λ n. left - n < left) (sym is)
      (smaller item_at count start left h.moved runs h.moving some run (front_of left run) at refl (h.moved ++ front_of left run ∷ []) refl)

  pub passed_all : (count : ℕ) (start : List (Run S)) (left : ℕ) (runs : List (Run S)) → Passing count start left runs → left ≡ 0
      → PassesItems item_at count start runs
  passed_all count start left runs h none =
      let moves = ends item_at count start left h.moved runs h.moving none in
      record { behind_them = moves.behind_them; left_held = moves.left_held }

  -- runs at the front that hold as many items as a turn moves hold just those
  pub whole_front : (runs : List (Run S)) (most k n : ℕ) → AreWhole item_at most runs k n → n ≡ most
      → all_items item_at (take k runs) ≡ take most (all_items item_at runs)
  whole_front runs most k n whole all =
      let A = all_items item_at (take k runs) in
      let B = all_items item_at (drop k runs) in
      let hold = whole.hold in
      let parts : all_items item_at runs ≡ A ++ B = ap (all_items item_at) (sym (take-append-drop k runs)) ∙ flat_map-append (items_of item_at) (take k runs) (drop k runs) in
      let size : length A + 0 ≡ most = omega (arith, hold, all) in
      sym (ap (take most) parts ∙ ap (λ m. take m (A ++ B)) (sym size) ∙ take-append-add A B 0 ∙ append-nil A)

-- what a lane keeps of the runs that are left
pub lane_passed : {S T : Type 0} (item_at : S → ℕ → T) (runs left : List (Run S)) (put taken capacity room room' count : ℕ)
    → AreInLane item_at runs put taken capacity room → count ≤ length (all_items item_at runs) → PassesItems item_at count runs left → room' ≡ room
    → AreInLane item_at left put (taken + count) capacity room'
lane_passed item_at runs left put taken capacity room room' count h enough passes same =
    let rest = ap length passes.behind_them ∙ length-drop count (all_items item_at runs) in
    let counts = h.counts in
    let few = h.few in
    record {
      counts = omega (arith, rest, counts, enough);
      few = omega (arith, rest, few);
      held = passes.left_held;
      enough = (let is = h.enough in omega (arith, is, same));
    }
