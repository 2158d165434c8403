-- All that lies in a lane, and the lane when it is taken.
use Rattle.std.proofs.Common.{◌≡◌, ℕ, ◌+◌, ◌≤◌, List, [], length, drop, min, refl, sym, subst, ◌∙◌, ap, arith}
use Rattle.std.proofs.lemmas.List.{drop_all}
use Rattle.std.proofs.lemmas.List.Elements.{All-nil}
use Rattle.tick_units.specs.Lane.{after_turn}
use Rattle.answer_lanes.specs.declared.run.Run.{Run}
use Rattle.answer_lanes.specs.Runs.{AreInLane, HoldsItems}

module _ {S T : Type 0} (item_at : S → ℕ → T) where
  -- nothing lies in a lane of which all was taken
  pub none_in_lane : (runs : List (Run S)) (put capacity room : ℕ) → runs ≡ [] → capacity ≤ room → AreInLane item_at runs put put capacity room
  none_in_lane runs put capacity room none enough =
      subst (λ rs. AreInLane item_at rs put put capacity room) (sym none)
      (record { counts = omega arith; few = omega arith; held = All-nil HoldsItems; enough = enough })

-- a turn that takes all leaves nothing
pub all_taken : {T : Type 0} (items left : List T) (put taken quota capacity : ℕ) → left ≡ [] → put ≡ taken + length items → length items ≤ quota
    → record { items = left; put = put; taken = put; quota = quota; capacity = capacity }
    ≡ after_turn (record { items = items; put = put; taken = taken; quota = quota; capacity = capacity })
all_taken items left put taken quota capacity none counts few =
    let count : min quota (length items) ≡ length items = omega (arith, few) in
    let rest : drop (min quota (length items)) items ≡ left = ap (λ n. drop n items) count ∙ drop_all (length items) items (omega arith) ∙ sym none in
    let all : taken + min quota (length items) ≡ put = omega (arith, few, counts) in
    rw (rest, all) refl
