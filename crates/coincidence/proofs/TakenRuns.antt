-- Runs of answers are taken one behind the other.
use Rattle.std.proofs.Common.{◌≡◌, ℕ, ◌-◌, ◌<◌, ◌≤◌, List, [], ◌∷◌, ◌++◌, append-nil, append_assoc, ap, arith, drop, get_or, length, length-append, refl, subst, sym, take, ◌∙◌}
use Rattle.std.proofs.lemmas.List.{take_rest}
use Rattle.std.proofs.lemmas.Grind.{flat_map-append}
use Rattle.std.proofs.lemmas.List.Elements.{All-head, All-tail}
use Rattle.std.specs.List.{All}
use Rattle.tick_units.specs.Lane.{LaneState}
use Rattle.answer_lanes.specs.declared.run.Run.{Run}
use Rattle.answer_lanes.specs.Runs.{HoldsItems, all_items, items_of}
use Rattle.answer_lanes.proofs.Moving.{length_run}
use Rattle.coincidence_rules.specs.declared.finding.Finding.{Finding}
use Rattle.site_types.specs.declared.answer.Answer.{Answer}
use Rattle.coincidence.specs.declared.decide.Decide.{Decide}
use Rattle.coincidence.specs.Changes.{CanTakeRunOf, CanTakeRuns, PutsFindings, TakesAnswers, TakesRunOf, TakesFirstRuns}
use Rattle.coincidence.specs.Stands.{CanTake}
use Rattle.coincidence.proofs.Turned.{can_behind, can_front, puts_both, puts_none, room_behind, takes_both, takes_none}

-- where the answer at a place of what stands in a run is this
module _ {S : Type 0} (item_at : S → ℕ → Answer) where
  holds_behind : (front left : List (Run S)) → All HoldsItems (front ++ left) → All HoldsItems left
  holds_behind [] left held = held
  holds_behind (run ∷ runs) left held = holds_behind runs left (All-tail HoldsItems run (runs ++ left) held)

  items_both : (front left : List (Run S)) → all_items item_at (front ++ left) ≡ all_items item_at front ++ all_items item_at left
  items_both front left = flat_map-append (items_of item_at) front left

  -- none is taken, and the first of those that are left
  pub none_first : (decide : Decide) (runs : List (Run S)) (lane : LaneState Finding) → TakesFirstRuns item_at decide runs runs lane decide lane
  none_first decide runs lane = record { front = []; parts = refl; taken = takes_none decide; put = puts_none decide lane }

  can_first : (decide : Decide) (run : Run S) (rest : List (Run S)) (lane : LaneState Finding) → CanTakeRuns item_at decide (run ∷ rest) lane
      → CanTakeRunOf item_at decide run lane
  can_first decide run rest lane can =
      let count = length_run item_at run in
      let sum = length-append (items_of item_at run) (all_items item_at rest) in
      let items = can.room.0 in
      let ever = can.room.1 in
      record {
        short = (All-head HoldsItems run rest can.held).is;
        room = (omega (arith, count, sum, items), omega (arith, count, sum, ever));
        may = can_front decide (items_of item_at run) (all_items item_at rest) can.may;
      }

  module _ {old now : Decide} {runs left : List (Run S)} {lane put : LaneState Finding} (first : TakesFirstRuns item_at old runs left lane now put) where
    items : all_items item_at runs ≡ all_items item_at first.front ++ all_items item_at left
    items = ap (all_items item_at) first.parts ∙ items_both first.front left

    pub can_left : CanTakeRuns item_at old runs lane → CanTakeRuns item_at now left put
    can_left can =
        let front = all_items item_at first.front in
        let behind = all_items item_at left in
        let may = subst (CanTake old) items can.may in
        let sum = ap length items ∙ length-append front behind in
        record {
          held = holds_behind first.front left (subst (All HoldsItems) first.parts can.held);
          room = room_behind old front lane put (length (all_items item_at runs)) (length behind) (can_front old front behind may) first.put can.room
              (omega (arith, sum));
          may = can_behind old now front behind first.taken may;
        }

    -- further ones are taken behind them
    pub more_first : (next : Decide) (rest : List (Run S)) (after : LaneState Finding) → TakesFirstRuns item_at now left rest put next after
        → TakesFirstRuns item_at old runs rest lane next after
    more_first next rest after more =
        let front = all_items item_at first.front in
        let further = all_items item_at more.front in
        let both = sym (items_both first.front more.front) in
        record {
          front = first.front ++ more.front;
          parts = first.parts ∙ ap (λ rs. first.front ++ rs) more.parts ∙ sym (append_assoc first.front more.front rest);
          taken = subst (λ xs. TakesAnswers old xs next) both (takes_both old now next front further first.taken more.taken);
          put = subst (λ xs. PutsFindings old xs lane after) both (puts_both old now front further lane put after first.taken first.put more.put);
        }

    whole : left ≡ [] → all_items item_at first.front ≡ all_items item_at runs
    whole none = ap (all_items item_at) (sym (first.parts ∙ ap (λ rs. first.front ++ rs) none ∙ append-nil first.front))

    -- where none is left all are taken
    pub all_first : left ≡ [] → TakesAnswers old (all_items item_at runs) now
    all_first none = subst (λ xs. TakesAnswers old xs now) (whole none) first.taken

    pub all_found : left ≡ [] → PutsFindings old (all_items item_at runs) lane put
    all_found none = subst (λ xs. PutsFindings old xs lane put) (whole none) first.put

  -- a run is taken by itself
  one_first : (old : Decide) (run : Run S) (rest : List (Run S)) (lane : LaneState Finding) (now : Decide) (put : LaneState Finding)
      → TakesRunOf item_at old run lane now put → TakesFirstRuns item_at old (run ∷ rest) rest lane now put
  one_first old run rest lane now put one =
      let same = sym (append-nil (items_of item_at run)) in
      record {
        front = run ∷ [];
        parts = refl;
        taken = subst (λ xs. TakesAnswers old xs now) same one.taken;
        put = subst (λ xs. PutsFindings old xs lane put) same one.put;
      }

  first_rest : (runs : List (Run S)) (d : Run S) → 1 ≤ length runs → runs ≡ get_or runs 0 d ∷ drop 1 runs
  first_rest [] d some = absurd (omega (arith, some))
  first_rest (run ∷ runs) d some = refl

  pub none_left : (runs : List (Run S)) → length runs < 1 → runs ≡ []
  none_left [] few = refl
  none_left (run ∷ runs) few = absurd (omega (arith, few))

  -- the first one of some runs, and those behind it, as they are read
  module _ (runs : List (Run S)) (d : Run S) (some : 1 ≤ length runs) where
    abbrev run : Run S
    run = get_or runs 0 d

    abbrev rest : List (Run S)
    rest = take (length runs - 1) (drop 1 runs)

    read : runs ≡ run ∷ rest
    read = first_rest runs d some ∙ ap (λ rs. run ∷ rs) (sym (take_rest runs 1))

    pub can_read : (decide : Decide) (lane : LaneState Finding) → CanTakeRuns item_at decide runs lane → CanTakeRunOf item_at decide run lane
    can_read decide lane can = can_first decide run rest lane (subst (λ rs. CanTakeRuns item_at decide rs lane) read can)

    pub read_first : (old : Decide) (lane : LaneState Finding) (now : Decide) (put : LaneState Finding) → TakesRunOf item_at old run lane now put
        → TakesFirstRuns item_at old runs rest lane now put
    read_first old lane now put one = subst (λ rs. TakesFirstRuns item_at old rs rest lane now put) (sym read) (one_first old run rest lane now put one)
