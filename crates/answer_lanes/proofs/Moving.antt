-- A loop that moves items out of a lane, run by run.
use Rattle.std.proofs.Common.{◌≡◌, ℕ, zero, suc, ◌+◌, ◌-◌, ◌<◌, ◌≤◌, List, [], ◌∷◌, ◌++◌, All, None, Some, slice_get}
use Rattle.std.proofs.Common.{length, map, take, drop, min, refl, sym, ◌∙◌, ap, subst, arith, append_assoc, append-nil, length-append, length-drop, inl, inr}
use Rattle.std.proofs.lemmas.List.{map-append, take-append-drop}
use Rattle.std.proofs.lemmas.Bool.Decides.{leb_tells}
use Rattle.std.proofs.lemmas.List.Concat.{flat_map-cons}
use Rattle.std.proofs.lemmas.List.Elements.{All-append, All-cons, All-drop, All-head, All-nil, All-push, All-tail, All-take}
use Rattle.std.proofs.lemmas.List.FromFn.{length-map-range_with_len}
use Rattle.std.proofs.lemmas.Grind.{flat_map-append}
use Rattle.std.proofs.Math.Seq.{take-append-add, drop-append-add}
use Rattle.std.specs.List.{range_with_len}
use Rattle.std.specs.Result.{IsOk, OnOk}
use Rattle.std.specs.Prelude.{Result, Ok, Err}
use Rattle.tick_units.specs.Lane.{HasRoom, LaneState, with_put}
use Rattle.answer_lanes.specs.declared.run.Run.{Run}
use Rattle.answer_lanes.specs.Runs.{AreInLane, HoldsItems, HasShortCount, all_items, front_of, items_of, rest_of}
use Rattle.answer_lanes.specs.Moves.{AreWhole, MayMove, MovesItems}

pub range_parts : (a m n : ℕ) → range_with_len a (m + n) ≡ range_with_len a m ++ range_with_len (a + m) n
range_parts a zero n =
    let first : 0 + n ≡ n = omega arith in
    let at : a + 0 ≡ a = omega arith in
    rw (first, at) refl
range_parts a (suc m) n =
    let count : suc m + n ≡ suc (m + n) = omega arith in
    let at : a + suc m ≡ (a + 1) + m = omega arith in
    rw (count, at) (ap (λ xs. a ∷ xs) (range_parts (a + 1) m n))

module _ {S T : Type 0} (item_at : S → ℕ → T) where
  pub length_run : (run : Run S) → length (items_of item_at run) ≡ run.count
  length_run run = length-map-range_with_len (item_at run.first) run.taken run.count

  -- a run is its first items and what is left of it behind them
  pub run_parts : (run : Run S) (most : ℕ)
      → items_of item_at run ≡ items_of item_at (front_of most run) ++ items_of item_at (rest_of (min run.count most) run)
  run_parts run most =
      let m = min run.count most in
      let item = item_at run.first in
      let sum : run.count ≡ m + (run.count - m) = omega arith in
      ap (λ n. map item (range_with_len run.taken n)) sum ∙ ap (map item) (range_parts run.taken m (run.count - m))
      ∙ map-append item (range_with_len run.taken m) (range_with_len (run.taken + m) (run.count - m))

  pub items_more : (runs : List (Run S)) (run : Run S) → all_items item_at (runs ++ run ∷ []) ≡ all_items item_at runs ++ items_of item_at run
  items_more runs run =
      flat_map-append (items_of item_at) runs (run ∷ [])
      ∙ ap (λ xs. all_items item_at runs ++ xs) (flat_map-cons (items_of item_at) run [] ∙ append-nil (items_of item_at run))

  -- there are no more runs than items
  pub few_runs : (runs : List (Run S)) → All HoldsItems runs → length runs ≤ length (all_items item_at runs)
  few_runs [] held = omega arith
  few_runs (run ∷ runs) held =
      let one = (All-head HoldsItems run runs held).some in
      let more = few_runs runs (All-tail HoldsItems run runs held) in
      let e = ap length (flat_map-cons (items_of item_at) run runs) in
      let sum = length-append (items_of item_at run) (all_items item_at runs) in
      let here = length_run run in
      omega (arith, one, more, e, sum, here)

  -- some of the items to move were moved, and the others are left
  pub record Moving (count : ℕ) (start : List (Run S)) (left : ℕ) (into runs : List (Run S)) : Type 0 where
    pub moved : all_items item_at into ++ take left (all_items item_at runs) ≡ take count (all_items item_at start)
    pub rest : drop left (all_items item_at runs) ≡ drop count (all_items item_at start)
    pub enough : left ≤ length (all_items item_at runs)
    pub into_held : All HoldsItems into
    pub held : All HoldsItems runs
    pub few : length into + left ≤ 32

  pub begins : (count : ℕ) (runs into : List (Run S)) → MayMove item_at count runs → count ≤ 32 → into ≡ []
      → Moving count runs count into runs
  begins count runs into may few none = subst (λ xs. Moving count runs count xs runs) (sym none) (record {
    moved = refl;
    rest = refl;
    enough = may.enough;
    into_held = All-nil HoldsItems;
    held = may.held;
    few = omega (arith, few);
  })

  pub ends : (count : ℕ) (start : List (Run S)) (left : ℕ) (into runs : List (Run S))
      → Moving count start left into runs → left ≡ 0 → MovesItems item_at count start into runs
  ends count start left into runs h none =
      record {
        first = sym (append-nil (all_items item_at into)) ∙ subst (λ n. all_items item_at into ++ take n (all_items item_at runs) ≡ take count (all_items item_at start)) none h.moved;
        behind_them = subst (λ n. drop n (all_items item_at runs) ≡ drop count (all_items item_at start)) none h.rest;
        held = h.into_held;
        left_held = h.held;
      }

  -- runs are moved next, and behind them others are left
  step : (count : ℕ) (start : List (Run S)) (left : ℕ) (into runs : List (Run S)) → Moving count start left into runs
      → (moved rest : List (Run S)) (n : ℕ) → n ≡ length (all_items item_at moved) → n ≤ left
      → all_items item_at runs ≡ all_items item_at moved ++ all_items item_at rest → All HoldsItems moved → All HoldsItems rest
      → Moving count start (left - n) (into ++ moved) rest
  step count start left into runs h moved rest n size fits parts moved_held held =
      let F = all_items item_at moved in
      let A = all_items item_at rest in
      let I = all_items item_at into in
      let sum : length F + (left - n) ≡ left = omega (arith, size, fits) in
      let joined : all_items item_at (into ++ moved) ≡ I ++ F = flat_map-append (items_of item_at) into moved in
      let taken : F ++ take (left - n) A ≡ take left (all_items item_at runs) =
      sym (take-append-add F A (left - n)) ∙ ap (λ k. take k (F ++ A)) sum ∙ ap (take left) (sym parts) in
      let dropped : drop (left - n) A ≡ drop left (all_items item_at runs) =
      sym (drop-append-add F A (left - n)) ∙ ap (λ k. drop k (F ++ A)) sum ∙ ap (drop left) (sym parts) in
      let all : length (all_items item_at runs) ≡ length F + length A = ap length parts ∙ length-append F A in
      let enough = h.enough in
      let few = h.few in
      let most = few_runs moved moved_held in
      let more = length-append into moved in
      record {
        moved = ap (λ xs. xs ++ take (left - n) A) joined ∙ append_assoc I F (take (left - n) A) ∙ ap (λ xs. I ++ xs) taken ∙ h.moved;
        rest = dropped ∙ h.rest;
        enough = omega (arith, enough, all, size);
        into_held = All-append HoldsItems into moved h.into_held moved_held;
        held = held;
        few = omega (arith, few, more, most, size, fits);
      }

  -- the first runs are moved whole
  pub moves_whole : (count : ℕ) (start : List (Run S)) (left : ℕ) (into runs : List (Run S)) → Moving count start left into runs
      → (k n : ℕ) → AreWhole item_at left runs k n → Moving count start (left - n) (into ++ take k runs) (drop k runs)
  moves_whole count start left into runs h k n whole =
      let parts = ap (all_items item_at) (sym (take-append-drop k runs)) ∙ flat_map-append (items_of item_at) (take k runs) (drop k runs) in
      step count start left into runs h (take k runs) (drop k runs) n whole.hold whole.few parts
      (All-take HoldsItems k runs h.held) (All-drop HoldsItems k runs h.held)

  -- the first items of the first run are moved next
  module _ (count : ℕ) (start : List (Run S)) (left : ℕ) (into : List (Run S)) (run : Run S) (tail : List (Run S))
      (h : Moving count start left into (run ∷ tail)) (some : 0 < left) where
    abbrev pub m : ℕ
    m = min run.count left

    abbrev pub front : Run S
    front = front_of left run

    first : HoldsItems run
    first = All-head HoldsItems run tail h.held

    one_run : all_items item_at (front ∷ []) ≡ items_of item_at front
    one_run = flat_map-cons (items_of item_at) front [] ∙ append-nil (items_of item_at front)

    front_moves : (rest : List (Run S)) → all_items item_at (run ∷ tail) ≡ items_of item_at front ++ all_items item_at rest
        → All HoldsItems rest → Moving count start (left - m) (into ++ front ∷ []) rest
    front_moves rest parts held =
        let one = first.some in
        let is = first.is in
        let size : m ≡ length (all_items item_at (front ∷ [])) = sym (ap length one_run ∙ length_run front) in
        step count start left into (run ∷ tail) h (front ∷ []) rest m size (omega arith)
        (parts ∙ ap (λ xs. xs ++ all_items item_at rest) (sym one_run))
        (All-cons HoldsItems front [] (record { some = omega (arith, one, some); is = omega (arith, is) }) (All-nil HoldsItems)) held

    pub whole : m ≡ run.count → Moving count start (left - m) (into ++ front ∷ []) tail
    whole all =
        let none : items_of item_at (rest_of m run) ≡ [] =
        ap (λ n. map (item_at run.first) (range_with_len (run.taken + m) n)) (let z : run.count - m ≡ 0 = omega (arith, all) in z) in
        let parts = flat_map-cons (items_of item_at) run tail
        ∙ ap (λ xs. xs ++ all_items item_at tail) (run_parts run left ∙ ap (λ xs. items_of item_at front ++ xs) none ∙ append-nil (items_of item_at front)) in
        front_moves tail parts (All-tail HoldsItems run tail h.held)

    pub parted : m < run.count → Moving count start (left - m) (into ++ front ∷ []) (rest_of m run ∷ tail)
    parted less =
        let parts = flat_map-cons (items_of item_at) run tail
        ∙ ap (λ xs. xs ++ all_items item_at tail) (run_parts run left)
        ∙ append_assoc (items_of item_at front) (items_of item_at (rest_of m run)) (all_items item_at tail)
        ∙ ap (λ xs. items_of item_at front ++ xs) (sym (flat_map-cons (items_of item_at) (rest_of m run) tail)) in
        let is = first.is in
        front_moves (rest_of m run ∷ tail) parts
        (All-cons HoldsItems (rest_of m run) tail (record { some = omega (arith, less); is = omega (arith, is, less) }) (All-tail HoldsItems run tail h.held))

-- what a lane keeps of its runs after one more was put
pub put_more : {S T : Type 0} (item_at : S → ℕ → T) (runs : List (Run S)) (run : Run S) (put taken capacity room room' : ℕ)
    → AreInLane item_at runs put taken capacity room → 1 ≤ run.count → HasShortCount run → length (all_items item_at runs) + run.count ≤ capacity
    → room ≤ room' → AreInLane item_at (runs ++ run ∷ []) (put + run.count) taken capacity room'
put_more item_at runs run put taken capacity room room' h some is fits more_room =
    let more = ap length (items_more item_at runs run) ∙ length-append (all_items item_at runs) (items_of item_at run) in
    let here = length_run item_at run in
    let counts = h.counts in
    record {
      counts = omega (arith, more, here, counts);
      few = omega (arith, more, here, fits);
      held = All-push HoldsItems runs run h.held (record { some = some; is = is });
      enough = (let enough = h.enough in omega (arith, enough, more_room));
    }

-- there is room for one run more
pub has_room : {S T : Type 0} (item_at : S → ℕ → T) (runs : List (Run S)) (put taken capacity room count : ℕ)
    → AreInLane item_at runs put taken capacity room → 1 ≤ count → length (all_items item_at runs) + count ≤ capacity → length runs < room
has_room item_at runs put taken capacity room count h some fits =
    let few = few_runs item_at runs h.held in
    let enough = h.enough in
    omega (arith, few, enough, some, fits)

-- what lies in a lane that has room for so many items more, and these, are no more than it may hold
pub fits_in : {T : Type 0} (items : List T) (put taken quota capacity count : ℕ) (lane : LaneState T)
    → record { items = items; put = put; taken = taken; quota = quota; capacity = capacity } ≡ lane → HasRoom lane count
    → length items + count ≤ capacity
fits_in items put taken quota capacity count lane is room =
    let lies = ap (λ (l : LaneState _). length l.items) is in
    let holds = ap (λ (l : LaneState _). l.capacity) is in
    let few = room.0 in
    omega (arith, few, lies, holds)

-- a call that answers with a value leaves what it says of one
pub with_value : {X E P : Type 0} (result : Result X E) → IsOk result → OnOk result P → P
with_value (Ok x) ok p = p
with_value (Err e) ok p = absurd (cc)

-- a run of nothing puts nothing
pub none_put : {S T : Type 0} (item_at : S → ℕ → T) (lane : LaneState T) (run : Run S) → run.count ≤ 0 → lane ≡ with_put lane (items_of item_at run)
none_put item_at lane run none =
    let zero_count : run.count ≡ 0 = omega (arith, none) in
    let no_items : items_of item_at run ≡ [] = ap (λ n. map (item_at run.first) (range_with_len run.taken n)) zero_count in
    let sum : lane.put ≡ lane.put + 0 = omega arith in
    let same : lane ≡ with_put lane [] =
    ap (λ xs. record { items = xs; put = lane.put; taken = lane.taken; quota = lane.quota; capacity = lane.capacity }) (sym (append-nil lane.items))
    ∙ ap (λ n. record { items = lane.items ++ []; put = n; taken = lane.taken; quota = lane.quota; capacity = lane.capacity }) sum in
    same ∙ ap (with_put lane) (sym no_items)

-- one run more is put
pub run_put : {S T : Type 0} (item_at : S → ℕ → T) (runs more : List (Run S)) (run : Run S) (put taken quota capacity : ℕ) → more ≡ runs ++ run ∷ []
    → record { items = all_items item_at more; put = put + run.count; taken = taken; quota = quota; capacity = capacity }
    ≡ with_put (record { items = all_items item_at runs; put = put; taken = taken; quota = quota; capacity = capacity }) (items_of item_at run)
run_put item_at runs more run put taken quota capacity e =
    let items = ap (all_items item_at) e ∙ items_more item_at runs run in
    let count = sym (length_run item_at run) in
    ap (λ xs. record { items = xs; put = put + run.count; taken = taken; quota = quota; capacity = capacity }) items
    ∙ ap (λ n. record { items = all_items item_at runs ++ items_of item_at run; put = put + n; taken = taken; quota = quota; capacity = capacity }) count

-- a list with a first one is that one and the others
pub first_and_rest : {X : Type 0} (xs : List X) (x : X) → slice_get xs 0 ≡ Some x → xs ≡ x ∷ drop 1 xs
first_and_rest [] x at = absurd (cc)
first_and_rest (y ∷ xs) x at = let same : y ≡ x = cc in ap (λ z. z ∷ xs) same

-- while items are left to move there is a first run
pub has_first : {S T : Type 0} (item_at : S → ℕ → T) (count : ℕ) (start : List (Run S)) (left : ℕ) (into runs : List (Run S))
    → Moving item_at count start left into runs → 0 < left → slice_get runs 0 ≡ None → ⊥
has_first item_at count start left into [] h some none = let enough = h.enough in omega (arith, enough, some)
has_first item_at count start left into (run ∷ runs) h some none = cc

-- one step of the loop: the first run was taken out, and its front is moved
module _ {S T : Type 0} (item_at : S → ℕ → T) (count : ℕ) (start : List (Run S)) (left : ℕ) (into runs : List (Run S))
    (h : Moving item_at count start left into runs) (some : 0 < left) (run front : Run S) (at : slice_get runs 0 ≡ Some run)
    (is_front : front ≡ front_of left run) (into' : List (Run S)) (more : into' ≡ into ++ front ∷ []) where
  parts : Moving item_at count start left into (run ∷ drop 1 runs)
  parts = subst (λ xs. Moving item_at count start left into xs) (first_and_rest runs run at) h

  counted : front.count ≡ min run.count left
  counted = ap (λ f. f.count) is_front

  pub short : HasShortCount run
  short = (All-head HoldsItems run (drop 1 runs) parts.held).is

  -- there is room for the front
  pub fits : length into < 32
  fits = let few = h.few in omega (arith, few, some)

  pub smaller : left - front.count < left
  smaller =
      let one = (All-head HoldsItems run (drop 1 runs) parts.held).some in
      let is = counted in
      omega (arith, one, some, is)

  goes_whole : (runs' : List (Run S)) → run.count ≤ front.count → runs' ≡ drop 1 runs
      → Moving item_at count start (left - front.count) into' runs'
  goes_whole runs' all is =
      let same = counted in
      subst (λ xs. Moving item_at count start (left - front.count) xs runs') (sym more)
      (subst (λ xs. Moving item_at count start (left - front.count) (into ++ front ∷ []) xs) (sym is)
      (subst (λ f. Moving item_at count start (left - f.count) (into ++ f ∷ []) (drop 1 runs)) (sym is_front)
      (whole item_at count start left into run (drop 1 runs) parts some (omega (arith, same, all)))))

  goes_parted : (runs' : List (Run S)) → front.count < run.count → runs' ≡ rest_of front.count run ∷ drop 1 runs
      → Moving item_at count start (left - front.count) into' runs'
  goes_parted runs' less is =
      let same = counted in
      subst (λ xs. Moving item_at count start (left - front.count) xs runs') (sym more)
      (subst (λ xs. Moving item_at count start (left - front.count) (into ++ front ∷ []) xs) (sym is)
      (subst (λ f. Moving item_at count start (left - f.count) (into ++ f ∷ []) (rest_of f.count run ∷ drop 1 runs)) (sym is_front)
      (parted item_at count start left into run (drop 1 runs) parts some (omega (arith, same, less)))))

  -- either way some are left to move
  pub goes_on : (runs' : List (Run S)) → (run.count ≤ front.count → runs' ≡ drop 1 runs)
      → (front.count < run.count → runs' ≡ rest_of front.count run ∷ drop 1 runs)
      → Moving item_at count start (left - front.count) into' runs'
  goes_on runs' whole_run parted_run =
      elim (leb_tells run.count front.count) [
        | inl all ↦ goes_whole runs' all.1 (whole_run all.1)
        | inr not_all ↦
            (
            let more = not_all.1 in
            let less : front.count < run.count = omega (arith, more) in
            goes_parted runs' less (parted_run less)
            )
      ]

-- so many items may be moved out of a lane that holds at least as many
pub may_move : {S T : Type 0} (item_at : S → ℕ → T) (runs : List (Run S)) (put taken capacity room count : ℕ)
    → AreInLane item_at runs put taken capacity room → count ≤ length (all_items item_at runs) → MayMove item_at count runs
may_move item_at runs put taken capacity room count h enough = record { enough = enough; held = h.held }

-- what a lane keeps of the runs that are left
pub lane_left : {S T : Type 0} (item_at : S → ℕ → T) (runs moved left : List (Run S)) (put taken capacity room room' count : ℕ)
    → AreInLane item_at runs put taken capacity room → count ≤ length (all_items item_at runs) → MovesItems item_at count runs moved left → room' ≡ room
    → AreInLane item_at left put (taken + count) capacity room'
lane_left item_at runs moved left put taken capacity room room' count h enough moves same =
    let rest = ap length moves.behind_them ∙ length-drop count (all_items item_at runs) in
    let counts = h.counts in
    let few = h.few in
    record {
      counts = omega (arith, rest, counts, enough);
      few = omega (arith, rest, few);
      held = moves.left_held;
      enough = (let is = h.enough in omega (arith, is, same));
    }

-- runs were moved whole before the loop
pub moved_whole : {S T : Type 0} (item_at : S → ℕ → T) (count : ℕ) (runs : List (Run S)) (k n : ℕ) (into into' runs' : List (Run S))
    → MayMove item_at count runs → count ≤ 32 → into ≡ [] → AreWhole item_at count runs k n → into' ≡ into ++ take k runs → runs' ≡ drop k runs
    → Moving item_at count runs (count - n) into' runs'
moved_whole item_at count runs k n into into' runs' may few none first more rest =
    subst (λ xs. Moving item_at count runs (count - n) xs runs') (sym more)
    (subst (λ xs. Moving item_at count runs (count - n) (into ++ take k runs) xs) (sym rest)
    (moves_whole item_at count runs count into runs (begins item_at count runs into may few none) k n first))
