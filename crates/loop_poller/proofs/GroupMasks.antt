-- The answers of a group, told by the masks of its points.
use Rattle.std.proofs.Common.{◌≡◌, ℕ, zero, suc, ◌+◌, ◌<◌, ◌≤◌, List, ◌∷◌, if◌then◌else◌, length, map, drop, min, true}
use Rattle.std.proofs.Common.{slice_index_or, refl, sym, ◌∙◌, ap, arith, length-append, take}
use Rattle.std.proofs.lemmas.List.{get_or-drop, get_or-take, length-drop, length-take}
use Rattle.std.proofs.lemmas.List.FromFn.{length-map-range_with_len}
use Rattle.std.specs.List.{range_with_len}
use Rattle.tick_units.specs.Lane.{HasRoom, LaneState, with_put}
use Rattle.site_types.specs.Bits.{has_bit}
use Rattle.site_types.specs.declared.heard.Heard.TheVariants.{Quiet as HeardQuiet, Alarm as HeardAlarm, Silent}
use Rattle.site_types.specs.declared.point_state.PointState.{PointState}
use Rattle.site_types.specs.declared.point_state.PointState.TheVariants.{Quiet, Alarm, Gone}
use Rattle.answer_lanes.specs.declared.run.Run.{Run}
use Rattle.answer_lanes.specs.declared.answer_group.AnswerGroup.{AnswerGroup}
use Rattle.answer_lanes.specs.Points.{answer_at, heard_at}
use Rattle.answer_lanes.specs.Runs.{items_of}
use Rattle.loop_poller.specs.Asked.{heard_of}
use Rattle.loop_poller.specs.declared.group.Group.{Group}
use Rattle.loop_poller.specs.Groups.{IsWithin, group_answers, place_answer}
use Rattle.loop_poller.specs.PointSets.{tells_nothing, tells_alarm}
use Rattle.loop_poller.proofs.Lanes.{room_left}

pub same_map : {X : Type 0} (f g : ℕ → X) (a b n : ℕ) → ((i : ℕ) → i < n → f (a + i) ≡ g (b + i)) → map f (range_with_len a n) ≡ map g (range_with_len b n)
same_map f g a b zero same = refl
same_map f g a b (suc n) same =
    let at_a : a ≡ a + 0 = omega arith in
    let at_b : b + 0 ≡ b = omega arith in
    let here : f a ≡ g b = ap f at_a ∙ same 0 (omega arith) ∙ ap g at_b in
    let rest : map f (range_with_len (a + 1) n) ≡ map g (range_with_len (b + 1) n) =
    same_map f g (a + 1) (b + 1) n (λ i below. ap f (omega arith) ∙ same (i + 1) (omega (arith, below)) ∙ ap g (omega arith)) in
    ap (λ x. x ∷ map f (range_with_len (a + 1) n)) here ∙ ap (λ xs. g b ∷ xs) rest

-- a list of at most so many items leaves the other room
pub room_behind : {X : Type 0} (before now : LaneState X) (items : List X) (n : ℕ) → now ≡ with_put before items → length items ≤ n
    → (m : ℕ) → HasRoom before (m + n) → HasRoom now m
room_behind before now items n put few m room =
    let size : length now.items ≡ length before.items + length items = ap (λ (l : LaneState _). length l.items) put ∙ length-append before.items items in
    let count : now.put ≡ before.put + length items = ap (λ (l : LaneState _). l.put) put in
    let capacity : now.capacity ≡ before.capacity = ap (λ (l : LaneState _). l.capacity) put in
    room_left before now n m (record { items = omega (arith, size, few); put = omega (arith, count, few); capacity = capacity }) room

-- the points of a group are told by the masks of their states
module _ (tick : ℕ) (group : Group) (states : List PointState) (alarms silents : ℕ)
    (alarm : (k : ℕ) → k < 8 → group.first + k < length states → has_bit alarms k ≡ tells_alarm (slice_index_or states (group.first + k) Quiet))
    (silent : (k : ℕ) → k < 8 → group.first + k < length states → has_bit silents k ≡ tells_nothing (slice_index_or states (group.first + k) Quiet)) where
  abbrev pub told : Run AnswerGroup
  told = record {
    first = record { stamp = record { 0 = tick }; point = group.first; alarms = alarms; silents = silents };
    taken = 0;
    count = group.count;
  }

  heard_by_state : (state : PointState)
      → (if tells_alarm state then HeardAlarm else if tells_nothing state then Silent else HeardQuiet) ≡ heard_of state true
  heard_by_state Quiet = refl
  heard_by_state Alarm = refl
  heard_by_state Gone = refl

  heard_is : (k : ℕ) → k < 8 → group.first + k < length states → heard_at alarms silents k ≡ heard_of (slice_index_or states (group.first + k) Quiet) true
  heard_is k small known =
      let state = slice_index_or states (group.first + k) Quiet in
      ap (λ b. if b then HeardAlarm else if has_bit silents k then Silent else HeardQuiet) (alarm k small known)
      ∙ ap (λ b. if tells_alarm state then HeardAlarm else if b then Silent else HeardQuiet) (silent k small known)
      ∙ heard_by_state state

  abbrev part : List PointState
  part = take group.count (drop group.first states)

  place_is : IsWithin group states → (k : ℕ) → k < group.count → answer_at told.first (0 + k) ≡ place_answer tick group.first (slice_index_or part (0 + k) Quiet) (0 + k)
  place_is within k small =
      let few = group.few in
      let all = within (omega (arith, small)) in
      let here : 0 + k ≡ k = omega arith in
      let read : slice_index_or part k Quiet ≡ slice_index_or states (group.first + k) Quiet =
      get_or-take group.count (drop group.first states) k Quiet small ∙ get_or-drop group.first states k Quiet in
      ap (λ i. answer_at told.first i) here
      ∙ ap (λ h. record { stamp = record { 0 = tick }; point = min (group.first + k) 65535; heard = h })
      (heard_is k (omega (arith, small, few)) (omega (arith, small, all)) ∙ ap (λ s. heard_of s true) (sym read))
      ∙ ap (λ i. place_answer tick group.first (slice_index_or part i Quiet) i) (sym here)

  part_size : IsWithin group states → length part ≡ group.count
  part_size within = counted group.count refl
    where
      counted : (n : ℕ) → group.count ≡ n → length part ≡ group.count
      counted zero e = simp (length-take, length-drop) (omega (arith, e))
      counted (suc n) e = let fits = within (omega (arith, e)) in simp (length-take, length-drop) (omega (arith, fits))

  pub told_answers : IsWithin group states → items_of answer_at told ≡ group_answers tick group states
  told_answers within =
      let answer = λ (place : ℕ). place_answer tick group.first (slice_index_or part place Quiet) place in
      same_map (answer_at told.first) answer 0 0 group.count (place_is within)
      ∙ ap (λ n. map answer (range_with_len 0 n)) (sym (part_size within))

  -- there are at most eight
  pub told_few : length (items_of answer_at told) ≤ 8
  told_few =
      let size = length-map-range_with_len (answer_at told.first) 0 group.count in
      let few = group.few in
      omega (arith, size, few)
