-- The answers of a run one after the other, and those of runs one run after the other.
use Rattle.std.proofs.Common.{◌≡◌, ℕ, ◌+◌, ◌-◌, ◌<◌, ◌≤◌, List, [], ◌∷◌, ◌++◌, length, map, take, drop, get_or, sym, ◌∙◌, ap, arith}
use Rattle.std.proofs.lemmas.Grind.{flat_map-append}
use Rattle.std.proofs.lemmas.List.{map-append, length-take, take-append-drop, take_more}
use Rattle.std.proofs.lemmas.List.FromFn.{map-range_with_len_more}
use Rattle.std.specs.List.{range_with_len}
use Rattle.tick_units.specs.Lane.{LaneState, turn_count}
use Rattle.coincidence.specs.Stands.{taken_by}
use Rattle.site_types.specs.declared.answer.Answer.{Answer}
use Rattle.answer_lanes.specs.declared.answer_group.AnswerGroup.{AnswerGroup}
use Rattle.answer_lanes.specs.declared.run.Run.{Run}
use Rattle.answer_lanes.specs.Points.{answer_at}
use Rattle.answer_lanes.specs.Runs.{all_items, items_of}
use Rattle.answer_lanes.proofs.Moving.{items_more, range_parts}

-- the answers of a run before a place of it
abbrev pub before : Run AnswerGroup → ℕ → List Answer
before run place = map (answer_at run.first) (range_with_len run.taken (place - run.taken))

-- and behind the one at that place
abbrev pub behind : Run AnswerGroup → ℕ → List Answer
behind run place =
    map (answer_at run.first) (range_with_len (run.taken + (place + 1 - run.taken)) (run.taken + run.count - (place + 1)))

pub none_before : (run : Run AnswerGroup) → before run run.taken ≡ []
none_before run =
    let none : run.taken - run.taken ≡ 0 = omega arith in
    ap (λ n. map (answer_at run.first) (range_with_len run.taken n)) none

pub all_before : (run : Run AnswerGroup) (place : ℕ) → place ≡ run.taken + run.count → before run place ≡ items_of answer_at run
all_before run place end =
    let count : place - run.taken ≡ run.count = omega (arith, end) in
    ap (λ n. map (answer_at run.first) (range_with_len run.taken n)) count

pub one_more : (run : Run AnswerGroup) (place : ℕ) (item : Answer) → run.taken ≤ place → item ≡ answer_at run.first place
    → before run (place + 1) ≡ before run place ++ item ∷ []
one_more run place item from is =
    let count : place + 1 - run.taken ≡ place - run.taken + 1 = omega (arith, from) in
    let at : run.taken + (place - run.taken) ≡ place = omega (arith, from) in
    ap (λ n. map (answer_at run.first) (range_with_len run.taken n)) count
    ∙ map-range_with_len_more (answer_at run.first) run.taken (place - run.taken) place at
    ∙ ap (λ x. before run place ++ x ∷ []) (sym is)

pub parts_at : (run : Run AnswerGroup) (place : ℕ) → run.taken ≤ place → place < run.taken + run.count
    → items_of answer_at run ≡ before run (place + 1) ++ behind run place
parts_at run place from to =
    let item = answer_at run.first in
    let front = place + 1 - run.taken in
    let rest = run.taken + run.count - (place + 1) in
    let count : run.count ≡ front + rest = omega (arith, from, to) in
    ap (λ n. map item (range_with_len run.taken n)) count ∙ ap (map item) (range_parts run.taken front rest)
    ∙ map-append item (range_with_len run.taken front) (range_with_len (run.taken + front) rest)

pub one_run_more : (runs : List (Run AnswerGroup)) (k : ℕ) (d : Run AnswerGroup) → k < length runs
    → all_items answer_at (take (k + 1) runs) ≡ all_items answer_at (take k runs) ++ items_of answer_at (get_or runs k d)
one_run_more runs k d small = ap (all_items answer_at) (take_more runs k d small) ∙ items_more answer_at (take k runs) (get_or runs k d)

pub runs_at : (runs : List (Run AnswerGroup)) (k : ℕ)
    → all_items answer_at runs ≡ all_items answer_at (take k runs) ++ all_items answer_at (drop k runs)
runs_at runs k =
    ap (all_items answer_at) (sym (take-append-drop k runs)) ∙ flat_map-append (items_of answer_at) (take k runs) (drop k runs)

-- a turn takes no more than the quota of the lane
pub few_taken : (lane : LaneState Answer) (xs : List Answer) → xs ≡ taken_by lane → lane.quota ≤ 32 → length xs ≤ 32
few_taken lane xs is few =
    let size = ap length is ∙ length-take (turn_count lane) lane.items in
    omega (arith, size, few)
