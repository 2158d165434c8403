-- The answers of a group of points on a cable with nothing wrong are those of its states.
use Rattle.std.proofs.Common.{◌≡◌, ℕ, zero, suc, ◌+◌, ◌-◌, ◌*◌, ◌%◌, ◌<◌, ◌≤◌, List, ◌∷◌, All, length, map, Option, Some, None, true}
use Rattle.std.proofs.Common.{false, slice_get, slice_index_or, refl, sym, ◌∙◌, ap, subst, arith, option_map, take, drop}
use Rattle.std.proofs.lemmas.List.{get_or-drop, get_or-take, length-drop, length-take}
use Rattle.std.proofs.lemmas.List.Elements.{All-cons, All-head, All-nil, All-tail}
use Rattle.std.proofs.lemmas.Nat.{mod_below}
use Rattle.std.specs.List.{cons_option, filter_map, range_with_len}
use Rattle.site_types.specs.declared.answer.Answer.{Answer}
use Rattle.site_types.specs.declared.point_state.PointState.{PointState}
use Rattle.site_types.specs.declared.point_state.PointState.TheVariants.{Quiet}
use Rattle.site_types.specs.declared.site.Site.{Site}
use Rattle.site_types.specs.Profile.{round_of}
use Rattle.site_types.specs.Things.{loop_of}
use Rattle.site_types.specs.Valid.{IsValid}
use Rattle.site_types.proofs.ValidSites.{few_points}
use Rattle.isolators.specs.declared.line_status.LineStatus.{LineStatus}
use Rattle.isolators.specs.Reach.{Cable}
use Rattle.loop_poller.specs.declared.group.Group.{Group}
use Rattle.loop_poller.specs.declared.polled_line.PolledLine.{PolledLine}
use Rattle.loop_poller.specs.Asked.{answer_from, answer_of, asked_on, heard_of, is_reached_on, point_at, status_on}
use Rattle.loop_poller.specs.Groups.{FollowFrom, IsWithin, group_answers, place_answer}
use Rattle.loop_poller.specs.Stands.{AreStates, LineStands}
use Rattle.loop_poller.proofs.GroupMasks.{same_map}
use Rattle.loop_poller.proofs.Lines.{no_points, on_loop, point_there}
use Rattle.loop_poller.proofs.Sound.{reaches_on}
use Rattle.loop_poller.proofs.Windows.{asked_window, group_of, is_asked_here}

told_case : {X : Type 0} (told : ℕ → X) (o : Option ℕ) (p : Option X) (rest : List ℕ) (answers : List X)
    → ((point : ℕ) → o ≡ Some point → p ≡ Some (told point)) → (o ≡ None → p ≡ None) → answers ≡ map told rest
    → cons_option p answers ≡ map told (cons_option o rest)
told_case told None p rest answers some none tail = ap (λ x. cons_option x answers) (none refl) ∙ tail
told_case told (Some point) p rest answers some none tail =
    ap (λ x. cons_option x answers) (some point refl) ∙ ap (λ xs. told point ∷ xs) tail

-- where each point that is found gives what is told of it, all that is found is told
found_told : {X : Type 0} (g : ℕ → Option ℕ) (f : ℕ → Option X) (told : ℕ → X) (a n : ℕ)
    → ((k point : ℕ) → a ≤ k → k < a + n → g k ≡ Some point → f k ≡ Some (told point))
    → ((k : ℕ) → a ≤ k → k < a + n → g k ≡ None → f k ≡ None)
    → filter_map f (range_with_len a n) ≡ map told (filter_map g (range_with_len a n))
found_told g f told a zero some none = refl
found_told g f told a (suc n) some none =
    told_case told (g a) (f a) (filter_map g (range_with_len (a + 1) n)) (filter_map f (range_with_len (a + 1) n))
    (λ point. some a point (omega arith) (omega arith)) (none a (omega arith) (omega arith))
    (found_told g f told (a + 1) n (λ k point low high. some k point (omega arith) (omega arith))
    (λ k low high. none k (omega arith) (omega arith)))

found_case : (P : ℕ → Type 0) (o : Option ℕ) (rest : List ℕ) → ((point : ℕ) → o ≡ Some point → P point) → All P rest → All P (cons_option o rest)
found_case P None rest some all = all
found_case P (Some point) rest some all = All-cons P point rest (some point refl) all

-- what holds of each point that is found holds of all of them
found_all : (P : ℕ → Type 0) (g : ℕ → Option ℕ) (a n : ℕ) → ((k point : ℕ) → a ≤ k → k < a + n → g k ≡ Some point → P point)
    → All P (filter_map g (range_with_len a n))
found_all P g a zero some = All-nil P
found_all P g a (suc n) some =
    found_case P (g a) (filter_map g (range_with_len (a + 1) n)) (λ point. some a point (omega arith) (omega arith))
    (found_all P g (a + 1) n (λ k point low high. some k point (omega arith) (omega arith)))

each_of_range : (P : ℕ → Type 0) (a n i : ℕ) → All P (range_with_len a n) → i < n → P (a + i)
each_of_range P a zero i all below = absurd (omega (arith, below))
each_of_range P a (suc n) zero all below = subst P (omega arith) (All-head P a (range_with_len (a + 1) n) all)
each_of_range P a (suc n) (suc i) all below =
    subst P (omega arith) (each_of_range P (a + 1) n i (All-tail P a (range_with_len (a + 1) n) all) (omega (arith, below)))

abbrev point_answer : ℕ → PointState → ℕ → Answer
point_answer tick state point = record { stamp = record { 0 = tick }; point = point; heard = heard_of state true }

place_told : (tick first : ℕ) (state : PointState) (i : ℕ) → first + i ≤ 65535 → place_answer tick first state i ≡ point_answer tick state (first + i)
place_told tick first state i few = ap (point_answer tick state) (omega (arith, few))

module _ (site : Site) (panel line : ℕ) (points : ℕ → PointState) (cables : ℕ → Cable) (tick : ℕ) (polled : PolledLine) (states : List PointState)
    (group : Group) (valid : IsValid site) (stands : LineStands site panel line (cables line) polled) (are : AreStates site points states)
    (is : slice_get polled.groups.items (tick % round_of site.format) ≡ Some (Some group)) where
  abbrev q : ℕ
  q = tick % round_of site.format

  abbrev at : ℕ → Option ℕ
  at address = slice_index_or polled.points.items (address - 1) None

  follow : FollowFrom polled.points.items (8 * q + 1) group
  follow = stands.groups q group is

  found : (address : ℕ) → 8 * q + 1 ≤ address → address < 8 * q + 1 + 8 → at address ≡ point_at site panel line address
  found address low high =
      let known = valid.forms.format.0 in
      let below : q < round_of site.format = mod_below tick (round_of site.format) (omega (arith, known)) in
      stands.points.each address (omega (arith, low)) (omega (arith, high, below))

  each_within : (i : ℕ) → i < group.count → group.first + i < length site.points
  each_within i below =
      each_of_range (λ point. point < length site.points) group.first group.count i
      (subst (All (λ point. point < length site.points)) follow
      (found_all (λ point. point < length site.points) at (8 * q + 1) 8
      (λ address point low high there. (point_there site panel line address point (sym (found address low high) ∙ there)).within)))
      below

  -- the points of the group are points of the site
  pub group_within : IsWithin group states
  group_within some =
      let last = each_within (group.count - 1) (omega (arith, some)) in
      let size = are.size in
      omega (arith, some, last, size)

  asked : (address : ℕ) → 8 * q + 1 ≤ address → address < 8 * q + 1 + 8
      → answer_from site panel points cables tick line address ≡ option_map (answer_of site panel points cables tick line address) (at address)
  asked address low high =
      is_asked_here site panel points cables tick line address (group_of q (8 * q + 1) address refl low high)
      ∙ ap (option_map (answer_of site panel points cables tick line address)) (sym (found address low high))

  abbrev status : LineStatus
  status = status_on (loop_of site panel line) (cables line)

  answers : status.broken ≡ false → status.shorted ≡ false → (address point : ℕ) → 8 * q + 1 ≤ address → address < 8 * q + 1 + 8 → at address ≡ Some point
      → answer_from site panel points cables tick line address ≡ Some (point_answer tick (points point) point)
  answers whole unshorted address point low high there_is =
      let there : point_at site panel line address ≡ Some point = sym (found address low high) ∙ there_is in
      let loop = loop_of site panel line in
      let has_loop : loop ≡ None → ⊥ = (λ none. let gone = no_points site panel line address valid none (Some point) there in absurd (cc)) in
      let reached : is_reached_on loop (cables line) address ≡ true =
      reaches_on loop (cables line) address has_loop whole unshorted (on_loop site panel line address point valid there) in
      asked address low high ∙ ap (option_map (answer_of site panel points cables tick line address)) there_is
      ∙ ap (λ r. Some (record { stamp = record { 0 = tick }; point = point; heard = heard_of (points point) r })) reached

  place_is : (i : ℕ) → i < group.count
      → place_answer tick group.first (slice_index_or (take group.count (drop group.first states)) i Quiet) i
      ≡ point_answer tick (points (group.first + i)) (group.first + i)
  place_is i below =
      let there = each_within i below in
      let few = few_points site valid in
      let read : slice_index_or (take group.count (drop group.first states)) i Quiet ≡ points (group.first + i) =
      get_or-take group.count (drop group.first states) i Quiet below ∙ get_or-drop group.first states i Quiet ∙ are.each (group.first + i) there in
      ap (λ s. place_answer tick group.first s i) read
      ∙ place_told tick group.first (points (group.first + i)) i (omega (arith, there, few))

  part_size : (n : ℕ) → group.count ≡ n → length (take group.count (drop group.first states)) ≡ group.count
  part_size zero e = simp (length-take, length-drop) (omega (arith, e))
  part_size (suc n) e = let fits = group_within (omega (arith, e)) in simp (length-take, length-drop) (omega (arith, fits))

  -- where nothing is wrong with the cable, what they answer is all that is asked of the loop in the tick
  pub group_asked : status.broken ≡ false → status.shorted ≡ false → asked_on site panel points cables tick line ≡ group_answers tick group states
  group_asked whole unshorted =
      let f = answer_from site panel points cables tick line in
      let told = λ (point : ℕ). point_answer tick (points point) point in
      let part = take group.count (drop group.first states) in
      let size : length part ≡ group.count = part_size group.count refl in
      asked_window site panel points cables tick line valid.forms.format.0
      ∙ found_told at f told (8 * q + 1) 8 (answers whole unshorted)
      (λ address low high none. asked address low high ∙ ap (option_map (answer_of site panel points cables tick line address)) none)
      ∙ ap (map told) follow
      ∙ sym (same_map (λ place. place_answer tick group.first (slice_index_or part place Quiet) place) told 0 group.first group.count
      (λ i below. let zero_more : 0 + i ≡ i = omega arith in
      ap (λ k. place_answer tick group.first (slice_index_or part k Quiet) k) zero_more ∙ place_is i below))
      ∙ ap (λ n. map (λ place. place_answer tick group.first (slice_index_or part place Quiet) place) (range_with_len 0 n)) (sym size)
