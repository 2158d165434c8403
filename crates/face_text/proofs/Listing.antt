-- Texts of lists of numbers and of groups.
use Rattle.std.proofs.Common.{inl, inr, ◌≡◌, ◌≢◌, ◌⊎◌, ◌≤◌, ◌<◌, ◌∙◌, ◌++◌, ◌+◌, ◌==◌, length, take, drop, get_or}
use Rattle.std.proofs.Common.{take-append-drop, ℕ, zero, suc, Bool, true, false, List, [], ◌∷◌, Option, Some, None}
use Rattle.std.proofs.Common.{refl, sym, ap, map, filter, append_assoc, append-nil, arith, if◌then◌else◌, min, ◌-◌}
use Rattle.std.specs.Prelude.{codes, decimal}
use Rattle.std.specs.List.{flat_map, range_with_len}
use Rattle.std.proofs.lemmas.List.{take_more}
use Rattle.std.proofs.lemmas.Grind.{flat_map-append}
use Rattle.std.proofs.lemmas.List.FromFn.{map-range_with_len_more}
use Rattle.std.proofs.lemmas.List.Folds.{flat_map-map}
use Rattle.std.proofs.lemmas.Bool.Decides.{eqb_tells}
use Rattle.site_types.specs.declared.site.Site.{Site}
use Rattle.face_text.specs.declared.face.Face.{Face}
use Rattle.face_text.specs.declared.group.Group.{Group}
use Rattle.face_text.specs.Changes.{change_of, changes_text, group_text, groups_text, numbers_text}
use Rattle.face_text.specs.Slots.{Slot, Thing, Delays, Sounding, Count, is_named, kind_of, last_of, line_of, line_of_thing, name_in}
use Rattle.face_text.specs.Slots.{number_of_truth, numbers_in, on_word, page, shows, slots, slots_of, value_in, word_of}

-- the texts of one more number
pub range_more : {A : Type 0} (f : ℕ → List A) (n : ℕ) → flat_map f (range_with_len 1 (n + 1)) ≡ flat_map f (range_with_len 1 n) ++ f (n + 1)
range_more f n =
    let one : 1 + n ≡ n + 1 = omega arith in
    let ranges = map-range_with_len_more (λ k. k) 1 n (n + 1) one in
    let same = λ (m : ℕ). sym (flat_map-map f (λ k. k) (range_with_len 1 m)) in
    same (n + 1) ∙ ap (flat_map f) ranges ∙ flat_map-append f (map (λ k. k) (range_with_len 1 n)) ((n + 1) ∷ [])
    ∙ ap (λ xs. flat_map f (map (λ k. k) (range_with_len 1 n)) ++ xs) (append-nil (f (n + 1))) ∙ ap (λ xs. xs ++ f (n + 1))
    (flat_map-map f (λ k. k) (range_with_len 1 n))

-- numbers that have no text
pub range_skip : {A : Type 0} (f : ℕ → List A) (from count : ℕ) → ((n : ℕ) → from < n → n ≤ from + count → f n ≡ [])
    → flat_map f (range_with_len 1 (from + count)) ≡ flat_map f (range_with_len 1 from)
range_skip f from zero none = let same : from + zero ≡ from = omega arith in ap (λ n. flat_map f (range_with_len 1 n)) same
range_skip f from (suc count) none =
    let next : from + suc count ≡ (from + count) + 1 = omega arith in
    ap (λ n. flat_map f (range_with_len 1 n)) next ∙ range_more f (from + count)
    ∙ ap (λ xs. flat_map f (range_with_len 1 (from + count)) ++ xs) (none ((from + count) + 1) (omega arith) (omega arith))
    ∙ append-nil (flat_map f (range_with_len 1 (from + count)))
    ∙ range_skip f from count (λ n past less. none n past (omega (arith, less)))

-- the texts of the first numbers stand at the front of those of more
front_by : {A : Type 0} (f : ℕ → List A) (m k : ℕ) → (k ≡ suc m) ⊎ (k ≢ suc m)
    → (k ≤ m → (rest : List A) × (flat_map f (range_with_len 1 m) ≡ flat_map f (range_with_len 1 k) ++ rest)) → k ≤ suc m →
    (rest : List A) × (flat_map f (range_with_len 1 (suc m)) ≡ flat_map f (range_with_len 1 k) ++ rest)
front_by f m k (inl same) ih few = ([], ap (λ n. flat_map f (range_with_len 1 n)) (sym same) ∙ sym (append-nil (flat_map f (range_with_len 1 k))))
front_by f m k (inr other) ih few =
    let front = ih (omega (arith, few, other)) in
    let one : suc m ≡ m + 1 = omega arith in (
      front.0 ++ f (m + 1),
      ap (λ n. flat_map f (range_with_len 1 n)) one ∙ range_more f m ∙ ap (λ xs. xs ++ f (m + 1)) front.1 ∙ append_assoc
          (flat_map f (range_with_len 1 k)) front.0 (f (m + 1)),
    )

same_or_other : (m n : ℕ) → (m ≡ n) ⊎ (m ≢ n)
same_or_other m n = elim (eqb_tells m n) [
  | inl h ↦ inl h.1
  | inr h ↦ inr h.1
]

pub range_front : {A : Type 0} (f : ℕ → List A) (n k : ℕ) → k ≤ n
    → (rest : List A) × (flat_map f (range_with_len 1 n) ≡ flat_map f (range_with_len 1 k) ++ rest)
range_front f zero k few = let none : k ≡ 0 = omega (arith, few) in
    ([], ap (λ n. flat_map f (range_with_len 1 n)) (sym none) ∙ sym (append-nil (flat_map f (range_with_len 1 k))))
range_front f (suc m) k few = front_by f m k (same_or_other k (suc m)) (range_front f m k) few

-- the texts of one more item, and of those that follow
pub items_more : {X A : Type 0} (f : X → List A) (xs : List X) (k : ℕ) (d : X) → k < length xs → flat_map f (take (k + 1) xs) ≡ flat_map f (take k xs)
    ++ f (get_or xs k d)
items_more f xs k d within =
    ap (flat_map f) (take_more xs k d within) ∙ flat_map-append f (take k xs) (get_or xs k d ∷ []) ∙ ap (λ ys. flat_map f (take k xs) ++ ys)
    (append-nil (f (get_or xs k d)))

pub items_front : {X A : Type 0} (f : X → List A) (xs : List X) (k : ℕ) → flat_map f xs ≡ flat_map f (take k xs) ++ flat_map f (drop k xs)
items_front f xs k = ap (flat_map f) (sym (take-append-drop k xs)) ∙ flat_map-append f (take k xs) (drop k xs)

-- what the site hasn't is told by nothing
untold : (site : Site) (before after : Face) (group : Group) (number : ℕ) → is_named (name_in site after.panel group number) ≡ false
    → change_of site before after (Thing group number) ≡ []
untold site before after group number none =
    go (value_in before (Thing group number) == value_in after (Thing group number)) (name_in site after.panel group number) none
  where
    go : (same : Bool) (name : Option (List ℕ)) → is_named name ≡ false
        → (if same then [] else line_of_thing after.panel group (value_in after (Thing group number)) name) ≡ []
    go true name e = refl
    go false None e = refl
    go false (Some name) e = cc

told_numbers : (site : Site) (before after : Face) (group : Group) (numbers : List ℕ) →
    flat_map (change_of site before after) (map (Thing group) (filter (λ number. is_named (name_in site after.panel group number)) numbers))
    ≡ flat_map (λ number. change_of site before after (Thing group number)) numbers
told_numbers site before after group [] = refl
told_numbers site before after group (number ∷ numbers) =
    go (is_named (name_in site after.panel group number)) refl (told_numbers site before after group numbers)
  where
    test : ℕ → Bool
    test k = is_named (name_in site after.panel group k)

    go : (b : Bool) → test number ≡ b →
        flat_map (change_of site before after) (map (Thing group) (filter test numbers)) ≡ flat_map (λ k. change_of site before after (Thing group k))
        numbers →
        flat_map (change_of site before after) (map (Thing group) (if b then number ∷ filter test numbers else filter test numbers))
        ≡ change_of site before after (Thing group number) ++ flat_map (λ k. change_of site before after (Thing group k)) numbers
    go true e ih = ap (λ xs. change_of site before after (Thing group number) ++ xs) ih
    go false e ih =
        ih ∙ sym (ap (λ xs. xs ++ flat_map (λ k. change_of site before after (Thing group k)) numbers) (untold site before after group number e))

-- the lines of a group are those of all its numbers
pub group_is : (site : Site) (before after : Face) (group : Group)
    → group_text site before after group ≡ numbers_text site before after group (last_of group)
group_is site before after group = told_numbers site before after group (range_with_len 1 (last_of group))

flat_twice : {A B : Type 0} (f : B → List ℕ) (g : A → List B) (xs : List A) → flat_map f (flat_map g xs) ≡ flat_map (λ x. flat_map f (g x)) xs
flat_twice f g [] = refl
flat_twice f g (x ∷ xs) = flat_map-append f (g x) (flat_map g xs) ∙ ap (λ ys. flat_map f (g x) ++ ys) (flat_twice f g xs)

-- the text of a change is that of all groups, and that of delays, buzzer and counter
pub changes_are : (site : Site) (before after : Face) →
    groups_text site before after page ++ flat_map (change_of site before after) (Delays ∷ Sounding ∷ Count ∷ []) ≡ changes_text site before after
changes_are site before after =
    let f = change_of site before after in
    sym (flat_map-append f (flat_map (slots_of site after.panel) page) (Delays ∷ Sounding ∷ Count ∷ [])
    ∙ ap (λ xs. xs ++ flat_map f (Delays ∷ Sounding ∷ Count ∷ [])) (flat_twice f (slots_of site after.panel) page))

pub same_value : (x y : ℕ) (line : List ℕ) → x ≡ y → (if x == y then [] else line) ≡ []
same_value x y line e = elim (eqb_tells x y) [
  | inl h ↦ rw h.0 refl
  | inr h ↦ absurd (h.1 e)
]

-- a group that is shown as before has no line
pub group_same : (site : Site) (before after : Face) (group : Group) → ((number : ℕ) → shows before group number ≡ shows after group number)
    → group_text site before after group ≡ []
group_same site before after group same = go (numbers_in site after.panel group)
  where
    go : (numbers : List ℕ) → flat_map (change_of site before after) (map (Thing group) numbers) ≡ []
    go [] = refl
    go (number ∷ numbers) =
        ap (λ xs. xs ++ flat_map (change_of site before after) (map (Thing group) numbers)) (same_value _ _ _ (ap number_of_truth (same number))) ∙ go
        numbers

-- where no value is another, there is no line
pub no_change : (site : Site) (before after : Face) (all : List Slot) → ((slot : Slot) → value_in before slot ≡ value_in after slot)
    → flat_map (change_of site before after) all ≡ []
no_change site before after [] same = refl
no_change site before after (slot ∷ all) same =
    ap (λ xs. xs ++ flat_map (change_of site before after) all) (same_value _ _ _ (same slot)) ∙ no_change site before after all same

-- ---- the steps of the loops

pub number_next : (site : Site) (before after : Face) (group : Group) (place : ℕ) →
    numbers_text site before after group (place + 1) ≡ numbers_text site before after group place
    ++ change_of site before after (Thing group (place + 1))
number_next site before after group place = range_more (λ number. change_of site before after (Thing group number)) place

pub number_front : (site : Site) (before after : Face) (group : Group) (last place : ℕ) → place < last →
    (rest : List ℕ)
    × (numbers_text site before after group last ≡ (numbers_text site before after group place ++ change_of site before after (Thing group (place + 1))) ++ rest)
number_front site before after group last place within =
    let front = range_front (λ number. change_of site before after (Thing group number)) last (place + 1) (omega (arith, within)) in
    (front.0, front.1 ∙ ap (λ xs. xs ++ front.0) (number_next site before after group place))

-- numbers of which the same is shown have no line
pub numbers_same : (site : Site) (before after : Face) (group : Group) (from next last : ℕ) → from ≤ next
    → ((n : ℕ) → from < n → n ≤ next → n ≤ last → shows before group n ≡ shows after group n)
    → numbers_text site before after group (min next last) ≡ numbers_text site before after group (min from last)
numbers_same site before after group from next last le same =
    let start = min from last in
    let count = min next last - start in
    let whole : start + count ≡ min next last = omega (arith, le) in
    ap (numbers_text site before after group) (sym whole)
    ∙ range_skip (λ n. change_of site before after (Thing group n)) start count
    (λ n past less. same_value _ _ _ (ap number_of_truth (same n (omega (arith, le, past, less)) (omega (arith, le, past, less)) (omega (arith, le, past, less)))))

-- from one number that changed to the next, from the first on, and to a write that fails
pub numbers_step : (site : Site) (before after : Face) (group : Group) (next further last : ℕ) → 1 ≤ next → next ≤ last → next < further
    → ((n : ℕ) → next < n → n < further → n ≤ last → shows before group n ≡ shows after group n)
    → numbers_text site before after group (min (further - 1) last) ≡ numbers_text site before after group (min (next - 1) last)
    ++ change_of site before after (Thing group next)
numbers_step site before after group next further last low high more same =
    let text = numbers_text site before after group in
    let line = λ (n : ℕ). change_of site before after (Thing group n) in
    let one : min next last ≡ (next - 1) + 1 = omega (arith, low, high) in
    let place : (next - 1) + 1 ≡ next = omega (arith, low) in
    let so_far : next - 1 ≡ min (next - 1) last = omega (arith, low, high) in
    numbers_same site before after group next (further - 1) last (omega (arith, more))
    (λ n past less within. same n past (omega (arith, more, less)) within)
    ∙ ap text one ∙ number_next site before after group (next - 1) ∙ ap (λ k. text k ++ line ((next - 1) + 1)) so_far
    ∙ ap (λ k. text (min (next - 1) last) ++ line k) place

pub numbers_begin : (site : Site) (before after : Face) (group : Group) (next last : ℕ) → 1 ≤ next
    → ((n : ℕ) → 1 ≤ n → n < next → n ≤ last → shows before group n ≡ shows after group n)
    → numbers_text site before after group (min (next - 1) last) ≡ []
numbers_begin site before after group next last low same =
    let none : min 0 last ≡ 0 = omega arith in
    numbers_same site before after group 0 (next - 1) last (omega arith)
    (λ n past less within. same n (omega (arith, past)) (omega (arith, low, less)) within)
    ∙ ap (numbers_text site before after group) none

pub numbers_front : (site : Site) (before after : Face) (group : Group) (next last : ℕ) → 1 ≤ next → next ≤ last →
    (rest : List ℕ)
    × (numbers_text site before after group last ≡ (numbers_text site before after group (min (next - 1) last) ++ change_of site before after (Thing group next)) ++ rest)
numbers_front site before after group next last low high =
    let text = numbers_text site before after group in
    let line = λ (n : ℕ). change_of site before after (Thing group n) in
    let place : (next - 1) + 1 ≡ next = omega (arith, low) in
    let so_far : next - 1 ≡ min (next - 1) last = omega (arith, low, high) in
    let front = number_front site before after group last (next - 1) (omega (arith, low, high)) in (
      front.0,
      front.1 ∙ ap (λ k. (text k ++ line ((next - 1) + 1)) ++ front.0) so_far
          ∙ ap (λ k. (text (min (next - 1) last) ++ line k) ++ front.0) place,
    )

-- a thing of which something else is shown is told by its line
pub other_value : (x y : Bool) (line : List ℕ) → x ≢ y → (if number_of_truth x == number_of_truth y then [] else line) ≡ line
other_value true true line apart = absurd (apart refl)
other_value true false line apart = refl
other_value false true line apart = refl
other_value false false line apart = absurd (apart refl)

-- the parts of the line of a thing
pub line_parts : (site : Site) (before after : Face) (group : Group) (number : ℕ) (head name : List ℕ) (on : Bool)
    → head ≡ decimal after.panel ++ codes " " ++ word_of group ++ kind_of group → shows before group number ≢ shows after group number
    → Some name ≡ name_in site after.panel group number → on ≡ shows after group number
    → head ++ name ++ on_word (number_of_truth on) ≡ change_of site before after (Thing group number)
line_parts site before after group number head name on front apart named is =
    ap (λ h. h ++ name ++ on_word (number_of_truth on)) front
    ∙ ap (λ b. line_of_thing after.panel group (number_of_truth b) (Some name)) is
    ∙ ap (line_of_thing after.panel group (number_of_truth (shows after group number))) named
    ∙ sym (other_value (shows before group number) (shows after group number)
    (line_of site after.panel (Thing group number) (number_of_truth (shows after group number))) apart)

-- a thing that the site hasn't has no line
pub no_parts : (site : Site) (before after : Face) (group : Group) (number : ℕ) → None ≡ name_in site after.panel group number
    → change_of site before after (Thing group number) ≡ []
no_parts site before after group number none = untold site before after group number (ap is_named (sym none))

-- an item of a list that is another one
pub item_next : {X A : Type 0} (f : X → List A) (xs ys : List X) (k : ℕ) (d : X) (text : List A) → ys ≡ xs → k < length xs
    → text ≡ f (get_or ys k d) →
    flat_map f (take (k + 1) xs) ≡ flat_map f (take k xs) ++ text
item_next f xs ys k d text same within is =
    items_more f xs k d within ∙ ap (λ t. flat_map f (take k xs) ++ t) (sym (is ∙ ap (λ zs. f (get_or zs k d)) same))

pub item_front : {X A : Type 0} (f : X → List A) (xs ys : List X) (k : ℕ) (d : X) (text : List A) → ys ≡ xs → k < length xs
    → text ≡ f (get_or ys k d) →
    flat_map f xs ≡ (flat_map f (take k xs) ++ text) ++ flat_map f (drop (k + 1) xs)
item_front f xs ys k d text same within is =
    items_front f xs (k + 1) ∙ ap (λ t. t ++ flat_map f (drop (k + 1) xs)) (item_next f xs ys k d text same within is)

-- the first, second and third of three lines
pub three_lines : (f : Slot → List ℕ) → flat_map f (Delays ∷ Sounding ∷ Count ∷ []) ≡ (f Delays ++ f Sounding) ++ f Count
three_lines f = ap (λ t. f Delays ++ (f Sounding ++ t)) (append-nil (f Count)) ∙ sym (append_assoc (f Delays) (f Sounding) (f Count))

-- equal faces have no line between them
pub same_text : (site : Site) (before after : Face) → before ≡ after → changes_text site before after ≡ []
same_text site before after same = no_change site before after (slots site after.panel) (λ slot. ap (λ (face : Face). value_in face slot) same)
