-- What follows for a list that is an order of the site's turns.
use Rattle.std.proofs.Common.{◌≡◌, ◌≢◌, ◌+◌, ◌*◌, ◌<◌, ◌≤◌, ◌++◌, ℕ, suc, Bool, true, false, cond, List, [], ◌∷◌}
use Rattle.std.proofs.Common.{length, get_or, take, drop, take-append-drop, drop-cons, refl, ap, sym, ◌∙◌, arith}
use Rattle.std.proofs.Common.{subst, length-append, zero-add, reverse}
use Rattle.std.specs.Prelude.{◌↔◌}
use Rattle.std.specs.List.{AllPairs, Contains, count_by}
use Rattle.std.proofs.lemmas.List.Sorted.{IsPermutation-refl, IsPermutation-trans, IsPermutation-reverse, IsPermutation-sym, length_permutation, Contains-permutation}
use Rattle.std.proofs.lemmas.List.Elements.{Contains-append_right}
use Rattle.std.proofs.lemmas.List.{get_or-append-add}
use Rattle.std.proofs.lemmas.List.Sums.{sum_by-append}
use Rattle.std.proofs.Math.Seq.{get_or-append_seam}
use Rattle.tick_units.specs.declared.task.Task.{Task}
use Rattle.tick_units.specs.declared.task.Task.TheVariants.{Keep}
use Rattle.tick_units.specs.declared.seat.Seat.{Seat}
use Rattle.tick_units.specs.Orders.{IsOrder, IsSound, canonical_seats, is_same_seat, keep_seat, seat_of}
use Rattle.tick_units.proofs.Seats.{is_same_seat-Decides}
use Rattle.tick_units.proofs.Canonical.{length-canonical_seats, Contains-canonical_seats, Contains-keep_seat}
use Rattle.tick_units.proofs.Sound.{sound_from_order, absent_before}

-- the canonical order is one, and so is each order backwards
pub IsOrder-canonical_seats : (panels : ℕ) → IsOrder panels (canonical_seats panels)
IsOrder-canonical_seats panels = IsPermutation-refl (canonical_seats panels)

pub IsOrder-reverse : (panels : ℕ) (seats : List Seat) → IsOrder panels seats → IsOrder panels (reverse seats)
IsOrder-reverse panels seats order = IsPermutation-trans (canonical_seats panels) seats (reverse seats) order (IsPermutation-reverse seats)

-- eight seats a panel, and Keep
pub length-order : (panels : ℕ) (seats : List Seat) → IsOrder panels seats → length seats ≡ 8 * panels + 1
length-order panels seats order = length_permutation (canonical_seats panels) seats order ∙ length-canonical_seats panels

-- the seats of the site, and no others
pub Contains-order : (panels : ℕ) (seats : List Seat) (seat : Seat) → IsOrder panels seats
    → Contains seats seat ↔ Contains (canonical_seats panels) seat
Contains-order panels seats seat order = (
  Contains-permutation seats (canonical_seats panels) seat (IsPermutation-sym (canonical_seats panels) seats order),
  Contains-permutation (canonical_seats panels) seats seat order,
)

pub panel_in_order : (panels : ℕ) (seats : List Seat) (panel : ℕ) (task : Task) → IsOrder panels seats → task ≢ Keep → 1 ≤ panel → panel ≤ panels
    → Contains seats (seat_of panel task)
panel_in_order panels seats panel task order other low high =
    (Contains-order panels seats (seat_of panel task) order).1 (Contains-canonical_seats panels panel task other low high)

pub keep_in_order : (panels : ℕ) (seats : List Seat) → IsOrder panels seats → Contains seats keep_seat
keep_in_order panels seats order = (Contains-order panels seats keep_seat order).1 (Contains-keep_seat panels)

-- a seat that stands at one place and at no other
pub record StandsOnce (seats : List Seat) (seat : Seat) : Type 0 where
  pub earlier : List Seat
  pub later : List Seat
  pub splits : seats ≡ earlier ++ seat ∷ later
  pub not_earlier : ¬ Contains earlier seat
  pub not_later : ¬ Contains later seat

split_at : (seats : List Seat) (seat : Seat) (k : ℕ) → k < length seats → get_or seats k seat ≡ seat
    → seats ≡ take k seats ++ seat ∷ drop (suc k) seats
split_at seats seat k within is =
    sym (take-append-drop k seats) ∙ ap (λ xs. take k seats ++ xs) (drop-cons seats k seat within ∙ ap (λ s. s ∷ drop (suc k) seats) is)

absent_behind : (xs : List Seat) (s : Seat) (ys : List Seat) → AllPairs (λ a b. a ≢ b) (xs ++ s ∷ ys) → ¬ Contains ys s
absent_behind xs s ys apart there =
    apart (length xs) (length xs + suc there.0) s (omega arith) (omega (arith, there.1, length-append xs (s ∷ ys)))
    (get_or-append_seam xs s ys s ∙ sym there.2 ∙ sym (get_or-append-add xs (s ∷ ys) (suc there.0) s))

pub stands_once : (panels : ℕ) (seats : List Seat) (seat : Seat) → IsOrder panels seats → Contains (canonical_seats panels) seat
    → StandsOnce seats seat
stands_once panels seats seat order known =
    let there = (Contains-order panels seats seat order).1 known in
    let splits : seats ≡ take there.0 seats ++ seat ∷ drop (suc there.0) seats = split_at seats seat there.0 there.1 there.2 in
    let sound = sound_from_order panels seats order in
    record {
      earlier = take there.0 seats;
      later = drop (suc there.0) seats;
      splits = splits;
      not_earlier = absent_before panels (take there.0 seats) seat (drop (suc there.0) seats) (subst (IsSound panels) splits sound);
      not_later = absent_behind (take there.0 seats) seat (drop (suc there.0) seats) (subst (AllPairs (λ a b. a ≢ b)) splits sound.once);
    }

differs : (b : Bool) → (b ≡ true → ⊥) → b ≡ false
differs true h = absurd (h refl)
differs false h = refl

count_front : (seat x : Seat) (xs : List Seat)
    → count_by (is_same_seat seat) (x ∷ xs) ≡ cond (is_same_seat seat x) 1 0 + count_by (is_same_seat seat) xs
count_front seat x xs =
    sum_by-append (λ y. cond (is_same_seat seat y) 1 0) (x ∷ []) xs ∙ ap (λ n. n + count_by (is_same_seat seat) xs)
    (zero-add (cond (is_same_seat seat x) 1 0))

count_absent : (seat : Seat) (xs : List Seat) → ¬ Contains xs seat → count_by (is_same_seat seat) xs ≡ 0
count_absent seat [] absent = refl
count_absent seat (x ∷ xs) absent =
    let other : is_same_seat seat x ≡ false =
    differs (is_same_seat seat x) (λ e. absent (0, omega arith, sym ((is_same_seat-Decides seat x).0 e)))
    in
    count_front seat x xs ∙ ap (λ b. cond b 1 0 + count_by (is_same_seat seat) xs) other ∙ zero-add (count_by (is_same_seat seat) xs) ∙ count_absent
    seat xs (λ there. absent (Contains-append_right (x ∷ []) xs seat there))

-- each seat of the site is counted once in an order
pub count_once : (panels : ℕ) (seats : List Seat) (seat : Seat) → IsOrder panels seats → Contains (canonical_seats panels) seat
    → count_by (is_same_seat seat) seats ≡ 1
count_once panels seats seat order known =
    let once = stands_once panels seats seat order known in
    let first : count_by (is_same_seat seat) once.earlier ≡ 0 = count_absent seat once.earlier once.not_earlier in
    let last : count_by (is_same_seat seat) once.later ≡ 0 = count_absent seat once.later once.not_later in
    let here : count_by (is_same_seat seat) (seat ∷ once.later) ≡ 1 =
    count_front seat seat once.later ∙ ap (λ b. cond b 1 0 + count_by (is_same_seat seat) once.later) ((is_same_seat-Decides seat seat).1 refl) ∙ ap
    (λ n. 1 + n) last
    in
    ap (count_by (is_same_seat seat)) once.splits ∙ sum_by-append (λ y. cond (is_same_seat seat y) 1 0) once.earlier (seat ∷ once.later) ∙ ap
    (λ n. n + count_by (is_same_seat seat) (seat ∷ once.later)) first ∙ zero-add (count_by (is_same_seat seat) (seat ∷ once.later)) ∙ here
