-- The canonical order.
use Rattle.std.proofs.Common.{◌≡◌, ◌≢◌, ◌+◌, ◌*◌, ◌≤◌, ◌<◌, ◌++◌, ◌==◌, ℕ, zero, suc, false, List, [], ◌∷◌, length, refl, sym, length-append, arith, inl, inr, lit<, rules, subst}
use Rattle.std.specs.Prelude.{◌⊎◌, ◌↔◌}
use Rattle.std.specs.List.{All, AllByRecursion, Contains, IsDistinct}
use Rattle.std.proofs.lemmas.Bool.{and_right, ne_eqb, cases_lt}
use Rattle.std.proofs.lemmas.List.Elements.{All-from_recursion, recursion_from_All, All-append, All-weaker, All-nil}
use Rattle.std.proofs.lemmas.List.Elements.{All-head, All-tail, All-contains, Contains-push_cases}
use Rattle.std.proofs.lemmas.List.Elements.{Contains-append_left, Contains-append_right, Contains-push}
use Rattle.std.proofs.lemmas.Map.Keys.{IsDistinct-cons, IsDistinct-head, IsDistinct-tail, IsDistinct-from_apart}
use Rattle.tick_units.specs.declared.seat.Seat.{Seat}
use Rattle.tick_units.specs.declared.task.Task.{Task}
use Rattle.tick_units.specs.declared.task.Task.TheVariants.{Poll, Decide, Supply, Desk, Hold, Link, Effect, Drive, Keep}
use Rattle.tick_units.specs.Orders.{seat_of, seats_of_panels, panel_seats, canonical_seats, keep_seat, is_same_seat, task_number}

pub length-seats_of_panels : (panels : ℕ) → length (seats_of_panels panels) ≡ 8 * panels
length-seats_of_panels zero = refl
length-seats_of_panels (suc n) = omega (arith, length-append (seats_of_panels n) (panel_seats (suc n)), length-seats_of_panels n)

pub length-canonical_seats : (panels : ℕ) → length (canonical_seats panels) ≡ 8 * panels + 1
length-canonical_seats panels = omega (arith, length-append (seats_of_panels panels) (keep_seat ∷ []), length-seats_of_panels panels)

all_append : (P : Seat → Type 0) (xs ys : List Seat) → AllByRecursion P xs → AllByRecursion P ys → AllByRecursion P (xs ++ ys)
all_append P [] ys p q = q
all_append P (x ∷ xs) ys p q = (p.0, all_append P xs ys p.1 q)

-- two lists without common seats
apart_append : (xs ys : List Seat) → IsDistinct is_same_seat xs → IsDistinct is_same_seat ys
    → All (λ x. AllByRecursion (λ y. is_same_seat x y ≡ false) ys) xs → IsDistinct is_same_seat (xs ++ ys)
apart_append [] ys p q r = q
apart_append (x ∷ xs) ys p q r =
    IsDistinct-cons is_same_seat x (xs ++ ys)
    (all_append (λ y. is_same_seat x y ≡ false) xs ys (IsDistinct-head is_same_seat x xs p)
    (All-head (λ z. AllByRecursion (λ y. is_same_seat z y ≡ false) ys) x xs r))
    (apart_append xs ys (IsDistinct-tail is_same_seat x xs p) q (All-tail (λ z. AllByRecursion (λ y. is_same_seat z y ≡ false) ys) x xs r))

other_panel : (a b : Seat) → (a.panel ≡ b.panel → ⊥) → is_same_seat a b ≡ false
other_panel a b h = and_right (task_number a.task == task_number b.task) (a.panel == b.panel) (ne_eqb a.panel b.panel h)

-- the seats of a panel have its number
pub panel-panel_seats : (panel : ℕ) → All (λ (s : Seat). s.panel ≡ panel) (panel_seats panel)
panel-panel_seats panel =
    All-from_recursion (λ (s : Seat). s.panel ≡ panel) (panel_seats panel) (refl, (refl, (refl, (refl, (refl, (refl, (refl, (refl, tt))))))))

IsDistinct-panel_seats : (panel : ℕ) → IsDistinct is_same_seat (panel_seats panel)
unfolding IsDistinct
IsDistinct-panel_seats panel = search rules

-- the seats of panels 1 to n
pub panel-seats_of_panels : (n : ℕ) → All (λ (s : Seat). (1 ≤ s.panel) × (s.panel ≤ n)) (seats_of_panels n)
panel-seats_of_panels zero = All-nil (λ (s : Seat). (1 ≤ s.panel) × (s.panel ≤ zero))
panel-seats_of_panels (suc n) =
    All-append (λ (s : Seat). (1 ≤ s.panel) × (s.panel ≤ suc n)) (seats_of_panels n) (panel_seats (suc n))
    (All-weaker (λ (s : Seat). (1 ≤ s.panel) × (s.panel ≤ n)) (λ (s : Seat). (1 ≤ s.panel) × (s.panel ≤ suc n)) (λ s h. (h.0, omega arith))
    (seats_of_panels n) (panel-seats_of_panels n)) (All-weaker (λ (s : Seat). s.panel ≡ suc n) (λ (s : Seat). (1 ≤ s.panel) × (s.panel ≤ suc n))
    (λ s h. (omega arith, omega arith)) (panel_seats (suc n)) (panel-panel_seats (suc n)))

apart_from_panel : (n : ℕ) (x : Seat) → x.panel ≤ n → AllByRecursion (λ y. is_same_seat x y ≡ false) (panel_seats (suc n))
apart_from_panel n x h =
    recursion_from_All (λ y. is_same_seat x y ≡ false) (panel_seats (suc n))
    (All-weaker (λ (s : Seat). s.panel ≡ suc n) (λ y. is_same_seat x y ≡ false) (λ s e. other_panel x s (λ same. omega arith))
    (panel_seats (suc n)) (panel-panel_seats (suc n)))

IsDistinct-seats_of_panels : (n : ℕ) → IsDistinct is_same_seat (seats_of_panels n)
IsDistinct-seats_of_panels zero = IsDistinct-from_apart is_same_seat [] (λ i j d l m. absurd (omega arith))
IsDistinct-seats_of_panels (suc n) =
    apart_append (seats_of_panels n) (panel_seats (suc n)) (IsDistinct-seats_of_panels n) (IsDistinct-panel_seats (suc n))
    (All-weaker (λ (s : Seat). (1 ≤ s.panel) × (s.panel ≤ n)) (λ x. AllByRecursion (λ y. is_same_seat x y ≡ false) (panel_seats (suc n)))
    (λ s h. apart_from_panel n s h.1) (seats_of_panels n) (panel-seats_of_panels n))

one_seat : (s : Seat) → IsDistinct is_same_seat (s ∷ [])
one_seat s = IsDistinct-cons is_same_seat s [] tt (IsDistinct-from_apart is_same_seat [] (λ i j d l m. absurd (omega arith)))

-- no seat stands twice in the canonical order
pub IsDistinct-canonical_seats : (n : ℕ) → IsDistinct is_same_seat (canonical_seats n)
IsDistinct-canonical_seats n =
    apart_append (seats_of_panels n) (keep_seat ∷ []) (IsDistinct-seats_of_panels n) (one_seat keep_seat)
    (All-weaker (λ (s : Seat). (1 ≤ s.panel) × (s.panel ≤ n)) (λ x. AllByRecursion (λ y. is_same_seat x y ≡ false) (keep_seat ∷ []))
    (λ s h. (other_panel s keep_seat (λ same. omega arith), tt)) (seats_of_panels n) (panel-seats_of_panels n))

-- the seats that are there
in_panel : (panel : ℕ) (task : Task) → task ≢ Keep → Contains (panel_seats panel) (seat_of panel task)
in_panel panel Poll h = (0, lit< tt, refl)
in_panel panel Decide h = (1, lit< tt, refl)
in_panel panel Supply h = (2, lit< tt, refl)
in_panel panel Desk h = (3, lit< tt, refl)
in_panel panel Hold h = (4, lit< tt, refl)
in_panel panel Link h = (5, lit< tt, refl)
in_panel panel Effect h = (6, lit< tt, refl)
in_panel panel Drive h = (7, lit< tt, refl)
in_panel panel Keep h = absurd (h refl)

in_panels-step : (n panel : ℕ) (task : Task) → task ≢ Keep → panel ≤ suc n → (panel ≤ n → Contains (seats_of_panels n) (seat_of panel task))
    → (panel < suc n) ⊎ (suc n ≤ panel) → Contains (seats_of_panels (suc n)) (seat_of panel task)
in_panels-step n panel task h le rest (inl lt) =
    Contains-append_left (seats_of_panels n) (panel_seats (suc n)) (seat_of panel task) (rest (omega arith))
in_panels-step n panel task h le rest (inr ge) =
    let same : suc n ≡ panel = omega arith in
    Contains-append_right (seats_of_panels n) (panel_seats (suc n)) (seat_of panel task)
    (subst (λ k. Contains (panel_seats k) (seat_of panel task)) (sym same) (in_panel panel task h))

in_panels : (n panel : ℕ) (task : Task) → task ≢ Keep → 1 ≤ panel → panel ≤ n → Contains (seats_of_panels n) (seat_of panel task)
in_panels zero panel task h low high = absurd (omega arith)
in_panels (suc n) panel task h low high = in_panels-step n panel task h high (λ le. in_panels n panel task h low le) (cases_lt panel (suc n))

-- each task but Keep has a seat at each panel
pub Contains-canonical_seats : (n panel : ℕ) (task : Task) → task ≢ Keep → 1 ≤ panel → panel ≤ n → Contains (canonical_seats n) (seat_of panel task)
Contains-canonical_seats n panel task h low high =
    Contains-append_left (seats_of_panels n) (keep_seat ∷ []) (seat_of panel task) (in_panels n panel task h low high)

-- Keep has one
pub Contains-keep_seat : (n : ℕ) → Contains (canonical_seats n) keep_seat
Contains-keep_seat n = Contains-push (seats_of_panels n) keep_seat

seat_there : (n : ℕ) (s : Seat) → s ≡ keep_seat → Contains (canonical_seats n) s
seat_there n s same = subst (Contains (canonical_seats n)) (sym same) (Contains-keep_seat n)

-- a seat of panel 0 is Keep's, and Keep has no other
pub record IsPanelSeat (n : ℕ) (s : Seat) : Type 0 where
  pub low : 1 ≤ s.panel
  pub high : s.panel ≤ n
  pub other : s.task ≢ Keep

task-panel_seats : (panel : ℕ) → All (λ (s : Seat). s.task ≢ Keep) (panel_seats panel)
task-panel_seats panel =
    All-from_recursion (λ (s : Seat). s.task ≢ Keep) (panel_seats panel)
    (λ e. cc, (λ e. cc, (λ e. cc, (λ e. cc, (λ e. cc, (λ e. cc, (λ e. cc, (λ e. cc, tt))))))))

task-seats_of_panels : (n : ℕ) → All (λ (s : Seat). s.task ≢ Keep) (seats_of_panels n)
task-seats_of_panels zero = All-nil (λ (s : Seat). s.task ≢ Keep)
task-seats_of_panels (suc n) =
    All-append (λ (s : Seat). s.task ≢ Keep) (seats_of_panels n) (panel_seats (suc n)) (task-seats_of_panels n) (task-panel_seats (suc n))

canonical_cases : (n : ℕ) (s : Seat) → Contains (seats_of_panels n) s ⊎ (keep_seat ≡ s) → IsPanelSeat n s ⊎ (s ≡ keep_seat)
canonical_cases n s (inl there) =
    let h = All-contains (λ (s : Seat). (1 ≤ s.panel) × (s.panel ≤ n)) (seats_of_panels n) s (panel-seats_of_panels n) there in
    inl (record {
      low = h.0;
      high = h.1;
      other = All-contains (λ (s : Seat). s.task ≢ Keep) (seats_of_panels n) s (task-seats_of_panels n) there;
    })
canonical_cases n s (inr same) = inr (sym same)

known_from_cases : (n : ℕ) (s : Seat) → IsPanelSeat n s ⊎ (s ≡ keep_seat) → Contains (canonical_seats n) s
known_from_cases n s (inl h) = Contains-canonical_seats n s.panel s.task h.other h.low h.high
known_from_cases n s (inr same) = seat_there n s same

pub Contains-canonical_seats-cases : (n : ℕ) (s : Seat) → Contains (canonical_seats n) s ↔ (IsPanelSeat n s ⊎ (s ≡ keep_seat))
Contains-canonical_seats-cases n s = (
  λ there. canonical_cases n s (Contains-push_cases (seats_of_panels n) keep_seat s there),
  known_from_cases n s,
)
