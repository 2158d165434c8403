-- A set of seats kept as bits, and the seats of a site told by their task and panel.
use Rattle.std.proofs.Common.{◌≡◌, ◌≢◌, ◌+◌, ◌*◌, ◌≤◌, ◌<◌, ◌++◌, ◌==◌, ◌||◌, ℕ, Bool, true, false, not, List, []}
use Rattle.std.proofs.Common.{◌∷◌, length, slice_set, replicate, get_or, length-append, refl, sym}
use Rattle.std.proofs.Common.{◌∙◌, ap, arith, inl, inr}
use Rattle.std.specs.Bool.{Decides}
use Rattle.std.specs.Prelude.{◌⊎◌}
use Rattle.std.specs.List.{Contains}
use Rattle.std.proofs.Math.Dec.{leb}
use Rattle.std.proofs.lemmas.Bool.{and_from, eq-eqb, ne_eqb}
use Rattle.std.proofs.lemmas.Bool.Decides.{not_from_Decides, same_from_decides, Decides-eqb, leb_tells}
use Rattle.std.proofs.lemmas.List.Elements.{All-contains_itself, All-weaker}
use Rattle.std.proofs.lemmas.List.Folds.{list_any-append}
use Rattle.std.proofs.Common.{zero, suc, ◌&&◌, ◌%◌, ◌^◌, None, bit_and, w16}
use Rattle.std.specs.Int.{bit_at, bit_not}
use mir.Val.{bits}
use Rattle.std.proofs.lemmas.List.{get_or-replicate, get_or-set_other, get_or-set_same, length-set}
use Rattle.std.proofs.lemmas.Nat.Bits.{bit_at_clear_other, bit_at_clear_same}
use Rattle.tick_units.specs.declared.seat.Seat.{Seat}
use Rattle.tick_units.specs.declared.task.Task.{Task}
use Rattle.tick_units.specs.declared.task.Task.TheVariants.{Poll, Decide, Supply, Desk, Hold, Link, Effect, Drive, Keep}
use Rattle.tick_units.specs.Orders.{IsSound, canonical_seats, first_missing, is_among, is_same_seat, keep_seat, seat_of, task_number}
use Rattle.tick_units.specs.SeatSets.{HasAllBut, holds_seat}
use Rattle.tick_units.proofs.Canonical.{IsPanelSeat, Contains-canonical_seats-cases}
use Rattle.tick_units.proofs.Missing.{first_missing-all_there}
use Rattle.tick_units.proofs.Seats.{is_among-Decides, is_same_seat-Decides, same_seat}
use Rattle.tick_units.proofs.Sound.{length_sound, sound_push}

or_true : (b : Bool) → (b || true) ≡ true
or_true true = refl
or_true false = refl

or_false : (b : Bool) → (b || false) ≡ b
or_false true = refl
or_false false = refl

among_push : (s x : Seat) (xs : List Seat) → is_among s (xs ++ x ∷ []) ≡ (is_among s xs || is_same_seat s x)
among_push s x xs = list_any-append (is_same_seat s) xs (x ∷ []) ∙ ap (λ b. is_among s xs || b) (or_false (is_same_seat s x))

-- a seat of a panel is one of the site by its panel's number alone
decides_le : (a b : ℕ) → Decides (leb a b) (a ≤ b)
decides_le a b = told (leb_tells a b)
  where
    told : ((leb a b ≡ true) × (a ≤ b)) ⊎ ((leb a b ≡ false) × (b < a)) → Decides (leb a b) (a ≤ b)
    told (inl h) = (λ e. h.1, λ le. h.0)
    told (inr h) = (λ e. let no : true ≡ false = sym e ∙ h.0 in cc, λ le. absurd (omega (arith, h.1)))

isnt_keep : (s : Seat) → s.task ≢ Keep → s ≡ keep_seat → ⊥
isnt_keep s other same = other (ap (λ (x : Seat). x.task) same)

high_of : (n : ℕ) (s : Seat) → s.task ≢ Keep → IsPanelSeat n s ⊎ (s ≡ keep_seat) → (1 ≤ s.panel) × (s.panel ≤ n)
high_of n s other (inl h) = (h.low, h.high)
high_of n s other (inr same) = absurd (isnt_keep s other same)

zero_of : (n : ℕ) (s : Seat) → s.task ≡ Keep → IsPanelSeat n s ⊎ (s ≡ keep_seat) → s.panel ≡ 0
zero_of n s keep (inl h) = absurd (h.other keep)
zero_of n s keep (inr same) = ap (λ (x : Seat). x.panel) same

pub known_high : (n : ℕ) (s : Seat) → s.task ≢ Keep → 1 ≤ s.panel → leb s.panel n ≡ is_among s (canonical_seats n)
known_high n s other low =
    let known = is_among-Decides s (canonical_seats n) in
    let cases = Contains-canonical_seats-cases n s in
    same_from_decides (leb s.panel n) (is_among s (canonical_seats n)) (decides_le s.panel n) (
      λ e. (high_of n s other (cases.0 (known.0 e))).1,
      λ le. known.1 (cases.1 (inl (record { low = low; high = le; other = other }))),
    )

pub known_low : (n : ℕ) (s : Seat) → s.task ≢ Keep → s.panel < 1 → leb 1 s.panel ≡ is_among s (canonical_seats n)
known_low n s other low =
    let known = is_among-Decides s (canonical_seats n) in
    let cases = Contains-canonical_seats-cases n s in
    same_from_decides (leb 1 s.panel) (is_among s (canonical_seats n)) (decides_le 1 s.panel) (
      λ e. (high_of n s other (cases.0 (known.0 e))).0,
      λ le. absurd (omega (arith, le, low)),
    )

-- Keep is the task of panel 0 alone
pub known_keep : (n : ℕ) (s : Seat) → s.task ≡ Keep → (s.panel == 0) ≡ is_among s (canonical_seats n)
known_keep n s keep =
    let known = is_among-Decides s (canonical_seats n) in
    let cases = Contains-canonical_seats-cases n s in
    same_from_decides (s.panel == 0) (is_among s (canonical_seats n)) (Decides-eqb s.panel 0) (
      λ e. zero_of n s keep (cases.0 (known.0 e)),
      λ none. known.1 (cases.1 (inr (same_seat s keep_seat keep none))),
    )

few_tasks : (t : Task) → task_number t ≤ 8
few_tasks Poll = omega arith
few_tasks Decide = omega arith
few_tasks Supply = omega arith
few_tasks Desk = omega arith
few_tasks Hold = omega arith
few_tasks Link = omega arith
few_tasks Effect = omega arith
few_tasks Drive = omega arith
few_tasks Keep = omega arith

other_task : (a b : Seat) → is_same_seat a b ≡ false → task_number a.task ≡ task_number b.task → (a.panel == b.panel) ≡ true → ⊥
other_task a b other task panel =
    let h : true ≡ false = sym (and_from (task_number a.task == task_number b.task) (a.panel == b.panel) (eq-eqb (task_number a.task) (task_number b.task) task) panel) ∙ other in cc

-- the tasks of a set of all seats, by panels
abbrev pub all_tasks : List ℕ
all_tasks = 256 ∷ replicate 8 255

keep_bit : (panel : ℕ) → panel ≤ 8 → holds_seat all_tasks (seat_of panel Keep) ≡ (panel == 0)
keep_bit zero few = refl
keep_bit (suc n) few =
    ap (λ m. bit_at m 8 == 1) (get_or-replicate 8 n 255 0 (omega arith)) ∙ sym (ne_eqb (suc n) 0 (λ e. cc))

task_bit : (panels panel : ℕ) (t : Task) → t ≢ Keep → bit_at 256 (task_number t) ≡ 0 → bit_at 255 (task_number t) ≡ 1 → panels ≤ 8
    → panel ≤ panels → holds_seat all_tasks (seat_of panel t) ≡ is_among (seat_of panel t) (canonical_seats panels)
task_bit panels zero t other low high few within = ap (λ b. b == 1) low ∙ known_low panels (seat_of zero t) other (omega arith)
task_bit panels (suc n) t other low high few within =
    ap (λ m. bit_at m (task_number t) == 1) (get_or-replicate 8 n 255 0 (omega arith))
    ∙ ap (λ b. b == 1) high
    ∙ sym ((decides_le (suc n) panels).1 within)
    ∙ known_high panels (seat_of (suc n) t) other (omega arith)

known_bit : (panels panel : ℕ) (t : Task) → panels ≤ 8 → panel ≤ panels
    → holds_seat all_tasks (seat_of panel t) ≡ is_among (seat_of panel t) (canonical_seats panels)
known_bit panels panel Poll = task_bit panels panel Poll (λ e. cc) refl refl
known_bit panels panel Decide = task_bit panels panel Decide (λ e. cc) refl refl
known_bit panels panel Supply = task_bit panels panel Supply (λ e. cc) refl refl
known_bit panels panel Desk = task_bit panels panel Desk (λ e. cc) refl refl
known_bit panels panel Hold = task_bit panels panel Hold (λ e. cc) refl refl
known_bit panels panel Link = task_bit panels panel Link (λ e. cc) refl refl
known_bit panels panel Effect = task_bit panels panel Effect (λ e. cc) refl refl
known_bit panels panel Drive = task_bit panels panel Drive (λ e. cc) refl refl
known_bit panels panel Keep = λ few within. keep_bit panel (omega arith) ∙ known_keep panels (seat_of panel Keep) refl

and_true : (b : Bool) → b ≡ (b && true)
and_true true = refl
and_true false = refl

and_false : (b : Bool) → false ≡ (b && false)
and_false true = refl
and_false false = refl

-- no seat is taken out
pub has_all : (panels : ℕ) → panels ≤ 8 → HasAllBut panels [] (record { tasks = all_tasks })
has_all panels few =
    record {
      wide = refl;
      each = λ s within. known_bit panels s.panel s.task few within ∙ and_true (is_among s (canonical_seats panels));
    }

-- one seat is taken out
abbrev pub without : List ℕ → Seat → List ℕ
without tasks x = slice_set tasks x.panel (bit_and (get_or tasks x.panel 0) (bit_not w16 (1 * 2 ^ task_number x.task % 2 ^ bits w16)))

gone_bit : (tasks : List ℕ) (x : Seat) → x.panel < length tasks → holds_seat (without tasks x) x ≡ false
gone_bit tasks x within =
    ap (λ m. bit_at m (task_number x.task) == 1) (get_or-set_same tasks x.panel _ 0 within)
    ∙ ap (λ b. b == 1) (bit_at_clear_same w16 (get_or tasks x.panel 0) (task_number x.task) (omega (arith, few_tasks x.task)))

other_bit : (tasks : List ℕ) (x s : Seat) (same_panel : Bool) → (s.panel == x.panel) ≡ same_panel → is_same_seat s x ≡ false
    → x.panel < length tasks → holds_seat (without tasks x) s ≡ holds_seat tasks s
other_bit tasks x s false apart other within =
    ap (λ m. bit_at m (task_number s.task) == 1) (get_or-set_other tasks x.panel s.panel _ 0 (not_from_Decides (s.panel == x.panel) (Decides-eqb s.panel x.panel) apart))
other_bit tasks x s true same other within =
    let panel : s.panel ≡ x.panel = (Decides-eqb s.panel x.panel).0 same in
    let task : task_number s.task ≢ task_number x.task = λ e. other_task s x other e same in
    ap (λ p. bit_at (get_or (without tasks x) p 0) (task_number s.task) == 1) panel
    ∙ ap (λ m. bit_at m (task_number s.task) == 1) (get_or-set_same tasks x.panel _ 0 within)
    ∙ ap (λ b. b == 1)
    (bit_at_clear_other w16 (get_or tasks x.panel 0) (task_number x.task) (omega (arith, few_tasks x.task)) (task_number s.task)
    (omega (arith, few_tasks s.task)) task)
    ∙ ap (λ p. bit_at (get_or tasks p 0) (task_number s.task) == 1) (sym panel)

removed_at : (panels : ℕ) (tasks : List ℕ) (seats : List Seat) (x s : Seat) (b : Bool) → is_same_seat s x ≡ b → x.panel ≤ 8 → s.panel ≤ panels
    → HasAllBut panels seats (record { tasks = tasks })
    → holds_seat (without tasks x) s ≡ (is_among s (canonical_seats panels) && not (is_among s (seats ++ x ∷ [])))
removed_at panels tasks seats x s true is low within has =
    let wide = has.wide in
    let same : s ≡ x = (is_same_seat-Decides s x).0 is in
    ap (λ (y : Seat). holds_seat (without tasks x) y) same
    ∙ gone_bit tasks x (omega arith)
    ∙ and_false (is_among s (canonical_seats panels))
    ∙ ap (λ c. is_among s (canonical_seats panels) && not c)
    (sym (among_push s x seats ∙ ap (λ c. is_among s seats || c) is ∙ or_true (is_among s seats)))
removed_at panels tasks seats x s false is low within has =
    let wide = has.wide in
    other_bit tasks x s (s.panel == x.panel) refl is (omega arith)
    ∙ has.each s within
    ∙ ap (λ c. is_among s (canonical_seats panels) && not c)
    (sym (among_push s x seats ∙ ap (λ c. is_among s seats || c) is ∙ or_false (is_among s seats)))

pub removed : (panels : ℕ) (tasks : List ℕ) (seats : List Seat) (x : Seat) → x.panel ≤ 8 → HasAllBut panels seats (record { tasks = tasks })
    → HasAllBut panels (seats ++ x ∷ []) (record { tasks = without tasks x })
removed panels tasks seats x low has =
    record {
      wide = length-set tasks x.panel _ ∙ has.wide;
      each = λ s within. removed_at panels tasks seats x s (is_same_seat s x) refl low within has;
    }

-- as many sound seats as the site has are all of them
whole_step : (panels : ℕ) (seats : List Seat) → IsSound panels seats → length seats ≡ 8 * panels + 1 → (s : Seat)
    → Contains (canonical_seats panels) s → (b : Bool) → is_among s seats ≡ b → Contains seats s
whole_step panels seats sound full s known true is = (is_among-Decides s seats).0 is
whole_step panels seats sound full s known false is =
    let absent = not_from_Decides (is_among s seats) (is_among-Decides s seats) is in
    absurd (omega (arith, full, length_sound panels (seats ++ s ∷ []) (sound_push panels seats s sound known absent), length-append seats (s ∷ [])))

pub none_missing : (panels : ℕ) (seats : List Seat) → IsSound panels seats → length seats ≡ 8 * panels + 1
    → None ≡ first_missing (canonical_seats panels) seats
none_missing panels seats sound full =
    sym (first_missing-all_there (canonical_seats panels) seats (All-weaker (Contains (canonical_seats panels)) (Contains seats)
    (λ s known. whole_step panels seats sound full s known (is_among s seats) refl) (canonical_seats panels)
    (All-contains_itself (canonical_seats panels))))

-- what the answer of a set tells of a seat
pub there_from : (was known there : Bool) → was ≡ (known && not there) → was ≡ false → known ≡ true → there ≡ true
there_from was true true e f is = refl
there_from was true false e f is = sym f ∙ e
there_from was false there e f is = cc

pub known_absent : (was known there : Bool) → was ≡ (known && not there) → was ≡ true → (known ≡ true) × (there ≡ false)
known_absent was true true e f = let h : false ≡ true = sym e ∙ f in cc
known_absent was true false e f = (refl, refl)
known_absent was false there e f = let h : false ≡ true = sym e ∙ f in cc

pub panel_within : (panels : ℕ) (s : Seat) → is_among s (canonical_seats panels) ≡ true → s.panel ≤ panels
panel_within panels s is = within ((Contains-canonical_seats-cases panels s).0 ((is_among-Decides s (canonical_seats panels)).0 is))
  where
    within : IsPanelSeat panels s ⊎ (s ≡ keep_seat) → s.panel ≤ panels
    within (inl h) = h.high
    within (inr same) = omega (arith, ap (λ (x : Seat). x.panel) same)
