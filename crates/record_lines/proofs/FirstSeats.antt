-- The common forms of the first seat of a text: a letter and a digit before a space.
use Rattle.std.proofs.Common.{◌≡◌, ◌∙◌, ◌-◌, ◌≤◌, ◌^◌, ℕ, true, false, List, [], ◌∷◌, Option, Some, None, is_some, length, get_or, drop, refl, sym, ap, arith}
use Rattle.std.specs.Prelude.{◌==◌, codes, bytes_eq, nat_lt, nat_le}
use Rattle.std.proofs.lemmas.Bool.{and_from, and_parts, leb-true, lt-ltb, ne_eqb, or_right}
use Rattle.site_types.specs.Fields.{before_space}
use Rattle.site_types.specs.Numbers.{is_digit, all_digits, number_of, value_after}
use Rattle.site_types.proofs.Spelling.{begun}
use Rattle.tick_units.specs.Orders.{seat_of as seat_at}
use Rattle.tick_units.specs.declared.task.Task.{Task}
use Rattle.record_lines.specs.Seats.{is_numbered, panel_of, seat_of, seat_with}
use Rattle.record_lines.specs.Words.{task_of}

-- a digit alone is a number
one_digit : (digit : ℕ) → is_digit digit ≡ true → number_of (digit ∷ []) ≡ Some (digit - 48)
one_digit digit is =
    let high = leb-true digit 57 (and_parts (nat_le 48 digit) (nat_le digit 57) is).1 in
    let digits : all_digits (digit ∷ []) ≡ true = and_from (is_digit digit) true is refl in
    let value : value_after 0 (digit ∷ []) ≡ digit - 48 = omega arith in
    let small : nat_lt (digit - 48) (2 ^ 64) ≡ true = lt-ltb (digit - 48) (2 ^ 64) (omega (arith, high)) in
    sym (begun (digit ∷ []) refl) ∙ rw (digits, value, small) refl

-- the first three bytes of a text
three : (text : List ℕ) → 3 ≤ length text → get_or text 2 0 ≡ 32 → text ≡ get_or text 0 0 ∷ get_or text 1 0 ∷ 32 ∷ drop 3 text
three [] long is = absurd (omega (arith, long))
three (a ∷ []) long is = absurd (omega (arith, long))
three (a ∷ b ∷ []) long is = absurd (omega (arith, long))
three (a ∷ b ∷ c ∷ rest) long is = ap (λ byte. a ∷ b ∷ byte ∷ rest) is

no_space : (letter : ℕ) (task : Task) → task_of letter ≡ Some task → (letter == 32) ≡ false
no_space letter task known = ne_eqb letter 32 (λ e. let none : ◌≡◌ {A = Option Task} None (Some task) = ap task_of (sym e) ∙ known in cc)

-- a task's letter and a digit are a field before a space
front_is : (text : List ℕ) (task : Task) → 3 ≤ length text → get_or text 2 0 ≡ 32 → task_of (get_or text 0 0) ≡ Some task
    → is_digit (get_or text 1 0) ≡ true → before_space text ≡ get_or text 0 0 ∷ get_or text 1 0 ∷ []
front_is text task long is known digit =
    let letter_no = no_space (get_or text 0 0) task known in
    let low = leb-true 48 (get_or text 1 0) (and_parts (nat_le 48 (get_or text 1 0)) (nat_le (get_or text 1 0) 57) digit).0 in
    let digit_no : (get_or text 1 0 == 32) ≡ false = ne_eqb (get_or text 1 0) 32 (λ e. omega (arith, e, low)) in
    ap before_space (three text long is) ∙ rw (letter_no, digit_no) refl

pub seat_here : (text : List ℕ) (task : Task) → 3 ≤ length text → get_or text 2 0 ≡ 32 → task_of (get_or text 0 0) ≡ Some task
    → is_digit (get_or text 1 0) ≡ true → seat_at (get_or text 1 0 - 48) task ≡ seat_of (before_space text)
seat_here text task long is known digit =
    let letter = get_or text 0 0 in
    let byte = get_or text 1 0 in
    let high = leb-true byte 57 (and_parts (nat_le 48 byte) (nat_le byte 57) digit).1 in
    let panel : panel_of (Some (byte - 48)) ≡ byte - 48 = omega (arith, high) in
    sym
    (ap seat_of (front_is text task long is known digit) ∙ ap (λ t. seat_with t (byte ∷ [])) known ∙ ap (λ n. seat_at (panel_of n) task) (one_digit byte digit)
    ∙ ap (λ p. seat_at p task) panel)

pub numbered_here : (text : List ℕ) (task : Task) → 3 ≤ length text → get_or text 2 0 ≡ 32 → task_of (get_or text 0 0) ≡ Some task
    → is_digit (get_or text 1 0) ≡ true → true ≡ is_numbered (before_space text)
numbered_here text task long is known digit =
    let field = get_or text 0 0 ∷ get_or text 1 0 ∷ [] in
    let number = get_or text 1 0 ∷ [] in
    sym (ap is_numbered (front_is text task long is known digit) ∙ or_right (bytes_eq field (codes "k")) (is_some (number_of number)) (ap is_some (one_digit (get_or text 1 0) digit)))
