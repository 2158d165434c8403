-- What is read back of a written cell.
use Rattle.std.proofs.Common.{inl, inr, ◌≡◌, ◌⊎◌, ◌+◌, ◌*◌, ◌<◌, ◌≤◌, ◌==◌, ℕ, zero, suc, Bool, true, false, List, []}
use Rattle.std.proofs.Common.{◌∷◌, slice_index, get_or, take, length, refl, sym, ap, ◌∙◌, subst, arith, zero-add}
use Rattle.std.specs.Prelude.{None, nat_le}
use Rattle.std.proofs.lemmas.Bool.Decides.{leb_tells, nat_tests}
use Rattle.std.proofs.lemmas.List.{take_more}
use mir.Val.{bool_byte}
use Rattle.site_types.specs.declared.change.Change.{Change}
use Rattle.site_types.specs.declared.change.Change.TheVariants.{Point, Zone, Output, Delays, Count, Clear, Test}
use Rattle.site_types.specs.declared.retained.Retained.{Retained}
use Rattle.site_types.specs.Changes.{CanApply, changed, changed_by}
use Rattle.site_types.proofs.Changes.{changed_by-append}
use Rattle.retained_journal.specs.Batches.{CanKeep, CanKeepAll, CanMakeAll, IsBatch}
use Rattle.retained_journal.specs.Fields.{Agrees, is_within, number_at}
use Rattle.retained_journal.specs.Cells.{cell_count, change_at, changes_at, is_in_form, wrong_byte, wrong_in_cell, wrong_in_change}
use Rattle.retained_journal.proofs.CellAgreement.{change_at-agrees, changes_at-agree, moved, wrong_in_change-moved}
use Rattle.retained_journal.proofs.Finding.{none_below}
use Rattle.retained_journal.proofs.Forms.{changes_at-more, wrong_change}
use Rattle.retained_journal.specs.Places.{most_changes}

pub keep_at : (wide : Bool) (batch : List Change) (k : ℕ) (d : Change) → CanKeepAll wide batch → k < length batch → CanKeep wide (get_or batch k d)
keep_at wide [] k d all less = absurd (omega (arith, less))
keep_at wide (x ∷ rest) zero d all less = all.0
keep_at wide (x ∷ rest) (suc k) d all less = keep_at wide rest k d all.1 (omega (arith, less))

pub make_at : (batch : List Change) (k : ℕ) (d : Change) → CanMakeAll batch → k < length batch → CanApply (get_or batch k d)
make_at [] k d all less = absurd (omega (arith, less))
make_at (x ∷ rest) zero d all less = all.0
make_at (x ∷ rest) (suc k) d all less = make_at rest k d all.1 (omega (arith, less))

pub can_make : (wide : Bool) (batch : List Change) → CanKeepAll wide batch → CanMakeAll batch
can_make wide [] all = tt
can_make wide (x ∷ rest) all = (all.0.0, can_make wide rest all.1)

is_on : (on : Bool) → (bool_byte on == 1) ≡ on
is_on true = refl
is_on false = refl

within_is : (least most byte : ℕ) → least ≤ byte → byte ≤ most → is_within least most byte ≡ true
within_is least most byte low high =
    let a : nat_le least byte ≡ true = grind (arith, nat_tests) in
    let b : nat_le byte most ≡ true = grind (arith, nat_tests) in
    rw (a, b) refl

-- each of eight bytes is in its form
eight : (wide : Bool) (file : List ℕ) → ((i : ℕ) → i < 8 → is_in_form wide (slice_index file 0) i (slice_index file i) ≡ true)
    → wrong_in_change wide 0 file ≡ None
eight wide file each =
    none_below (wrong_byte wide 0 file) 8
    (λ i less. right i (subst (λ (k : ℕ). is_in_form wide (slice_index file 0) i (slice_index file k) ≡ true) (sym (zero-add i)) (each i less)))
  where
    right : (i : ℕ) → is_in_form wide (slice_index file 0) i (slice_index file (0 + i)) ≡ true → wrong_byte wide 0 file i ≡ None
    right i is = rw is refl

-- a test of each number below eight
pub below_eight : (P : ℕ → Type 0) → P 0 → P 1 → P 2 → P 3 → P 4 → P 5 → P 6 → P 7 → (i : ℕ) → i < 8 → P i
below_eight P a b c d e f g h zero less = a
below_eight P a b c d e f g h (suc zero) less = b
below_eight P a b c d e f g h (suc (suc zero)) less = c
below_eight P a b c d e f g h (suc (suc (suc zero))) less = d
below_eight P a b c d e f g h (suc (suc (suc (suc zero)))) less = e
below_eight P a b c d e f g h (suc (suc (suc (suc (suc zero))))) less = f
below_eight P a b c d e f g h (suc (suc (suc (suc (suc (suc zero)))))) less = g
below_eight P a b c d e f g h (suc (suc (suc (suc (suc (suc (suc zero))))))) less = h
below_eight P a b c d e f g h (suc (suc (suc (suc (suc (suc (suc (suc i)))))))) less = absurd (omega (arith, less))

abbrev pub setting_bytes : ℕ → ℕ → ℕ → ℕ → Bool → List ℕ
setting_bytes kind panel line number on = kind ∷ panel ∷ line ∷ number ∷ 0 ∷ 0 ∷ 0 ∷ bool_byte on ∷ []

abbrev ByteOf : Bool → ℕ → ℕ → ℕ → ℕ → Bool → ℕ → Type 0
ByteOf wide kind panel line number on i = is_in_form wide kind i (slice_index (setting_bytes kind panel line number on) i) ≡ true

pub reads_point : (panel line address : ℕ) (off : Bool) → change_at 0 (setting_bytes 1 panel line address off) ≡ Point panel line address off
unfolding change_at
reads_point panel line address off = ap (Point panel line address) (is_on off)

pub reads_zone : (panel number : ℕ) (off : Bool) → change_at 0 (setting_bytes 2 panel 0 number off) ≡ Zone panel number off
unfolding change_at
reads_zone panel number off = ap (Zone panel number) (is_on off)

pub reads_output : (panel number : ℕ) (off : Bool) → change_at 0 (setting_bytes 3 panel 0 number off) ≡ Output panel number off
unfolding change_at
reads_output panel number off = ap (Output panel number) (is_on off)

pub reads_delays : (panel : ℕ) (off : Bool) → change_at 0 (setting_bytes 4 panel 0 0 off) ≡ Delays panel off
unfolding change_at
reads_delays panel off = ap (Delays panel) (is_on off)

pub reads_clear : (panel : ℕ) → change_at 0 (setting_bytes 6 panel 0 0 false) ≡ Clear panel
unfolding change_at
reads_clear panel = refl

pub reads_test : (panel number : ℕ) (on : Bool) → change_at 0 (setting_bytes 7 panel 0 number on) ≡ Test panel number on
unfolding change_at
reads_test panel number on = ap (Test panel number) (is_on on)

pub reads_count : (file : List ℕ) (panel entries : ℕ) → slice_index file 0 ≡ 5 → slice_index file 1 ≡ panel → number_at 4 4 file ≡ entries
    → change_at 0 file ≡ Count panel entries
unfolding change_at
reads_count file panel entries kind p e = rw (kind, p, e) refl

pub form_point : (wide : Bool) (panel line address : ℕ) (off : Bool) → CanKeep wide (Point panel line address off)
    → wrong_in_change wide 0 (setting_bytes 1 panel line address off) ≡ None
unfolding is_in_form
form_point true panel line address off can =
    eight true (setting_bytes 1 panel line address off)
    (below_eight (ByteOf true 1 panel line address off) refl (within_is 1 8 panel can.0.0.0 can.0.0.1) (within_is 1 4 line can.0.1.0 can.0.1.1)
    (within_is 1 192 address can.0.1.2 can.1) refl refl refl (on_byte off))
  where
    on_byte : (b : Bool) → ByteOf true 1 panel line address b 7
    on_byte true = refl
    on_byte false = refl
form_point false panel line address off can =
    eight false (setting_bytes 1 panel line address off)
    (below_eight (ByteOf false 1 panel line address off) refl (within_is 1 8 panel can.0.0.0 can.0.0.1) (within_is 1 4 line can.0.1.0 can.0.1.1)
    (within_is 1 96 address can.0.1.2 can.1) refl refl refl (on_byte off))
  where
    on_byte : (b : Bool) → ByteOf false 1 panel line address b 7
    on_byte true = refl
    on_byte false = refl

pub form_zone : (wide : Bool) (panel number : ℕ) (off : Bool) → CanKeep wide (Zone panel number off)
    → wrong_in_change wide 0 (setting_bytes 2 panel 0 number off) ≡ None
unfolding is_in_form
form_zone wide panel number off can =
    eight wide (setting_bytes 2 panel 0 number off) (below_eight (ByteOf wide 2 panel 0 number off) refl (within_is 1 8 panel can.0.0.0 can.0.0.1)
    refl (within_is 1 32 number can.0.1.0 can.0.1.1) refl refl refl (on_byte off))
  where
    on_byte : (b : Bool) → ByteOf wide 2 panel 0 number b 7
    on_byte true = refl
    on_byte false = refl

pub form_output : (wide : Bool) (panel number : ℕ) (off : Bool) → CanKeep wide (Output panel number off)
    → wrong_in_change wide 0 (setting_bytes 3 panel 0 number off) ≡ None
unfolding is_in_form
form_output wide panel number off can =
    eight wide (setting_bytes 3 panel 0 number off) (below_eight (ByteOf wide 3 panel 0 number off) refl (within_is 1 8 panel can.0.0.0 can.0.0.1)
    refl (within_is 1 32 number can.0.1.0 can.0.1.1) refl refl refl (on_byte off))
  where
    on_byte : (b : Bool) → ByteOf wide 3 panel 0 number b 7
    on_byte true = refl
    on_byte false = refl

pub form_delays : (wide : Bool) (panel : ℕ) (off : Bool) → CanKeep wide (Delays panel off)
    → wrong_in_change wide 0 (setting_bytes 4 panel 0 0 off) ≡ None
unfolding is_in_form
form_delays wide panel off can =
    eight wide (setting_bytes 4 panel 0 0 off) (below_eight (ByteOf wide 4 panel 0 0 off) refl (within_is 1 8 panel can.0.0 can.0.1) refl refl refl
    refl refl (on_byte off))
  where
    on_byte : (b : Bool) → ByteOf wide 4 panel 0 0 b 7
    on_byte true = refl
    on_byte false = refl

pub form_clear : (wide : Bool) (panel : ℕ) → CanKeep wide (Clear panel) → wrong_in_change wide 0 (setting_bytes 6 panel 0 0 false) ≡ None
unfolding is_in_form
form_clear wide panel can =
    eight wide (setting_bytes 6 panel 0 0 false) (below_eight (ByteOf wide 6 panel 0 0 false) refl (within_is 1 8 panel can.0.0 can.0.1) refl refl
    refl refl refl refl)

pub form_test : (wide : Bool) (panel number : ℕ) (on : Bool) → CanKeep wide (Test panel number on)
    → wrong_in_change wide 0 (setting_bytes 7 panel 0 number on) ≡ None
unfolding is_in_form
form_test wide panel number on can =
    eight wide (setting_bytes 7 panel 0 number on) (below_eight (ByteOf wide 7 panel 0 number on) refl (within_is 1 8 panel can.0.0.0 can.0.0.1) refl
    (within_is 1 32 number can.0.1.0 can.0.1.1) refl refl refl (on_byte on))
  where
    on_byte : (b : Bool) → ByteOf wide 7 panel 0 number b 7
    on_byte true = refl
    on_byte false = refl

pub form_count : (wide : Bool) (file : List ℕ) (panel entries : ℕ) → slice_index file 0 ≡ 5 → slice_index file 1 ≡ panel → slice_index file 2 ≡ 0
    → slice_index file 3 ≡ 0 → CanKeep wide (Count panel entries) → wrong_in_change wide 0 file ≡ None
unfolding is_in_form
form_count wide file panel entries kind p line number can =
    eight wide file (λ i less. subst (λ (k : ℕ). is_in_form wide k i (slice_index file i) ≡ true) (sym kind)
    (below_eight (λ k. is_in_form wide 5 k (slice_index file k) ≡ true)
    (rw kind refl) (rw p (within_is 1 8 panel can.0.0 can.0.1)) (rw line refl) (rw number refl) refl refl refl refl i less))

-- one change more was written
pub written_more : (bytes old piece : List ℕ) (batch : List Change) (k : ℕ) (d : Change) → k < length batch → Agrees 8 bytes (10 + 8 * k) piece 0
    → change_at 0 piece ≡ get_or batch k d
    → ((i : ℕ) → (i < 10 + 8 * k) ⊎ (10 + 8 * k + 8 ≤ i) → slice_index bytes i ≡ slice_index old i) → changes_at k 10 old ≡ take k batch
    → changes_at (k + 1) 10 bytes ≡ take (k + 1) batch
written_more bytes old piece batch k d less there reads outside before =
    let same = changes_at-agree k bytes 10 old 10 (record { same = λ i few. outside (10 + i) (inl (omega (arith, few))) }) in
    let here = change_at-agrees bytes (10 + 8 * k) piece 0 there ∙ reads in
    changes_at-more k 10 bytes ∙ rw (same, before, here) (sym (take_more batch k d less))

pub form_more : (wide : Bool) (bytes old piece : List ℕ) (k : ℕ) → Agrees 8 bytes (10 + 8 * k) piece 0 → wrong_in_change wide 0 piece ≡ None
    → ((i : ℕ) → (i < 10 + 8 * k) ⊎ (10 + 8 * k + 8 ≤ i) → slice_index bytes i ≡ slice_index old i)
    → ((i : ℕ) → i < k → wrong_in_change wide (10 + 8 * i) old ≡ None) → (i : ℕ) → i < k + 1 → wrong_in_change wide (10 + 8 * i) bytes ≡ None
form_more wide bytes old piece k there form outside before i less = go (leb_tells k i)
  where
    go : ((nat_le k i ≡ true) × (k ≤ i)) ⊎ ((nat_le k i ≡ false) × (i < k)) → wrong_in_change wide (10 + 8 * i) bytes ≡ None
    go (inl at) =
        subst (λ (n : ℕ). wrong_in_change wide (10 + 8 * n) bytes ≡ None) (let h = at.1 in
        omega (arith, h, less)) (wrong_in_change-moved wide (10 + 8 * k) bytes (10 + 8 * k) piece 0 (omega arith) there ∙ ap (moved (10 + 8 * k))
        form)
    go (inr below) =
        wrong_in_change-moved wide 0 bytes (10 + 8 * i) old (10 + 8 * i) (sym (zero-add (10 + 8 * i)))
        (record { same = λ n few. outside (10 + 8 * i + n) (inl (let h = below.1 in omega (arith, h, few))) })
        ∙ ap (moved 0) (before i below.1)

pub none_written : (file : List ℕ) → changes_at 0 10 file ≡ []
unfolding changes_at
none_written file = refl

-- one change more was made
pub change_made : (batch : List Change) (k : ℕ) (d : Change) (initial was : Retained) → k < length batch → was ≡ changed_by (take k batch) initial
    → changed (get_or batch k d) was ≡ changed_by (take (k + 1) batch) initial
change_made batch k d initial was less e = rw (e, take_more batch k d less) (sym (changed_by-append (take k batch) (get_or batch k d ∷ []) initial))

-- the number of changes and the changes of a batch, as a cell
pub whole_cell : (wide : Bool) (cell : List ℕ) (batch : List Change) → cell_count 0 cell ≡ length batch → IsBatch wide batch
    → ((k : ℕ) → k < length batch → wrong_in_change wide (10 + 8 * k) cell ≡ None) → wrong_in_cell wide 0 cell ≡ None
whole_cell wide cell batch count is each =
    let within' : is_within 1 most_changes (cell_count 0 cell) ≡ true =
    within_is 1 most_changes (cell_count 0 cell) (let s = is.some in omega (arith, count, s)) (let f = is.few in omega (arith, count, f)) in
    wrong_change wide 0 cell within' ∙ none_below (λ k. wrong_in_change wide (10 + 8 * k) cell) (cell_count 0 cell)
    (λ k less. each k (omega (arith, less, count)))
