-- Rows that are written one behind the other.
use Rattle.std.proofs.Common.{◌≡◌, ◌+◌, ◌<◌, ◌≤◌, ℕ, zero, suc, false, List, [], ◌∷◌, ◌++◌, Option, Some, None, drop, get_or, length, map, refl, sym, ap, ◌∙◌, subst, append_assoc, add-one, drop-cons}
use Rattle.std.specs.Io.KnownBytes.{Keeps, append_known}
use Rattle.std.specs.Prelude.{IfSome, OnOk, Result, slice_get}
use Rattle.std.proofs.lemmas.List.{append-nil, drop_all}
use Rattle.std.proofs.lemmas.Option.{same_Some}
use Rattle.csv.specs.Writing.{default_writer, fields_written, has_written, writer_pending, writer_setup, writer_under}
use Rattle.csv.specs.declared.writer.Writer.{Writer}
use Rattle.service_keepers.specs.Tables.{Tables, last_day_of}
use Rattle.service_register.specs.Export.{IsWriting, Writes, place_text, point_text, rows_text, three_fields}
use Rattle.service_register.specs.Points.{PointRow}

-- the same fields in other words
pub same_row : {W T E : Type 0} (contents : W → Option (List ℕ)) (result : Result T E) (old new : Writer W) (a b c x y z : List ℕ)
    → a ≡ x → b ≡ y → c ≡ z → OnOk result (Writes contents old new (three_fields a b c)) → OnOk result (Writes contents old new (three_fields x y z))
same_row contents result old new a b c x y z p q r written =
    let same : three_fields a b c ≡ three_fields x y z = rw (p, q, r) refl in
    subst (λ (text : List ℕ). OnOk result (Writes contents old new text)) same written

-- nothing is written
pub writes_none : {W : Type 0} (contents : W → Option (List ℕ)) (writer : Writer W) → Writes contents writer writer []
writes_none contents writer text is = subst (IsWriting contents writer) (sym (append-nil text)) is

-- one text is written behind another
pub writes_more : {W : Type 0} (contents : W → Option (List ℕ)) (a b c : Writer W) (xs ys : List ℕ)
    → Writes contents a b xs → Writes contents b c ys → Writes contents a c (xs ++ ys)
writes_more contents a b c xs ys first second text is =
    subst (IsWriting contents c) (append_assoc text xs ys) (second (text ++ xs) (first text is))

-- the rows of the first places were written
abbrev pub WritesUpTo : {W : Type 0} → (W → Option (List ℕ)) → Writer W → Writer W → List PointRow → List ℕ → ℕ → Tables → Type 0
WritesUpTo contents old new points places count kept =
    (added : List ℕ) × Writes contents old new added × (added ++ rows_text kept points (drop count places) ≡ rows_text kept points places)

pub writes_start : {W : Type 0} (contents : W → Option (List ℕ)) (writer : Writer W) (points : List PointRow) (places : List ℕ) (kept : Tables)
    → WritesUpTo contents writer writer points places 0 kept
writes_start contents writer points places kept = ([], writes_none contents writer, refl)

-- the row of one place more
pub one_row_more : {W : Type 0} (contents : W → Option (List ℕ)) (a b c : Writer W) (points : List PointRow) (places : List ℕ) (count place : ℕ)
    (point : PointRow) (last : Option ℕ) (kept : Tables) → drop count places ≡ place ∷ drop (count + 1) places → slice_get points place ≡ Some point
    → last ≡ last_day_of point.name kept → WritesUpTo contents a b points places count kept → Writes contents b c (point_text point last)
    → WritesUpTo contents a c points places (count + 1) kept
one_row_more contents a b c points places count place point last kept next at day before row =
    let text : place_text kept (slice_get points place) ≡ point_text point last = rw (at, day) refl in
    let split : rows_text kept points (drop count places) ≡ point_text point last ++ rows_text kept points (drop (count + 1) places) =
    ap (rows_text kept points) next ∙ ap (λ xs. xs ++ rows_text kept points (drop (count + 1) places)) text in (
      before.0 ++ point_text point last,
      writes_more contents a b c before.0 (point_text point last) before.1 row,
      append_assoc before.0 (point_text point last) (rows_text kept points (drop (count + 1) places)) ∙ ap (λ xs. before.0 ++ xs) (sym split) ∙ before.2,
    )

-- what holds whatever is kept
pub whatever : {T : Type 0} (P : T → Type 0) (told : Option T) → ((kept : T) → P kept) → IfSome told P
whatever P None holds = tt
whatever P (Some kept) holds = holds kept

-- what follows of what is kept from a fact of it
pub follows_told : {T : Type 0} (P Q : T → Type 0) (told : Option T) → IfSome told P → ((kept : T) → P kept → Q kept) → IfSome told Q
follows_told P Q None p follows = tt
follows_told P Q (Some kept) p follows = follows kept p

-- what follows of it from two
pub both_told : {T : Type 0} (P D Q : T → Type 0) (a b : Option T) → b ≡ a → IfSome a P → IfSome b D → ((kept : T) → P kept → D kept → Q kept)
    → IfSome a Q
both_told P D Q None b same p d follows = tt
both_told P D Q (Some kept) b same p d follows = follows kept p (subst (λ (o : Option _). IfSome o D) same d)

-- a point at a place is listed there
pub listed_at : {X Y : Type 0} (f : X → Y) (xs : List X) (place : ℕ) (x : X) → slice_get xs place ≡ Some x → slice_get (map f xs) place ≡ Some (f x)
listed_at f [] place x at = absurd (cc)
listed_at f (y ∷ ys) zero x at = ap (λ z. Some (f z)) (same_Some y x at)
listed_at f (y ∷ ys) (suc place) x at = listed_at f ys place x at

-- the items from a place on begin with the one there
pub drop_at : (places : List ℕ) (count : ℕ) → count < length places → drop count places ≡ get_or places count 0 ∷ drop (count + 1) places
drop_at places count within = rw (add-one, drop-cons places count 0) refl

-- a new writer has written nothing
pub begins : {W : Type 0} (contents : W → Option (List ℕ)) (writer : Writer W) (under : W) → fields_written writer ≡ 0 → has_written writer ≡ false
    → writer_setup writer ≡ default_writer → writer_under writer ≡ under → writer_pending writer ≡ [] → contents under ≡ Some []
    → IsWriting contents writer []
begins contents writer under ended clean setup is pending empty = record {
  ended = ended;
  clean = clean;
  setup = setup;
  written = ap (λ w. append_known (contents w) (writer_pending writer)) is ∙ ap (λ bytes. append_known (contents under) bytes) pending
      ∙ ap (λ o. append_known o []) empty;
}

-- what a writer hands out in the end is what it wrote
pub finished : (written : Option (List ℕ)) (text bytes : List ℕ) → written ≡ Some text → Keeps written (Some bytes) → bytes ≡ text
finished None text bytes is keeps = absurd (cc)
finished (Some xs) text bytes is keeps = keeps ∙ same_Some xs text is

-- behind the last place all rows were written
pub all_written : {W : Type 0} (contents : W → Option (List ℕ)) (a b : Writer W) (points : List PointRow) (places : List ℕ) (count : ℕ) (kept : Tables)
    → length places ≤ count → WritesUpTo contents a b points places count kept → Writes contents a b (rows_text kept points places)
all_written contents a b points places count kept over before =
    let none : rows_text kept points (drop count places) ≡ [] = ap (rows_text kept points) (drop_all count places over) in
    let whole : before.0 ≡ rows_text kept points places = sym (append-nil before.0) ∙ ap (λ xs. before.0 ++ xs) (sym none) ∙ before.2 in
    subst (Writes contents a b) whole before.1
