-- Rows that are put one behind the other, where the keeper tells its tables.
use Rattle.std.proofs.Common.{◌≡◌, ◌+◌, ◌<◌, ℕ, List, [], ◌∷◌, ◌++◌, Option, Some, None, drop, get_or, length, map, take, refl, sym, ap, ◌∙◌, subst, add-one, drop-cons, take-append-drop}
use Rattle.std.specs.Prelude.{Result, Ok, Err, OnErr}
use Rattle.std.proofs.lemmas.Grind.{take_at_read}
use Rattle.std.proofs.lemmas.List.{map-append}
use Rattle.service_keepers.specs.Keeping.{ChangesBy}
use Rattle.service_keepers.specs.Tables.{Tables}
use Rattle.register_import.specs.Puts.{PutsAtMost, PutsFront, PutsRow, PutsRows}
use Rattle.register_import.specs.Rows.{ImportedTest}
use Rattle.register_import.specs.Views.{row_view}
use Rattle.register_import.specs.declared.import_row.ImportRow.{ImportRow}

-- no row is put
pub puts_none : (told : Option Tables) → ChangesBy (PutsRows []) told told
puts_none None = tt
puts_none (Some kept) = refl

-- one row more is put
pub puts_more : (rows : List ImportedTest) (row : ImportedTest) (a b c : Tables) → PutsRows rows a b → PutsRow row b c → PutsRows (rows ++ row ∷ []) a c
puts_more [] row a b c before puts = (c, subst (λ (t : Tables). PutsRow row t c) before puts, refl)
puts_more (first ∷ rest) row a b c before puts = (before.0, before.1, puts_more rest row before.0 b c before.2 puts)

-- two steps, one behind the other
pub changes_more : (S T U : Tables → Tables → Type 0) → ((a b c : Tables) → S a b → T b c → U a c) → (a b c : Option Tables)
    → ChangesBy S a b → ChangesBy T b c → ChangesBy U a c
changes_more S T U joins None b c s t = tt
changes_more S T U joins (Some a) None c s t = absurd s
changes_more S T U joins (Some a) (Some b) None s t = absurd t
changes_more S T U joins (Some a) (Some b) (Some c) s t = joins a b c s t

-- a row behind some first ones is put at most in part
pub stops_at : (front : List ImportedTest) (next : ImportedTest) (back : List ImportedTest) (a b c : Tables) → PutsRows front a b
    → PutsAtMost next.visit b c → PutsFront (front ++ next ∷ back) a c
stops_at front next back a b c puts last =
    record { front = front; next = next; back = back; are = refl; between = b; puts = puts; last = last }

-- ---- the row at a place

split_at : (rows : List ImportRow) (place : ℕ) (row : ImportRow) → place < length rows → row ≡ get_or rows place row
    → rows ≡ take place rows ++ row ∷ drop (place + 1) rows
split_at rows place row within is =
    let here : drop place rows ≡ get_or rows place row ∷ drop (place + 1) rows = rw (add-one, drop-cons rows place row) refl in
    sym (take-append-drop place rows) ∙ ap (λ xs. take place rows ++ xs) (here ∙ ap (λ r. r ∷ drop (place + 1) rows) (sym is))

-- all rows, by the one at a place
pub rows_around : (rows : List ImportRow) (place : ℕ) (row : ImportRow) → place < length rows → row ≡ get_or rows place row
    → map row_view rows ≡ map row_view (take place rows) ++ row_view row ∷ map row_view (drop (place + 1) rows)
rows_around rows place row within is =
    ap (map row_view) (split_at rows place row within is) ∙ map-append row_view (take place rows) (row ∷ drop (place + 1) rows)

-- the first rows with the one at a place
pub rows_up_to : (rows : List ImportRow) (place : ℕ) (row : ImportRow) → place < length rows → row ≡ get_or rows place row
    → map row_view (take (place + 1) rows) ≡ map row_view (take place rows) ++ row_view row ∷ []
rows_up_to rows place row within is =
    ap (map row_view) ((take_at_read rows place row within).1 ∙ ap (λ r. take place rows ++ r ∷ []) (sym is))
    ∙ map-append row_view (take place rows) (row ∷ [])

-- a fact of every failure
pub on_err : {T E : Type 0} (result : Result T E) (P : Type 0) → P → OnErr result P
on_err (Ok x) P p = tt
on_err (Err e) P p = p
