-- What a call tells is what its texts were answered.
use Rattle.std.proofs.Common.{◌≡◌, false, inl, inr, ℕ, ◌+◌, ◌<◌, ◌≤◌, drop, get_or, length, List, ◌∷◌, Some, None, Ok, Err, Option, Result, refl, sym, subst, ◌∙◌, arith, slice_get}
use Rattle.std.specs.Prelude.{is_some}
use Rattle.std.proofs.lemmas.List.{drop_all, drop_more}
use Rattle.sqlite_value.specs.Order.{Row}
use Rattle.sqlite.specs.Held.{Held, state}
use Rattle.sqlite.specs.State.{HasCleanDisk, IsLive, Opens, State}
use Rattle.sqlite.specs.Store.{Ghosts}
use Rattle.service_keepers.specs.declared.visit.Visit.{Visit}
use Rattle.register_sqlite.specs.Asked.{HasVisit, LooksUpDay, LooksUpEach, MakesTables, ReadsVisit}
use Rattle.register_sqlite.specs.Days.{later_or}
use Rattle.register_sqlite.specs.Opened.{AsksWhere, HasOpened, OpensWhere}
use Rattle.register_sqlite.specs.Stored.{ComesAfter}
use Rattle.register_sqlite.specs.declared.trouble.Trouble.{Trouble}
use Rattle.register_sqlite.specs.declared.trouble.Trouble.TheVariants.{Value}

pub follows_then : (a b c : State) → ComesAfter a b → ComesAfter b c → ComesAfter a c
follows_then a b c p q = (omega (arith, p.0, q.0), q.1 ∙ p.1)

pub clean_before : (a b : State) → ComesAfter a b → HasCleanDisk b → HasCleanDisk a
clean_before a b p clean = omega (arith, p.0, clean)

-- ---- a visit

pub visit_read : (number : ℕ) (rows : List Row) (row : Row) (visit : Visit) → Some row ≡ slice_get rows 0 → visit.number ≡ number
    → HasVisit row visit.day visit.engineer.bytes → ReadsVisit number (slice_get rows 0) (Ok (Some visit))
visit_read number rows row visit first same has = subst (λ o. ReadsVisit number o (Ok (Some visit))) first (same, has)

pub none_read : (number : ℕ) (rows : List Row) → None ≡ slice_get rows 0 → ReadsVisit number (slice_get rows 0) (Ok None)
none_read number rows none = subst (λ o. ReadsVisit number o (Ok None)) none refl

pub value_read : (number : ℕ) (rows : List Row) (row : Row) → Some row ≡ slice_get rows 0 → ((day : ℕ) (engineer : List ℕ) → ¬ HasVisit row day engineer)
    → ReadsVisit number (slice_get rows 0) (Err Value)
value_read number rows row first none = subst (λ o. ReadsVisit number o (Err Value)) first (refl, none)

-- ---- the days of some rows

module _ {S : Type 0} (store : Ghosts S) (items : List Row) (at : ℕ) (row : Row) (low : at < length items) (is : row ≡ get_or items at row) where
  front : row ∷ drop (at + 1) items ≡ drop at items
  front = sym (drop_more items at row low ∙ subst (λ r. r ∷ drop (at + 1) items ≡ row ∷ drop (at + 1) items) is refl)

  pub each_stepped : (last day next : Option ℕ) (a b new : Held S) (result : Result (Option ℕ) Trouble) → LooksUpDay store row a b (Ok day) → next ≡ later_or last day
      → LooksUpEach store (drop (at + 1) items) next b new result → LooksUpEach store (drop at items) last a new result
  each_stepped last day next a b new result asked later more =
      subst (λ rows. LooksUpEach store rows last a new result) front
      (inr (b, day, asked, subst (λ l. LooksUpEach store (drop (at + 1) items) l b new result) later more))

  pub each_refused : (last : Option ℕ) (a b : Held S) (trouble : Trouble) → LooksUpDay store row a b (Err trouble)
      → LooksUpEach store (drop at items) last a b (Err trouble)
  each_refused last a b trouble asked = subst (λ rows. LooksUpEach store rows last a b (Err trouble)) front (inl (trouble, asked, refl))

pub each_ended : {S : Type 0} (store : Ghosts S) (items : List Row) (at : ℕ) (last : Option ℕ) (a : Held S) → length items ≤ at
    → LooksUpEach store (drop at items) last a a (Ok last)
each_ended store items at last a end = subst (λ rows. LooksUpEach store rows last a a (Ok last)) (sym (drop_all at items end)) (refl, refl)

-- ---- the database

module _ {S : Type 0} (store : Ghosts S) {T : Type 0} (Asks : Held S → Held S → Result T Trouble → Type 0) where
  pub asks_then : (old mid : Option (Held S)) (conn new : Held S) (answer : Result T Trouble) → OpensWhere store old mid (Ok tt) → mid ≡ Some conn
      → ComesAfter (state store conn) (state store new) → (HasCleanDisk (state store new) → Asks conn new answer) → AsksWhere store Asks old (Some new) answer
  asks_then (Some old) mid conn new answer opens is follows asked =
      let same : conn ≡ old = (let e = sym is ∙ opens.0 in cc) in λ clean. subst (λ c. Asks c new answer) same (asked clean)
  asks_then None None conn new answer opens is follows asked = absurd cc
  asks_then None (Some mid) conn new answer opens is follows asked =
      let same : mid ≡ conn = cc in
      λ clean.
      let clean_then = subst (λ c. HasCleanDisk (state store c)) (sym same) (clean_before (state store conn) (state store new) follows clean) in
      (conn, subst (λ c. HasOpened store c (Ok tt)) same (opens.1 clean_then), asked clean)

  pub asks_none : (old mid : Option (Held S)) (trouble : Trouble) → OpensWhere store old mid (Err trouble) → AsksWhere store Asks old mid (Err trouble)
  asks_none (Some old) mid trouble opens = absurd (let e = opens.1 in cc)
  asks_none None None trouble opens = (trouble, refl, subst (Rattle.register_sqlite.specs.Opened.RefusesOpening store) (let e = opens.1 in cc) opens.2)
  asks_none None (Some mid) trouble opens = absurd (let e = opens.0 in cc)

module _ {S : Type 0} (store : Ghosts S) where
  pub newly_open : (old : Option (Held S)) (opened new : Held S) → is_some old ≡ false → (HasCleanDisk (state store opened) → Opens (state store opened) × IsLive (state store opened))
      → ComesAfter (state store opened) (state store new) → (HasCleanDisk (state store new) → MakesTables store opened new (Ok tt)) → OpensWhere store old (Some new) (Ok tt)
  newly_open (Some conn) opened new none opens follows made = absurd (let e = none in cc)
  newly_open None opened new none opens follows made =
      (refl, λ clean. let first = opens (clean_before (state store opened) (state store new) follows clean) in record { opened = opened; opens = first.0; live = first.1; tables = made clean })

  pub not_made : (old : Option (Held S)) (opened left : Held S) (trouble : Trouble) → is_some old ≡ false
      → (HasCleanDisk (state store opened) → Opens (state store opened) × IsLive (state store opened)) → ComesAfter (state store opened) (state store left)
      → (HasCleanDisk (state store left) → MakesTables store opened left (Err trouble)) → OpensWhere store old old (Err trouble)
  not_made (Some conn) opened left trouble none opens follows made = absurd (let e = none in cc)
  not_made None opened left trouble none opens follows made = (
    trouble,
    refl,
    inr (
      left,
      λ clean.
          let first = opens (clean_before (state store opened) (state store left) follows clean) in
          record { opened = opened; opens = first.0; live = first.1; tables = made clean },
    ),
  )
