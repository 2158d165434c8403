-- Where a line more is read with some bytes, the last of them ends a line, and no other does.
use Rattle.std.proofs.Common.{◌≡◌, ◌∙◌, ◌+◌, ◌<◌, ◌≤◌, ◌++◌, ◌==◌, ◌&&◌, not, ℕ, zero, suc, Bool, true, false, List, [], ◌∷◌}
use Rattle.std.proofs.Common.{length, take, Option, Some, None, Result, Ok, Err, refl, sym, ap, subst, arith, length-append}
use Rattle.std.proofs.Common.{◌⊎◌, append_assoc, if◌then◌else◌, inl, inr}
use Rattle.std.specs.List.{fold, list_all}
use Rattle.std.proofs.lemmas.Bool.{eqb-true}
use Rattle.site_types.specs.declared.site.Site.{Site}
use Rattle.record_lines.specs.Judged.{judged}
use Rattle.record_lines.specs.Lines.{Cut, Reading, at_start, begun, by_bytes, by_ending, byte_refusal, cut, is_printable, lines_read, next_line}
use Rattle.record_lines.specs.Lines.{reading_of, refusal_within, refused_rest, with_rest, rest_by_ending, verdict, with_byte}
use Rattle.record_lines.specs.Stands.{IsFirst}
use Rattle.record_lines.specs.declared.line.Line.{Line}
use Rattle.record_lines.specs.declared.over.Over.{Over}
use Rattle.record_lines.specs.declared.over.Over.TheVariants.{Refused}
use Rattle.record_lines.specs.declared.refusal.Refusal.{Refusal}
use Rattle.record_lines.specs.declared.why.Why.{Why}
use Rattle.record_lines.specs.declared.why.Why.TheVariants.{LineTooLong, NotAscii}
use Rattle.record_lines.proofs.Cuts.{cut_more}
use Rattle.record_readings.specs.OneLine.{EndsOneLine, is_within_line}

-- ---- how many lines bytes end

abbrev ends : List ℕ → ℕ
ends bytes = length (cut bytes).whole

abbrev one : Bool → ℕ
one true = 1
one false = 0

begun_ends : (x : ℕ) (whole : List (List ℕ)) (rest : List ℕ) → length (begun x whole rest).whole ≡ length whole
begun_ends x [] rest = refl
begun_ends x (line ∷ lines) rest = refl

byte_ends : (end : Bool) (x : ℕ) (behind : Cut) → length (with_byte end x behind).whole ≡ one end + length behind.whole
byte_ends true x behind = omega arith
byte_ends false x behind = let same = begun_ends x behind.whole behind.rest in omega (arith, same)

ends_append : (xs ys : List ℕ) → ends (xs ++ ys) ≡ ends xs + ends ys
ends_append [] ys = omega arith
ends_append (x ∷ xs) ys =
    let rest = ends_append xs ys in
    let all = byte_ends (x == 10) x (cut (xs ++ ys)) in
    let front = byte_ends (x == 10) x (cut xs) in
    omega (arith, rest, all, front)

-- bytes that end no line are all within one
none_ends : (xs : List ℕ) → ends xs ≡ 0 → list_all is_within_line xs ≡ true
none_ends [] e = refl
none_ends (x ∷ xs) e = by (x == 10) refl (none_ends xs)
  where
    by : (end : Bool) → (x == 10) ≡ end → (ends xs ≡ 0 → list_all is_within_line xs ≡ true) → list_all is_within_line (x ∷ xs) ≡ true
    by true is rest =
        let count = byte_ends (x == 10) x (cut xs) in
        let some = ap one is in
        absurd (omega (arith, e, count, some))
    by false is rest =
        let count = byte_ends (x == 10) x (cut xs) in
        ap (λ b. not b && list_all is_within_line xs) is ∙ rest (omega (arith, e, count))

-- a byte that ends a line is the line end
ends_line : (b : ℕ) → 1 ≤ ends (b ∷ []) → b ≡ 10
ends_line b some = by (b == 10) refl
  where
    by : (end : Bool) → (b == 10) ≡ end → b ≡ 10
    by true is = eqb-true b 10 is
    by false is =
        let count = byte_ends (b == 10) b (cut []) in
        let none = ap one is in
        absurd (omega (arith, some, count, none))

-- ---- how many lines are read

module _ (site : Site) where
  module _ (r : Reading) (text : List ℕ) where
    by_verdict : (v : Result Line Why) → length (verdict r v).lines ≤ length r.lines + 1
    by_verdict (Ok line) = let sum = length-append r.lines (line ∷ []) in omega (arith, sum)
    by_verdict (Err why) = omega arith

    by_refusal : (w : Option Why) → length (by_bytes site r text w).lines ≤ length r.lines + 1
    by_refusal None = by_verdict (judged site r.so_far text)
    by_refusal (Some why) = omega arith

    by_over : (o : Option Over) → length (by_ending site r text o).lines ≤ length r.lines + 1
    by_over None = by_refusal (byte_refusal text)
    by_over (Some over) = omega arith

    going_verdict : (v : Result Line Why) → (verdict r v).ending ≡ None → length (verdict r v).lines ≡ length r.lines + 1
    going_verdict (Ok line) going = length-append r.lines (line ∷ [])
    going_verdict (Err why) going = absurd cc

    going_refusal : (w : Option Why) → (by_bytes site r text w).ending ≡ None → length (by_bytes site r text w).lines ≡ length r.lines + 1
    going_refusal None going = going_verdict (judged site r.so_far text) going
    going_refusal (Some why) going = absurd cc

    going_over : (o : Option Over) → r.ending ≡ o → (by_ending site r text o).ending ≡ None
        → length (by_ending site r text o).lines ≡ length r.lines + 1
    going_over None is going = going_refusal (byte_refusal text) going
    going_over (Some over) is going = absurd (let e = sym is ∙ going in cc)

  lines_few : (r : Reading) (texts : List (List ℕ)) → length (fold (next_line site) r texts).lines ≤ length r.lines + length texts
  lines_few r [] = omega arith
  lines_few r (text ∷ texts) =
      let rest = lines_few (next_line site r text) texts in
      let first = by_over r text r.ending in
      omega (arith, rest, first)

  -- nothing is looked at behind an end
  over_stays : (r : Reading) (over : Over) (texts : List (List ℕ)) → r.ending ≡ Some over → (fold (next_line site) r texts).ending ≡ Some over
  over_stays r over [] is = is
  over_stays r over (text ∷ texts) is =
      over_stays (next_line site r text) over texts (ap (λ (o : Option Over). (by_ending site r text o).ending) is ∙ is)

  lines_all : (r : Reading) (texts : List (List ℕ)) → (fold (next_line site) r texts).ending ≡ None
      → length (fold (next_line site) r texts).lines ≡ length r.lines + length texts
  lines_all r [] going = omega arith
  lines_all r (text ∷ texts) going = by (next_line site r text).ending refl (lines_all (next_line site r text) texts going)
    where
      by : (o : Option Over) → (next_line site r text).ending ≡ o
          → length (fold (next_line site) (next_line site r text) texts).lines ≡ length (next_line site r text).lines + length texts
          → length (fold (next_line site) r (text ∷ texts)).lines ≡ length r.lines + length (text ∷ texts)
      by None is rest =
          let first = going_over r text r.ending refl is in
          omega (arith, rest, first)
      by (Some over) is rest = absurd (let e = sym (over_stays (next_line site r text) over texts is) ∙ going in cc)

  rest_lines : (r : Reading) (rest : List ℕ) (o : Option Over) → (rest_by_ending r rest o).lines ≡ r.lines
  rest_lines r rest None = by (byte_refusal rest)
    where
      by : (w : Option Why) → (refused_rest r w).lines ≡ r.lines
      by None = refl
      by (Some why) = refl
  rest_lines r rest (Some over) = refl

  rest_going : (r : Reading) (rest : List ℕ) (o : Option Over) → r.ending ≡ o → (rest_by_ending r rest o).ending ≡ None → r.ending ≡ None
  rest_going r rest None is going = is
  rest_going r rest (Some over) is going = going

  abbrev whole_lines : List ℕ → Reading
  whole_lines bytes = lines_read site (cut bytes).whole

  -- no more lines are read than end
  read_few : (bytes : List ℕ) → length (reading_of site bytes).lines ≤ ends bytes
  read_few bytes =
      let few = lines_few at_start (cut bytes).whole in
      let same = ap (λ (ls : List Line). length ls) (rest_lines (whole_lines bytes) (cut bytes).rest (whole_lines bytes).ending) in
      omega (arith, few, same)

  -- and all of them where neither the end nor a refusal has come
  read_all : (bytes : List ℕ) → (reading_of site bytes).ending ≡ None → length (reading_of site bytes).lines ≡ ends bytes
  read_all bytes going =
      let all = lines_all at_start (cut bytes).whole
      (rest_going (whole_lines bytes) (cut bytes).rest (whole_lines bytes).ending refl going) in
      let same = ap (λ (ls : List Line). length ls) (rest_lines (whole_lines bytes) (cut bytes).rest (whole_lines bytes).ending) in
      omega (arith, all, same)

-- ---- the bytes of one line

take_one : (n : ℕ) (xs : List ℕ) → n < length xs → (b : ℕ) × (take (suc n) xs ≡ take n xs ++ b ∷ [])
take_one n [] h = absurd (omega (arith, h))
take_one zero (x ∷ xs) h = (x, refl)
take_one (suc n) (x ∷ xs) h = let rest = take_one n xs (omega (arith, h)) in (rest.0, ap (λ ys. x ∷ ys) rest.1)

-- the bytes of an answer are those of its place, which end no line, and one more
record LastByte (piece : List ℕ) (used place : ℕ) : Type 0 where
  byte : ℕ
  taken : take used piece ≡ take place piece ++ byte ∷ []
  none : ends (take place piece) ≡ 0

last_byte : (site : Site) (before piece : List ℕ) (used place : ℕ) → (reading_of site before).ending ≡ None → IsFirst site before piece used place
    → LastByte piece used place
last_byte site before piece used place going first =
    let parts = take_one place piece first.within in
    let last = first.last in
    let count_is : used ≡ suc place = omega (arith, last) in
    let old = read_all site before going in
    let still = read_all site (before ++ take place piece) first.going in
    let same = ap (λ (ls : List Line). length ls) first.same in
    let sum = ends_append before (take place piece) in
    record { byte = parts.0; taken = ap (λ n. take n piece) count_is ∙ parts.1; none = omega (arith, old, still, same, sum) }

-- the bytes that brought a line more
pub one_line : (site : Site) (before piece : List ℕ) (used place : ℕ) (line : Line) → (reading_of site before).ending ≡ None
    → IsFirst site before piece used place
    → (reading_of site (before ++ take used piece)).lines ≡ (reading_of site before).lines ++ line ∷ [] → EndsOneLine (take used piece)
one_line site before piece used place line going first more =
    let last = last_byte site before piece used place going first in
    let text = take place piece in
    let none = last.none in
    let old = read_all site before going in
    let few = read_few site (before ++ take used piece) in
    let count = ap (λ (ls : List Line). length ls) more ∙ length-append (reading_of site before).lines (line ∷ []) in
    let all = ends_append before (take used piece) in
    let split = ap ends last.taken ∙ ends_append text (last.byte ∷ []) in
    let some : 1 ≤ ends (last.byte ∷ []) = omega (arith, old, few, count, all, split, none) in
    record {
      text = text;
      is = last.taken ∙ ap (λ b. text ++ b ∷ []) (ends_line last.byte some);
      within = none_ends text none;
    }

-- bytes that brought no line end none, where neither the end nor a refusal has come
pub no_line : (site : Site) (before more : List ℕ) → (reading_of site before).ending ≡ None → (reading_of site (before ++ more)).ending ≡ None
    → (reading_of site (before ++ more)).lines ≡ (reading_of site before).lines → list_all is_within_line more ≡ true
no_line site before more going still same =
    let old = read_all site before going in
    let new = read_all site (before ++ more) still in
    let count = ap (λ (ls : List Line). length ls) same in
    let sum = ends_append before more in
    none_ends more (omega (arith, old, new, count, sum))

-- ---- the bytes of a refused line

byte_whys : (room : ℕ) (text : List ℕ) (why : Why) → refusal_within room text ≡ Some why → (why ≡ LineTooLong) ⊎ (why ≡ NotAscii)
byte_whys room [] why e = absurd cc
byte_whys zero (byte ∷ text) why e = inl cc
byte_whys (suc room) (byte ∷ text) why e = by (is_printable byte) e (byte_whys room text why)
  where
    by : (b : Bool) → (if b then refusal_within room text else Some NotAscii) ≡ Some why
        → (refusal_within room text ≡ Some why → (why ≡ LineTooLong) ⊎ (why ≡ NotAscii)) → (why ≡ LineTooLong) ⊎ (why ≡ NotAscii)
    by true e rest = rest e
    by false e rest = inr cc

same_refusal : (number : ℕ) (why : Why) (refusal : Refusal) → Some (Refused (record { line = number; why = why })) ≡ Some (Refused refusal) → why ≡ refusal.why
same_refusal number why refusal e =
    let told : Refusal = record { line = number; why = why } in
    let same : told ≡ refusal = cc in
    ap (λ (r : Refusal). r.why) same

-- a refusal of what has come of a line is one of its bytes
rest_whys : (a : Reading) (text : List ℕ) (refusal : Refusal) → a.ending ≡ None → (rest_by_ending a text a.ending).ending ≡ Some (Refused refusal)
    → (refusal.why ≡ LineTooLong) ⊎ (refusal.why ≡ NotAscii)
rest_whys a text refusal going e =
    by (byte_refusal text) refl (sym (ap (λ (o : Option Over). (rest_by_ending a text o).ending) going) ∙ e)
  where
    by : (o : Option Why) → byte_refusal text ≡ o → (refused_rest a o).ending ≡ Some (Refused refusal)
        → (refusal.why ≡ LineTooLong) ⊎ (refusal.why ≡ NotAscii)
    by None is h = absurd (let no_way = sym going ∙ h in cc)
    by (Some why) is h =
        subst (λ w. (w ≡ LineTooLong) ⊎ (w ≡ NotAscii)) (same_refusal a.number why refusal h) (byte_whys 512 text why is)

neither : (why : Why) → (why ≡ LineTooLong → ⊥) → (why ≡ NotAscii → ⊥) → (why ≡ LineTooLong) ⊎ (why ≡ NotAscii) → ⊥
neither why long ascii (inl h) = long h
neither why long ascii (inr h) = ascii h

-- the bytes of a line that is refused for another cause than its bytes
pub refused_line : (site : Site) (before piece : List ℕ) (used place : ℕ) (refusal : Refusal) → (reading_of site before).ending ≡ None
    → IsFirst site before piece used place → (reading_of site (before ++ take used piece)).ending ≡ Some (Refused refusal)
    → (refusal.why ≡ LineTooLong → ⊥) → (refusal.why ≡ NotAscii → ⊥) → EndsOneLine (take used piece)
refused_line site before piece used place refusal going first ended long ascii =
    let last = last_byte site before piece used place going first in
    let text = take place piece in
    record {
      text = text;
      is = last.taken ∙ ap (λ b. text ++ b ∷ []) (by last.byte (last.byte == 10) refl last.taken);
      within = none_ends text last.none;
    }
  where
    by : (b : ℕ) (end : Bool) → (b == 10) ≡ end → take used piece ≡ take place piece ++ b ∷ [] → b ≡ 10
    by b true is taken = eqb-true b 10 is
    by b false is taken =
        let bytes = before ++ take place piece in
        let all : before ++ take used piece ≡ bytes ++ b ∷ [] = ap (λ xs. before ++ xs) taken ∙ sym (append_assoc before (take place piece) (b ∷ [])) in
        let a = whole_lines site bytes in
        let more : reading_of site (before ++ take used piece) ≡ with_rest a ((cut bytes).rest ++ b ∷ []) =
        ap (reading_of site) all ∙ ap (λ (c : Cut). with_rest (lines_read site c.whole) c.rest) (cut_more bytes b is) in
        let a_going = rest_going site a (cut bytes).rest a.ending refl first.going in
        absurd (neither refusal.why long ascii (rest_whys a ((cut bytes).rest ++ b ∷ []) refusal a_going (ap (λ (r : Reading). r.ending) (sym more) ∙ ended)))
