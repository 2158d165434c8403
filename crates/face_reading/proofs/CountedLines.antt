-- How many lines the first entries of a text are.
use Rattle.std.proofs.Common.{◌≡◌, ◌∙◌, ◌+◌, ◌++◌, ℕ, suc, List, [], ◌∷◌, length, sym, ap, subst, append_assoc, arith}
use Rattle.site_types.specs.declared.site.Site.{Site}
use Rattle.face_text.specs.Timelines.{opening_line}
use Rattle.face_reading.specs.declared.entry.Entry.{Entry}
use Rattle.face_reading.specs.Entries.{entry_line}
use Rattle.face_reading.specs.Reading.{first_lines, line_ends}
use Rattle.face_reading.proofs.ReadSoFar.{AreEntries, IsOneLine, entries_text}
use Rattle.face_reading.proofs.LineEnds.{first_lines-line, line_ends-line}
use Rattle.face_reading.proofs.EntryLaws.{entry_line-one, opening_line-one}
use Rattle.site_types.specs.Valid.{IsValid}

-- some bytes are so many lines, each with its end
abbrev pub IsLinesOf : ℕ → List ℕ → Type 0
IsLinesOf n front = ((k : ℕ) (rest : List ℕ) → first_lines (n + k) (front ++ rest) ≡ front ++ first_lines k rest)
    × ((rest : List ℕ) → line_ends (front ++ rest) ≡ n + line_ends rest)

pub one_line_of : (line : List ℕ) → IsOneLine line → IsLinesOf 1 line
one_line_of line one =
    let front = λ (rest : List ℕ). ap (λ t. t ++ rest) one.bytes_is ∙ append_assoc one.body (10 ∷ []) rest in (
      λ k rest.
          let count : 1 + k ≡ suc k = omega arith in
          ap (λ (n : ℕ). first_lines n (line ++ rest)) count ∙ ap (first_lines (suc k)) (front rest) ∙ first_lines-line k one.body rest one.no_end
          ∙ sym (ap (λ t. t ++ first_lines k rest) one.bytes_is ∙ append_assoc one.body (10 ∷ []) (first_lines k rest)),
      λ rest. let count : suc (line_ends rest) ≡ 1 + line_ends rest = omega arith in
          ap line_ends (front rest) ∙ line_ends-line one.body rest one.no_end ∙ count,
    )

pub lines_join : (n m : ℕ) (front more : List ℕ) → IsLinesOf n front → IsLinesOf m more → IsLinesOf (n + m) (front ++ more)
lines_join n m front more one other = (
  λ k rest.
      let count : n + m + k ≡ n + (m + k) = omega arith in
      ap (λ (c : ℕ). first_lines c ((front ++ more) ++ rest)) count ∙ ap (first_lines (n + (m + k))) (append_assoc front more rest) ∙ one.0 (m + k)
      (more ++ rest)
      ∙ ap (λ t. front ++ t) (other.0 k rest) ∙ sym (append_assoc front more (first_lines k rest)),
  λ rest.
      let count : n + (m + line_ends rest) ≡ n + m + line_ends rest = omega arith in
      ap line_ends (append_assoc front more rest) ∙ one.1 (more ++ rest) ∙ ap (λ (c : ℕ). n + c) (other.1 rest) ∙ count,
)

lines_of_entries : (site : Site) → IsValid site → (entries : List Entry) → AreEntries site entries
    → IsLinesOf (length entries) (entries_text site entries)
lines_of_entries site valid [] each = (λ k rest. ap (λ (n : ℕ). first_lines n rest) (plain k), λ rest. sym (plain (line_ends rest)))
  where
    plain : (k : ℕ) → 0 + k ≡ k
    plain k = omega arith
lines_of_entries site valid (entry ∷ entries) each =
    let count : 1 + length entries ≡ suc (length entries) = omega arith in
    subst (λ (n : ℕ). IsLinesOf n (entry_line site entry ++ entries_text site entries)) count
    (lines_join 1 (length entries) (entry_line site entry) (entries_text site entries)
    (one_line_of (entry_line site entry) (entry_line-one site valid entry each.0)) (lines_of_entries site valid entries each.1))

pub lines_of_front : (site : Site) → IsValid site → (entries : List Entry) → AreEntries site entries
    → IsLinesOf (suc (length entries)) (opening_line site ++ entries_text site entries)
lines_of_front site valid entries each =
    let count : 1 + length entries ≡ suc (length entries) = omega arith in
    subst (λ (n : ℕ). IsLinesOf n (opening_line site ++ entries_text site entries)) count
    (lines_join 1 (length entries) (opening_line site) (entries_text site entries) (one_line_of (opening_line site) (opening_line-one site valid))
    (lines_of_entries site valid entries each))
