-- The line of an entry is put together of plain fields: each is found again, and there is no line end.
use Rattle.std.proofs.Common.{◌≡◌, ◌∙◌, ◌++◌, ℕ, suc, true, false, List, [], ◌∷◌, refl, ap, arith}
use Rattle.std.specs.Prelude.{◌==◌, if◌then◌else◌}
use Rattle.std.specs.List.{list_all}
use Rattle.std.proofs.lemmas.Bool.{and_parts, ne_eqb}
use Rattle.line_fields.proofs.Joined.{HasFields, plain_all_clear, plain_clear, spaced}
use Rattle.line_fields.proofs.Joined.{fields_of as fields_spaced}
use Rattle.line_fields.proofs.PlainFields.{are_plain, is_plain, plain_range}
use Rattle.face_reading.specs.Reading.{line_ends}
use Rattle.face_reading.proofs.LineEnds.{line_ends-append}

-- fields with a space between each two
abbrev pub joined : List ℕ → List (List ℕ) → List ℕ
joined word fields = word ++ spaced fields

pub fields_of : (word : List ℕ) (fields : List (List ℕ)) → list_all is_plain word ≡ true → are_plain fields ≡ true
    → HasFields (joined word fields) word fields
fields_of word fields plain others = fields_spaced word fields (plain_clear word plain) (plain_all_clear fields others)

no_end : (byte : ℕ) → is_plain byte ≡ true → (byte == 10) ≡ false
no_end byte plain = ne_eqb byte 10 (λ e. let low = (plain_range byte plain).0 in omega (arith, e, low))

plain_ends : (word : List ℕ) → list_all is_plain word ≡ true → line_ends word ≡ 0
plain_ends [] plain = refl
plain_ends (byte ∷ word) plain =
    let p = and_parts (is_plain byte) (list_all is_plain word) plain in
    ap (λ b. if b then suc (line_ends word) else line_ends word) (no_end byte p.0) ∙ plain_ends word p.1

spaced_ends : (fields : List (List ℕ)) → are_plain fields ≡ true → line_ends (spaced fields) ≡ 0
spaced_ends [] plain = refl
spaced_ends (first ∷ fields) plain =
    let p = and_parts (list_all is_plain first) (are_plain fields) plain in
    line_ends-append first (spaced fields) ∙ (let one = plain_ends first p.0 in let rest = spaced_ends fields p.1 in omega (arith, one, rest))

-- plain fields have no line end
pub ends_joined : (word : List ℕ) (fields : List (List ℕ)) → list_all is_plain word ≡ true → are_plain fields ≡ true
    → line_ends (joined word fields) ≡ 0
ends_joined word fields plain others =
    line_ends-append word (spaced fields) ∙ (let one = plain_ends word plain in let rest = spaced_ends fields others in omega (arith, one, rest))
