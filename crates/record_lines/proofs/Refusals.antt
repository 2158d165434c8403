-- What a byte more makes of the refusal of a line's bytes.
use Rattle.std.proofs.Common.{◌≡◌, ◌∙◌, ◌<◌, ◌≤◌, ◌++◌, ℕ, zero, suc, Bool, true, false, List, [], ◌∷◌, Option, Some, None, ◌+◌, length, length-append, append_assoc, refl, sym, ap, arith}
use Rattle.std.specs.Prelude.{if◌then◌else◌}
use Rattle.std.specs.List.{list_all}
use Rattle.std.proofs.lemmas.Bool.{and_parts}
use Rattle.std.proofs.lemmas.List.{append-nil}
use Rattle.record_lines.specs.Lines.{is_printable, refusal_within}
use Rattle.record_lines.specs.declared.why.Why.{Why}
use Rattle.record_lines.specs.declared.why.Why.TheVariants.{LineTooLong, NotAscii}

split : (good : Bool) (behind : Option Why) → (if good then behind else Some NotAscii) ≡ None → (good ≡ true) × (behind ≡ None)
split true behind none = (refl, none)
split false behind none = cc

abbrev guarded : Option Why → Bool → Option Why
guarded behind good = if good then behind else Some NotAscii

pub fine_more : (text : List ℕ) (room byte : ℕ) → refusal_within room text ≡ None → length text < room → is_printable byte ≡ true
    → refusal_within room (text ++ byte ∷ []) ≡ None
fine_more [] zero byte fine few good = absurd (omega arith)
fine_more [] (suc room) byte fine few good = ap (guarded None) good
fine_more (x ∷ text) zero byte fine few good = absurd (omega arith)
fine_more (x ∷ text) (suc room) byte fine few good =
    let s = split (is_printable x) (refusal_within room text) fine in
    ap (guarded (refusal_within room (text ++ byte ∷ []))) s.0 ∙ fine_more text room byte s.1 (omega arith) good

-- and printable bytes that a line has room for
pub fine_on : (text more : List ℕ) (room : ℕ) → refusal_within room text ≡ None → list_all is_printable more ≡ true → length text + length more ≤ room
    → refusal_within room (text ++ more) ≡ None
fine_on text [] room fine printable fits = ap (refusal_within room) (append-nil text) ∙ fine
fine_on text (byte ∷ more) room fine printable fits =
    let parts = and_parts (is_printable byte) (list_all is_printable more) printable in
    ap (refusal_within room) (sym (append_assoc text (byte ∷ []) more))
    ∙ fine_on (text ++ byte ∷ []) more room (fine_more text room byte fine (omega arith) parts.0) parts.1
    (omega (arith, length-append text (byte ∷ [])))

pub bad_more : (text : List ℕ) (room byte : ℕ) → refusal_within room text ≡ None → length text < room → is_printable byte ≡ false
    → refusal_within room (text ++ byte ∷ []) ≡ Some NotAscii
bad_more [] zero byte fine few bad = absurd (omega arith)
bad_more [] (suc room) byte fine few bad = ap (guarded None) bad
bad_more (x ∷ text) zero byte fine few bad = absurd (omega arith)
bad_more (x ∷ text) (suc room) byte fine few bad =
    let s = split (is_printable x) (refusal_within room text) fine in
    ap (guarded (refusal_within room (text ++ byte ∷ []))) s.0 ∙ bad_more text room byte s.1 (omega arith) bad

pub long_more : (text : List ℕ) (room byte : ℕ) → refusal_within room text ≡ None → room ≤ length text
    → refusal_within room (text ++ byte ∷ []) ≡ Some LineTooLong
long_more [] zero byte fine many = refl
long_more [] (suc room) byte fine many = absurd (omega arith)
long_more (x ∷ text) zero byte fine many = refl
long_more (x ∷ text) (suc room) byte fine many =
    let s = split (is_printable x) (refusal_within room text) fine in
    ap (guarded (refusal_within room (text ++ byte ∷ []))) s.0 ∙ long_more text room byte s.1 (omega arith)
