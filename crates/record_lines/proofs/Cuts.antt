-- What a byte more makes of the lines that bytes hold.
use Rattle.std.proofs.Common.{◌≡◌, ◌∙◌, ◌++◌, ℕ, Bool, true, false, List, [], ◌∷◌, refl, sym, ap, append_assoc, arith}
use Rattle.std.specs.Prelude.{◌==◌, nat_le}
use Rattle.std.specs.List.{list_all}
use Rattle.std.proofs.lemmas.Bool.{and_parts, leb-true, ne_eqb}
use Rattle.std.proofs.lemmas.List.{append-nil}
use Rattle.record_lines.specs.Lines.{Cut, begun, cut, is_printable, with_byte}

begun_more : (x byte : ℕ) (whole : List (List ℕ)) (rest : List ℕ) →
    begun x whole (rest ++ byte ∷ []) ≡ record { whole = (begun x whole rest).whole; rest = (begun x whole rest).rest ++ byte ∷ [] }
begun_more x byte [] rest = refl
begun_more x byte (line ∷ lines) rest = refl

with_more : (end : Bool) (x byte : ℕ) (behind : Cut) →
    with_byte end x (record { whole = behind.whole; rest = behind.rest ++ byte ∷ [] }) ≡ record {
      whole = (with_byte end x behind).whole;
      rest =
          (with_byte end x behind).rest ++ byte ∷ [];
    }
with_more true x byte behind = refl
with_more false x byte behind = begun_more x byte behind.whole behind.rest

-- another byte goes on with the line
pub cut_more : (bytes : List ℕ) (byte : ℕ) → (byte == 10) ≡ false
    → cut (bytes ++ byte ∷ []) ≡ record { whole = (cut bytes).whole; rest = (cut bytes).rest ++ byte ∷ [] }
cut_more [] byte other = ap (λ end. with_byte end byte (cut [])) other
cut_more (x ∷ bytes) byte other = ap (λ behind. with_byte (x == 10) x behind) (cut_more bytes byte other) ∙ with_more (x == 10) x byte (cut bytes)

-- a printable byte is no line end
no_end : (byte : ℕ) → is_printable byte ≡ true → (byte == 10) ≡ false
no_end byte printable = ne_eqb byte 10 (λ e. omega (arith, e, leb-true 32 byte (and_parts (nat_le 32 byte) (nat_le byte 126) printable).0))

-- bytes that end no line go on with it
pub cut_on : (bytes more : List ℕ) → list_all is_printable more ≡ true
    → cut (bytes ++ more) ≡ record { whole = (cut bytes).whole; rest = (cut bytes).rest ++ more }
cut_on bytes [] printable =
    ap cut (append-nil bytes) ∙ ap (λ rest. record { whole = (cut bytes).whole; rest = rest }) (sym (append-nil (cut bytes).rest))
cut_on bytes (byte ∷ more) printable =
    let parts = and_parts (is_printable byte) (list_all is_printable more) printable in
    let first = cut_more bytes byte (no_end byte parts.0) in
    ap cut (sym (append_assoc bytes (byte ∷ []) more)) ∙ cut_on (bytes ++ byte ∷ []) more parts.1
    ∙ ap (λ c. record { whole = c.whole; rest = c.rest ++ more }) first
    ∙ ap (λ rest. record { whole = (cut bytes).whole; rest = rest }) (append_assoc (cut bytes).rest (byte ∷ []) more)

begun_end : (x : ℕ) (whole : List (List ℕ)) (rest : List ℕ) →
    begun x (whole ++ rest ∷ []) [] ≡ record { whole = (begun x whole rest).whole ++ (begun x whole rest).rest ∷ []; rest = [] }
begun_end x [] rest = refl
begun_end x (line ∷ lines) rest = refl

with_end : (end : Bool) (x : ℕ) (behind : Cut) →
    with_byte end x (record { whole = behind.whole ++ behind.rest ∷ []; rest = [] }) ≡ record {
      whole =
          (with_byte end x behind).whole ++ (with_byte end x behind).rest ∷ [];
      rest = [];
    }
with_end true x behind = refl
with_end false x behind = begun_end x behind.whole behind.rest

-- a line end makes the line whole
pub cut_end : (bytes : List ℕ) (byte : ℕ) → (byte == 10) ≡ true
    → cut (bytes ++ byte ∷ []) ≡ record { whole = (cut bytes).whole ++ (cut bytes).rest ∷ []; rest = [] }
cut_end [] byte is = ap (λ end. with_byte end byte (cut [])) is
cut_end (x ∷ bytes) byte is = ap (λ behind. with_byte (x == 10) x behind) (cut_end bytes byte is) ∙ with_end (x == 10) x (cut bytes)
