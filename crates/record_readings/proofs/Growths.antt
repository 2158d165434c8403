-- What is read of bytes goes on with what is read of more bytes.
use Rattle.std.proofs.Common.{◌≡◌, ◌∙◌, ◌++◌, ◌==◌, ℕ, zero, suc, Bool, true, false, List, [], ◌∷◌, Option, Some, None, Result, Ok, Err, if◌then◌else◌, refl, sym, ap, subst, append_assoc, append-nil}
use Rattle.std.proofs.lemmas.List.Sums.{fold_push}
use Rattle.site_types.specs.declared.site.Site.{Site}
use Rattle.record_lines.specs.Judged.{judged}
use Rattle.record_lines.specs.Lines.{Reading, at_start, by_bytes, by_ending, byte_refusal, cut, is_printable}
use Rattle.record_lines.specs.Lines.{lines_read, next_line, reading_of, refusal_within, refused, refused_rest}
use Rattle.record_lines.specs.Lines.{rest_by_ending, verdict, with_rest}
use Rattle.record_lines.specs.declared.line.Line.{Line}
use Rattle.record_lines.specs.declared.over.Over.{Over}
use Rattle.record_lines.specs.declared.why.Why.{Why}
use Rattle.record_lines.specs.declared.why.Why.TheVariants.{NotAscii}
use Rattle.record_lines.proofs.Cuts.{cut_more, cut_end}

-- a reading has the lines of an earlier one and maybe more, and is the same where that was over
pub record Grown (a b : Reading) : Type 0 where
  pub more : List Line
  pub lines : b.lines ≡ a.lines ++ more
  pub stays : (over : Over) → a.ending ≡ Some over → b ≡ a

grown_same : (a b : Reading) → b ≡ a → Grown a b
grown_same a b e = record { more = []; lines = ap (λ (r : Reading). r.lines) e ∙ sym (append-nil a.lines); stays = λ over h. e }

grown_trans : (a b c : Reading) → Grown a b → Grown b c → Grown a c
grown_trans a b c g h =
    record {
      more = g.more ++ h.more;
      lines = h.lines ∙ ap (λ ls. ls ++ h.more) g.lines ∙ append_assoc a.lines g.more h.more;
      stays = λ over e. (h.stays over (ap (λ (r : Reading). r.ending) (g.stays over e) ∙ e) ∙ g.stays over e);
    }

not_both : (over : Over) (o : Option Over) → o ≡ None → o ≡ Some over → ⊥
not_both over o none some = cc

grown_verdict : (a : Reading) (r : Result Line Why) → a.ending ≡ None → Grown a (verdict a r)
grown_verdict a (Ok line) going = record { more = line ∷ []; lines = refl; stays = λ over e. absurd (not_both over a.ending going e) }
grown_verdict a (Err why) going = record { more = []; lines = sym (append-nil a.lines); stays = λ over e. absurd (not_both over a.ending going e) }

grown_rest : (a : Reading) (o : Option Why) → a.ending ≡ None → Grown a (refused_rest a o)
grown_rest a None going = grown_same a a refl
grown_rest a (Some why) going = record { more = []; lines = sym (append-nil a.lines); stays = λ over e. absurd (not_both over a.ending going e) }

-- a line end behind a rest
grown_bytes : (site : Site) (a : Reading) (text : List ℕ) (o : Option Why) → a.ending ≡ None → Grown (refused_rest a o) (by_bytes site a text o)
grown_bytes site a text None going = grown_verdict a (judged site a.so_far text) going
grown_bytes site a text (Some why) going = grown_same (refused a why) (refused a why) refl

grown_end : (site : Site) (a : Reading) (text : List ℕ) (o : Option Over) → a.ending ≡ o → Grown (rest_by_ending a text o) (by_ending site a text o)
grown_end site a text None e = grown_bytes site a text (byte_refusal text) e
grown_end site a text (Some over) e = grown_same a a refl

no_rest : (a : Reading) (o : Option Over) → rest_by_ending a [] o ≡ a
no_rest a None = refl
no_rest a (Some over) = refl

-- a refused rest stays refused
refusal_stays : (room : ℕ) (text more : List ℕ) (why : Why) → refusal_within room text ≡ Some why → refusal_within room (text ++ more) ≡ Some why
refusal_stays room [] more why e = absurd (none_some e)
  where
    none_some : None ≡ Some why → ⊥
    none_some e = cc
refusal_stays zero (byte ∷ text) more why e = e
refusal_stays (suc room) (byte ∷ text) more why e = go (is_printable byte) e (refusal_stays room text more why)
  where
    go : (b : Bool) → (if b then refusal_within room text else Some NotAscii) ≡ Some why
        → (refusal_within room text ≡ Some why → refusal_within room (text ++ more) ≡ Some why)
        → (if b then refusal_within room (text ++ more) else Some NotAscii) ≡ Some why
    go true e f = f e
    go false e f = e

-- another byte of a line
grown_byte_by : (a : Reading) (text more : List ℕ) (o : Option Why) → byte_refusal text ≡ o → a.ending ≡ None
    → Grown (refused_rest a o) (refused_rest a (byte_refusal (text ++ more)))
grown_byte_by a text more None e going = grown_rest a (byte_refusal (text ++ more)) going
grown_byte_by a text more (Some why) e going =
    grown_same (refused a why) (refused_rest a (byte_refusal (text ++ more))) (ap (refused_rest a) (refusal_stays 512 text more why e))

grown_byte : (a : Reading) (text more : List ℕ) (o : Option Over) → a.ending ≡ o → Grown (rest_by_ending a text o) (rest_by_ending a (text ++ more) o)
grown_byte a text more None e = grown_byte_by a text more (byte_refusal text) refl e
grown_byte a text more (Some over) e = grown_same a a refl

grown_one : (site : Site) (bytes : List ℕ) (byte : ℕ) (b : Bool) → (byte == 10) ≡ b
    → Grown (reading_of site bytes) (reading_of site (bytes ++ byte ∷ []))
grown_one site bytes byte true e =
    let a = lines_read site (cut bytes).whole in
    let rest = (cut bytes).rest in
    let whole : lines_read site (cut (bytes ++ byte ∷ [])).whole ≡ next_line site a rest =
    ap (λ c. lines_read site c.whole) (cut_end bytes byte e) ∙ fold_push (next_line site) at_start (cut bytes).whole rest in
    let behind = lines_read site (cut (bytes ++ byte ∷ [])).whole in
    let is : reading_of site (bytes ++ byte ∷ []) ≡ next_line site a rest =
    ap (λ c. rest_by_ending behind c.rest behind.ending) (cut_end bytes byte e) ∙ no_rest behind behind.ending ∙ whole in
    subst (Grown (reading_of site bytes)) (sym is) (grown_end site a rest a.ending refl)
grown_one site bytes byte false e =
    let a = lines_read site (cut bytes).whole in
    let rest = (cut bytes).rest in
    let is : reading_of site (bytes ++ byte ∷ []) ≡ with_rest a (rest ++ byte ∷ []) =
    ap (λ c. with_rest (lines_read site c.whole) c.rest) (cut_more bytes byte e) in
    subst (Grown (reading_of site bytes)) (sym is) (grown_byte a rest (byte ∷ []) a.ending refl)

-- more bytes
pub grown : (site : Site) (bytes more : List ℕ) → Grown (reading_of site bytes) (reading_of site (bytes ++ more))
grown site bytes [] = grown_same (reading_of site bytes) (reading_of site (bytes ++ [])) (ap (reading_of site) (append-nil bytes))
grown site bytes (byte ∷ more) =
    let next = bytes ++ byte ∷ [] in
    subst (λ xs. Grown (reading_of site bytes) (reading_of site xs)) (append_assoc bytes (byte ∷ []) more)
    (grown_trans (reading_of site bytes) (reading_of site next) (reading_of site (next ++ more)) (grown_one site bytes byte (byte == 10) refl)
    (grown site next more))
