-- What is read of a line is the entry that it spells, where that entry's line is this one.
use Rattle.std.proofs.Common.{◌≡◌, ◌∙◌, ◌++◌, List, [], ◌∷◌, ℕ, Option, Some, None, sym, subst}
use Rattle.std.proofs.lemmas.Option.{same_Some}
use Rattle.site_types.specs.declared.site.Site.{Site}
use Rattle.site_types.specs.Valid.{IsValid}
use Rattle.face_reading.specs.declared.entry.Entry.{Entry}
use Rattle.face_reading.specs.Entries.{IsEntry, entry_line}
use Rattle.face_reading.specs.EntryLines.{IsLineOf, ReadsEntry}
use Rattle.face_reading.specs.Spelled.{entry_spelled}
use Rattle.face_reading.proofs.EntryLaws.{line_spells}

-- nothing is spelled
pub none_read : (site : Site) → IsValid site → (line : List ℕ) (found result : Option Entry) → found ≡ entry_spelled site line → found ≡ None
    → result ≡ None → ReadsEntry site line result
none_read site valid line found result is none nothing = record {
  only = λ entry some. absurd (let e : None ≡ Some entry = sym nothing ∙ some in cc);
  all = λ entry of. absurd (let e : None ≡ Some entry = sym none ∙ is ∙ line_spells site valid line entry of in cc);
}

-- the entry that is spelled has this line
pub entry_read : (site : Site) → IsValid site → (line bytes : List ℕ) (found : Option Entry) (entry : Entry) → found ≡ entry_spelled site line
    → found ≡ Some entry → IsEntry site entry →
    bytes ≡ entry_line site entry → bytes ≡ line ++ 10 ∷ [] → ReadsEntry site line (Some entry)
entry_read site valid line bytes found entry is some form printed same = record {
  only = λ other read. subst (IsLineOf site line) (same_Some entry other read) (record { form = form; line_is = sym printed ∙ same });
  all = λ other of. sym some ∙ is ∙ line_spells site valid line other of;
}

-- the entry that is spelled has another line, or is none
pub other_read : (site : Site) → IsValid site → (line : List ℕ) (found : Option Entry) (entry : Entry) → found ≡ entry_spelled site line
    → found ≡ Some entry → (IsEntry site entry → entry_line site entry ≡ line ++ 10 ∷ [] → ⊥) →
    ReadsEntry site line None
other_read site valid line found entry is some none = record {
  only = λ other read. absurd (cc);
  all = λ other of.
      let it = subst (IsLineOf site line) (same_Some other entry (sym (line_spells site valid line other of) ∙ sym is ∙ some)) of in
      absurd (none it.form it.line_is);
}
