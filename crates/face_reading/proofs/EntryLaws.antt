-- An entry's line has one line end, at its end, and determines the entry.
use Rattle.std.proofs.Common.{◌≡◌, ◌∙◌, ◌<◌, ◌^◌, ◌++◌, ◌&&◌, ℕ, true, List, [], ◌∷◌, Some, refl, sym, ap, append_assoc, arith}
use Rattle.std.specs.Prelude.{codes, decimal}
use Rattle.std.specs.List.{list_all}
use Rattle.std.proofs.lemmas.Bool.{and_from}
use Rattle.std.proofs.lemmas.List.{append-nil, append_cancel_right}
use Rattle.std.proofs.lemmas.Option.{same_Some}
use Rattle.site_types.specs.declared.site.Site.{Site}
use Rattle.site_types.specs.Valid.{IsValid}
use Rattle.face_text.specs.Timelines.{opening_line}
use Rattle.face_reading.specs.declared.entry.Entry.{Entry}
use Rattle.face_reading.specs.Entries.{IsEntry, entry_line}
use Rattle.face_reading.specs.EntryLines.{IsLineOf}
use Rattle.face_reading.proofs.ReadSoFar.{IsOneLine}
use Rattle.face_reading.specs.Spelled.{entry_spelled}
use Rattle.face_reading.proofs.EntryFields.{ends_joined, joined}
use Rattle.line_fields.proofs.PlainFields.{are_plain, decimal_plain, is_plain, name_plain}
use Rattle.face_reading.proofs.SpelledEntries.{entry_is}

-- a line of an entry spells it
pub line_spells : (site : Site) → IsValid site → (line : List ℕ) (entry : Entry) → IsLineOf site line entry → entry_spelled site line ≡ Some entry
line_spells site valid line entry is =
    let it = entry_is site valid entry is.form in
    ap (entry_spelled site) (append_cancel_right line (joined it.word it.fields) (10 ∷ []) (sym is.line_is ∙ it.line_is)) ∙ it.spelled

-- the end of an entry's line stands only at its end
pub entry_line-one : (site : Site) → IsValid site → (entry : Entry) → IsEntry site entry → IsOneLine (entry_line site entry)
entry_line-one site valid entry is =
    let it = entry_is site valid entry is in
    record { body = joined it.word it.fields; no_end = ends_joined it.word it.fields it.plain it.others; bytes_is = it.line_is }

-- so does that of the first line
opening_joined : (name panels : List ℕ) → codes "site " ++ name ++ codes " panels " ++ panels
    ++ codes "\n" ≡ joined (codes "site") (name ∷ codes "panels" ∷ panels ∷ []) ++ 10 ∷ []
opening_joined name panels = simp (append_assoc, append-nil)

pub opening_line-one : (site : Site) → IsValid site → IsOneLine (opening_line site)
opening_line-one site valid =
    let name = site.name.bytes in
    let panels = decimal site.panels in
    let wide : site.panels < 2 ^ 64 = omega (arith, valid.forms.panels.1) in
    let fields = name ∷ codes "panels" ∷ panels ∷ [] in
    let plain : are_plain fields ≡ true =
    and_from (list_all is_plain name) (list_all is_plain panels && true) (name_plain name valid.forms.name)
    (and_from (list_all is_plain panels) true (decimal_plain site.panels wide) refl) in
    record { body = joined (codes "site") fields; no_end = ends_joined (codes "site") fields refl plain; bytes_is = opening_joined name panels }

-- an entry's line determines it
pub entry_line-determines : (site : Site) → IsValid site → (one other : Entry) → IsEntry site one → IsEntry site other
    → entry_line site one ≡ entry_line site other → one ≡ other
entry_line-determines site valid one other is also same =
    let line = entry_line-one site valid one is in
    let first : entry_spelled site line.body ≡ Some one = line_spells site valid line.body one (record { form = is; line_is = line.bytes_is }) in
    let second : entry_spelled site line.body ≡ Some other =
    line_spells site valid line.body other (record { form = also; line_is = sym same ∙ line.bytes_is }) in
    same_Some one other (sym first ∙ second)
