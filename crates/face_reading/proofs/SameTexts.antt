-- One text has one list of lines, and no two timelines in form have one text.
use Rattle.std.proofs.Common.{◌≡◌, ◌∙◌, ◌+◌, ◌++◌, ℕ, List, [], ◌∷◌, Some, length, refl, sym, ap, append_assoc, arith}
use Rattle.std.proofs.lemmas.List.{append-nil, append_cancel_left, length-append, same_from_push}
use Rattle.std.proofs.lemmas.List.Concat.{flat_map-append}
use Rattle.site_types.specs.declared.site.Site.{Site}
use Rattle.tick_units.specs.declared.tick.Tick.{Tick}
use Rattle.face_text.specs.declared.timeline.Timeline.{Timeline}
use Rattle.face_text.specs.Timelines.{IsInForm, end_line, opening_line, text_of}
use Rattle.face_reading.specs.declared.entry.Entry.{Entry}
use Rattle.face_reading.specs.declared.entry.Entry.TheVariants.{End as EndEntry}
use Rattle.face_reading.specs.Entries.{IsEntry, entry_line}
use Rattle.face_reading.specs.Reading.{Told, nothing_told, timeline_told}
use Rattle.face_reading.proofs.ReadSoFar.{AreEntries, IsOneLine, entries_text, told_after}
use Rattle.face_reading.specs.ReadingLaws.{TextsAreTheirOwn}
use Rattle.face_reading.proofs.LineEnds.{same_line}
use Rattle.face_reading.proofs.RunChanges.{entries_join}
use Rattle.face_reading.proofs.Runs.{IsTold, is_told}
use Rattle.face_reading.proofs.EntryLaws.{entry_line-determines, entry_line-one}
use Rattle.site_types.specs.Valid.{IsValid}

-- ---- one text, one list of lines

-- a line at the front of a text
front_line : (line rest : List ℕ) (one : IsOneLine line) → line ++ rest ≡ one.body ++ 10 ∷ rest
front_line line rest one = ap (λ t. t ++ rest) one.bytes_is ∙ append_assoc one.body (10 ∷ []) rest

pub no_lines : (line rest : List ℕ) → IsOneLine line → line ++ rest ≡ [] → ⊥
no_lines line rest one none =
    let size : length (line ++ rest) ≡ 0 = ap length none in
    let last : length line ≡ length one.body + 1 = ap length one.bytes_is ∙ length-append one.body (10 ∷ []) in
    absurd (omega (arith, size, last, length-append line rest))

-- two texts that begin with a line begin with one line, and go on alike
pub same_front : (line rest other behind : List ℕ) → IsOneLine line → IsOneLine other → line ++ rest ≡ other ++ behind
    → (line ≡ other) × (rest ≡ behind)
same_front line rest other behind one another same =
    let both =
    same_line one.body rest another.body behind one.no_end another.no_end
    (sym (front_line line rest one) ∙ same ∙ front_line other behind another) in
    (one.bytes_is ∙ ap (λ (body : List ℕ). body ++ 10 ∷ []) both.0 ∙ sym another.bytes_is, both.1)

-- the lines of a text that begins with those of others begin with them
pub record GoesOn (site : Site) (entries others : List Entry) (more : List ℕ) : Type 0 where
  pub rest : List Entry
  pub others_are : others ≡ entries ++ rest
  pub each : AreEntries site rest
  pub more_is : more ≡ entries_text site rest

pub entries_front : (site : Site) → IsValid site → (entries others : List Entry) (more : List ℕ) → AreEntries site entries → AreEntries site others →
    entries_text site entries ++ more ≡ entries_text site others → GoesOn site entries others more
entries_front site valid [] others more are others_are same = record { rest = others; others_are = refl; each = others_are; more_is = same }
entries_front site valid (entry ∷ entries) [] more are others_are same =
    absurd (no_lines (entry_line site entry) (entries_text site entries ++ more) (entry_line-one site valid entry are.0)
    (sym (append_assoc (entry_line site entry) (entries_text site entries) more) ∙ same))
entries_front site valid (entry ∷ entries) (other ∷ others) more are others_are same =
    let front =
    same_front (entry_line site entry) (entries_text site entries ++ more) (entry_line site other) (entries_text site others)
    (entry_line-one site valid entry are.0) (entry_line-one site valid other others_are.0)
    (sym (append_assoc (entry_line site entry) (entries_text site entries) more) ∙ same) in
    let first : entry ≡ other = entry_line-determines site valid entry other are.0 others_are.0 front.0 in
    let ih = entries_front site valid entries others more are.1 others_are.1 front.1 in
    record {
      rest = ih.rest;
      others_are = ap (λ (e : Entry). e ∷ others) (sym first) ∙ ap (λ (all : List Entry). entry ∷ all) ih.others_are;
      each = ih.each;
      more_is = ih.more_is;
    }

no_entries : (site : Site) → IsValid site → (entries : List Entry) → AreEntries site entries → [] ≡ entries_text site entries → entries ≡ []
no_entries site valid [] are none = refl
no_entries site valid (entry ∷ entries) are none =
    absurd (no_lines (entry_line site entry) (entries_text site entries) (entry_line-one site valid entry are.0) (sym none))

-- ---- all lines of a timeline

abbrev pub all_entries : List Entry → Tick → List Entry
all_entries entries last = entries ++ EndEntry last ∷ []

pub all_entries_are : (site : Site) (entries : List Entry) (last : Tick) → AreEntries site entries → IsEntry site (EndEntry last)
    → AreEntries site (all_entries entries last)
all_entries_are site entries last are small = entries_join site entries (EndEntry last ∷ []) are (small, tt)

pub all_text : (site : Site) (entries : List Entry) (last : Tick) → entries_text site (all_entries entries last) ≡ entries_text site entries
    ++ end_line last.0
all_text site entries last =
    flat_map-append (entry_line site) entries (EndEntry last ∷ []) ∙ ap (λ t. entries_text site entries ++ t) (append-nil (end_line last.0))

pub told_text_of : (site : Site) (timeline : Timeline) (told : IsTold site timeline) → text_of site timeline ≡ opening_line site
    ++ entries_text site (all_entries told.entries timeline.last)
told_text_of site timeline told =
    told.by_them.text ∙ append_assoc (opening_line site) (entries_text site told.entries) (end_line timeline.last.0)
    ∙ ap (λ t. opening_line site ++ t) (sym (all_text site told.entries timeline.last))

end_is : (one other : Tick) → EndEntry one ≡ EndEntry other → one ≡ other
end_is one other same = cc

-- ---- no two timelines in form have one text

alike : (site : Site) → IsValid site → (one other : Timeline) → IsInForm site one → IsInForm site other → IsTold site one → IsTold site other
    → text_of site one ≡ text_of site other → one ≡ other
alike site valid one other one_form other_form told another same =
    let texts = append_cancel_left (opening_line site) _ _ (sym (told_text_of site one told) ∙ same ∙ told_text_of site other another) in
    let on =
    entries_front site valid (all_entries told.entries one.last) (all_entries another.entries other.last) []
    (all_entries_are site told.entries one.last told.by_them.each one_form.last)
    (all_entries_are site another.entries other.last another.by_them.each other_form.last) (append-nil _ ∙ texts) in
    let none : on.rest ≡ [] = no_entries site valid on.rest on.each on.more_is in
    let lists : all_entries another.entries other.last ≡ all_entries told.entries one.last =
    on.others_are ∙ ap (λ (rest : List Entry). all_entries told.entries one.last ++ rest) none ∙ append-nil (all_entries told.entries one.last) in
    let both = same_from_push another.entries told.entries (EndEntry other.last) (EndEntry one.last) lists in
    let last : other.last ≡ one.last = end_is other.last one.last both.1 in
    let ends : Some another.told ≡ Some told.told = sym another.by_them.leads ∙ ap (told_after (nothing_told site)) both.0 ∙ told.by_them.leads in
    let tolds : another.told ≡ told.told = cc in
    let timelines : Some other ≡ Some one =
    sym another.by_them.ends ∙ ap (λ (t : Told). timeline_told t other.last) tolds ∙ ap (timeline_told told.told) last ∙ told.by_them.ends in
    cc

pub texts_are_their_own : TextsAreTheirOwn
texts_are_their_own site valid one other one_form other_form same =
    alike site valid one other one_form other_form (is_told site valid one one_form) (is_told site valid other other_form) same
