-- Where reading stops, the first bad line of the text stands.
use Rattle.std.proofs.Common.{◌≡◌, ◌≢◌, ◌∙◌, ◌⊎◌, ◌+◌, ◌-◌, ◌++◌, ℕ, suc, List, [], ◌∷◌, Option, Some, None, length, refl, sym, ap, subst, inl, inr, append_assoc, arith}
use Rattle.std.proofs.lemmas.List.{append-nil, length-append}
use Rattle.site_types.specs.declared.site.Site.{Site}
use Rattle.tick_units.specs.declared.tick.Tick.{Tick}
use Rattle.face_text.specs.declared.timeline.Timeline.{Timeline}
use Rattle.face_text.specs.Timelines.{IsInForm, empty_faces, end_line, faces_text, opening_line, steps_text, text_of}
use Rattle.face_reading.specs.declared.entry.Entry.{Entry}
use Rattle.face_reading.specs.declared.entry.Entry.TheVariants.{End as EndEntry}
use Rattle.face_reading.specs.Entries.{IsEntry, entry_line}
use Rattle.face_reading.specs.EntryLines.{IsLineOf}
use Rattle.face_reading.specs.Reading.{IsBadLine, IsRead, MayGoOn, Told, first_lines, line_ends, nothing_told, timeline_told, told_next}
use Rattle.face_reading.proofs.ReadSoFar.{AreEntries, IsOneLine, IsReadSoFar, IsRefused, entries_text, told_after, told_text}
use Rattle.face_reading.proofs.Accepted.{all_told, ended_told, goes_on, goes_on_before}
use Rattle.face_reading.proofs.LineEnds.{first_lines-line}
use Rattle.face_reading.proofs.RunChanges.{entries_join, leads_on}
use Rattle.face_reading.proofs.SameTexts.{same_front}
use Rattle.face_reading.proofs.ReadInForm.{IsToldForm, nothing_is_told, nothing_told_text}
use Rattle.face_reading.proofs.EntryLaws.{entry_line-determines, entry_line-one, opening_line-one}
use Rattle.site_types.specs.Valid.{IsValid}
use Rattle.face_reading.proofs.CountedLines.{IsLinesOf, lines_join, lines_of_front, one_line_of}
use Rattle.face_reading.proofs.NextLine.{has_next}

-- ---- the lines that are read

pub told_form : (site : Site) → IsValid site → (text rest : List ℕ) (told : Told) (count : ℕ) → IsReadSoFar site text rest told count
    → IsToldForm site told
told_form site valid text rest told count read =
    (all_told site valid (nothing_told site) told read.entries (nothing_is_told site) read.each read.leads).form

front_is : (site : Site) → IsValid site → (text rest : List ℕ) (told : Told) (count : ℕ) (read : IsReadSoFar site text rest told count) →
    told_text site told ≡ opening_line site ++ entries_text site read.entries
front_is site valid text rest told count read =
    (all_told site valid (nothing_told site) told read.entries (nothing_is_told site) read.each read.leads).text
    ∙ ap (λ t. t ++ entries_text site read.entries) (nothing_told_text site)

front_goes_on : (site : Site) → IsValid site → (text rest : List ℕ) (told : Told) (count : ℕ) (read : IsReadSoFar site text rest told count) →
    MayGoOn site (opening_line site ++ entries_text site read.entries)
front_goes_on site valid text rest told count read =
    subst (MayGoOn site) (front_is site valid text rest told count read) (goes_on site valid told (told_form site valid text rest told count read))

-- the opening is read
pub begun_reading : (site : Site) (text line rest : List ℕ) → opening_line site ≡ line ++ 10 ∷ [] → text ≡ line ++ 10 ∷ rest
    → IsReadSoFar site text rest (nothing_told site) 1
begun_reading site text line rest is text_is =
    record {
      entries = [];
      each = tt;
      leads = refl;
      count_is = refl;
      text_is = text_is ∙ sym (ap (λ t. t ++ rest) (append-nil (opening_line site) ∙ is) ∙ append_assoc line (10 ∷ []) rest);
    }

-- one more line is read
pub read_on : (site : Site) (text rest line more : List ℕ) (told next : Told) (count later : ℕ) (entry : Entry)
    → IsReadSoFar site text rest told count → rest ≡ line ++ 10 ∷ more → IsLineOf site line entry →
    told_next told entry ≡ Some next → later ≡ count + 1 → IsReadSoFar site text more next later
read_on site text rest line more told next count later entry read rest_is is taken later_is =
    record {
      entries = read.entries ++ entry ∷ [];
      each = entries_join site read.entries (entry ∷ []) read.each (is.form, tt);
      leads = leads_on (nothing_told site) told next read.entries (entry ∷ []) read.leads (rw taken refl);
      count_is = omega (arith, later_is, read.count_is, length-append read.entries (entry ∷ []));
      text_is =
          read.text_is ∙ ap (λ t. (opening_line site ++ entries_text site read.entries) ++ t) (rest_is ∙ front is.line_is) ∙ regroup
          (opening_line site) (entries_text site read.entries) (entry_line site entry) more
          ∙ ap (λ t. (opening_line site ++ t) ++ more) (sym (entries_push site read.entries entry));
    }
  where
    front : entry_line site entry ≡ line ++ 10 ∷ [] → line ++ 10 ∷ more ≡ entry_line site entry ++ more
    front same = sym (ap (λ t. t ++ more) same ∙ append_assoc line (10 ∷ []) more)

    regroup : (a b c d : List ℕ) → (a ++ b) ++ (c ++ d) ≡ (a ++ (b ++ c)) ++ d
    regroup a b c d = simp append_assoc

    entries_push : (s : Site) (entries : List Entry) (last : Entry) → entries_text s (entries ++ last ∷ []) ≡ entries_text s entries
        ++ entry_line s last
    entries_push s [] last = append-nil (entry_line s last)
    entries_push s (first ∷ entries) last =
        ap (λ t. entry_line s first ++ t) (entries_push s entries last) ∙ sym
        (append_assoc (entry_line s first) (entries_text s entries) (entry_line s last))

-- the last line is read
pub read_to_end : (site : Site) → IsValid site → (text rest line : List ℕ) (told : Told) (count : ℕ) (last : Tick) (timeline : Timeline)
    → IsReadSoFar site text rest told count →
    rest ≡ line ++ 10 ∷ [] → IsLineOf site line (EndEntry last) → timeline_told told last ≡ Some timeline → IsRead site text timeline
read_to_end site valid text rest line told count last timeline read rest_is is taken =
    let ended = ended_told site told last timeline (told_form site valid text rest told count read) is.form taken in
    let same : told_text site told ++ end_line last.0 ≡ text =
    ap (λ t. t ++ end_line last.0) (front_is site valid text rest told count read) ∙ ap (λ t. (opening_line site ++ entries_text site read.entries)
    ++ t) (is.line_is ∙ sym rest_is) ∙ sym read.text_is in
    record { form = ended.form; text_is = ended.text_is ∙ same }

-- ---- where reading stops

-- the line behind some lines that may go on is bad where no text has it, or where it isn't ended
bad_at : (site : Site) (text front rest : List ℕ) (count number : ℕ) → IsLinesOf count front → text ≡ front ++ rest → MayGoOn site front →
    ((timeline : Timeline) → IsInForm site timeline → text_of site timeline ≡ front ++ rest → ⊥) →
    (line_ends rest ≡ 0) ⊎ ((timeline : Timeline) (more : List ℕ) → IsInForm site timeline → text_of site timeline ≡ (front ++ first_lines 1 rest)
    ++ more → ⊥) → number ≡ count + 1 →
    IsBadLine site text number
bad_at site text front rest count number of text_is may none stops is =
    let so_many : count + 0 ≡ number - 1 = omega (arith, is) in
    let first : first_lines (number - 1) text ≡ front =
    ap (λ (n : ℕ). first_lines n text) (sym so_many) ∙ ap (first_lines (count + 0)) text_is ∙ of.0 0 rest ∙ append-nil front in
    let longer : first_lines number text ≡ front ++ first_lines 1 rest =
    ap (λ (n : ℕ). first_lines n text) is ∙ ap (first_lines (count + 1)) text_is ∙ of.0 1 rest in
    let ends : line_ends text ≡ count + line_ends rest = ap line_ends text_is ∙ of.1 rest in
    record {
      not_a_text = λ timeline form same. none timeline form (same ∙ text_is);
      from_one = omega (arith, is);
      ended = omega (arith, ends, is);
      before = subst (MayGoOn site) (sym first) may;
      bad =
          elim stops [
            | inl unended ↦ inl (omega (arith, ends, is, unended))
            | inr never ↦
                inr (λ (goes : MayGoOn site (first_lines number text)).
                never goes.timeline goes.rest goes.form (goes.text ∙ ap (λ t. t ++ goes.rest) longer))
          ];
    }

no_lines_yet : IsLinesOf 0 []
no_lines_yet = (
  λ k rest. let plain : 0 + k ≡ k = omega arith in ap (λ (n : ℕ). first_lines n rest) plain,
  λ rest. let plain :
      line_ends rest ≡ 0 + line_ends rest = omega arith in plain,
)

begins : (site : Site) → IsValid site → MayGoOn site []
begins site valid =
    goes_on_before site [] (opening_line site)
    (subst (MayGoOn site) (nothing_told_text site) (goes_on site valid (nothing_told site) (nothing_is_told site)))

opens_so : (site : Site) (timeline : Timeline) → (rest : List ℕ) × (text_of site timeline ≡ opening_line site ++ rest)
opens_so site timeline =
    let by = regroup (opening_line site) (faces_text site (empty_faces site) timeline.opened) (steps_text site timeline.opened timeline.steps)
    (end_line timeline.last.0) in
    ((faces_text site (empty_faces site) timeline.opened ++ steps_text site timeline.opened timeline.steps) ++ end_line timeline.last.0, by)
  where
    regroup : (a b c d : List ℕ) → ((a ++ b) ++ c) ++ d ≡ a ++ ((b ++ c) ++ d)
    regroup a b c d = simp append_assoc

-- the first line isn't ended
pub bad_first_unended : (site : Site) → IsValid site → (text : List ℕ) → line_ends text ≡ 0 → IsBadLine site text 1
bad_first_unended site valid text unended =
    bad_at site text [] text 0 1 no_lines_yet refl (begins site valid)
    (λ timeline form text_is.
    let opens = opens_so site timeline in
    let one = one_line_of (opening_line site) (opening_line-one site valid) in
    absurd (omega (arith, unended, ap line_ends (sym text_is ∙ opens.1), one.1 opens.0)))
    (inl unended) refl

not_opening : (site : Site) → IsValid site → (line : List ℕ) → line_ends line ≡ 0 → (opening_line site ≡ line ++ 10 ∷ [] → ⊥)
    → (timeline : Timeline) (more : List ℕ) →
    text_of site timeline ≡ line ++ 10 ∷ more → ⊥
not_opening site valid line no_end other timeline more text_is =
    let opens = opens_so site timeline in
    let whole : IsOneLine (line ++ 10 ∷ []) = record { body = line; no_end = no_end; bytes_is = refl } in
    let both =
    same_front (line ++ 10 ∷ []) more (opening_line site) opens.0 whole (opening_line-one site valid)
    (append_assoc line (10 ∷ []) more ∙ sym text_is ∙ opens.1) in
    other (sym both.0)

-- the first line isn't the opening's
pub bad_first : (site : Site) → IsValid site → (text line rest : List ℕ) → line_ends line ≡ 0 → text ≡ line ++ 10 ∷ rest
    → (opening_line site ≡ line ++ 10 ∷ [] → ⊥) → IsBadLine site text 1
bad_first site valid text line rest no_end text_is other =
    bad_at site text [] text 0 1 no_lines_yet refl (begins site valid)
    (λ timeline form is. not_opening site valid line no_end other timeline rest (is ∙ text_is))
    (inr (λ timeline more form is.
    not_opening site valid line no_end other timeline more
    (is ∙ ap (λ t. t ++ more) (ap (first_lines 1) text_is ∙ first_lines-line 0 line rest no_end) ∙ append_assoc line (10 ∷ []) more)))
    refl

-- no line is ended any more
pub bad_unended : (site : Site) → IsValid site → (text rest : List ℕ) (told : Told) (count number : ℕ) → IsReadSoFar site text rest told count
    → line_ends rest ≡ 0 →
    number ≡ count + 1 → IsBadLine site text number
bad_unended site valid text rest told count number read unended is =
    bad_at site text (opening_line site ++ entries_text site read.entries) rest (suc (length read.entries)) number
    (lines_of_front site valid read.entries read.each) read.text_is
    (front_goes_on site valid text rest told count read)
    (λ timeline form text_is.
    let next = has_next site valid timeline form read.entries told rest read.each read.leads text_is in
    let one = one_line_of (entry_line site next.entry) (entry_line-one site valid next.entry next.form) in
    absurd (omega (arith, unended, ap line_ends next.more_is, one.1 next.after)))
    (inl unended) (is ∙ ap (λ (n : ℕ). n + 1) read.count_is)

clash : {A : Type 0} (o : Option A) (x : A) → o ≡ None → o ≡ Some x → ⊥
clash o x none some = let both : None ≡ Some x = sym none ∙ some in cc

refuted : (site : Site) → IsValid site → (entries : List Entry) (told : Told) (line more : List ℕ) → AreEntries site entries
    → told_after (nothing_told site) entries ≡ Some told →
    line_ends line ≡ 0 → IsRefused site told line → (timeline : Timeline) → IsInForm site timeline
    → text_of site timeline ≡ (opening_line site ++ entries_text site entries) ++ (line ++ 10 ∷ more) → ⊥
refuted site valid entries told line more each leads no_end refused timeline form text_is =
    let next = has_next site valid timeline form entries told (line ++ 10 ∷ more) each leads text_is in
    let one = entry_line-one site valid next.entry next.form in
    let whole : IsOneLine (line ++ 10 ∷ []) = record { body = line; no_end = no_end; bytes_is = refl } in
    let both = same_front (line ++ 10 ∷ []) more (entry_line site next.entry) next.after whole one (append_assoc line (10 ∷ []) more ∙ next.more_is)
    in
    let is : IsLineOf site line next.entry = record { form = next.form; line_is = sym both.0 } in
    elim next.stands [
      | inl on ↦ clash (told_next told next.entry) on.0 (refused.goes_not_on next.entry is) on.1
      | inr end ↦ clash (timeline_told told timeline.last) timeline (refused.ends_not timeline.last (subst (IsLineOf site line) end.0 is)) end.1
    ]

-- the next line may not stand there
pub bad_refused : (site : Site) → IsValid site → (text rest line more : List ℕ) (told : Told) (count number : ℕ)
    → IsReadSoFar site text rest told count →
    rest ≡ line ++ 10 ∷ more → line_ends line ≡ 0 → IsRefused site told line → number ≡ count + 1 → IsBadLine site text number
bad_refused site valid text rest line more told count number read rest_is no_end refused is =
    let front : List ℕ = opening_line site ++ entries_text site read.entries in
    let first : first_lines 1 rest ≡ line ++ 10 ∷ [] = ap (first_lines 1) rest_is ∙ first_lines-line 0 line more no_end in
    bad_at site text (opening_line site ++ entries_text site read.entries) rest (suc (length read.entries)) number
    (lines_of_front site valid read.entries read.each) read.text_is
    (front_goes_on site valid text rest told count read)
    (λ timeline form text_is. refuted site valid read.entries told line more read.each read.leads no_end refused timeline form
    (text_is ∙ ap (λ t. front ++ t) rest_is))
    (inr (λ timeline behind form text_is.
    refuted site valid read.entries told line behind read.each read.leads no_end refused timeline form
    (text_is ∙ ap (λ t. (front ++ t) ++ behind) first ∙ append_assoc front (line ++ 10 ∷ []) behind ∙ ap (λ t. front ++ t)
    (append_assoc line (10 ∷ []) behind))))
    (is ∙ ap (λ (n : ℕ). n + 1) read.count_is)

nothing_behind_end : (site : Site) → IsValid site → (entries : List Entry) (told : Told) (last : Tick) (more : List ℕ) → AreEntries site entries →
    told_after (nothing_told site) entries ≡ Some told → IsEntry site (EndEntry last) → more ≢ [] → (timeline : Timeline) → IsInForm site timeline →
    text_of site timeline ≡ ((opening_line site ++ entries_text site entries) ++ end_line last.0) ++ more → ⊥
nothing_behind_end site valid entries told last more each leads small some timeline form text_is =
    let next =
    has_next site valid timeline form entries told (end_line last.0 ++ more) each leads
    (text_is ∙ append_assoc (opening_line site ++ entries_text site entries) (end_line last.0) more) in
    let both =
    same_front (end_line last.0) more (entry_line site next.entry) next.after (entry_line-one site valid (EndEntry last) small)
    (entry_line-one site valid next.entry next.form) next.more_is in
    let same : EndEntry last ≡ next.entry = entry_line-determines site valid (EndEntry last) next.entry small next.form both.0 in
    elim next.stands [
      | inl on ↦ clash (told_next told next.entry) on.0 (ap (told_next told) (sym same)) on.1
      | inr end ↦ some (both.1 ∙ end.2)
    ]

some_first : (rest : List ℕ) → rest ≢ [] → first_lines 1 rest ≢ []
some_first [] some = λ e. some refl
some_first (byte ∷ rest) some = λ e. cc

-- behind the last line there is more
pub bad_behind_end : (site : Site) → IsValid site
    → (text rest line more : List ℕ) (told : Told) (count number : ℕ) (last : Tick) (timeline : Timeline) →
    IsReadSoFar site text rest told count → rest ≡ line ++ 10 ∷ more → IsLineOf site line (EndEntry last) → timeline_told told last ≡ Some timeline
    → more ≢ [] → number ≡ count + 2 → IsBadLine site text number
bad_behind_end site valid text rest line more told count number last timeline read rest_is is taken some number_is =
    let front : List ℕ = opening_line site ++ entries_text site read.entries in
    let ended = ended_told site told last timeline (told_form site valid text rest told count read) is.form taken in
    let text_is : text ≡ (front ++ end_line last.0) ++ more =
    read.text_is ∙ ap (λ t. front ++ t) (rest_is ∙ sym (ap (λ t. t ++ more) is.line_is ∙ append_assoc line (10 ∷ []) more)) ∙ sym
    (append_assoc front (end_line last.0) more) in
    let may : MayGoOn site (front ++ end_line last.0) =
    record {
      timeline = timeline;
      form = ended.form;
      rest = [];
      text =
          ended.text_is ∙ ap (λ t. t ++ end_line last.0) (front_is site valid text rest told count read) ∙ sym
          (append-nil (front ++ end_line last.0));
    } in
    bad_at site text (front ++ end_line last.0) more (suc (length read.entries) + 1) number
    (lines_join (suc (length read.entries)) 1 front (end_line last.0) (lines_of_front site valid read.entries read.each)
    (one_line_of (end_line last.0) (entry_line-one site valid (EndEntry last) is.form))) text_is may
    (λ other form same. nothing_behind_end site valid read.entries told last more read.each read.leads is.form some other form same)
    (inr (λ other behind form same.
    nothing_behind_end site valid read.entries told last (first_lines 1 more ++ behind) read.each read.leads is.form
    (λ e. some_first more some (front_none (first_lines 1 more) behind e)) other form
    (same ∙ append_assoc (front ++ end_line last.0) (first_lines 1 more) behind)))
    (omega (arith, number_is, read.count_is))
  where
    front_none : (xs ys : List ℕ) → xs ++ ys ≡ [] → xs ≡ []
    front_none [] ys e = refl
    front_none (x ∷ xs) ys e = cc
