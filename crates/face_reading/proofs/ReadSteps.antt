-- Each step of reading a text, from what its calls say.
use mathlib.Core.Logic.{◌↔◌}
use Rattle.std.proofs.Common.{◌≡◌, ◌∙◌, ◌<◌, ◌≤◌, ◌+◌, ◌++◌, ℕ, Bool, true, false, List, [], ◌∷◌, Some, None, Result, Ok, Err, length, refl, sym, ap, subst, inl, inr, arith}
use Rattle.std.specs.Prelude.{IfErr, IfOk, IsTrue}
use Rattle.std.proofs.lemmas.Bool.{both_ways}
use Rattle.std.proofs.lemmas.List.{length-append}
use Rattle.site_types.specs.declared.site.Site.{Site}
use Rattle.site_types.specs.Valid.{IsValid}
use Rattle.tick_units.specs.declared.tick.Tick.{Tick}
use Rattle.face_text.specs.declared.face.Face.{Face}
use Rattle.face_text.specs.declared.timeline.Timeline.{Timeline}
use Rattle.face_text.specs.Timelines.{opening_line}
use Rattle.face_reading.specs.declared.entry.Entry.{Entry}
use Rattle.face_reading.specs.declared.entry.Entry.TheVariants.{Change as ChangeEntry, Answer as AnswerEntry, Busy as BusyEntry, StoreFailed, Tick as TickEntry, End as EndEntry}
use Rattle.face_reading.specs.declared.text_refusal.TextRefusal.{TextRefusal}
use Rattle.face_reading.specs.declared.text_refusal.TextRefusal.TheVariants.{BadLine, NoMemory}
use Rattle.face_reading.specs.Entries.{IsEntry}
use Rattle.face_reading.specs.EntryLines.{IsLineOf, IsParted, ReadsEntry}
use Rattle.face_reading.specs.Reading.{IsBadLine, IsRead, IsRefusal, Told, line_ends, nothing_told, timeline_told, told_next}
use Rattle.face_reading.specs.ReadSoFar.{HasPlaceOf, IsEndOf, Turns}
use Rattle.face_reading.proofs.ReadSoFar.{IsReadSoFar}
use Rattle.face_reading.proofs.FirstBad.{bad_behind_end, bad_first, bad_first_unended, bad_refused, bad_unended, begun_reading, read_on, read_to_end, told_form}
use Rattle.face_reading.proofs.ChangedFaces.{few_panels}
use Rattle.face_reading.proofs.ChangedSlots.{change_placed}

-- ---- the first line

pub first_unended : (site : Site) → IsValid site → (text : List ℕ) → line_ends text ≡ 0 → IsBadLine site text 1
first_unended site valid text unended = bad_first_unended site valid text unended

pub first_not_opening : (site : Site) → IsValid site → (text line rest : List ℕ) (is : Bool) → IsParted text line rest
    → IsTrue is ↔ (opening_line site ≡ line ++ 10 ∷ []) → is ≡ false → IsBadLine site text 1
first_not_opening site valid text line rest is parted tells off =
    bad_first site valid text line rest parted.no_end parted.text_is (λ same. both_ways is off (tells.1 same))

opening_is_long : (site : Site) → 2 ≤ length (opening_line site)
opening_is_long site = omega arith

pub first_is_opening : (site : Site) (text line rest : List ℕ) (told : Told) (is : Bool) → IsParted text line rest
    → IsTrue is ↔ (opening_line site ≡ line ++ 10 ∷ []) → is ≡ true →
    told ≡ nothing_told site → IsReadSoFar site text rest told 1 × (1 + length rest < length text)
first_is_opening site text line rest told is parted tells on nothing =
    let opens = tells.0 on in (
      subst (λ (t : Told). IsReadSoFar site text rest t 1) (sym nothing) (begun_reading site text line rest opens parted.text_is),
      omega (arith, opening_is_long site, ap length opens, length-append line (10 ∷ []), ap length parted.text_is, length-append line (10 ∷ rest)),
    )

-- ---- any other line

pub no_more_ends : (site : Site) → IsValid site → (text rest : List ℕ) (told : Told) (count : ℕ) → IsReadSoFar site text rest told count
    → line_ends rest ≡ 0 → IsBadLine site text (count + 1)
no_more_ends site valid text rest told count read unended = bad_unended site valid text rest told count (count + 1) read unended refl

no_entry : {A : Type 0} (site : Site) (line : List ℕ) (entry : Entry) → ReadsEntry site line None → IsLineOf site line entry → A
no_entry site line entry reads is = let both : None ≡ Some entry = reads.all entry is in cc

pub not_an_entry : (site : Site) → IsValid site → (text rest line behind : List ℕ) (told : Told) (count : ℕ) → IsReadSoFar site text rest told count
    → IsParted rest line behind → ReadsEntry site line None →
    IsBadLine site text (count + 1)
not_an_entry site valid text rest line behind told count read parted reads =
    bad_refused site valid text rest line behind told count (count + 1) read parted.text_is parted.no_end
    (record { goes_not_on = λ entry is. no_entry site line entry reads is; ends_not = λ last is. no_entry site line (EndEntry last) reads is }) refl

same_entry : (site : Site) (line : List ℕ) (one other : Entry) → ReadsEntry site line (Some one) → IsLineOf site line other → one ≡ other
same_entry site line one other reads is = let both : Some one ≡ Some other = reads.all other is in cc

pub not_taken : (site : Site) → IsValid site → (text rest line behind : List ℕ) (told next : Told) (count : ℕ) (entry : Entry) (taken : Bool)
    → IsReadSoFar site text rest told count →
    IsParted rest line behind → ReadsEntry site line (Some entry) → ((last : Tick) → entry ≡ EndEntry last → ⊥) → Turns told entry taken next
    → taken ≡ false → IsBadLine site text (count + 1)
not_taken site valid text rest line behind told next count entry taken read parted reads not_end turns off =
    let none : told_next told entry ≡ None = rw off at turns in
    bad_refused site valid text rest line behind told count (count + 1) read parted.text_is parted.no_end
    (record {
      goes_not_on = λ other is. ap (told_next told) (sym (same_entry site line entry other reads is)) ∙ none;
      ends_not = λ last is. absurd (not_end last (same_entry site line entry (EndEntry last) reads is));
    }) refl

pub one_more : (site : Site) (text rest line behind : List ℕ) (told next : Told) (count : ℕ) (entry : Entry) (taken : Bool)
    → IsReadSoFar site text rest told count → count + length rest < length text →
    IsParted rest line behind → ReadsEntry site line (Some entry) → Turns told entry taken next → taken ≡ true
    → IsReadSoFar site text behind next (count + 1) × (count + 1 + length behind < length text)
one_more site text rest line behind told next count entry taken read room parted reads turns on =
    let some : told_next told entry ≡ Some next = rw on at turns in (
      read_on site text rest line behind told next count (count + 1) entry read parted.text_is (reads.only entry refl) some refl,
      omega (arith, room, ap length parted.text_is, length-append line (10 ∷ behind)),
    )

placed : (site : Site) (faces : List Face) (entry : Entry) → length faces ≡ site.panels → site.panels ≤ 8 → IsEntry site entry
    → HasPlaceOf faces entry
placed site faces (ChangeEntry panel change) count small is = (is.0, omega (arith, is.1, count), change_placed site panel change is.2)
placed site faces (AnswerEntry answer) count small is = tt
placed site faces (BusyEntry panel busy) count small is = (is.0, omega (arith, is.1, small))
placed site faces StoreFailed count small is = tt
placed site faces (TickEntry tick) count small is = tt
placed site faces (EndEntry tick) count small is = tt

pub has_place : (site : Site) → IsValid site → (text rest line : List ℕ) (told : Told) (count : ℕ) (entry : Entry)
    → IsReadSoFar site text rest told count → ReadsEntry site line (Some entry) → HasPlaceOf told.faces entry
has_place site valid text rest line told count entry read reads =
    let form = told_form site valid text rest told count read in
    placed site told.faces entry form.block.count (few_panels site valid) (reads.only entry refl).form

-- ---- the last line

last_line : (site : Site) (line : List ℕ) (entry : Entry) (last : Tick) → ReadsEntry site line (Some entry) → entry ≡ EndEntry last
    → IsLineOf site line (EndEntry last)
last_line site line entry last reads is = subst (IsLineOf site line) is (reads.only entry refl)

pub end_is_read : (site : Site) → IsValid site
    → (text rest line behind : List ℕ) (told : Told) (count : ℕ) (entry : Entry) (last : Tick) (result : Result Timeline TextRefusal) →
    IsReadSoFar site text rest told count → IsParted rest line behind → ReadsEntry site line (Some entry) → entry ≡ EndEntry last
    → IsEndOf told last behind (count + 1) result →
    IfOk result (λ timeline. IsRead site text timeline)
end_is_read site valid text rest line behind told count entry last (Ok timeline) read parted reads is end =
    read_to_end site valid text rest line told count last timeline read (parted.text_is ∙ ap (λ (more : List ℕ). line ++ 10 ∷ more) end.1)
    (last_line site line entry last reads is) end.0
end_is_read site valid text rest line behind told count entry last (Err refusal) read parted reads is end = tt

end_refused : (told : Told) (entry : Entry) (last : Tick) → entry ≡ EndEntry last → told_next told entry ≡ None
end_refused told entry last is = ap (told_next told) is

end_of : (one other : Tick) → EndEntry one ≡ EndEntry other → one ≡ other
end_of one other same = cc

pub end_is_refused : (site : Site) → IsValid site
    → (text rest line behind : List ℕ) (told : Told) (count : ℕ) (entry : Entry) (last : Tick) (result : Result Timeline TextRefusal) →
    IsReadSoFar site text rest told count → IsParted rest line behind → ReadsEntry site line (Some entry) → entry ≡ EndEntry last
    → IsEndOf told last behind (count + 1) result →
    IfErr result (IsRefusal site text)
end_is_refused site valid text rest line behind told count entry last (Ok timeline) read parted reads is end = tt
end_is_refused site valid text rest line behind told count entry last (Err NoMemory) read parted reads is end = tt
end_is_refused site valid text rest line behind told count entry last (Err (BadLine number)) read parted reads is (inl early) =
    bad_refused site valid text rest line behind told count number read parted.text_is parted.no_end
    (record {
      goes_not_on = λ other of. ap (told_next told) (sym (same_entry site line entry other reads of)) ∙ end_refused told entry last is;
      ends_not = λ other of. ap (timeline_told told) (sym (end_of last other (sym is ∙ same_entry site line entry (EndEntry other) reads of))) ∙
          early.0;
    })
    early.1
end_is_refused site valid text rest line behind told count entry last (Err (BadLine number)) read parted reads is (inr late) =
    bad_behind_end site valid text rest line behind told count number last late.0.0 read parted.text_is (last_line site line entry last reads is)
    late.0.1 late.1
    (omega (arith, late.2))
