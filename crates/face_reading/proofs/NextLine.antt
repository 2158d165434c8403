-- What stands behind the lines of a timeline's text that are read: a line that may stand there, or the last one.
use Rattle.std.proofs.Common.{◌≡◌, ◌∙◌, ◌⊎◌, ◌++◌, ℕ, List, [], ◌∷◌, Some, None, length, refl, sym, ap, inl, inr, append_assoc, arith}
use Rattle.std.proofs.lemmas.List.{append-nil, append_cancel_left, length-append, same_from_push}
use Rattle.site_types.specs.declared.site.Site.{Site}
use Rattle.tick_units.specs.declared.tick.Tick.{Tick}
use Rattle.face_text.specs.declared.timeline.Timeline.{Timeline}
use Rattle.face_text.specs.Timelines.{IsInForm, opening_line, text_of}
use Rattle.face_reading.specs.declared.entry.Entry.{Entry}
use Rattle.face_reading.specs.declared.entry.Entry.TheVariants.{End as EndEntry}
use Rattle.face_reading.specs.Entries.{IsEntry, entry_line}
use Rattle.face_reading.specs.Reading.{Told, nothing_told, timeline_told, told_next}
use Rattle.face_reading.proofs.ReadSoFar.{AreEntries, entries_text, told_after}
use Rattle.face_reading.proofs.Accepted.{after_more}
use Rattle.face_reading.proofs.Runs.{IsTold, is_told}
use Rattle.face_reading.proofs.SameTexts.{all_entries, all_entries_are, entries_front, told_text_of}
use Rattle.site_types.specs.Valid.{IsValid}

split_told : (told next : Told) (first rest : List Entry) → told_after told (first ++ rest) ≡ Some next
    → (middle : Told) × (told_after told first ≡ Some middle) × (told_after middle rest ≡ Some next)
split_told told next [] rest leads = (told, refl, leads)
split_told told next (entry ∷ first) rest leads =
    let p = after_more told next entry (first ++ rest) leads in
    let ih = split_told p.0 next first rest p.2 in
    let one : told_after told (entry ∷ first) ≡ Some ih.0 = rw p.1 ih.1 in (ih.0, one, ih.2)

-- the next line of a timeline's text: one that may stand there, or the last
pub record HasNext (site : Site) (timeline : Timeline) (told : Told) (more : List ℕ) : Type 0 where
  pub entry : Entry
  pub form : IsEntry site entry
  pub after : List ℕ
  pub more_is : more ≡ entry_line site entry ++ after
  pub stands : ((next : Told) × (told_next told entry ≡ Some next))
      ⊎ ((entry ≡ EndEntry timeline.last) × (timeline_told told timeline.last ≡ Some timeline) × (after ≡ []))

-- the front of a list whose last item comes later
front_of : (xs ys zs : List Entry) (a x y : Entry) → xs ++ a ∷ [] ≡ ys ++ x ∷ y ∷ zs → (front : List Entry) × (xs ≡ ys ++ x ∷ front)
front_of [] [] zs a x y same = absurd (omega (arith, ap length same))
front_of (w ∷ xs) [] zs a x y same = let first : w ≡ x = cc in (xs, ap (λ (e : Entry). e ∷ xs) first)
front_of [] (v ∷ ys) zs a x y same = absurd (omega (arith, ap length same, length-append ys (x ∷ y ∷ zs)))
front_of (w ∷ xs) (v ∷ ys) zs a x y same =
    let first : w ≡ v = cc in
    let rest : xs ++ a ∷ [] ≡ ys ++ x ∷ y ∷ zs = cc in
    let ih = front_of xs ys zs a x y rest in
    (ih.0, ap (λ (e : Entry). e ∷ xs) first ∙ ap (λ (all : List Entry). v ∷ all) ih.1)

-- behind the end nothing is told
not_behind_end : (told next : Told) (entries : List Entry) (last : Tick) → told_after told (all_entries entries last) ≡ Some next → ⊥
not_behind_end told next entries last leads = let p = split_told told next entries (EndEntry last ∷ []) leads in let none : None ≡ Some next =
    p.2 in cc

next_of : (site : Site) (timeline : Timeline) (by : IsTold site timeline) (entries rest : List Entry) (told : Told) (more : List ℕ) →
    told_after (nothing_told site) entries ≡ Some told → all_entries by.entries timeline.last ≡ entries ++ rest → AreEntries site rest
    → more ≡ entries_text site rest → HasNext site timeline told more
next_of site timeline by entries [] told more leads all each more_is =
    let same : all_entries by.entries timeline.last ≡ entries = all ∙ append-nil entries in
    absurd (not_behind_end (nothing_told site) told by.entries timeline.last (ap (told_after (nothing_told site)) same ∙ leads))
next_of site timeline by entries (entry ∷ []) told more leads all each more_is =
    let both = same_from_push by.entries entries (EndEntry timeline.last) entry all in
    let ends : Some by.told ≡ Some told = sym by.by_them.leads ∙ ap (told_after (nothing_told site)) both.0 ∙ leads in
    let tolds : by.told ≡ told = cc in
    record {
      entry = entry;
      form = each.0;
      after = [];
      more_is = more_is;
      stands = inr (sym both.1, ap (λ (t : Told). timeline_told t timeline.last) (sym tolds) ∙ by.by_them.ends, refl);
    }
next_of site timeline by entries (entry ∷ other ∷ rest) told more leads all each more_is =
    let front = front_of by.entries entries rest (EndEntry timeline.last) entry other all in
    let p = split_told (nothing_told site) by.told entries (entry ∷ front.0) (ap (told_after (nothing_told site)) (sym front.1) ∙ by.by_them.leads) in
    let same : Some p.0 ≡ Some told = sym p.1 ∙ leads in
    let tolds : p.0 ≡ told = cc in
    let q = after_more p.0 by.told entry front.0 p.2 in
    record {
      entry = entry;
      form = each.0;
      after = entries_text site (other ∷ rest);
      more_is = more_is;
      stands =
          inl (q.0, ap (λ (t : Told). told_next t entry) (sym tolds) ∙ q.1);
    }

pub has_next : (site : Site) → IsValid site → (timeline : Timeline) → IsInForm site timeline → (entries : List Entry) (told : Told) (more : List ℕ) →
    AreEntries site entries → told_after (nothing_told site) entries ≡ Some told
    → text_of site timeline ≡ (opening_line site ++ entries_text site entries) ++ more → HasNext site timeline told more
has_next site valid timeline form entries told more each leads text =
    let by = is_told site valid timeline form in
    let same =
    append_cancel_left (opening_line site) (entries_text site entries ++ more) (entries_text site (all_entries by.entries timeline.last))
    (sym (append_assoc (opening_line site) (entries_text site entries) more) ∙ sym text ∙ told_text_of site timeline by) in
    let on =
    entries_front site valid entries (all_entries by.entries timeline.last) more each
    (all_entries_are site by.entries timeline.last by.by_them.each form.last) same in
    next_of site timeline by entries on.rest told more leads on.others_are on.each on.more_is
