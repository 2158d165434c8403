-- The changes of all faces, line by line: told one behind another they lead to the faces after them.
use Rattle.std.proofs.Common.{◌≡◌, ◌≢◌, ◌∙◌, ◌<◌, ◌≤◌, ◌+◌, ◌-◌, ◌*◌, ◌++◌, ◌==◌, ℕ, suc, true, false, List, [], ◌∷◌, Some, length, refl, sym, ap, subst, append_assoc, arith}
use Rattle.std.specs.Prelude.{nat_lt}
use Rattle.std.specs.List.{AllByRecursion}
use Rattle.std.proofs.lemmas.Bool.{lt-ltb, ne_eqb}
use Rattle.std.proofs.lemmas.List.{get_or_at, length-append, set_at}
use Rattle.site_types.specs.declared.site.Site.{Site}
use Rattle.face_text.specs.declared.face.Face.{Face}
use Rattle.face_text.specs.Faces.{empty_face}
use Rattle.face_text.specs.Slots.{value_in}
use Rattle.face_reading.specs.declared.change.Change.{Change}
use Rattle.face_reading.specs.declared.entry.Entry.{Entry}
use Rattle.face_reading.specs.declared.entry.Entry.TheVariants.{Change as ChangeEntry}
use Rattle.face_reading.specs.Entries.{IsChange, slot_of, slot_rank, value_of}
use Rattle.face_reading.proofs.FaceTelling.{AreNews, changes_of, face_after}
use Rattle.face_reading.specs.Reading.{Told, face_at, told_next}
use Rattle.face_reading.proofs.ReadSoFar.{AreEntries, told_after}
use Rattle.face_reading.specs.Telling.{face_told}
use Rattle.face_reading.proofs.Accepted.{after_more}
use Rattle.face_reading.proofs.ChangedFaces.{ArePages, rank_is_small}
use Rattle.face_reading.proofs.AllLines.{changes_lead_there}

-- ---- lines behind lines

pub leads_on : (told middle next : Told) (first rest : List Entry) → told_after told first ≡ Some middle → told_after middle rest ≡ Some next
    → told_after told (first ++ rest) ≡ Some next
leads_on told middle next [] rest one other =
    let same : told ≡ middle = cc in subst (λ (t : Told). told_after t rest ≡ Some next) (sym same) other
leads_on told middle next (entry ∷ first) rest one other =
    let p = after_more told middle entry first one in rw p.1 (leads_on p.0 middle next first rest p.2 other)

pub leads_first : (told one next : Told) (entry : Entry) (entries : List Entry) → told_next told entry ≡ Some one → told_after one entries ≡ Some next
    → told_after told (entry ∷ entries) ≡ Some next
leads_first told one next entry entries first rest = rw first rest

pub entries_join : (site : Site) (first rest : List Entry) → AreEntries site first → AreEntries site rest → AreEntries site (first ++ rest)
entries_join site [] rest are others = others
entries_join site (entry ∷ first) rest are others = (are.0, entries_join site first rest are.1 others)

-- ---- the changes of a face

-- with other faces and another last place
abbrev pub shown : Told → List Face → ℕ → Told
shown told faces rank = record { opened = told.opened; steps = told.steps; tick = told.tick; faces = faces; answers = told.answers; rank = rank }

abbrev pub change_entries : ℕ → List Change → List Entry
change_entries panel [] = []
change_entries panel (change ∷ changes) = ChangeEntry panel change ∷ change_entries panel changes

abbrev last_place : ℕ → ℕ → List Change → ℕ
last_place panel rank [] = rank
last_place panel rank (change ∷ changes) = last_place panel (panel * 100000 + slot_rank (slot_of change)) changes

change_leads : (told : Told) (front behind : List Face) (face : Face) (panel rank : ℕ) (change : Change) → length front + 1 ≡ panel
    → rank < panel * 100000 + slot_rank (slot_of change) →
    value_in face (slot_of change) ≢ value_of change →
    told_next (shown told (front ++ face ∷ behind) rank) (ChangeEntry panel change)
    ≡ Some (shown told (front ++ face_told face change ∷ behind) (panel * 100000 + slot_rank (slot_of change)))
change_leads told front behind face panel rank change size less news =
    let place : length front ≡ panel - 1 = omega (arith, size) in
    let at : face_at (front ++ face ∷ behind) panel ≡ face = get_or_at front face behind (empty_face panel) (panel - 1) place in
    let comes : nat_lt rank (panel * 100000 + slot_rank (slot_of change)) ≡ true = lt-ltb rank (panel * 100000 + slot_rank (slot_of change)) less in
    let other : (value_in face (slot_of change) == value_of change) ≡ false = ne_eqb (value_in face (slot_of change)) (value_of change) news in
    rw (comes, at, other, set_at front face behind (face_told face change) (panel - 1) place) refl

changes_lead : (told : Told) (front behind : List Face) (face : Face) (panel rank from : ℕ) (changes : List Change) → length front + 1 ≡ panel
    → rank ≤ panel * 100000 + from →
    AreNews from face changes →
    told_after (shown told (front ++ face ∷ behind) rank) (change_entries panel changes)
    ≡ Some (shown told (front ++ face_after face changes ∷ behind) (last_place panel rank changes))
changes_lead told front behind face panel rank from [] size less news = refl
changes_lead told front behind face panel rank from (change ∷ changes) size less news =
    leads_first (shown told (front ++ face ∷ behind) rank)
    (shown told (front ++ face_told face change ∷ behind) (panel * 100000 + slot_rank (slot_of change)))
    (shown told (front ++ face_after (face_told face change) changes ∷ behind)
    (last_place panel (panel * 100000 + slot_rank (slot_of change)) changes)) (ChangeEntry panel change) (change_entries panel changes)
    (change_leads told front behind face panel rank change size (omega (arith, less, news.0)) news.1)
    (changes_lead told front behind (face_told face change) panel (panel * 100000 + slot_rank (slot_of change)) (slot_rank (slot_of change)) changes
    size (omega arith) news.2)

last_is_low : (site : Site) (panel rank : ℕ) (changes : List Change) → AllByRecursion (IsChange site panel) changes → rank ≤ suc panel * 100000
    → last_place panel rank changes ≤ suc panel * 100000
last_is_low site panel rank [] each low = low
last_is_low site panel rank (change ∷ changes) each low =
    let small = rank_is_small site panel change each.0 in
    last_is_low site panel (panel * 100000 + slot_rank (slot_of change)) changes each.1 (omega (arith, small.1))

change_entries_are : (site : Site) (panel : ℕ) (changes : List Change) → 1 ≤ panel → panel ≤ site.panels
    → AllByRecursion (IsChange site panel) changes → AreEntries site (change_entries panel changes)
change_entries_are site panel [] from to each = tt
change_entries_are site panel (change ∷ changes) from to each = ((from, to, each.0), change_entries_are site panel changes from to each.1)

-- ---- the changes of all faces

abbrev pub face_entries : Site → ℕ → List Face → List Face → List Entry
face_entries site panel [] afters = []
face_entries site panel (before ∷ befores) [] = []
face_entries site panel (before ∷ befores) (after ∷ afters) =
    change_entries panel (changes_of site before after) ++ face_entries site (suc panel) befores afters

pub face_entries_are : (site : Site) → (panel : ℕ) (befores afters : List Face) → 1 ≤ panel → panel + length afters ≤ suc site.panels
    → ArePages site panel befores → ArePages site panel afters →
    AreEntries site (face_entries site panel befores afters)
face_entries_are site panel [] afters from to befores_are afters_are = tt
face_entries_are site panel (before ∷ befores) [] from to befores_are afters_are = tt
face_entries_are site panel (before ∷ befores) (after ∷ afters) from to befores_are afters_are =
    entries_join site (change_entries panel (changes_of site before after)) (face_entries site (suc panel) befores afters)
    (change_entries_are site panel (changes_of site before after) from (omega (arith, to))
    (changes_lead_there site panel before after befores_are.0 afters_are.0).each)
    (face_entries_are site (suc panel) befores afters (omega arith) (omega (arith, to)) befores_are.1 afters_are.1)

-- lines lead from the faces before to the faces after
pub record LeadsToFaces (told : Told) (start afters : List Face) (rank last : ℕ) (entries : List Entry) : Type 0 where
  pub end : ℕ
  pub low : end ≤ last
  pub leads : told_after (shown told start rank) entries ≡ Some (shown told afters end)

pub faces_lead : (site : Site) → (told : Told) (front befores afters : List Face) (panel rank : ℕ) → length front + 1 ≡ panel → rank ≤ panel * 100000
    → length befores ≡ length afters →
    ArePages site panel befores → ArePages site panel afters →
    LeadsToFaces told (front ++ befores) (front ++ afters) rank ((panel + length afters) * 100000) (face_entries site panel befores afters)
faces_lead site told front [] [] panel rank size low same befores_are afters_are = record { end = rank; low = omega (arith, low); leads = refl }
faces_lead site told front [] (after ∷ afters) panel rank size low same befores_are afters_are = absurd (omega (arith, same))
faces_lead site told front (before ∷ befores) [] panel rank size low same befores_are afters_are = absurd (omega (arith, same))
faces_lead site told front (before ∷ befores) (after ∷ afters) panel rank size low same befores_are afters_are =
    let there = changes_lead_there site panel before after befores_are.0 afters_are.0 in
    let changes = changes_of site before after in
    let middle : ℕ = last_place panel rank changes in
    let first : told_after (shown told (front ++ before ∷ befores) rank) (change_entries panel changes)
    ≡ Some (shown told (front ++ after ∷ befores) middle) =
    changes_lead told front befores before panel rank 0 changes size (omega (arith, low)) there.news
    ∙ ap (λ (face : Face). Some (shown told (front ++ face ∷ befores) middle)) there.there in
    let rest =
    faces_lead site told (front ++ after ∷ []) befores afters (suc panel) middle (omega (arith, length-append front (after ∷ []), size))
    (last_is_low site panel rank changes there.each (omega (arith, low))) (omega (arith, same)) befores_are.1 afters_are.1 in
    record {
      end = rest.end;
      low = omega (arith, rest.low);
      leads =
          leads_on (shown told (front ++ before ∷ befores) rank) (shown told (front ++ after ∷ befores) middle)
          (shown told (front ++ after ∷ afters) rest.end)
          (change_entries panel changes) (face_entries site (suc panel) befores afters) first
          (joined told front after befores afters middle rest.end (face_entries site (suc panel) befores afters) rest.leads);
    }
  where
    joined : (told : Told) (front : List Face) (after : Face) (befores afters : List Face) (rank end : ℕ) (entries : List Entry) →
        told_after (shown told ((front ++ after ∷ []) ++ befores) rank) entries ≡ Some (shown told ((front ++ after ∷ []) ++ afters) end) →
        told_after (shown told (front ++ after ∷ befores) rank) entries ≡ Some (shown told (front ++ after ∷ afters) end)
    joined told front after befores afters rank end entries leads =
        let one : (front ++ after ∷ []) ++ befores ≡ front ++ after ∷ befores = append_assoc front (after ∷ []) befores in
        let other : (front ++ after ∷ []) ++ afters ≡ front ++ after ∷ afters = append_assoc front (after ∷ []) afters in
        subst (λ (faces : List Face). told_after (shown told faces rank) entries ≡ Some (shown told (front ++ after ∷ afters) end)) one
        (subst (λ (faces : List Face). told_after (shown told ((front ++ after ∷ []) ++ befores) rank) entries ≡ Some (shown told faces end)) other
        leads)
