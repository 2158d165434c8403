-- The changes from one face of a panel to another: one after another they lead there, and their lines are the text.
use Rattle.std.proofs.Common.{inl, inr, ◌⊎◌, ◌≡◌, ◌≢◌, ◌≤◌, ◌<◌, ◌==◌, ◌++◌, ℕ, Bool, true, false, List, [], ◌∷◌, refl, sym, ◌∙◌, ap, subst, arith, if◌then◌else◌}
use Rattle.std.specs.Prelude.{not}
use Rattle.std.specs.List.{AllByRecursion, flat_map}
use Rattle.std.proofs.lemmas.Bool.Decides.{eqb_tells}
use Rattle.site_types.specs.declared.site.Site.{Site}
use Rattle.site_types.specs.Limits.{greatest_count}
use Rattle.face_text.specs.declared.face.Face.{Face}
use Rattle.face_text.specs.Changes.{changes_text}
use Rattle.face_text.specs.Slots.{Slot, Thing, Delays, Sounding, Count, line_of, number_of_truth, slots, value_in}
use Rattle.face_text.specs.Timelines.{IsFaceOf}
use Rattle.face_reading.specs.declared.change.Change.{Change}
use Rattle.face_reading.specs.Entries.{IsChange, slot_of, slot_rank, value_of}
use Rattle.face_reading.specs.Telling.{face_told}
use Rattle.face_reading.proofs.FaceTelling.{AreNews, ChangesLeadThere, IsSlotOf, change_line, change_to, changes_in, face_after}
use Rattle.face_reading.proofs.FaceForm.{keeps_form}
use Rattle.face_reading.proofs.OneMoreLine.{apart_ranks, line_in, text_is}
use Rattle.face_reading.proofs.PageOrder.{IsAmong, RiseBetween, slot_there, slots_are, slots_rise}
use Rattle.face_reading.proofs.SameSlots.{are_their_slots}
use Rattle.face_reading.proofs.ChangedSlots.{tells_this_alone}

-- ---- the change that tells what a slot is

pub slot_is : (face : Face) (slot : Slot) → slot_of (change_to face slot) ≡ slot
slot_is face (Thing group number) = refl
slot_is face Delays = refl
slot_is face Sounding = refl
slot_is face Count = refl

delays_value : (off : Bool) → ◌≡◌ {A = ℕ} (number_of_truth (not off)) (if off then 0 else 1)
delays_value true = refl
delays_value false = refl

pub value_is : (face : Face) (slot : Slot) → value_of (change_to face slot) ≡ value_in face slot
value_is face (Thing group number) = refl
value_is face Delays = delays_value face.delays_off
value_is face Sounding = refl
value_is face Count = refl

change_is : (site : Site) (panel : ℕ) (face : Face) (slot : Slot) → face.counter ≤ greatest_count → IsSlotOf site panel slot
    → IsChange site panel (change_to face slot)
change_is site panel face (Thing group number) few is = is
change_is site panel face Delays few is = tt
change_is site panel face Sounding few is = tt
change_is site panel face Count few is = few

-- ---- the changes of some slots, by whether the first is one

abbrev with_first : Bool → Change → List Change → List Change
with_first same change changes = if not same then change ∷ changes else changes

first_change : (before after : Face) (slot : Slot) (all : List Slot) (b : Bool) → (value_in before slot == value_in after slot) ≡ b →
    changes_in before after (slot ∷ all) ≡ with_first b (change_to after slot) (changes_in before after all)
first_change before after slot all true e = rw e refl
first_change before after slot all false e = rw e refl

pub same_test : (n : ℕ) → (n == n) ≡ true
same_test n = elim (eqb_tells n n) [
  | inl h ↦ h.0
  | inr h ↦ absurd (h.1 refl)
]

pub no_changes : (face : Face) (all : List Slot) → changes_in face face all ≡ []
no_changes face [] = refl
no_changes face (slot ∷ all) = first_change face face slot all true (same_test (value_in face slot)) ∙ no_changes face all

news_lower : (low from : ℕ) (face : Face) (changes : List Change) → low ≤ from → AreNews from face changes → AreNews low face changes
news_lower low from face [] less news = tt
news_lower low from face (change ∷ changes) less news = let first = news.0 in (omega (arith, less, first), news.1, news.2)

module _ (site : Site) (panel : ℕ) (before after : Face) (few : after.counter ≤ greatest_count) where
  -- ---- each is one of the page, and tells its line

  each_is : (all : List Slot) → AllByRecursion (IsSlotOf site panel) all → AllByRecursion (IsChange site panel) (changes_in before after all)
  each_is [] each = tt
  each_is (slot ∷ all) each =
      go (value_in before slot == value_in after slot) refl (each_is all each.1)
    where
      go : (b : Bool) → (value_in before slot == value_in after slot) ≡ b → AllByRecursion (IsChange site panel) (changes_in before after all)
          → AllByRecursion (IsChange site panel) (changes_in before after (slot ∷ all))
      go true e rest = subst (AllByRecursion (IsChange site panel)) (sym (first_change before after slot all true e)) rest
      go false e rest =
          subst (AllByRecursion (IsChange site panel)) (sym (first_change before after slot all false e)) (
            change_is site panel after slot few each.0,
            rest,
          )

  line_is : (slot : Slot) → change_line site panel (change_to after slot) ≡ line_of site panel slot (value_in after slot)
  line_is slot =
      ap (λ s. line_of site panel s (value_of (change_to after slot))) (slot_is after slot) ∙ ap (line_of site panel slot) (value_is after slot)

  lines_are : (all : List Slot) → flat_map (change_line site panel) (changes_in before after all) ≡ flat_map (line_in site panel before after) all
  lines_are [] = refl
  lines_are (slot ∷ all) = go (value_in before slot == value_in after slot) refl (lines_are all)
    where
      go : (b : Bool) → (value_in before slot == value_in after slot) ≡ b
          → flat_map (change_line site panel) (changes_in before after all) ≡ flat_map (line_in site panel before after) all →
          flat_map (change_line site panel) (changes_in before after (slot ∷ all))
          ≡ (if value_in before slot == value_in after slot then [] else line_of site panel slot (value_in after slot))
          ++ flat_map (line_in site panel before after) all
      go true e rest =
          ap (flat_map (change_line site panel)) (first_change before after slot all true e) ∙ rest
          ∙ sym (ap (λ b. (if b then [] else line_of site panel slot (value_in after slot)) ++ flat_map (line_in site panel before after) all) e)
      go false e rest =
          ap (flat_map (change_line site panel)) (first_change before after slot all false e) ∙ ap
          (λ xs. xs ++ flat_map (change_line site panel) (changes_in before after all)) (line_is slot)
          ∙ ap (λ xs. line_of site panel slot (value_in after slot) ++ xs) rest ∙ sym
          (ap (λ b. (if b then [] else line_of site panel slot (value_in after slot)) ++ flat_map (line_in site panel before after) all) e)

  -- ---- one after another, from a face that is as before behind a place

  record Leads (low : ℕ) (face : Face) (all : List Slot) (changes : List Change) : Type 0 where
    news : AreNews low face changes
    form : IsFaceOf site panel (face_after face changes)
    told : (slot : Slot) → IsSlotOf site panel slot → IsAmong slot all → value_in (face_after face changes) slot ≡ value_in after slot
    kept : (slot : Slot) → IsSlotOf site panel slot → slot_rank slot ≤ low → value_in (face_after face changes) slot ≡ value_in face slot

  -- the first slot has the value of before already
  leads_same : (low : ℕ) (face : Face) (first : Slot) (all : List Slot) (changes : List Change) → low < slot_rank first → IsSlotOf site panel first
      → value_in face first ≡ value_in after first →
      Leads (slot_rank first) face all changes → Leads low face (first ∷ all) changes
  leads_same low face first all changes above is same rest =
      record {
        news = news_lower low (slot_rank first) face changes (omega (arith, above)) rest.news;
        form = rest.form;
        told = told;
        kept = λ slot there less. rest.kept slot there (omega (arith, less, above));
      }
    where
      told : (slot : Slot) → IsSlotOf site panel slot → IsAmong slot (first ∷ all) → value_in (face_after face changes) slot ≡ value_in after slot
      told slot there (inl here) =
          ap (value_in (face_after face changes)) here ∙ rest.kept first is (omega arith) ∙ same ∙ ap (value_in after) (sym here)
      told slot there (inr later) = rest.told slot there later

  -- the first slot is told
  leads_told : (low : ℕ) (face : Face) (first : Slot) (all : List Slot) (change : Change) (changes : List Change) → slot_of change ≡ first
      → value_of change ≡ value_in after first → low < slot_rank first →
      IsFaceOf site panel face → IsChange site panel change → IsSlotOf site panel first → value_in face first ≢ value_in after first
      → Leads (slot_rank first) (face_told face change) all changes → Leads low face (first ∷ all) (change ∷ changes)
  leads_told low face first all change changes its value above form is of_page other rest =
      record {
        news = (
          subst (λ s. low < slot_rank s) (sym its) above,
          λ e. other (ap (value_in face) (sym its) ∙ e ∙ value),
          subst (λ s. AreNews (slot_rank s) (face_told face change) changes) (sym its) rest.news,
        );
        form = rest.form;
        told = told;
        kept =
            λ slot there less. rest.kept slot there (omega (arith, less, above)) ∙ left slot there
            (apart_ranks slot first (omega (arith, less, above)));
      }
    where
      left : (slot : Slot) → IsSlotOf site panel slot → slot ≢ first → value_in (face_told face change) slot ≡ value_in face slot
      left slot there apart = tells_this_alone.others site panel face change slot form is there (λ e. apart (e ∙ its))

      this : value_in (face_told face change) first ≡ value_in after first
      this = ap (value_in (face_told face change)) (sym its) ∙ tells_this_alone.this site panel face change form is ∙ value

      told : (slot : Slot) → IsSlotOf site panel slot → IsAmong slot (first ∷ all)
          → value_in (face_after (face_told face change) changes) slot ≡ value_in after slot
      told slot there (inl here) =
          ap (value_in (face_after (face_told face change) changes)) here ∙ rest.kept first of_page (omega arith) ∙ this ∙ ap (value_in after)
          (sym here)
      told slot there (inr later) = rest.told slot there later

  leads : (low high : ℕ) (face : Face) (all : List Slot) → IsFaceOf site panel face → RiseBetween low high all
      → AllByRecursion (IsSlotOf site panel) all →
      ((slot : Slot) → IsSlotOf site panel slot → low < slot_rank slot → value_in face slot ≡ value_in before slot)
      → Leads low face all (changes_in before after all)
  leads low high face [] form rise each as_before =
      record { news = tt; form = form; told = λ slot there is. absurd is; kept = λ slot there less. refl }
  leads low high face (first ∷ all) form rise each as_before =
      go (value_in before first == value_in after first) refl (eqb_tells (value_in before first) (value_in after first))
      (leads (slot_rank first) high face all form rise.1 each.1 (λ slot there less. as_before slot there (let above = rise.0 in
      omega (arith, above, less))))
      (leads (slot_rank first) high (face_told face (change_to after first)) all
      (keeps_form.told site panel face (change_to after first) form (change_is site panel after first few each.0)) rise.1 each.1 later)
    where
      now_is : value_in face first ≡ value_in before first
      now_is = as_before first each.0 rise.0

      later : (slot : Slot) → IsSlotOf site panel slot → slot_rank first < slot_rank slot
          → value_in (face_told face (change_to after first)) slot ≡ value_in before slot
      later slot there less =
          tells_this_alone.others site panel face (change_to after first) slot form (change_is site panel after first few each.0) there
          (λ e. apart_ranks first slot less (sym (e ∙ slot_is after first)))
          ∙ as_before slot there (let above = rise.0 in omega (arith, above, less))

      go : (b : Bool) → (value_in before first == value_in after first) ≡ b →
          (((value_in before first == value_in after first) ≡ true) × (value_in before first ≡ value_in after first))
          ⊎ (((value_in before first == value_in after first) ≡ false) × (value_in before first ≢ value_in after first)) →
          Leads (slot_rank first) face all (changes_in before after all)
          → Leads (slot_rank first) (face_told face (change_to after first)) all (changes_in before after all)
          → Leads low face (first ∷ all) (changes_in before after (first ∷ all))
      go b e (inl same) rest rest' =
          subst (Leads low face (first ∷ all)) (sym (first_change before after first all true same.0))
          (leads_same low face first all (changes_in before after all) rise.0 each.0 (now_is ∙ same.1) rest)
      go b e (inr other) rest rest' =
          subst (Leads low face (first ∷ all)) (sym (first_change before after first all false other.0))
          (leads_told low face first all (change_to after first) (changes_in before after all) (slot_is after first) (value_is after first) rise.0
          form (change_is site panel after first few each.0) each.0 (λ same. other.1 (sym now_is ∙ same)) rest')

-- ---- the law

pub changes_lead_there : ChangesLeadThere
changes_lead_there site panel before after form form' =
    let few = form'.counter in
    let all = slots site panel in
    let are = ap (λ p. changes_in before after (slots site p)) (sym form'.panel_is) in
    let to = leads site panel before after few 0 38000 before all form (slots_rise site panel) (slots_are site panel) (λ slot there above. refl) in
    record {
      each = subst (AllByRecursion (IsChange site panel)) are (each_is site panel before after few all (slots_are site panel));
      news = subst (AreNews 0 before) are to.news;
      text =
          subst (λ changes. flat_map (change_line site panel) changes ≡ changes_text site before after) are
          (lines_are site panel before after few all ∙ sym (text_is site panel before after form'.panel_is));
      there = subst (λ changes. face_after before changes ≡ after) are
          (are_their_slots site panel (face_after before (changes_in before after all)) after to.form form'
          (λ slot there. to.told slot there (slot_there site panel slot there)));
      none = λ e. subst (λ (face : Face). changes_in before face (slots site face.panel) ≡ []) e (no_changes before (slots site before.panel));
    }
