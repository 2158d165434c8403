-- One more change is one more line.
use Rattle.std.proofs.Common.{inl, inr, ◌≡◌, ◌≢◌, ◌<◌, ◌==◌, ◌++◌, ℕ, suc, List, [], ◌∷◌, refl, sym, ◌∙◌, ap, arith, append_assoc, append-nil, if◌then◌else◌}
use Rattle.std.specs.List.{AllByRecursion, flat_map}
use Rattle.std.proofs.lemmas.Bool.Decides.{eqb_tells}
use Rattle.site_types.specs.declared.site.Site.{Site}
use Rattle.face_text.specs.declared.face.Face.{Face}
use Rattle.face_text.specs.Changes.{changes_text}
use Rattle.face_text.specs.Slots.{Slot, line_of, slots, value_in}
use Rattle.face_text.specs.Timelines.{IsFaceOf}
use Rattle.face_reading.specs.declared.change.Change.{Change}
use Rattle.face_reading.specs.declared.change.Change.TheVariants.{Thing as ThingChange, Delays as DelaysChange, Buzzer as BuzzerChange, Counter as CounterChange}
use Rattle.face_reading.specs.Entries.{IsChange, slot_of, slot_rank, value_of}
use Rattle.face_reading.specs.Telling.{face_told}
use Rattle.face_reading.proofs.FaceTelling.{AddsItsLine, AddsOneLine, IsSameBehind, IsSlotOf, change_line}
use Rattle.face_reading.proofs.FaceForm.{keeps_form}
use Rattle.face_reading.proofs.PageOrder.{IsAmong, RiseBetween, among_behind, slot_there, slots_are, slots_rise}
use Rattle.face_reading.proofs.ChangedSlots.{tells_this_alone}

-- the line of a slot of a panel's page, where its value was another before
abbrev pub line_in : Site → ℕ → Face → Face → Slot → List ℕ
line_in site panel before after slot = if value_in before slot == value_in after slot then [] else line_of site panel slot (value_in after slot)

abbrev pub page_text : Site → ℕ → Face → Face → List ℕ
page_text site panel before after = flat_map (line_in site panel before after) (slots site panel)

pub text_is : (site : Site) (panel : ℕ) (before after : Face) → after.panel ≡ panel
    → changes_text site before after ≡ page_text site panel before after
text_is site panel before after e = ap (λ p. page_text site p before after) e

pub same_none : (x y : ℕ) (line : List ℕ) → x ≡ y → (if x == y then [] else line) ≡ []
same_none x y line e = elim (eqb_tells x y) [
  | inl h ↦ rw h.0 refl
  | inr h ↦ absurd (h.1 e)
]

pub other_line : (x y : ℕ) (line : List ℕ) → x ≢ y → (if x == y then [] else line) ≡ line
other_line x y line apart = elim (eqb_tells x y) [
  | inl h ↦ absurd (apart h.1)
  | inr h ↦ rw h.0 refl
]

-- ---- one more line in a list of slots

-- two ways to tell slots, that differ at one: there the second has a line, and behind it neither has
record Follows (P : Slot → Type 0) (slot : Slot) (line : List ℕ) (f g : Slot → List ℕ) : Type 0 where
  none : f slot ≡ []
  this : g slot ≡ line
  front : (other : Slot) → P other → slot_rank other < slot_rank slot → g other ≡ f other
  behind : (other : Slot) → P other → slot_rank slot < slot_rank other → (f other ≡ []) × (g other ≡ [])

module _ (P : Slot → Type 0) (slot : Slot) (line : List ℕ) (f g : Slot → List ℕ) (follows : Follows P slot line f g) where
  nothing_behind : (low high : ℕ) (all : List Slot) → slot_rank slot < suc low → RiseBetween low high all → AllByRecursion P all
      → (flat_map f all ≡ []) × (flat_map g all ≡ [])
  nothing_behind low high [] above rise each = (refl, refl)
  nothing_behind low high (first ∷ all) above rise each =
      let next = rise.0 in
      let here = follows.behind first each.0 (omega (arith, above, next)) in
      let rest = nothing_behind (slot_rank first) high all (omega (arith, above, next)) rise.1 each.1 in
      (ap (λ xs. xs ++ flat_map f all) here.0 ∙ rest.0, ap (λ xs. xs ++ flat_map g all) here.1 ∙ rest.1)

  one_line : (low high : ℕ) (all : List Slot) → RiseBetween low high all → AllByRecursion P all → IsAmong slot all
      → flat_map g all ≡ flat_map f all ++ line
  one_line low high [] rise each is = absurd is
  one_line low high (first ∷ all) rise each (inl here) =
      let rank : slot_rank slot ≡ slot_rank first = ap slot_rank here in
      let rest = nothing_behind (slot_rank first) high all (omega (arith, rank)) rise.1 each.1 in
      let left : f first ++ flat_map f all ≡ [] = ap (λ xs. xs ++ flat_map f all) (ap f (sym here) ∙ follows.none) ∙ rest.0 in
      ap (λ xs. g first ++ xs) rest.1 ∙ append-nil (g first) ∙ ap g (sym here) ∙ follows.this ∙ sym (ap (λ xs. xs ++ line) left)
  one_line low high (first ∷ all) rise each (inr there) =
      let front = follows.front first each.0 (among_behind (slot_rank first) high slot all rise.1 there) in
      ap (λ xs. xs ++ flat_map g all) front ∙ ap (λ xs. f first ++ xs) (one_line (slot_rank first) high all rise.1 each.1 there) ∙ sym
      (append_assoc (f first) (flat_map f all) line)

-- ---- the law

pub change_slot : (site : Site) (panel : ℕ) (change : Change) → IsChange site panel change → IsSlotOf site panel (slot_of change)
change_slot site panel (ThingChange group number on) is = is
change_slot site panel (DelaysChange on) is = tt
change_slot site panel (BuzzerChange sound) is = tt
change_slot site panel (CounterChange count) is = tt

pub apart_ranks : (one other : Slot) → slot_rank one < slot_rank other → one ≢ other
apart_ranks one other less = λ e. let same : slot_rank one ≡ slot_rank other = ap slot_rank e in omega (arith, less, same)

module _ (site : Site) (panel rank : ℕ) (before shown : Face) (change : Change) (form : IsFaceOf site panel shown) (same :
    IsSameBehind site panel rank before shown) (is : IsChange site panel change) (above : rank < slot_rank (slot_of change))
    (news : value_in shown (slot_of change) ≢ value_of change) where
  told_now : value_in (face_told shown change) (slot_of change) ≡ value_of change
  told_now = tells_this_alone.this site panel shown change form is

  left : (other : Slot) → IsSlotOf site panel other → other ≢ slot_of change → value_in (face_told shown change) other ≡ value_in shown other
  left other there apart = tells_this_alone.others site panel shown change other form is there apart

  not_yet : value_in before (slot_of change) ≡ value_in shown (slot_of change)
  not_yet = same (slot_of change) (change_slot site panel change is) above

  differs_there : value_in before (slot_of change) ≢ value_in (face_told shown change) (slot_of change)
  differs_there = λ e. news (sym not_yet ∙ e ∙ told_now)

  behind_it : (other : Slot) → IsSlotOf site panel other → slot_rank (slot_of change) < slot_rank other
      → value_in before other ≡ value_in (face_told shown change) other
  behind_it other there less =
      same other there (omega (arith, above, less)) ∙ sym (left other there (λ e. apart_ranks (slot_of change) other less (sym e)))

  follows : Follows (IsSlotOf site panel) (slot_of change) (change_line site panel change) (line_in site panel before shown)
      (line_in site panel before (face_told shown change))
  follows =
      record {
        none =
            same_none (value_in before (slot_of change)) (value_in shown (slot_of change))
            (line_of site panel (slot_of change) (value_in shown (slot_of change))) not_yet;
        this =
            other_line (value_in before (slot_of change)) (value_in (face_told shown change) (slot_of change))
            (line_of site panel (slot_of change) (value_in (face_told shown change) (slot_of change))) differs_there
            ∙ ap (λ v. line_of site panel (slot_of change) v) told_now;
        front =
            λ other there less. ap (λ v. if value_in before other == v then [] else line_of site panel other v)
            (left other there (apart_ranks other (slot_of change) less));
        behind = λ other there less. (
          same_none (value_in before other) (value_in shown other) (line_of site panel other (value_in shown other))
              (same other there (omega (arith, above, less))),
          same_none (value_in before other) (value_in (face_told shown change) other)
              (line_of site panel other (value_in (face_told shown change) other)) (behind_it other there less),
        );
      }

  pub its_line : AddsItsLine site panel before shown change
  its_line =
      let told = keeps_form.told site panel shown change form is in
      record {
        text =
            text_is site panel before (face_told shown change) told.panel_is
            ∙ one_line (IsSlotOf site panel) (slot_of change) (change_line site panel change) (line_in site panel before shown)
            (line_in site panel before (face_told shown change)) follows 0 38000 (slots site panel) (slots_rise site panel) (slots_are site panel)
            (slot_there site panel (slot_of change) (change_slot site panel change is))
            ∙ ap (λ xs. xs ++ change_line site panel change) (sym (text_is site panel before shown form.panel_is));
        behind = λ other there less. behind_it other there less;
        differs = λ e. differs_there (ap (λ face. value_in face (slot_of change)) e);
      }

pub adds_one_line : AddsOneLine
adds_one_line site panel rank before shown change form same is above news = its_line site panel rank before shown change form same is above news
