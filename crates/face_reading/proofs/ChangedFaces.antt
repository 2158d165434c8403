-- The faces of all panels while changes are told: each differs from what it was in no slot behind the last
-- line's place.
use Rattle.std.proofs.Common.{◌≡◌, ◌≢◌, ◌∙◌, ◌<◌, ◌≤◌, ◌+◌, ◌-◌, ◌*◌, ◌++◌, ◌==◌, ℕ, zero, suc, List, [], ◌∷◌, true, length, refl, sym, ap, subst, append_assoc, arith, get_or, set}
use Rattle.std.specs.List.{flat_map}
use Rattle.std.proofs.lemmas.List.{append-nil}
use Rattle.std.proofs.lemmas.Bool.{eq-eqb}
use Rattle.site_types.specs.declared.site.Site.{Site}
use Rattle.site_types.specs.Valid.{IsValid}
use Rattle.face_text.specs.declared.face.Face.{Face}
use Rattle.face_text.specs.declared.group.Group.{Group}
use Rattle.face_text.specs.declared.group.Group.TheVariants.{Zones, Firsts, Missing, Broken, Shorted, Supplies, Silent, Links, Unconfirmed, Outputs, Confirmed, PointsOff, ZonesOff, OutputsOff, Tests}
use Rattle.face_text.specs.Changes.{change_of, changes_text}
use Rattle.face_text.specs.Slots.{HasPlace, Slot, last_of, slots, value_in}
use Rattle.face_text.specs.Timelines.{IsFaceOf, faces_text}
use Rattle.face_reading.specs.declared.change.Change.{Change}
use Rattle.face_reading.specs.declared.change.Change.TheVariants.{Thing as ThingChange, Delays as DelaysChange, Buzzer as BuzzerChange, Counter as CounterChange}
use Rattle.face_reading.specs.Entries.{IsChange, group_rank, slot_of, slot_rank, value_of}
use Rattle.face_reading.specs.Telling.{face_told}
use Rattle.face_reading.proofs.FaceTelling.{AddsItsLine, IsSameBehind, change_line}
use Rattle.face_reading.proofs.FaceForm.{keeps_form}
use Rattle.face_reading.proofs.OneMoreLine.{adds_one_line}

-- ---- ranks

pub few_panels : (site : Site) → IsValid site → site.panels ≤ 8
few_panels site valid = omega (arith, valid.forms.panels.1)

group_is_small : (group : Group) → HasPlace group → group_rank group ≤ 35
group_is_small (Zones panel) place = omega (arith, place.1)
group_is_small (Firsts panel) place = omega (arith, place.1)
group_is_small (Missing line) place = omega (arith, place.1)
group_is_small Broken place = omega arith
group_is_small Shorted place = omega arith
group_is_small Supplies place = omega arith
group_is_small Silent place = omega arith
group_is_small Links place = omega arith
group_is_small Unconfirmed place = omega arith
group_is_small Outputs place = omega arith
group_is_small Confirmed place = omega arith
group_is_small (PointsOff line) place = omega (arith, place.1)
group_is_small ZonesOff place = omega arith
group_is_small OutputsOff place = omega arith
group_is_small Tests place = omega arith

last_is_small : (group : Group) → last_of group ≤ 192
last_is_small (Zones panel) = omega arith
last_is_small (Firsts panel) = omega arith
last_is_small (Missing line) = omega arith
last_is_small Broken = omega arith
last_is_small Shorted = omega arith
last_is_small Supplies = omega arith
last_is_small Silent = omega arith
last_is_small Links = omega arith
last_is_small Unconfirmed = omega arith
last_is_small Outputs = omega arith
last_is_small Confirmed = omega arith
last_is_small (PointsOff line) = omega arith
last_is_small ZonesOff = omega arith
last_is_small OutputsOff = omega arith
last_is_small Tests = omega arith

pub rank_is_small : (site : Site) (panel : ℕ) (change : Change) → IsChange site panel change
    → (0 < slot_rank (slot_of change)) × (slot_rank (slot_of change) < 100000)
rank_is_small site panel (ThingChange group number on) is =
    let small : group_rank group ≤ 35 = group_is_small group is.0 in
    let last : last_of group ≤ 192 = last_is_small group in
    let from : 1 ≤ number = is.1 in
    let to : number ≤ last_of group = is.2 in (omega arith, omega arith)
rank_is_small site panel (DelaysChange on) is = (omega arith, omega arith)
rank_is_small site panel (BuzzerChange sound) is = (omega arith, omega arith)
rank_is_small site panel (CounterChange count) is = (omega arith, omega arith)

-- ---- texts of faces that stay

same_number : (n : ℕ) → (n == n) ≡ true
same_number n = eq-eqb n n refl

no_change : (site : Site) (face : Face) (slots : List Slot) → flat_map (change_of site face face) slots ≡ []
no_change site face [] = refl
no_change site face (slot ∷ slots) = rw (same_number (value_in face slot)) (no_change site face slots)

pub same_face_no_text : (site : Site) (face : Face) → changes_text site face face ≡ []
same_face_no_text site face = no_change site face (slots site face.panel)

pub same_faces_no_text : (site : Site) (faces : List Face) → faces_text site faces faces ≡ []
same_faces_no_text site [] = refl
same_faces_no_text site (face ∷ faces) = rw (same_face_no_text site face) (same_faces_no_text site faces)

-- ---- pages

-- the face of a panel in a block whose last line has this place
pub record IsPageTold (site : Site) (panel rank : ℕ) (before after : Face) : Type 0 where
  pub form : IsFaceOf site panel after
  pub same : IsSameBehind site panel (rank - panel * 100000) before after
  pub untold : rank ≤ panel * 100000 → before ≡ after

abbrev pub ArePagesTold : Site → ℕ → ℕ → List Face → List Face → Type 0
ArePagesTold site rank panel [] [] = Unit {0}
ArePagesTold site rank panel [] (after ∷ afters) = ⊥
ArePagesTold site rank panel (before ∷ befores) [] = ⊥
ArePagesTold site rank panel (before ∷ befores) (after ∷ afters) =
    IsPageTold site panel rank before after × ArePagesTold site rank (suc panel) befores afters

-- the faces of panels from one on are in form
abbrev pub ArePages : Site → ℕ → List Face → Type 0
ArePages site panel [] = Unit {0}
ArePages site panel (face ∷ faces) = IsFaceOf site panel face × ArePages site (suc panel) faces

pub untold_pages : (site : Site) (panel : ℕ) (faces : List Face) → ArePages site panel faces → ArePagesTold site 0 panel faces faces
untold_pages site panel [] are = tt
untold_pages site panel (face ∷ faces) are =
    (record { form = are.0; same = λ slot of less. refl; untold = λ less. refl }, untold_pages site (suc panel) faces are.1)

pub pages_after : (site : Site) (rank panel : ℕ) (befores afters : List Face) → ArePagesTold site rank panel befores afters
    → ArePages site panel afters
pages_after site rank panel [] [] told = tt
pages_after site rank panel [] (after ∷ afters) told = absurd told
pages_after site rank panel (before ∷ befores) [] told = absurd told
pages_after site rank panel (before ∷ befores) (after ∷ afters) told = (told.0.form, pages_after site rank (suc panel) befores afters told.1)

pub all_untold : (site : Site) (rank panel : ℕ) (befores afters : List Face) → rank ≤ panel * 100000 → ArePagesTold site rank panel befores afters
    → befores ≡ afters
all_untold site rank panel [] [] low told = refl
all_untold site rank panel [] (after ∷ afters) low told = absurd told
all_untold site rank panel (before ∷ befores) [] low told = absurd told
all_untold site rank panel (before ∷ befores) (after ∷ afters) low told =
    ap (λ face. face ∷ befores) (told.0.untold low) ∙ ap (λ faces. after ∷ faces)
    (all_untold site rank (suc panel) befores afters (omega (arith, low)) told.1)

later_page : (site : Site) (panel rank later : ℕ) (before after : Face) → rank ≤ later → IsPageTold site panel rank before after
    → IsPageTold site panel later before after
later_page site panel rank later before after less told =
    record {
      form = told.form;
      same = λ slot of behind. told.same slot of (omega (arith, behind, less));
      untold = λ low. told.untold (omega (arith, low, less));
    }

pub later_pages : (site : Site) (rank later panel : ℕ) (befores afters : List Face) → rank ≤ later → ArePagesTold site rank panel befores afters
    → ArePagesTold site later panel befores afters
later_pages site rank later panel [] [] less told = tt
later_pages site rank later panel [] (after ∷ afters) less told = absurd told
later_pages site rank later panel (before ∷ befores) [] less told = absurd told
later_pages site rank later panel (before ∷ befores) (after ∷ afters) less told =
    (later_page site panel rank later before after less told.0, later_pages site rank later (suc panel) befores afters less told.1)

-- ---- one more change

place_on_page : (panel rank slot : ℕ) → 0 < slot → rank < panel * 100000 + slot → rank - panel * 100000 < slot
place_on_page panel rank slot from less = omega arith

page_told :
    (site : Site) → (panel rank : ℕ) (before after : Face) (change : Change) → IsPageTold site panel rank before after → IsChange site panel change
    → rank < panel * 100000 + slot_rank (slot_of change) → value_in after (slot_of change) ≢ value_of change
    → IsPageTold site panel (panel * 100000 + slot_rank (slot_of change)) before (face_told after change)
page_told site panel rank before after change told is less news =
    let from : 0 < slot_rank (slot_of change) = (rank_is_small site panel change is).0 in
    let next =
    adds_one_line site panel (rank - panel * 100000) before after change told.form told.same is
    (place_on_page panel rank (slot_rank (slot_of change)) from less) news in
    record {
      form = keeps_form.told site panel after change told.form is;
      same = λ slot of behind. next.behind slot of (omega (arith, behind));
      untold = λ low. absurd (omega (arith, low, from));
    }

-- the faces with one more change told, and their text
pub change_told :
    (site : Site) → (rank first place : ℕ) (befores afters : List Face) (change : Change) (d : Face)
    → ArePagesTold site rank first befores afters → place < length afters → IsChange site (first + place) change
    → rank < (first + place) * 100000 + slot_rank (slot_of change)
    → value_in (get_or afters place d) (slot_of change) ≢ value_of change
    → ArePagesTold site ((first + place) * 100000 + slot_rank (slot_of change)) first befores
    (set afters place (face_told (get_or afters place d) change))
    × (faces_text site befores (set afters place (face_told (get_or afters place d) change)) ≡ faces_text site befores afters
    ++ change_line site (first + place) change)
change_told site rank first place befores [] change d told within is less news = absurd (omega (arith, within))
change_told site rank first place [] (after ∷ afters) change d told within is less news = absurd told
change_told site rank first zero (before ∷ befores) (after ∷ afters) change d told within is less news =
    let at : first + zero ≡ first = omega arith in
    let here : IsChange site first change = subst (λ (p : ℕ). IsChange site p change) at is in
    let low : rank < first * 100000 + slot_rank (slot_of change) = subst (λ (p : ℕ). rank < p * 100000 + slot_rank (slot_of change)) at less in
    let small = rank_is_small site first change here in
    let rest : befores ≡ afters = all_untold site rank (suc first) befores afters (omega (arith, low, small.1)) told.1 in
    let silent : faces_text site befores afters ≡ [] = ap (λ faces. faces_text site faces afters) rest ∙ same_faces_no_text site afters in
    let added : AddsItsLine site first before after change =
    adds_one_line site first (rank - first * 100000) before after change told.0.form told.0.same here
    (place_on_page first rank (slot_rank (slot_of change)) small.0 low) news in
    let line = added.text in
    let pages : ArePagesTold site (first * 100000 + slot_rank (slot_of change)) first (before ∷ befores) (face_told after change ∷ afters) = (
      page_told site first rank before after change told.0 here low news,
      later_pages site rank (first * 100000 + slot_rank (slot_of change))
          (suc first) befores afters (omega (arith, low)) told.1,
    ) in
    let text : changes_text site before (face_told after change)
    ++ faces_text site befores afters ≡ (changes_text site before after ++ faces_text site befores afters) ++ change_line site first change =
    rw (line, silent) (append-nil _ ∙ ap (λ t. t ++ change_line site first change) (sym (append-nil (changes_text site before after)))) in
    subst
    (λ (p : ℕ).
    ArePagesTold site (p * 100000 + slot_rank (slot_of change)) first (before ∷ befores) (face_told after change ∷ afters)
    × (changes_text site before (face_told after change)
    ++ faces_text site befores afters ≡ (changes_text site before after ++ faces_text site befores afters) ++ change_line site p change))
    (sym at) (pages, text)
change_told site rank first (suc place) (before ∷ befores) (after ∷ afters) change d told within is less news =
    let at : suc first + place ≡ first + suc place = omega arith in
    let ih =
    change_told site rank (suc first) place befores afters change d told.1 (omega (arith, within))
    (subst (λ (p : ℕ). IsChange site p change) (sym at) is)
    (subst (λ (p : ℕ). rank < p * 100000 + slot_rank (slot_of change)) (sym at) less) news in
    let afters_told = set afters place (face_told (get_or afters place d) change) in
    let more =
    subst
    (λ (p : ℕ).
    ArePagesTold site (p * 100000 + slot_rank (slot_of change)) (suc first) befores afters_told
    × (faces_text site befores afters_told ≡ faces_text site befores afters ++ change_line site p change))
    at ih in (
      (later_page site first rank ((first + suc place) * 100000 + slot_rank (slot_of change)) before after (omega (arith, less)) told.0, more.0),
      ap (λ t. changes_text site before after ++ t) more.1 ∙ sym
          (append_assoc (changes_text site before after) (faces_text site befores afters) (change_line site (first + suc place) change)),
    )
