-- Marks that are written one after another.
use Rattle.std.proofs.Common.{◌≡◌, ◌∙◌, ◌+◌, ◌<◌, ◌≤◌, ◌↔◌, ◌≢◌, ℕ, zero, suc, Bool, true, false, List, [], ◌∷◌, sym, subst, arith, length, get_or, set, Option, Some, None, slice_get, inl}
use Rattle.std.proofs.Common.{inr}
use Rattle.std.specs.Prelude.{slice_index_or}
use Rattle.std.proofs.lemmas.Bool.Decides.{leb_tells}
use Rattle.std.proofs.lemmas.List.{get_or-set_same, get_or-set_other}
use Rattle.panel_audit.specs.declared.numbered.Numbered.{Numbered}
use Rattle.panel_audit.specs.Lowest.{MarkedLowest}
use Rattle.panel_audit.specs.Places.{AreWritten, FirstPlace}

-- the marks tell of which places something holds
abbrev pub AreMarks : (ℕ → Type 0) → ℕ → List Bool → Type 0
AreMarks Holds count marks = (place : ℕ) → place < count → (slice_index_or marks place false ≡ true) ↔ Holds place

pub written_more : (Should : ℕ → Bool → Type 0) (marks : List Bool) (place : ℕ) (mark : Bool) → place < length marks → Should place mark
    → AreWritten Should place marks → AreWritten Should (place + 1) (set marks place mark)
written_more Should marks place mark within should before k low =
    elim (leb_tells place k) [
      | inl h ↦
          (let far = h.1 in
          let same : k ≡ place = omega (arith, far, low) in
          subst (λ n. Should n (get_or (set marks place mark) n false)) (sym same)
          (subst (Should place) (sym (get_or-set_same marks place mark false within)) should))
      | inr h ↦
          (let early = h.1 in
          let apart : k ≢ place = (λ e. omega (arith, e, early)) in
          subst (Should k) (sym (get_or-set_other marks place k mark false apart)) (before k early))
    ]

pub written_all : (Should : ℕ → Bool → Type 0) (marks : List Bool) (place count : ℕ) → length marks ≡ count → count ≤ place
    → AreWritten Should place marks → AreWritten Should (length marks) marks
written_all Should marks place count size end before k low = before k (omega (arith, low, size, end))

-- the first of the marked things is the first of which something holds
pub got_few : {X : Type 0} (xs : List X) (k : ℕ) (x : X) → slice_get xs k ≡ Some x → k < length xs
got_few [] k x is = cc
got_few (y ∷ ys) zero x is = omega arith
got_few (y ∷ ys) (suc k) x is = (let rest = got_few ys k x is in omega (arith, rest))

pub first_marked : (things : List Numbered) (Holds : ℕ → Type 0) (marks : List Bool) (first : Option ℕ) → AreMarks Holds (length things) marks
    → MarkedLowest things marks first → FirstPlace things Holds first
first_marked things Holds marks None are lowest = λ place within holds.
    (let off = lowest place within in let on = (are place within).1 holds in let no : true ≡ false = sym on ∙ off in never no)
  where
    never : true ≡ false → ⊥
    never e = cc
first_marked things Holds marks (Some place) are lowest = record {
  thing = lowest.thing;
  is = lowest.is;
  holds = (are place lowest.before).0 lowest.marked;
  least = λ other one is holds. (let low = got_few things other one is in lowest.least other one low is ((are other low).1 holds));
}
