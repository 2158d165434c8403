-- Where no operation of a kind was done from a tick on and before now, none of those taken undid it.
use Rattle.std.proofs.Common.{◌≡◌, ℕ, zero, suc, ◌≤◌, ◌<◌, ◌⊎◌, inl, inr, ◌&&◌, ◌||◌, not, Bool, true, false, List, [], ◌∷◌, take, Some, slice_get, refl, sym, ◌∙◌, ap, arith}
use Rattle.std.specs.Prelude.{nat_le, nat_lt}
use Rattle.site_types.specs.Done.{Done, latest_before}
use Rattle.site_types.proofs.Done.{latest_below, lt_false, lt_true}
use Rattle.panel_rules.specs.Due.{none_in}
use Rattle.panel_rules.proofs.Bools.{not_false}
use Rattle.panel_rules.proofs.Causes.{none_from}
use Rattle.panel_rules.proofs.Floors.{lt_from, lt_to, none_since}
use Rattle.blocked_points.specs.declared.done_operation.DoneOperation.{DoneOperation}
use Rattle.blocked_points.specs.Operations.{and_later_done, as_done, done_newest_first}
use Rattle.caused_zones.specs.Stands.{AreTakenBefore}
use Rattle.caused_zones.specs.Undoing.{was_undone}

module _ (test : Done → Bool) (first tick : ℕ) where
  one_before : (d : Done) (done : List Done) (u : Bool) → d.tick < tick → none_in test first tick done ≡ not u
      → none_in test first tick (d ∷ done) ≡ not ((test d && nat_le first d.tick) || u)
  one_before d done u l h =
      ap (λ b. not (test d && (nat_le first d.tick && b)) && none_in test first tick done) (lt_true d.tick tick l)
      ∙ ap (λ b. not (test d && (nat_le first d.tick && true)) && b) h
      ∙ go (test d) (nat_le first d.tick) u
    where
      go : (a b c : Bool) → (not (a && (b && true)) && not c) ≡ not ((a && b) || c)
      go true true c = refl
      go true false c = refl
      go false b c = refl

  one_later : (d : Done) (done : List Done) → tick ≤ d.tick → none_in test first tick (d ∷ done) ≡ none_in test first tick done
  one_later d done l =
      ap (λ b. not (test d && (nat_le first d.tick && b)) && none_in test first tick done) (lt_false d.tick tick l)
      ∙ go (test d) (nat_le first d.tick) (none_in test first tick done)
    where
      go : (a b c : Bool) → (not (a && (b && false)) && c) ≡ c
      go true true c = refl
      go true false c = refl
      go false b c = refl

  later_same : (operations : List DoneOperation) (before : List Done)
      → ((place : ℕ) (d : DoneOperation) → slice_get operations place ≡ Some d → tick ≤ d.tick.0)
      → none_in test first tick (and_later_done operations before) ≡ none_in test first tick before
  later_same [] before from = refl
  later_same (d ∷ rest) before from =
      later_same rest (as_done d ∷ before) (λ place e at. from (suc place) e at) ∙ one_later (as_done d) before (from 0 d refl)

  undone_from : (operations : List DoneOperation) (n : ℕ) (before : List Done)
      → ((place : ℕ) (d : DoneOperation) → place < n → slice_get operations place ≡ Some d → d.tick.0 < tick)
      → ((place : ℕ) (d : DoneOperation) → n ≤ place → slice_get operations place ≡ Some d → tick ≤ d.tick.0)
      → none_in test first tick before ≡ not (was_undone test first before)
      → none_in test first tick (and_later_done operations before) ≡ not (was_undone test first (and_later_done (take n operations) before))
  undone_from [] zero before earlier later is = is
  undone_from [] (suc n) before earlier later is = is
  undone_from (d ∷ rest) zero before earlier later is =
      later_same (d ∷ rest) before (λ place e at. later place e (omega arith) at) ∙ is
  undone_from (d ∷ rest) (suc n) before earlier later is =
      undone_from rest n (as_done d ∷ before) (λ place e less at. earlier (suc place) e (omega (arith, less)) at)
      (λ place e more at. later (suc place) e (omega (arith, more)) at)
      (one_before (as_done d) before (was_undone test first before) (earlier 0 d (omega arith) refl) is)

  module _ (operations : List DoneOperation) (taken : ℕ) (are : AreTakenBefore operations tick taken) where
    pub none_is : none_in test first tick (done_newest_first operations) ≡ not (was_undone test first (done_newest_first (take taken operations)))
    none_is = undone_from operations taken [] are.earlier are.later refl

    -- the last one before now lies before the first tick exactly where none undid it
    pub last_before : was_undone test first (done_newest_first (take taken operations)) ≡ false → 1 ≤ first
        → nat_lt (latest_before test tick (done_newest_first operations)) first ≡ true
    last_before u one =
        lt_to _ first (none_since test first tick tick (done_newest_first operations) one (omega arith) (none_is ∙ ap not u))

    pub none_undid : nat_lt (latest_before test tick (done_newest_first operations)) first ≡ true
        → was_undone test first (done_newest_first (take taken operations)) ≡ false
    none_undid l =
        not_false _ (sym none_is ∙ none_from test first tick (done_newest_first operations) (lt_from _ first l))

-- none of those taken undoes what is given now
pub undone_none : (test : Done → Bool) (now : ℕ) (operations : List DoneOperation) (taken : ℕ) → AreTakenBefore operations now taken → 1 ≤ now
    → was_undone test now (done_newest_first (take taken operations)) ≡ false
undone_none test now operations taken are one = none_undid test now now operations taken are (go (latest_below test now (done_newest_first operations)))
  where
    go : (latest_before test now (done_newest_first operations) < now) ⊎ (latest_before test now (done_newest_first operations) ≡ 0)
        → nat_lt (latest_before test now (done_newest_first operations)) now ≡ true
    go (inl l) = lt_to (latest_before test now (done_newest_first operations)) now l
    go (inr e) = lt_to (latest_before test now (done_newest_first operations)) now (omega (arith, e, one))
