-- What a power cut may leave of a journal that keeps a run is a front of the run, and what fronts hold.
use Rattle.std.proofs.Common.{◌≡◌, ◌∙◌, ◌⊎◌, ◌≤◌, ◌<◌, ◌+◌, ◌-◌, ◌||◌, ℕ, min, Bool, true, false, List, [], ◌∷◌, length, Some, slice_get}
use Rattle.std.proofs.Common.{inl, inr, refl, sym, ap, subst, arith, get_or-set_same, get_or-set_other}
use Rattle.std.specs.Prelude.{slice_index, slice_set}
use Rattle.std.specs.List.{list_any}
use Rattle.std.proofs.lemmas.Bool.Decides.{eqb_tells}
use Rattle.std.proofs.lemmas.List.{get_or_past}
use Rattle.tick_units.specs.declared.seat.Seat.{Seat}
use Rattle.site_types.specs.declared.change.Change.{Change}
use Rattle.site_types.specs.declared.change.Change.TheVariants.{Point, Zone, Output, Delays, Count, Clear, Test}
use Rattle.site_types.specs.declared.retained.Retained.{Retained}
use Rattle.site_types.specs.declared.site.Site.{Site}
use Rattle.site_types.specs.Changes.{AreCounters, changed, changed_by}
use Rattle.site_types.specs.Limits.{greatest_count}
use Rattle.site_types.proofs.Changes.{changed_by-append, counters-changed}
use Rattle.site_types.proofs.Done.{lt_tells}
use Rattle.panel_edges.specs.Crashes.{LeavesOnly}
use Rattle.retained_journal.specs.declared.journal.Journal.{Journal}
use Rattle.retained_journal.specs.Images.{MayLeave, MayLeaveOr}
use Rattle.retained_journal.specs.Opening.{Opens, opened}
use Rattle.panel_edges.proofs.Moments.{weaker}
use Rattle.panel_laws.specs.BatchLaws.{is_clearing_of}
use Rattle.panel_laws.proofs.CountersAddUp.{whole_after}
use Rattle.panel_laws.proofs.DoneKept.{done_kept}
use Rattle.panel_rules.specs.Batches.{batch, kept_after}
use Rattle.panel_rules.specs.Faces.{counter_in}
use Rattle.panel_rules.specs.Moments.{Moment, Began, Happened, Turned, Kept, IsPast, present, later, and_turns, turn_of}
use Rattle.panel_rules.proofs.AnswersTell.{eq_true}
use Rattle.panel_rules.proofs.Places.{get_behind, get_front}
use Rattle.panel_core.specs.Changes.{AreOfPanels}
use Rattle.panel_core.specs.Keeping.{KeepsRun}
use Rattle.panel_core.specs.PowerCuts.{FrontsHoldAcknowledged, IsAsIf, IsFailedBatch, IsLeftOver, OpensTo, OpensToFront, OpensToFrontOr, StandsAmong, as_if_kept, as_it_was, committed}
use Rattle.panel_core.proofs.Orders.{turn_is}

-- ---- what is left over

-- turns of panels change nothing of it
pub left_over_stays : (site : Site) (kept : Retained) (changes : List Change) (failed : Bool) (seats : List Seat) (before : List Moment) → AreOfPanels seats
    → IsLeftOver site kept before changes → IsLeftOver site kept (and_turns failed seats before) changes
left_over_stays site kept changes failed [] before all h = h
left_over_stays site kept changes failed (seat ∷ seats) before all h =
    left_over_stays site kept changes failed seats (turn_of failed seat.panel seat.task ∷ before) all.1
    (subst (λ m. IsLeftOver site kept (m ∷ before) changes) (sym (turn_is failed seat.panel seat.task all.0)) h)

-- and a turn of Keep that failed leaves what might be left before
pub left_over_failed : (site : Site) (kept : Retained) (changes : List Change) (before : List Moment) → IsLeftOver site kept before changes
    → IsLeftOver site kept (Kept true ∷ before) changes
left_over_failed site kept changes before (inl none) = inl none
left_over_failed site kept changes before (inr earlier) = inr (inr earlier)

-- ---- files

module _ (site : Site) (kept : Retained) (moments : List Moment) (journal : Journal) (keeps : KeepsRun site kept moments journal) where
  opens_with : (changes : List Change) (file : List ℕ) → opened journal.wide journal.digest file ≡ Opens (changed_by changes journal.kept)
      → OpensTo site journal.digest (changed_by changes (kept_after site kept moments)) file
  opens_with changes file opens =
      ap (λ w. opened w journal.digest file) (sym keeps.wide) ∙ opens ∙ ap (λ state. Opens (changed_by changes state)) keeps.keeps

  pub front_left : (file : List ℕ) → MayLeave journal file → OpensToFront site kept journal.digest moments file
  front_left file (inl alone) = record {
    state = kept_after site kept moments;
    front = record { more = []; whole = inl refl; is = refl };
    opens = opens_with [] file alone;
  }
  front_left file (inr (torn, whole)) = record {
    state = changed_by journal.attempt.items (kept_after site kept moments);
    front = record { more = journal.attempt.items; whole = keeps.torn torn; is = refl };
    opens = opens_with journal.attempt.items file whole;
  }

  pub fronts_left : {D : Type 0} (moment : D → ℕ) (left_since : D → ℕ → List ℕ → Type 0) (old new : D) (changes : List Change)
      → LeavesOnly moment left_since old new (MayLeaveOr journal changes)
      → LeavesOnly moment left_since old new (OpensToFrontOr site kept journal.digest moments changes)
  fronts_left moment left_since old new changes leaves =
      weaker moment left_since old new (MayLeaveOr journal changes) (OpensToFrontOr site kept journal.digest moments changes)
      (λ file left. elim left [ inl may ↦ inl (front_left file may) | inr whole ↦ inr (opens_with changes file whole) ]) leaves

-- ---- what was committed

committed_keeps : (site : Site) (kept : Retained) (moments : List Moment) → kept_after site kept moments ≡ changed_by (committed site kept moments) kept
committed_keeps site kept [] = refl
committed_keeps site kept (Began ∷ before) = committed_keeps site kept before
committed_keeps site kept (Happened event ∷ before) = committed_keeps site kept before
committed_keeps site kept (Turned panel task ∷ before) = committed_keeps site kept before
committed_keeps site kept (Kept true ∷ before) = committed_keeps site kept before
committed_keeps site kept (Kept false ∷ before) =
    ap (changed_by (batch site kept before)) (committed_keeps site kept before)
    ∙ sym (changed_by-append (committed site kept before) (batch site kept before) kept)

-- what was committed stays so
module _ (site : Site) (kept : Retained) (change : Change) where
  next_committed : (moment : Moment) (before : List Moment) → StandsAmong change (committed site kept before) → StandsAmong change (committed site kept (moment ∷ before))
  next_committed Began before h = h
  next_committed (Happened event) before h = h
  next_committed (Turned panel task) before h = h
  next_committed (Kept true) before h = h
  next_committed (Kept false) before h = record {
    place = h.place;
    is = get_front (committed site kept before) (batch site kept before) h.place change h.is;
  }

  in_committed : (place : ℕ) (before moments : List Moment) → slice_get (batch site kept before) place ≡ Some change → IsPast (Kept false ∷ before) moments
      → StandsAmong change (committed site kept moments)
  in_committed place before moments is present = record {
    place = place + length (committed site kept before);
    is = get_behind (committed site kept before) (batch site kept before) place ∙ is;
  }
  in_committed place before moments is (later moment rest past) = next_committed moment rest (in_committed place before rest is past)

-- ---- counters

not_both : true ≡ false → ⊥
not_both e = cc

neither : (a b : Bool) → (a || b) ≡ false → (a ≡ false) × (b ≡ false)
neither true b e = absurd (not_both e)
neither false b e = (refl, e)

either : (a b : ℕ) → (a < b) ⊎ (b ≤ a)
either a b = elim (lt_tells a b) [ inl t ↦ inl t.1 | inr t ↦ inr t.1 ]

-- what counts entries leaves a counter at least what it was
module _ (counters : List ℕ) (small : AreCounters counters) (entries : ℕ) where
  abbrev counted : ℕ → ℕ
  counted place = min (slice_index counters place + entries) greatest_count

  at_least : (other place : ℕ) → other ≡ place → place < length counters
      → slice_index counters place ≤ slice_index (slice_set counters other (counted other)) place
  at_least other place same inside =
      let most = small place in
      let read = ap (λ k. slice_index (slice_set counters k (counted k)) place) same ∙ get_or-set_same counters place (counted place) 0 inside in
      omega (arith, read, most)

  own_counted : (other place : ℕ) → other ≡ place → ((place < length counters) ⊎ (length counters ≤ place))
      → slice_index counters place ≤ slice_index (slice_set counters other (counted other)) place
  own_counted other place same (inl inside) = at_least other place same inside
  own_counted other place same (inr outside) = (let none = get_or_past counters place 0 outside in omega (arith, none))

-- a change that clears another counter takes nothing from a counter
no_less : (panel : ℕ) (change : Change) (stored : Retained) → AreCounters stored.counters → is_clearing_of panel change ≡ false
    → counter_in panel stored ≤ counter_in panel (changed change stored)
no_less panel (Point other line address off) stored small none = omega arith
no_less panel (Zone other number off) stored small none = omega arith
no_less panel (Output other number off) stored small none = omega arith
no_less panel (Delays other off) stored small none = omega arith
no_less panel (Test other number on) stored small none = omega arith
no_less panel (Clear other) stored small none =
    let left = get_or-set_other stored.counters (other - 1) (panel - 1) 0 0 (λ same. not_both (sym (eq_true (other - 1) (panel - 1) (sym same)) ∙ none)) in
    omega (arith, left)
no_less panel (Count other entries) stored small none =
    elim (eqb_tells (other - 1) (panel - 1)) [
      | inl e ↦ own_counted stored.counters small entries (other - 1) (panel - 1) e.1 (either (panel - 1) (length stored.counters))
      | inr e ↦ (let left = get_or-set_other stored.counters (other - 1) (panel - 1) (counted stored.counters small entries (other - 1)) 0 (λ same. e.1 (sym same)) in
          omega (arith, left))
    ]

none_less : (panel : ℕ) (changes : List Change) (stored : Retained) → AreCounters stored.counters → list_any (is_clearing_of panel) changes ≡ false
    → counter_in panel stored ≤ counter_in panel (changed_by changes stored)
none_less panel [] stored small none = omega arith
none_less panel (change ∷ changes) stored small none =
    let both = neither (is_clearing_of panel change) (list_any (is_clearing_of panel) changes) none in
    let first = no_less panel change stored small both.0 in
    let rest = none_less panel changes (changed change stored) (counters-changed change stored small) both.1 in
    omega (arith, first, rest)

-- ---- the turn of Keep that failed

module _ (site : Site) (kept : Retained) (changes : List Change) where
  record FailedTurn (moments : List Moment) : Type 0 where
    before : List Moment
    turn : IsPast (Kept true ∷ before) moments
    is : changes ≡ batch site kept before
    same : kept_after site kept before ≡ kept_after site kept moments

  one_more : (moment : Moment) (before : List Moment) → kept_after site kept before ≡ kept_after site kept (moment ∷ before)
      → FailedTurn before → FailedTurn (moment ∷ before)
  one_more moment before same f = record { before = f.before; turn = later moment before f.turn; is = f.is; same = f.same ∙ same }

  failed_turn : (moments : List Moment) → IsFailedBatch site kept moments changes → FailedTurn moments
  failed_turn [] h = absurd h
  failed_turn (Began ∷ before) h = one_more Began before refl (failed_turn before h)
  failed_turn (Happened event ∷ before) h = one_more (Happened event) before refl (failed_turn before h)
  failed_turn (Turned panel task ∷ before) h = one_more (Turned panel task) before refl (failed_turn before h)
  failed_turn (Kept false ∷ before) h = absurd h
  failed_turn (Kept true ∷ before) (inl is) = record { before = before; turn = present; is = is; same = refl }
  failed_turn (Kept true ∷ before) (inr h) = one_more (Kept true) before refl (failed_turn before h)

-- a state is what the rules keep of such a run
record KeptAsIf (site : Site) (kept : Retained) (moments : List Moment) (state : Retained) : Type 0 where
  run : List Moment
  as_if : IsAsIf site kept moments run
  keeps : state ≡ kept_after site kept run

kept_as_if : (site : Site) (kept : Retained) (moments : List Moment) (more : List Change) → IsLeftOver site kept moments more
    → KeptAsIf site kept moments (changed_by more (kept_after site kept moments))
kept_as_if site kept moments more (inl none) =
    record { run = moments; as_if = as_it_was; keeps = ap (λ changes. changed_by changes (kept_after site kept moments)) none }
kept_as_if site kept moments more (inr failed) =
    let f = failed_turn site kept more moments failed in
    record {
      run = Kept false ∷ f.before;
      as_if = as_if_kept f.before f.turn f.same;
      keeps = ap (λ changes. changed_by changes (kept_after site kept moments)) f.is ∙ ap (changed_by (batch site kept f.before)) (sym f.same);
    }

-- ---- the law

pub fronts_hold : FrontsHoldAcknowledged
fronts_hold site kept moments state front = let then = kept_as_if site kept moments front.more front.whole in record {
  more = front.more;
  whole = front.whole;
  made =
      front.is ∙ ap (changed_by front.more) (committed_keeps site kept moments)
      ∙ sym (changed_by-append (committed site kept moments) front.more kept);
  operations_done = λ place a change is done makes. (
      let there = done_kept site kept moments place a change is done makes in
      in_committed site kept change there.place there.before moments there.holds there.turn);
  entries_shown = λ panel long small none. (
      let whole = whole_after site kept moments (record { long = long; small = small }) in
      let least = none_less panel front.more (kept_after site kept moments) whole.small none in
      let same = ap (counter_in panel) front.is in
      omega (arith, least, same));
  run = then.run;
  as_if = then.as_if;
  keeps = front.is ∙ then.keeps;
}
