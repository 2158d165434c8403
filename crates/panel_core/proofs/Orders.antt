-- Turns one after another.
use Rattle.std.proofs.Common.{◌≡◌, ◌≢◌, ℕ, zero, suc, ◌+◌, ◌<◌, ◌≤◌, List, [], ◌∷◌, ◌++◌, length, take, drop, get_or, Some, slice_get, Contains}
use Rattle.std.proofs.Common.{Bool, false, refl, sym, ◌∙◌, ap, subst, arith, take-append-drop, length-take, ◌⊎◌, inl, inr}
use Rattle.std.proofs.lemmas.List.{drop-append-le, take_all, take_more}
use Rattle.std.proofs.lemmas.Bool.Decides.{eqb_tells}
use Rattle.std.proofs.lemmas.Option.{slice_get-get_or, slice_get_within, get_or_from_slice_get}
use Rattle.tick_units.specs.Orders.{IsOrder, canonical_seats, keep_seat}
use Rattle.tick_units.proofs.Canonical.{IsPanelSeat, Contains-canonical_seats-cases}
use Rattle.tick_units.proofs.OrderLaws.{Contains-order, keep_in_order}
use Rattle.tick_units.specs.declared.seat.Seat.{Seat}
use Rattle.tick_units.specs.declared.task.Task.{Task}
use Rattle.tick_units.specs.declared.task.Task.TheVariants.{Keep}
use Rattle.site_types.specs.declared.retained.Retained.{Retained}
use Rattle.site_types.specs.declared.site.Site.{Site}
use Rattle.panel_rules.specs.Batches.{kept_after}
use Rattle.panel_rules.specs.Moments.{Moment, Turned, Kept, IsPanel, IsRun, and_turns, has_kept, has_turned, turn_of, tick_of}
use Rattle.panel_rules.specs.Operations.{requests}
use Rattle.panel_rules.proofs.Counting.{each_at}
use Rattle.panel_rules.proofs.Turns.{run_before}
use Rattle.panel_rules.proofs.RecordRuns.{turns-append}
use Rattle.panel_core.specs.Changes.{AreOfPanels, seats_between}
use Rattle.panel_core.specs.Keeping.{before_keep}

-- ---- seats between places

take_length : {X : Type 0} (n : ℕ) (xs : List X) → n ≤ length xs → length (take n xs) ≡ n
take_length n xs few = let m = length-take n xs in omega (arith, m, few)

-- none from a place up to itself
pub between_none : (order : List Seat) (from : ℕ) → seats_between from from order ≡ []
between_none [] zero = refl
between_none [] (suc n) = refl
between_none (x ∷ xs) zero = refl
between_none (x ∷ xs) (suc n) = between_none xs n

pub between_more : (order : List Seat) (from i : ℕ) (seat : Seat) → from ≤ i → slice_get order i ≡ Some seat
    → seats_between from (i + 1) order ≡ seats_between from i order ++ seat ∷ []
between_more order from i seat since is =
    let within = slice_get_within order i seat is in
    let count = take_length i order (omega (arith, within)) in
    ap (drop from) (take_more order i seat within ∙ ap (λ s. take i order ++ s ∷ []) (get_or_from_slice_get order i seat seat is))
    ∙ drop-append-le from (take i order) (seat ∷ []) (omega (arith, count, since))

between_rest : (order : List Seat) (from i : ℕ) → from ≤ i → i ≤ length order → drop from order ≡ seats_between from i order ++ drop i order
between_rest order from i since few =
    let count = take_length i order few in
    ap (drop from) (sym (take-append-drop i order)) ∙ drop-append-le from (take i order) (drop i order) (omega (arith, count, since))

pub turns_next : (order : List Seat) (from i : ℕ) (seat : Seat) (before : List Moment) → from ≤ i → slice_get order i ≡ Some seat
    → and_turns false (seats_between from (i + 1) order) before ≡ and_turns false (seat ∷ []) (and_turns false (seats_between from i order) before)
turns_next order from i seat before since is =
    ap (λ xs. and_turns false xs before) (between_more order from i seat since is) ∙ turns-append false (seats_between from i order) (seat ∷ []) before

pub before_turns : (panels : ℕ) (failed : Bool) (xs : List Seat) (before : List Moment) → IsRun panels (and_turns failed xs before) → IsRun panels before
before_turns panels failed [] before run = run
before_turns panels failed (x ∷ xs) before run =
    run_before panels (turn_of failed x.panel x.task) before (before_turns panels failed xs (turn_of failed x.panel x.task ∷ before) run)

pub front_turns : (panels : ℕ) (order : List Seat) (from i : ℕ) (before : List Moment) → from ≤ i → i ≤ length order
    → IsRun panels (and_turns false (drop from order) before) → IsRun panels (and_turns false (seats_between from i order) before)
front_turns panels order from i before since few run =
    before_turns panels false (drop i order) (and_turns false (seats_between from i order) before)
    (subst (IsRun panels) (ap (λ xs. and_turns false xs before) (between_rest order from i since few)
    ∙ turns-append false (seats_between from i order) (drop i order) before) run)

turn_tick : (failed : Bool) (panel : ℕ) (task : Task) (before : List Moment) → tick_of (turn_of failed panel task ∷ before) ≡ tick_of before
turn_tick failed panel Keep before = refl
turn_tick failed panel task before = refl

pub turns_tick : (failed : Bool) (xs : List Seat) (before : List Moment) → tick_of (and_turns failed xs before) ≡ tick_of before
turns_tick failed [] before = refl
turns_tick failed (x ∷ xs) before = turns_tick failed xs (turn_of failed x.panel x.task ∷ before) ∙ turn_tick failed x.panel x.task before

-- a seat of an order is one of the site
pub seat_known : (panels : ℕ) (order : List Seat) (i : ℕ) (seat : Seat) → IsOrder panels order → slice_get order i ≡ Some seat
    → Contains (canonical_seats panels) seat
seat_known panels order i seat ordered is =
    (Contains-order panels order seat ordered).0 (i, slice_get_within order i seat is, get_or_from_slice_get order i seat seat is)

-- turns ask for nothing
turn_asks : (site : Site) (failed : Bool) (panel : ℕ) (task : Task) (before : List Moment)
    → requests site (turn_of failed panel task ∷ before) ≡ requests site before
turn_asks site failed panel Keep before = refl
turn_asks site failed panel task before = refl

pub turns_ask : (site : Site) (failed : Bool) (seats : List Seat) (before : List Moment)
    → requests site (and_turns failed seats before) ≡ requests site before
turns_ask site failed [] before = refl
turns_ask site failed (seat ∷ seats) before =
    turns_ask site failed seats (turn_of failed seat.panel seat.task ∷ before) ∙ turn_asks site failed seat.panel seat.task before

-- ---- turns of panels

-- the moment of a panel's turn
pub turn_is : (failed : Bool) (panel : ℕ) (task : Task) → task ≢ Keep → turn_of failed panel task ≡ Turned panel task
turn_is failed panel Keep n = absurd (n refl)
turn_is failed panel task n = refl

-- they are the same, whether Keep failed or not
pub same_turns : (failed other : Bool) (seats : List Seat) (before : List Moment) → AreOfPanels seats → and_turns failed seats before ≡ and_turns other seats before
same_turns failed other [] before all = refl
same_turns failed other (seat ∷ seats) before all =
    ap (λ m. and_turns failed seats (m ∷ before)) (turn_is failed seat.panel seat.task all.0 ∙ sym (turn_is other seat.panel seat.task all.0))
    ∙ same_turns failed other seats (turn_of other seat.panel seat.task ∷ before) all.1

-- they keep nothing
pub panels_keep : (site : Site) (kept : Retained) (failed : Bool) (seats : List Seat) (before : List Moment) → AreOfPanels seats
    → kept_after site kept (and_turns failed seats before) ≡ kept_after site kept before
panels_keep site kept failed [] before all = refl
panels_keep site kept failed (seat ∷ seats) before all =
    panels_keep site kept failed seats (turn_of failed seat.panel seat.task ∷ before) all.1
    ∙ ap (λ m. kept_after site kept (m ∷ before)) (turn_is failed seat.panel seat.task all.0)

-- and leave the latest turn of Keep
pub panels_leave_keep : (failed : Bool) (seats : List Seat) (before : List Moment) → AreOfPanels seats
    → before_keep (and_turns failed seats before) ≡ before_keep before
panels_leave_keep failed [] before all = refl
panels_leave_keep failed (seat ∷ seats) before all =
    panels_leave_keep failed seats (turn_of failed seat.panel seat.task ∷ before) all.1
    ∙ ap (λ m. before_keep (m ∷ before)) (turn_is failed seat.panel seat.task all.0)

panels_kept : (failed : Bool) (seats : List Seat) (before : List Moment) → AreOfPanels seats → has_kept (and_turns failed seats before) ≡ has_kept before
panels_kept failed [] before all = refl
panels_kept failed (seat ∷ seats) before all =
    panels_kept failed seats (turn_of failed seat.panel seat.task ∷ before) all.1
    ∙ ap (λ m. has_kept (m ∷ before)) (turn_is failed seat.panel seat.task all.0)

-- ---- whether Keep failed leaves what may come next

record RunsAlike (panels : ℕ) (one other : List Moment) : Type 0 where
  turned : (panel : ℕ) (task : Task) → has_turned panel task one ≡ has_turned panel task other
  kept : has_kept one ≡ has_kept other
  run : IsRun panels one → IsRun panels other

turned_alike : (panels panel : ℕ) (task : Task) (one other : List Moment) → RunsAlike panels one other
    → RunsAlike panels (Turned panel task ∷ one) (Turned panel task ∷ other)
turned_alike panels panel task one other h = record {
  turned = λ p t. rw (h.turned p t) refl;
  kept = h.kept;
  run = λ r. (h.run r.0, sym (h.turned panel task) ∙ r.1);
}

kept_alike : (panels : ℕ) (failed failed' : Bool) (one other : List Moment) → RunsAlike panels one other
    → RunsAlike panels (Kept failed ∷ one) (Kept failed' ∷ other)
kept_alike panels failed failed' one other h = record {
  turned = λ p t. h.turned p t;
  kept = refl;
  run = λ r. (h.run r.0, sym h.kept ∙ r.1);
}

turn_alike : (panels : ℕ) (failed failed' : Bool) (panel : ℕ) (task : Task) (one other : List Moment) → RunsAlike panels one other
    → RunsAlike panels (turn_of failed panel task ∷ one) (turn_of failed' panel task ∷ other)
turn_alike panels failed failed' panel Keep one other h = kept_alike panels failed failed' one other h
turn_alike panels failed failed' panel task one other h = turned_alike panels panel task one other h

turns_alike : (panels : ℕ) (failed failed' : Bool) (seats : List Seat) (one other : List Moment) → RunsAlike panels one other
    → RunsAlike panels (and_turns failed seats one) (and_turns failed' seats other)
turns_alike panels failed failed' [] one other h = h
turns_alike panels failed failed' (seat ∷ seats) one other h =
    turns_alike panels failed failed' seats (turn_of failed seat.panel seat.task ∷ one) (turn_of failed' seat.panel seat.task ∷ other)
    (turn_alike panels failed failed' seat.panel seat.task one other h)

alike : (panels : ℕ) (moments : List Moment) → RunsAlike panels moments moments
alike panels moments = record { turned = λ p t. refl; kept = refl; run = λ r. r }

-- so a run stays one, whether Keep failed in its last turns or not
pub run_either : (panels : ℕ) (failed failed' : Bool) (seats : List Seat) (before : List Moment) → IsRun panels (and_turns failed seats before)
    → IsRun panels (and_turns failed' seats before)
run_either panels failed failed' seats before run = (turns_alike panels failed failed' seats before before (alike panels before)).run run

pub run_behind : (panels : ℕ) (failed failed' : Bool) (seats : List Seat) (before : List Moment) → IsRun panels (and_turns false seats (Kept failed ∷ before))
    → IsRun panels (and_turns false seats (Kept failed' ∷ before))
run_behind panels failed failed' seats before run =
    (turns_alike panels false false seats (Kept failed ∷ before) (Kept failed' ∷ before) (kept_alike panels failed failed' before before (alike panels before))).run run

-- ---- an order, by the place of Keep

module _ (panels : ℕ) (order : List Seat) (ordered : IsOrder panels order) (place : ℕ) (within : place ≤ length order)
    (front : AreOfPanels (seats_between 0 place order)) where
  -- the seats of panels at its front don't make the whole
  pub keep_within : place < length order
  keep_within = elim (eqb_tells place (length order)) [
    | inl whole ↦ absurd (
        let there = keep_in_order panels order ordered in
        let end = whole.1 in
        let all : AreOfPanels order = subst AreOfPanels (take_all place order (omega (arith, end))) front in
        each_at (λ (s : Seat). s.task ≢ Keep) order there.0 keep_seat all
        (slice_get-get_or order there.0 keep_seat there.1 ∙ ap Some there.2) refl)
    | inr apart ↦ (let n = apart.1 in omega (arith, within, n))
  ]

module _ (order : List Seat) (place : ℕ) (seat : Seat) (is : slice_get order place ≡ Some seat) (keep : seat.task ≡ Keep)
    (front : AreOfPanels (seats_between 0 place order)) where
  -- the turns before Keep's, Keep's, and those after it
  pub order_parted : (failed : Bool) (before : List Moment) → and_turns failed order before
      ≡ and_turns failed (drop (place + 1) order) (Kept failed ∷ and_turns false (seats_between 0 place order) before)
  order_parted failed before =
      ap (λ xs. and_turns failed xs before) (sym (take-append-drop (place + 1) order))
      ∙ turns-append failed (take (place + 1) order) (drop (place + 1) order) before
      ∙ ap (and_turns failed (drop (place + 1) order))
      (ap (λ xs. and_turns failed xs before) (between_more order 0 place seat (omega arith) is)
      ∙ turns-append failed (seats_between 0 place order) (seat ∷ []) before
      ∙ ap (λ t. turn_of failed seat.panel t ∷ and_turns failed (seats_between 0 place order) before) keep
      ∙ ap (λ ms. Kept failed ∷ ms) (same_turns failed false (seats_between 0 place order) before front))

  -- Keep stands there once
  pub no_other : (panels last : ℕ) (before : List Moment) → place + 1 ≤ last → last ≤ length order
      → AreOfPanels (seats_between (place + 1) last order) → ((s : Seat) → slice_get order last ≡ Some s → s.task ≡ Keep)
      → IsRun panels (and_turns false (drop (place + 1) order) (Kept false ∷ before)) → last ≡ length order
  no_other panels last before since few rest ends run = elim (eqb_tells last (length order)) [
    | inl whole ↦ whole.1
    | inr apart ↦ absurd (
        let n = apart.1 in
        let less : last < length order = omega (arith, few, n) in
        let there = slice_get-get_or order last seat less in
        let other = get_or order last seat in
        let turned = front_turns panels order (place + 1) (last + 1) (Kept false ∷ before) (omega (arith, since)) (omega (arith, less)) run in
        let next = subst (IsRun panels) (turns_next order (place + 1) last other (Kept false ∷ before) since there
        ∙ ap (λ t. turn_of false other.panel t ∷ and_turns false (seats_between (place + 1) last order) (Kept false ∷ before)) (ends other there)) turned in
        let no_way = sym (panels_kept false (seats_between (place + 1) last order) (Kept false ∷ before) rest) ∙ next.1 in
        cc)
  ]

-- a seat that is not Keep's is of a panel
pub seat_panel : (panels : ℕ) (seat : Seat) → Contains (canonical_seats panels) seat → seat.task ≢ Keep → IsPanel panels seat.panel
seat_panel panels seat known n = go ((Contains-canonical_seats-cases panels seat).0 known)
  where
    go : IsPanelSeat panels seat ⊎ (seat ≡ keep_seat) → IsPanel panels seat.panel
    go (inl h) = (h.low, h.high)
    go (inr e) = absurd (n (ap (λ (s : Seat). s.task) e))
