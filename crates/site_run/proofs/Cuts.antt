-- What power cuts leave of a run's disk, tick by tick.
use Rattle.std.proofs.Common.{◌≡◌, ◌≢◌, ◌∙◌, ◌⊎◌, ◌↔◌, ℕ, Bool, true, false, List, [], ◌∷◌, refl, sym, ap, subst, append-nil, inl, inr}
use Rattle.tick_units.specs.declared.seat.Seat.{Seat}
use Rattle.tick_units.specs.declared.task.Task.{Task}
use Rattle.tick_units.specs.declared.task.Task.TheVariants.{Keep}
use Rattle.site_types.specs.declared.event.Event.{Event}
use Rattle.site_types.specs.declared.retained.Retained.{Retained}
use Rattle.site_types.specs.declared.site.Site.{Site}
use Rattle.site_types.specs.Changes.{changed_by}
use Rattle.retained_journal.specs.declared.journal.Journal.{Journal}
use Rattle.retained_journal.specs.Images.{IsEarly}
use Rattle.panel_rules.specs.Batches.{batch, kept_after}
use Rattle.panel_rules.specs.Moments.{Moment, Began, Happened, Turned, Kept, TickBlock, IsRun, and_events, and_turns, has_kept, moments, turn_of}
use Rattle.panel_core.specs.Changes.{AreOfPanels}
use Rattle.panel_core.specs.Keeping.{before_keep}
use Rattle.panel_core.specs.PowerCuts.{IsFront, OpensToFront, OpensToFrontOr}
use Rattle.panel_core.proofs.Fronts.{fronts_hold, left_over_stays}
use Rattle.panel_core.proofs.Orders.{before_turns, panels_keep, panels_leave_keep, turn_is}
use Rattle.site_run.specs.Outside.{DiskKind, Outside, Stored}
use Rattle.site_run.specs.PowerCuts.{LeavesTicks, OpensToAcknowledged, and_tick, no_tick}
use Rattle.site_run.specs.Stands.{Stores, Writes}
use Rattle.run_text.specs.SoFar.{text_so_far}
use Rattle.panel_edges.proofs.Growing.{grows_none, grows_same}

-- ---- one part of a run after another

pub ticks_more : (kind : DiskKind) (site : Site) (kept : Retained) (digest : List ℕ) (before : List TickBlock) (a : kind.Of) (between : List TickBlock) (b :
    kind.Of) (after : List TickBlock) (c : kind.Of) → LeavesTicks kind site kept digest before a between b
    → LeavesTicks kind site kept digest between b after c → LeavesTicks kind site kept digest before a after c
ticks_more kind site kept digest before a between b after c first no_tick = first
ticks_more kind site kept digest before a between b after c first (and_tick tick ticks mid new more leaves) =
    and_tick tick ticks mid new (ticks_more kind site kept digest before a between b ticks mid first more) leaves

module _ {kind : DiskKind} (site : Site) (kept : Retained) where
  -- no tick was made
  pub stores_same : (old new : Stored kind) (ticks : List TickBlock) → new.disk ≡ old.disk → new.journal ≡ old.journal → Stores site kept old new ticks ticks
  stores_same old new ticks disk journal = record {
    honest = subst (λ d. kind.honest d ↔ kind.honest old.disk) (sym disk) ((λ h. h), (λ h. h));
    early = subst IsEarly (sym journal);
    digest = ap (λ (j : Journal). j.digest) journal;
    leaves = λ sure early. subst (LeavesTicks kind site kept old.journal.digest ticks old.disk ticks) (sym disk) no_tick;
  }

  pub stores_more : (a b c : Stored kind) (x y z : List TickBlock) → Stores site kept a b x y → Stores site kept b c y z → Stores site kept a c x z
  stores_more a b c x y z g h = record {
    honest = ((λ sure. g.honest.0 (h.honest.0 sure)), (λ sure. h.honest.1 (g.honest.1 sure)));
    early = λ early. h.early (g.early early);
    digest = h.digest ∙ g.digest;
    leaves = λ sure early. ticks_more kind site kept a.journal.digest x a.disk y b.disk z c.disk (g.leaves sure early)
        (subst (λ digest. LeavesTicks kind site kept digest y b.disk z c.disk) g.digest (h.leaves (g.honest.1 sure) (g.early early)));
  }

  -- the journal stands as it did
  pub stores_as : (a b : Stored kind) (x y : List TickBlock) (journal : Journal) → journal ≡ b.journal → Stores site kept a b x y
      → Stores site kept a (record { disk = b.disk; journal = journal }) x y
  stores_as a b x y journal same g = subst (λ j. Stores site kept a (record { disk = b.disk; journal = j }) x y) (sym same) g

  -- and nothing was written
  pub writes_same : (old new : Outside kind) (ticks : List TickBlock) → new.written ≡ old.written → new.stored.disk ≡ old.stored.disk
      → new.stored.journal ≡ old.stored.journal → Writes site kept old new ticks ticks
  writes_same old new ticks written disk journal = record {
    text = (
      [],
      sym (append-nil (text_so_far site kept ticks)),
      grows_same old.written old.written new.written [] written (grows_none old.written),
    );
    stores = stores_same old.stored new.stored ticks disk journal;
  }

-- ---- what a file opens to in a tick

not_both : {X : Type 0} → true ≡ false → X
not_both e = absurd (go e)
  where
    go : true ≡ false → ⊥
    go e = cc

keep_or : (task : Task) → (task ≡ Keep) ⊎ (task ≢ Keep)
keep_or Keep = inl refl
keep_or task = inr (λ e. absurd cc)

-- behind Keep's turn no seat is Keep's
no_keep_behind : (panels : ℕ) (seats : List Seat) (before : List Moment) → has_kept before ≡ true → IsRun panels (and_turns false seats before) → AreOfPanels seats
no_keep_behind panels [] before has run = tt
no_keep_behind panels (seat ∷ seats) before has run =
    let other : seat.task ≢ Keep =
    (λ e. not_both
    (sym has
    ∙ (before_turns panels false seats (Kept false ∷ before)
    (subst (λ m. IsRun panels (and_turns false seats (m ∷ before))) (ap (turn_of false seat.panel) e) run)).1)) in
    let still = ap (λ m. has_kept (m ∷ before)) (turn_is false seat.panel seat.task other) ∙ has in
    (other, no_keep_behind panels seats (turn_of false seat.panel seat.task ∷ before) still run)

module _ (site : Site) (kept : Retained) (failed : Bool) where
  -- what is kept with the batch of a turn of Keep is a front of the run with it
  keep_front : (b : Bool) (before : List Moment) → IsFront site kept (Kept b ∷ before) (changed_by (batch site kept before) (kept_after site kept before))
  keep_front true before = record { more = batch site kept before; whole = inr (inl refl); is = refl }
  keep_front false before = record { more = []; whole = inl refl; is = refl }

  front_stays : (seats : List Seat) (before : List Moment) (state : Retained) → AreOfPanels seats → IsFront site kept before state
      → IsFront site kept (and_turns failed seats before) state
  front_stays seats before state all h = record {
    more = h.more;
    whole = left_over_stays site kept h.more failed seats before all h.whole;
    is = h.is ∙ ap (changed_by h.more) (sym (panels_keep site kept failed seats before all));
  }

  abbrev with_batch : List Seat → List Moment → List Moment → Retained
  with_batch seats turned before = changed_by (batch site kept (before_keep (and_turns false seats turned))) (kept_after site kept before)

  abbrev FrontWith : ℕ → List Seat → List Moment → Moment → Moment → Type 0
  FrontWith panels seats before told failing = IsRun panels (and_turns false seats (told ∷ before)) → has_kept (and_turns false seats (told ∷ before)) ≡ true
      → IsFront site kept (and_turns failed seats (failing ∷ before)) (with_batch seats (told ∷ before) before)

  at_keep : (panels : ℕ) (seats : List Seat) (before : List Moment) → FrontWith panels seats before (Kept false) (Kept failed)
  at_keep panels seats before run has =
      let all = no_keep_behind panels seats (Kept false ∷ before) refl run in
      subst
      (λ ms. IsFront site kept (and_turns failed seats (Kept failed ∷ before)) (changed_by (batch site kept ms) (kept_after site kept before)))
      (sym (panels_leave_keep false seats (Kept false ∷ before) all))
      (front_stays seats (Kept failed ∷ before) (changed_by (batch site kept before) (kept_after site kept before)) all (keep_front failed before))

  by_task : (panels panel : ℕ) (task : Task) (seats : List Seat) (before : List Moment) → ((task ≡ Keep) ⊎ (task ≢ Keep))
      → FrontWith panels seats before (Turned panel task) (Turned panel task)
      → FrontWith panels seats before (turn_of false panel task) (turn_of failed panel task)
  by_task panels panel task seats before (inl e) next =
      subst (λ m. FrontWith panels seats before m (turn_of failed panel task)) (sym (ap (turn_of false panel) e))
      (subst (FrontWith panels seats before (Kept false)) (sym (ap (turn_of failed panel) e)) (at_keep panels seats before))
  by_task panels panel task seats before (inr n) next =
      subst (λ m. FrontWith panels seats before m (turn_of failed panel task)) (sym (turn_is false panel task n))
      (subst (FrontWith panels seats before (Turned panel task)) (sym (turn_is failed panel task n)) next)

  -- what is kept with the batch of the turn of Keep in an order is a front of the run with the order
  front_with : (panels : ℕ) (seats : List Seat) (before : List Moment) → has_kept before ≡ false → IsRun panels (and_turns false seats before)
      → has_kept (and_turns false seats before) ≡ true → IsFront site kept (and_turns failed seats before) (with_batch seats before before)
  front_with panels [] before none run has = not_both (sym has ∙ none)
  front_with panels (seat ∷ seats) before none run has =
      by_task panels seat.panel seat.task seats before (keep_or seat.task) (front_with panels seats (Turned seat.panel seat.task ∷ before) none) run has

-- the events of a tick change nothing of a front
front_behind : (site : Site) (kept state : Retained) (events : List Event) (before : List Moment) → IsFront site kept (and_events events before) state
    → IsFront site kept before state
front_behind site kept state [] before h = h
front_behind site kept state (event ∷ events) before h =
    let g = front_behind site kept state events (Happened event ∷ before) h in
    record { more = g.more; whole = g.whole; is = g.is }

none_kept : (events : List Event) (before : List Moment) → has_kept before ≡ false → has_kept (and_events events before) ≡ false
none_kept [] before none = none
none_kept (event ∷ events) before none = none_kept events (Happened event ∷ before) none

-- a file that opens to a front opens to all that was acknowledged
pub acknowledged : (site : Site) (kept : Retained) (digest : List ℕ) (ticks : List TickBlock) (file : List ℕ) → OpensToFront site kept digest (moments ticks) file
    → OpensToAcknowledged site kept digest ticks file
acknowledged site kept digest ticks file f =
    record { state = f.state; opens = f.opens; holds = fronts_hold site kept (moments ticks) f.state f.front }

module _ (site : Site) (kept : Retained) (digest : List ℕ) (ticks : List TickBlock) (tick : TickBlock) where
  abbrev before_turns_of : List Moment
  before_turns_of = and_events tick.events (Began ∷ moments ticks)

  -- in a tick a file opens to all that was acknowledged before it, or in it too
  pub opens_in_tick : (file : List ℕ) → IsRun site.panels (and_turns false tick.order before_turns_of)
      → has_kept (and_turns false tick.order before_turns_of) ≡ true
      → OpensToFrontOr site kept digest before_turns_of (batch site kept (before_keep (and_turns false tick.order before_turns_of))) file
      → OpensToAcknowledged site kept digest ticks file ⊎ OpensToAcknowledged site kept digest (tick ∷ ticks) file
  opens_in_tick file run has (inl f) =
      let g = front_behind site kept f.state tick.events (Began ∷ moments ticks) f.front in
      inl
      (acknowledged site kept digest ticks file
      (record { state = f.state; front = record { more = g.more; whole = g.whole; is = g.is }; opens = f.opens }))
  opens_in_tick file run has (inr opens) =
      inr
      (acknowledged site kept digest (tick ∷ ticks) file
      (record {
        state = with_batch site kept tick.failed tick.order before_turns_of before_turns_of;
        front = front_with site kept tick.failed site.panels tick.order before_turns_of (none_kept tick.events (Began ∷ moments ticks) refl) run has;
        opens = opens;
      }))
