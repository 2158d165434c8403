-- After a tick the runs are those of all ticks so far.
use Rattle.std.proofs.Common.{◌≡◌, ℕ, ◌+◌, ◌≤◌, ◌&&◌, not, Bool, true, false, Vec, List, [], ◌∷◌, length, get_or, replicate, refl, sym, ◌∙◌, ap, subst, add-one, arith}
use Rattle.std.proofs.lemmas.List.{get_or-replicate, length-replicate, with_items_is}
use Rattle.std.specs.Vec.{with_items}
use Rattle.site_types.specs.declared.event.Event.{Event}
use Rattle.site_types.specs.declared.retained.Retained.{Retained}
use Rattle.site_types.specs.declared.site.Site.{Site}
use Rattle.site_types.specs.Done.{is_blocked}
use Rattle.site_types.specs.Profile.{round_of}
use Rattle.site_types.specs.Valid.{IsValid}
use Rattle.std.proofs.Common.{map}
use Rattle.record_lines.specs.Events.{event_view}
use Rattle.panel_rules.specs.Moments.{Moment, TickBlock, and_events, moments, up_to}
use Rattle.run_text.proofs.TickTimes.{up_to_earlier, whole_up_to}
use Rattle.blocked_points.specs.declared.blocked_points.BlockedPoints.{BlockedPoints}
use Rattle.blocked_points.specs.declared.done_operation.DoneOperation.{DoneOperation}
use Rattle.blocked_points.specs.Operations.{done_newest_first}
use Rattle.blocked_points.specs.Stands.{StandsFor as BlockedStandsFor}
use Rattle.blocked_points.proofs.InForce.{same_blocked}
use Rattle.field_states.specs.declared.field_states.FieldStates.{FieldStates}
use Rattle.field_states.specs.Field.{FieldStands}
use Rattle.field_states.specs.Sounding.{sounds_at}
use Rattle.point_runs.specs.declared.point_run.PointRun.{PointRun}
use Rattle.point_runs.specs.Runs.{RunStands}
use Rattle.point_runs.proofs.RunSteps.{after_stands, run_same, same_tick}
use Rattle.signal_points.specs.declared.point_states.PointStates.{PointStates}
use Rattle.signal_points.specs.declared.signal_points.SignalPoints.{SignalPoints}
use Rattle.signal_points.specs.Looks.{AreRunsAfter}
use Rattle.signal_points.specs.Reports.{ChangeNoSound}
use Rattle.signal_points.specs.Signalling.{signals_at}
use Rattle.signal_points.specs.Stands.{AreSignalRuns, StandsFor}
use Rattle.signal_points.specs.States.{NoSignalChanges, PointsStand, TakesTick, signals_now}
use Rattle.signal_points.proofs.Sounds.{tick_leaves, tick_stands}

pub round_some : (site : Site) → IsValid site → 1 ≤ round_of site.format
round_some site valid = let format = valid.forms.format.0 in omega (arith, format)

both_same : (a b c d : Bool) → a ≡ b → c ≡ d → (a && not c) ≡ (b && not d)
both_same a b c d p q = ap (λ x. x && not c) p ∙ ap (λ x. b && not x) q

module _ (site : Site) (kept : Retained) (operations : List DoneOperation) (tick : TickBlock) (ticks : List TickBlock) where
  -- whether a point signalled in a tick before doesn't change
  pub test_before : (point t : ℕ) → t ≤ length ticks → signals_at site kept (done_newest_first operations) (moments ticks) point t
      ≡ signals_at site kept (done_newest_first operations) (moments (tick ∷ ticks)) point t
  test_before point t by =
      ap (λ m. sounds_at site m point && not (is_blocked site kept (done_newest_first operations) point t)) (sym (up_to_earlier tick ticks t by))

  run_before : (point : ℕ) (run : PointRun)
      → RunStands (signals_at site kept (done_newest_first operations) (moments ticks) point) (round_of site.format) (length ticks) run
      → RunStands (signals_at site kept (done_newest_first operations) (moments (tick ∷ ticks)) point) (round_of site.format) (length ticks) run
  run_before point run stands =
      run_same (signals_at site kept (done_newest_first operations) (moments ticks) point)
      (signals_at site kept (done_newest_first operations) (moments (tick ∷ ticks)) point) (length ticks) (test_before point) (round_of site.format) run stands

  -- no point was looked at
  pub after_none : (runs : List PointRun) → IsValid site → NoSignalChanges site kept operations tick ticks
      → AreSignalRuns site kept operations ticks runs → AreSignalRuns site kept operations (tick ∷ ticks) runs
  after_none runs valid none are = record {
    size = are.size;
    each = λ point other within. (
        let test = signals_at site kept (done_newest_first operations) (moments (tick ∷ ticks)) point in
        let same : test (length ticks + 1) ≡ test (length ticks) =
        ap test (add-one (length ticks)) ∙ none point ∙ test_before point (length ticks) (omega arith) in
        subst (λ n. RunStands test (round_of site.format) n (get_or runs point other)) (add-one (length ticks))
        (same_tick test (round_of site.format) (length ticks) (round_some site valid) (get_or runs point other) same
        (run_before point (get_or runs point other) (are.each point other within))));
  }

  -- each was looked at
  pub after_looks : (now : ℕ) (runs looked : List PointRun) → IsValid site → now ≡ length ticks + 1
      → AreRunsAfter (round_of site.format) now (λ point. signals_now site kept operations (tick ∷ ticks) point) runs looked
      → AreSignalRuns site kept operations ticks runs → AreSignalRuns site kept operations (tick ∷ ticks) looked
  after_looks now runs looked valid next looks are = record {
    size = looks.size ∙ are.size;
    each = λ point other within. (
        let test = signals_at site kept (done_newest_first operations) (moments (tick ∷ ticks)) point in
        let last : now ≡ length (tick ∷ ticks) = next ∙ add-one (length ticks) in
        let size = are.size in
        subst (λ n. RunStands test (round_of site.format) n (get_or looked point other)) last
        (after_stands test (round_of site.format) (length ticks) now (signals_now site kept operations (tick ∷ ticks) point) (get_or runs point other)
        (get_or looked point other) (looks.each point other (omega (arith, within, size))) (round_some site valid) (sym next) (ap test last)
        (run_before point (get_or runs point other) (are.each point other within))));
  }

  -- what decides which points signal, after the tick
  module _ (old : PointStates) (now : ℕ) (field : FieldStates) (blocked : BlockedPoints) (stands : PointsStand site kept operations ticks old)
      (next : now ≡ length ticks + 1) where
    pub states_next : FieldStands site (moments (tick ∷ ticks)) field → BlockedStandsFor site kept operations now blocked
        → PointsStand site kept operations (tick ∷ ticks) (record { field = field; blocked = blocked })
    states_next field_stands blocked_stands = record {
      valid = stands.valid;
      field = field_stands;
      blocked = subst (λ n. BlockedStandsFor site kept operations n blocked) (next ∙ add-one (length ticks)) blocked_stands;
    }

    -- neither an event nor an operation changed anything
    pub none_changes : ((point : ℕ) → sounds_at site (moments (tick ∷ ticks)) point ≡ sounds_at site (moments ticks) point) → blocked ≡ old.blocked
        → BlockedStandsFor site kept operations now blocked → NoSignalChanges site kept operations tick ticks
    none_changes silent same blocked_stands point =
        let later : BlockedStandsFor site kept operations (length (tick ∷ ticks)) old.blocked =
        subst (λ n. BlockedStandsFor site kept operations n old.blocked) (next ∙ add-one (length ticks))
        (subst (BlockedStandsFor site kept operations now) same blocked_stands) in
        both_same (sounds_at site (up_to (length (tick ∷ ticks)) (moments (tick ∷ ticks))) point) (sounds_at site (up_to (length ticks) (moments ticks)) point)
        (is_blocked site kept (done_newest_first operations) point (length (tick ∷ ticks))) (is_blocked site kept (done_newest_first operations) point (length ticks))
        (ap (λ m. sounds_at site m point) (whole_up_to (tick ∷ ticks)) ∙ silent point ∙ ap (λ m. sounds_at site m point) (sym (whole_up_to ticks)))
        (same_blocked site kept operations (length (tick ∷ ticks)) (length ticks) old.blocked later stands.blocked point)

module _ (site : Site) (operations : List DoneOperation) (now : ℕ) (events : List Event) (told came result : Bool) (old : PointStates) (field : FieldStates)
    (blocked : BlockedPoints) (field_step : (before : List Moment) → FieldStands site before old.field → FieldStands site (and_events (map event_view events) before) field)
    (blocked_step : (other : Site) (kept : Retained) (tick : ℕ) → tick ≤ now → BlockedStandsFor other kept operations tick old.blocked
    → BlockedStandsFor other kept operations now blocked) where
  blocked_next : (kept : Retained) (ticks : List TickBlock) → PointsStand site kept operations ticks old → now ≡ length ticks + 1
      → BlockedStandsFor site kept operations now blocked
  blocked_next kept ticks stands next = blocked_step site kept (length ticks) (omega (arith, next)) stands.blocked

  -- a tick is taken
  pub takes_tick : (told ≡ false → ChangeNoSound site (map event_view events)) → (came ≡ false → blocked ≡ old.blocked)
      → (result ≡ false → (told ≡ false) × (came ≡ false))
      → TakesTick site operations now events result old (record { field = field; blocked = blocked })
  takes_tick silent same quiet = record {
    stands = λ kept ticks next stands is.
        states_next site kept operations next ticks old now field blocked stands is.0
        (tick_stands site next ticks (map event_view events) is.1 old.field field field_step stands.field) (blocked_next kept ticks stands is.0);
    same = λ none kept ticks next stands is. (
        let q = quiet none in
        none_changes site kept operations next ticks old now field blocked stands is.0
        (tick_leaves site next ticks (map event_view events) is.1 (silent q.0)) (same q.1) (blocked_next kept ticks stands is.0));
  }

-- whether a point signals at the last tick
module _ (site : Site) (kept : Retained) (operations : List DoneOperation) (ticks : List TickBlock) (point : ℕ) (sounds : Bool)
    (is_sound : sounds ≡ sounds_at site (moments ticks) point) where
  now_is : (blocks : Bool) → blocks ≡ is_blocked site kept (done_newest_first operations) point (length ticks)
      → (sounds && not blocks) ≡ signals_now site kept operations ticks point
  now_is blocks is_block =
      both_same sounds (sounds_at site (up_to (length ticks) (moments ticks)) point) blocks
      (is_blocked site kept (done_newest_first operations) point (length ticks))
      (is_sound ∙ ap (λ m. sounds_at site m point) (sym (whole_up_to ticks))) is_block

  pub sounding_is : (blocks : Bool) → sounds ≡ true → blocks ≡ is_blocked site kept (done_newest_first operations) point (length ticks)
      → not blocks ≡ signals_now site kept operations ticks point
  sounding_is blocks loud is_block = sym (ap (λ b. b && not blocks) loud) ∙ now_is blocks is_block

  pub silent_is : sounds ≡ false → sounds ≡ signals_now site kept operations ticks point
  silent_is quiet =
      let blocks = is_blocked site kept (done_newest_first operations) point (length ticks) in
      quiet ∙ sym (ap (λ b. b && not blocks) quiet) ∙ now_is blocks refl

-- before the first tick
pub runs_first : (site : Site) (kept : Retained) (operations : List DoneOperation) (none : PointRun) (runs : List PointRun) → IsValid site
    → runs ≡ replicate (length site.points) none → ((test : ℕ → Bool) (round : ℕ) → 1 ≤ round → test 0 ≡ false → RunStands test round 0 none)
    → AreSignalRuns site kept operations [] runs
runs_first site kept operations none runs valid is stands = record {
  size = ap length is ∙ length-replicate (length site.points) none;
  each = λ point other within.
      subst (RunStands (signals_at site kept (done_newest_first operations) (moments []) point) (round_of site.format) 0)
      (sym (ap (λ rs. get_or rs point other) is ∙ get_or-replicate (length site.points) point none other within))
      (stands (signals_at site kept (done_newest_first operations) (moments []) point) (round_of site.format) (round_some site valid) refl);
}

-- runs that were written through a slice
written : {Z : Type 0} (items : Vec PointRun Z) (looked : List PointRun) → length looked ≡ length items.items → (with_items items looked).items ≡ looked
written items looked same = let as_long : length looked ≡ items.len = omega (arith, same, items.ok) in with_items_is items looked as_long

module _ (site : Site) (kept : Retained) (operations : List DoneOperation) (tick : TickBlock) (ticks : List TickBlock) (old : SignalPoints)
    (states : PointStates) (stands : StandsFor site kept operations ticks old) (states_stand : PointsStand site kept operations (tick ∷ ticks) states) where
  pub looked_stand : (now : ℕ) (was looked : List PointRun) → now ≡ length ticks + 1 → was ≡ old.runs.items
      → AreRunsAfter old.round now (λ point. signals_now site kept operations (tick ∷ ticks) point) was looked
      → StandsFor site kept operations (tick ∷ ticks) (record { round = old.round; states = states; runs = with_items old.runs looked })
  looked_stand now was looked next are looks =
      let round = stands.round in
      let looks_here = subst (λ rs. AreRunsAfter old.round now (λ point. signals_now site kept operations (tick ∷ ticks) point) rs looked) are looks in
      record {
        round = round;
        states = states_stand;
        runs = subst (AreSignalRuns site kept operations (tick ∷ ticks)) (sym (written old.runs looked looks_here.size))
            (after_looks site kept operations tick ticks now old.runs.items looked states_stand.valid next
            (subst (λ r. AreRunsAfter r now (λ point. signals_now site kept operations (tick ∷ ticks) point) old.runs.items looked) round looks_here)
            stands.runs);
      }

  pub same_stand : NoSignalChanges site kept operations tick ticks
      → StandsFor site kept operations (tick ∷ ticks) (record { round = old.round; states = states; runs = old.runs })
  same_stand none = record {
    round = stands.round;
    states = states_stand;
    runs = after_none site kept operations tick ticks old.runs.items states_stand.valid none stands.runs;
  }
