-- Marks: what a call raises, and that each panel that isn't marked shows what it showed.
use Rattle.std.proofs.Common.{◌≡◌, ◌≢◌, ◌∙◌, ◌+◌, ◌-◌, ◌==◌, ℕ, Bool, true, false, List, [], ◌∷◌, Some, length}
use Rattle.std.proofs.Common.{inl, inr, refl, sym, ap, subst, arith, slice_get, replicate}
use Rattle.std.specs.Prelude.{not, slice_index, slice_index_or}
use Rattle.std.proofs.lemmas.Bool.Decides.{eqb_tells}
use Rattle.std.proofs.lemmas.List.{get_or-replicate}
use Rattle.tick_units.specs.declared.seat.Seat.{Seat}
use Rattle.tick_units.specs.declared.task.Task.{Task}
use Rattle.tick_units.specs.declared.task.Task.TheVariants.{Drive, Hold, Keep, Link}
use Rattle.site_types.specs.declared.event.Event.{Event}
use Rattle.site_types.specs.declared.event.Event.TheVariants.{Confirmed}
use Rattle.site_types.specs.declared.output.Output.{Output}
use Rattle.site_types.specs.declared.retained.Retained.{Retained}
use Rattle.site_types.specs.declared.site.Site.{Site}
use Rattle.site_types.specs.Done.{Done}
use Rattle.panel_links.specs.Changes.{KeepsZones}
use Rattle.operation_desk.specs.declared.done_operation.DoneOperation.{DoneOperation}
use Rattle.operation_desk.specs.Requests.{done_from, with_done}
use Rattle.panel_rules.specs.Moments.{Moment, Began, Happened, Turned, Kept, IsPanel, IsRun, turn_of, tick_of}
use Rattle.panel_rules.specs.Outputs.{is_confirmed_out, is_on, outputs_where}
use Rattle.panel_rules.specs.Run.{facts_of}
use Rattle.panel_rules.specs.Timeline.{face_of}
use Rattle.panel_core.specs.declared.outputs_shown.OutputsShown.{OutputsShown}
use Rattle.panel_core.specs.declared.system.System.{System}
use Rattle.panel_parts.specs.Applied.{applied, done_so_far}
use Rattle.panel_core.specs.Changes.{MakesTaskTurn}
use Rattle.panel_core.specs.Marks.{AreMarked, MarksEvent, MarksTurn, MarksTurns, RaisesMark, RaisesMarks, ShowsSame, is_marked}
use Rattle.panel_core.specs.PartsShown.{ShowsAgainByHold, ShowsByDrive}
use Rattle.panel_core.specs.Stands.{HasPanel, MayTurnTask, StandsFor}
use Rattle.panel_parts.proofs.Applied.{applied_is_older, applied_stays}
use Rattle.panel_core.proofs.FacesAlike.{IsUnseen, IsUnseenEvent, confirmed_elsewhere, drive_alike, drive_elsewhere, face_stays}
use Rattle.panel_core.proofs.FacesAlike.{face_stays_begun, hold_alike, hold_elsewhere, link_elsewhere, unseen_event, unseen_keep, unseen_turn}
use Rattle.panel_core.proofs.LinkTurns.{same_link}
use Rattle.panel_core.proofs.Orders.{turn_is}
use Rattle.panel_core.proofs.PartTurns.{member_here}

-- a system stands for what it stands for whatever its marks are
pub stands_marked : (site : Site) (kept : Retained) (before : List Moment) (system : System) (marks : List Bool)
    → StandsFor site kept before system → StandsFor site kept before (record system { changed = marks })
stands_marked site kept before system marks h = record {
  valid = h.valid;
  same = h.same;
  plan = h.plan;
  tick = h.tick;
  count = h.count;
  each = h.each;
  ring = h.ring;
  events = h.events;
  desk = h.desk;
  settings = h.settings;
  sized = h.sized;
  own = h.own;
  counts = h.counts;
}

-- so it does once marks were raised
pub stands_raised : {system new : System} → new ≡ record system { changed = new.changed }
    → (site : Site) (kept : Retained) (before : List Moment) → StandsFor site kept before system → StandsFor site kept before new
stands_raised {system} {new} rest site kept before h =
    subst (StandsFor site kept before) (sym rest) (stands_marked site kept before system new.changed h)

pub not_false : (b : Bool) → not b ≡ false → b ≡ true
not_false true e = refl
not_false false e = cc

-- marks that are as they were
same_mark : (new old : List Bool) → new ≡ old → (panel : ℕ) → is_marked new panel ≡ false → is_marked old panel ≡ false
same_mark new old same panel unmarked = ap (λ marks. is_marked marks panel) (sym same) ∙ unmarked

-- a panel whose task may have its turn can be looked at, before it and after it
pub may_look : {panel : ℕ} {task : Task} {system : System} → MayTurnTask panel task system → HasPanel panel system
may_look may = record { site = may.site; kept = may.kept; before = may.before; stands = may.stands; member = may.member }

pub may_look_again : {panel : ℕ} {task : Task} {system turned : System} → MayTurnTask panel task system → MakesTaskTurn system panel task turned
    → HasPanel panel turned
may_look_again {panel} {task} may made = record {
  site = may.site;
  kept = may.kept;
  before = Turned panel task ∷ may.before;
  stands = made may.site may.kept may.before may.stands may.run;
  member = may.member;
}

-- ---- where nothing is shown, no mark is raised

pub unseen_marks : (old : System) (marks : List Bool) (panel : ℕ) (task : Task) → IsUnseen task → marks ≡ old.changed → MarksTurn old panel task marks
unseen_marks old marks panel task unseen same site kept before h run marked p member unmarked =
    face_stays site kept p (Turned panel task) before refl (unseen_turn site kept p (applied site kept before) before panel task unseen) refl
    ∙ marked p member (same_mark marks old.changed same p unmarked)

pub unseen_event_marks : (old : System) (marks : List Bool) (event : Event) → IsUnseenEvent event → marks ≡ old.changed → MarksEvent old event marks
unseen_event_marks old marks event unseen same site kept before h marked p member unmarked =
    face_stays site kept p (Happened event) before refl (unseen_event site kept p (applied site kept before) before event unseen) refl
    ∙ marked p member (same_mark marks old.changed same p unmarked)

-- a seat's turn is that of its task
pub seat_marks : (old : System) (marks : List Bool) (seat : Seat) (task : Task) → seat.task ≡ task → task ≢ Keep → MarksTurn old seat.panel task marks
    → MarksTurns old (seat ∷ []) marks
seat_marks old marks seat task is other made site kept before h run marked =
    let moment = ap (turn_of false seat.panel) is ∙ turn_is false seat.panel task other in
    subst (λ m. AreMarked site kept (m ∷ before) marks) (sym moment)
    (made site kept before h (subst (λ m. IsRun site.panels (m ∷ before)) moment run) marked)

-- ---- where something is shown, the panel is marked unless it is as it was

module _ (old turned new : System) (panel : ℕ) (task : Task) (differs : Bool) (same : turned.changed ≡ old.changed)
    (raises : RaisesMark turned panel differs new) where
  unraised : (p : ℕ) → is_marked new.changed p ≡ false → is_marked old.changed p ≡ false
  unraised p unmarked = same_mark turned.changed old.changed same p (raises.unmarked p unmarked)

  -- the face of another panel stays, and its own where what the part shows is as it was
  turn_marks : ((site : Site) (kept : Retained) (before : List Moment) (p : ℕ) → (panel == p) ≡ false
      → face_of site kept p (Turned panel task ∷ before) ≡ face_of site kept p before)
      → ((site : Site) (kept : Retained) (before : List Moment) → StandsFor site kept before old → IsRun site.panels (Turned panel task ∷ before)
      → differs ≡ false → face_of site kept panel (Turned panel task ∷ before) ≡ face_of site kept panel before)
      → MarksTurn old panel task new.changed
  turn_marks elsewhere own site kept before h run marked p member unmarked =
      elim (eqb_tells panel p) [
        | inl t ↦
            own_face t.1 ∙ marked p member (unraised p unmarked)
        | inr t ↦ elsewhere site kept before p t.0 ∙ marked p member (unraised p unmarked)
      ]
    where
      own_face : panel ≡ p → face_of site kept p (Turned panel task ∷ before) ≡ face_of site kept p before
      own_face e =
          subst (λ q. face_of site kept q (Turned panel task ∷ before) ≡ face_of site kept q before) e
          (own site kept before h run (raises.same (subst (λ q. is_marked new.changed q ≡ false) (sym e) unmarked)))

pub hold_marks : {old turned new : System} {panel : ℕ} {differs : Bool} → turned.changed ≡ old.changed → RaisesMark turned panel differs new
    → (differs ≡ false → ShowsAgainByHold old panel) → MarksTurn old panel Hold new.changed
hold_marks {old} {turned} {new} {panel} {differs} same raises again =
    turn_marks old turned new panel Hold differs same raises
    (λ site kept before p e.
    face_stays site kept p (Turned panel Hold) before refl (hold_elsewhere site kept p (applied site kept before) before panel e) refl)
    (λ site kept before h run alike. (
    let shown = again alike site kept before h run in
    face_stays site kept panel (Turned panel Hold) before refl
    (hold_alike site kept panel (applied site kept before) before shown.alarms shown.firsts shown.faults shown.buzzer) refl))

pub link_marks : {old turned new : System} {panel : ℕ} {differs : Bool} → MayTurnTask panel Link old → turned.changed ≡ old.changed
    → RaisesMark turned panel differs new → MakesTaskTurn old panel Link turned → (differs ≡ false → KeepsZones old.ring panel turned.ring)
    → MarksTurn old panel Link new.changed
link_marks {old} {turned} {new} {panel} {differs} may same raises made keeps =
    turn_marks old turned new panel Link differs same raises
    (λ site kept before p e.
    face_stays site kept p (Turned panel Link) before refl (link_elsewhere site kept p (applied site kept before) before panel e) refl)
    (λ site kept before h run alike.
    face_stays site kept panel (Turned panel Link) before refl
    (same_link site kept panel before old turned h (made site kept before h run) (member_here may h) (keeps alike)) refl)

pub drive_marks : {old turned new : System} {panel : ℕ} {differs : Bool} (shown shown' : OutputsShown) → turned.changed ≡ old.changed
    → RaisesMark turned panel differs new → MakesTaskTurn old panel Drive turned → ShowsByDrive old panel shown → ShowsByDrive turned panel shown'
    → (differs ≡ false → shown' ≡ shown) → MarksTurn old panel Drive new.changed
drive_marks {old} {turned} {new} {panel} {differs} shown shown' same raises made was is tells =
    turn_marks old turned new panel Drive differs same raises
    (λ site kept before p e.
    face_stays site kept p (Turned panel Drive) before refl (drive_elsewhere site kept p (applied site kept before) before panel e) refl)
    (λ site kept before h run alike. (
    let moment = Turned panel Drive in
    let then = was site kept before h run.0 in
    let now = is site kept (moment ∷ before) (made site kept before h run) run in
    let e = applied_stays site kept moment before refl in
    face_stays site kept panel moment before refl
    (drive_alike site kept panel (applied site kept before) before
    (ap (λ done. outputs_where site panel (λ output. is_on site (facts_of site kept done) kept done output (moment ∷ before))) e ∙ sym now.on
    ∙ ap (λ (s : OutputsShown). s.on) (tells alike) ∙ then.on)
    (ap (λ done. outputs_where site panel (λ output. is_confirmed_out site (facts_of site kept done) kept done output (moment ∷ before))) e
    ∙ sym now.confirmed ∙ ap (λ (s : OutputsShown). s.confirmed) (tells alike) ∙ then.confirmed))
    refl))

-- ---- a confirmation, a turn of Keep, the beginning of a tick

pub confirmation_marks : {heard new : System} (marks : List Bool) (event : Event) (output : ℕ) (plan : Output) → heard.changed ≡ marks
    → RaisesMark heard plan.panel true new → event ≡ Confirmed output → (site : Site) (kept : Retained) (before : List Moment)
    → slice_get site.outputs output ≡ Some plan → AreMarked site kept before marks → AreMarked site kept (Happened event ∷ before) new.changed
confirmation_marks {heard} {new} marks event output plan same raises is site kept before at marked p member unmarked =
    subst (λ e. ShowsSame site kept (Happened e ∷ before) p) (sym is)
    (elim (eqb_tells plan.panel p) [
      | inl t ↦ absurd (let raised = raises.same (subst (λ q. is_marked new.changed q ≡ false) (sym t.1) unmarked) in cc)
      | inr t ↦
          face_stays site kept p (Happened (Confirmed output)) before refl
          (confirmed_elsewhere site kept p (applied site kept before) before output plan at t.1) refl
          ∙ marked p member (same_mark heard.changed marks same p (raises.unmarked p unmarked))
    ])

pub keep_marks : {old after new : System} {differ : Bool} (site : Site) (kept : Retained) (before : List Moment) (failed : Bool)
    → after.changed ≡ old.changed → RaisesMarks after differ new → (differ ≡ false → after.counts.counters ≡ old.counts.counters)
    → StandsFor site kept before old → StandsFor site kept (Kept failed ∷ before) after → AreMarked site kept before old.changed
    → AreMarked site kept (Kept failed ∷ before) new.changed
keep_marks {old} {after} {new} {differ} site kept before failed same raises tells h noted marked p member unmarked =
    let few = h.valid.forms.panels.1 in
    let counters = sym noted.counts.counters ∙ tells (raises.same p member.0 (let last = member.1 in omega (arith, few, last)) unmarked) ∙ h.counts.counters in
    face_stays site kept p (Kept failed) before refl (unseen_keep site kept p (applied site kept before) before failed)
    (ap (λ xs. slice_index xs (p - 1)) counters)
    ∙ marked p member (same_mark after.changed old.changed same p (raises.unmarked p unmarked))

so_many_done : (tick : ℕ) (ds : List DoneOperation) (older : List Done) → length (with_done tick ds older) ≡ length ds + length older
so_many_done tick [] older = omega arith
so_many_done tick (d ∷ ds) older = let more = so_many_done tick ds (done_from tick d ∷ older) in omega (arith, more)

empty_of : (ds : List DoneOperation) → length ds ≡ 0 → ds ≡ []
empty_of [] e = refl
empty_of (d ∷ ds) e = absurd (omega (arith, e))

module _ (site : Site) (kept : Retained) (before : List Moment) (old : System) (h : StandsFor site kept before old) where
  -- where the desk did nothing, what was done so far is in force, and the other way round
  pub none_done : old.desk.done.items ≡ [] → done_so_far site kept before ≡ applied site kept before
  none_done none =
      let unsettled = h.desk.outcomes.unsettled in
      unsettled.done_is ∙ ap (λ ds. with_done (tick_of before) ds unsettled.older) none
      ∙ sym (applied_is_older site kept before old.desk.done.items unsettled.older unsettled.done_is unsettled.earlier)

  pub did_none : done_so_far site kept before ≡ applied site kept before → length old.desk.done.items ≡ 0
  did_none none =
      let unsettled = h.desk.outcomes.unsettled in
      let e = ap length (sym unsettled.done_is ∙ none
      ∙ applied_is_older site kept before old.desk.done.items unsettled.older unsettled.done_is unsettled.earlier) in
      let count = so_many_done (tick_of before) old.desk.done.items unsettled.older in
      omega (arith, e, count)

  module _ (none : Bool) (p : ℕ) (member : IsPanel site.panels p) where
    mark_is : slice_index_or (replicate 8 (not none)) (p - 1) false ≡ not none
    mark_is = let few = h.valid.forms.panels.1 in get_or-replicate 8 (p - 1) (not none) false (omega (arith, few, member.0, member.1))

    pub begun_marks : (none ≡ true → length old.desk.done.items ≡ 0) → slice_index_or (replicate 8 (not none)) (p - 1) false ≡ false
        → ShowsSame site kept (Began ∷ before) p
    begun_marks tells unmarked =
        face_stays_begun site kept p before (none_done (empty_of old.desk.done.items (tells (not_false none (sym mark_is ∙ unmarked)))))

    pub begun_unmarked : none ≡ true → slice_index_or (replicate 8 (not none)) (p - 1) false ≡ false
    begun_unmarked e = mark_is ∙ ap not e
