-- From the end of a tick to the beginning of the next: what was done in the one comes in force, one operation after another.
use Rattle.std.proofs.Common.{◌≡◌, ◌≤◌, ◌+◌, ◌∙◌, ℕ, List, [], ◌∷◌, length, Some, slice_get, refl, sym, ap, subst, arith}
use Rattle.tick_units.specs.declared.tick.Tick.{Tick}
use Rattle.site_types.specs.declared.retained.Retained.{Retained}
use Rattle.site_types.specs.declared.site.Site.{Site}
use Rattle.site_types.specs.Changes.{IsSized}
use Rattle.site_types.specs.Done.{Done}
use Rattle.kept_words.specs.Arrivals.{Made}
use Rattle.kept_words.specs.Stands.{KeepsArrived}
use Rattle.node_rules.specs.Histories.{Befell, NodeMoment, befallen, frames_in}
use Rattle.operation_desk.specs.declared.desk.Desk.{Desk}
use Rattle.operation_desk.specs.declared.done_operation.DoneOperation.{DoneOperation}
use Rattle.operation_desk.specs.Replies.{AreInForce}
use Rattle.operation_desk.specs.Requests.{done_from}
use Rattle.operation_desk.specs.Stands.{DesksFor}
use Rattle.output_drive.specs.declared.drive.Drive.{Drive as DrivePart}
use Rattle.output_drive.specs.Changes.{BeginsTickAfter}
use Rattle.output_drive.specs.Stands.{DrivesFor}
use Rattle.hold_calls.specs.Told.{Told}
use Rattle.panel_parts.specs.Entries.{CountsFor}
use Rattle.panel_parts.specs.declared.parts.Parts.{Parts}
use Rattle.panel_parts.specs.Applied.{MayBeApplied, applied, done_so_far}
use Rattle.panel_parts.specs.Changes.{AppliesDone}
use Rattle.panel_parts.specs.Stands.{HasPlan, PanelStands}
use Rattle.panel_parts.proofs.Applied.{applied_begun}
use Rattle.panel_parts.proofs.Counts.{counts_stay}
use Rattle.panel_parts.proofs.Operations.{stands_alike}
use Rattle.panel_parts.proofs.Panels.{after_begin}
use Rattle.panel_parts.proofs.TickDone.{all_done, by_now, grew_now, next_applied, none_yet, one_more, settings_yet, so_many}
use Rattle.panel_rules.specs.Moments.{Moment, Began, IsRun, tick_of}
use Rattle.settings_shown.specs.Shown.{HasNoStrangeBits}
use Rattle.panel_node.specs.declared.node.Node.{Node}
use Rattle.panel_node.specs.Changes.{AppliesOne, LeavesTheRest}
use Rattle.panel_node.specs.Stands.{MayApply, NodeHasApplied, NodeStandsFor}
use Rattle.panel_node.specs.Told.{arrived, word_of_itself, told_by_frames}
use Rattle.panel_node.proofs.Histories.{agree_moment}
use Rattle.panel_node.proofs.Later.{agree_later, done_from_tick, own_later}
use Rattle.panel_node.proofs.Next.{own_stays}

-- ---- one operation

module _ (site : Site) (panel : ℕ) (kept : Retained) (history : List NodeMoment) (done : List Done) (d : Done) (old : Node) (h : NodeHasApplied site panel kept history done old)
    (may : MayBeApplied site (befallen history) done d) where
  parts_applied : (at : ℕ) (parts : Parts) → at ≡ panel → AppliesDone old.parts at d parts
      → PanelStands site kept (d ∷ done) (told_by_frames site kept (d ∷ done) panel history) panel (befallen history) parts
  parts_applied at parts is applies =
      rw is at applies site kept done (told_by_frames site kept done panel history) (told_by_frames site kept (d ∷ done) panel history) (befallen history) h.parts may
      (agree_later site kept panel history (d ∷ []) done d.tick (omega arith, tt) (befallen history) (let now = may.now in omega (arith, now)))

  pub applied_one : (new : Node) → new.site ≡ old.site → new.panel ≡ old.panel → new.tick ≡ old.tick → AppliesDone old.parts old.panel d new.parts
      → AreInForce site kept (tick_of (befallen history) + 1) (d ∷ done) new.settings → IsSized new.settings → HasNoStrangeBits site new.settings
      → NodeHasApplied site panel kept history (d ∷ done) new
  applied_one new site_same panel_same tick_same applies settings sized things = record {
    valid = h.valid;
    same = site_same ∙ h.same;
    own = panel_same ∙ h.own;
    tick = ap (λ (t : Tick). t.0) tick_same ∙ h.tick;
    parts = parts_applied old.panel new.parts h.own applies;
    settings = settings;
    sized = sized;
    things = things;
  }

-- ---- all of them

module _ (site : Site) (panel : ℕ) (kept : Retained) (history : List NodeMoment) (node : Node) (h : NodeStandsFor site panel kept history node) (run :
    IsRun site.panels (Began ∷ befallen history)) where
  abbrev pub before : List Moment
  before = befallen history

  pub none_applied : NodeHasApplied site panel kept history (so_many site kept before node.desk h.desk 0) node
  none_applied = record {
    valid = h.valid;
    same = h.same;
    own = h.own;
    tick = h.tick;
    parts =
        subst (λ done. PanelStands site kept done (told_by_frames site kept done panel history) panel before node.parts)
        (none_yet site kept before node.desk h.desk) h.parts;
    settings = settings_yet site kept before node.desk h.desk node.settings h.settings;
    sized = h.sized;
    things = h.things;
  }

  module _ (k tick : ℕ) (d : DoneOperation) (now : Node) (at : tick ≡ tick_of before) (is : slice_get node.desk.done.items k ≡ Some d) (has :
      NodeHasApplied site panel kept history (so_many site kept before node.desk h.desk k) now) where
    may_be : MayBeApplied site before (so_many site kept before node.desk h.desk k) (done_from tick d)
    may_be = next_applied site kept before node.desk h.desk k tick d at is run.0 h.events

    pub may_apply_next : MayApply (done_from tick d) now
    may_apply_next = record { site = site; panel = panel; kept = kept; history = history; done = _; has = has; may = may_be }

    pub more_applied : (new : Node) → AppliesOne now (done_from tick d) new
        → NodeHasApplied site panel kept history (so_many site kept before node.desk h.desk (k + 1)) new
    more_applied new applies =
        subst (λ done. NodeHasApplied site panel kept history done new) (one_more site kept before node.desk h.desk k tick d at is)
        (applies site panel kept history _ has may_be)

  pub all_applied : (k : ℕ) (new : Node) → length node.desk.done.items ≤ k → NodeHasApplied site panel kept history (so_many site kept before node.desk h.desk k) new
      → NodeHasApplied site panel kept history (done_so_far site kept before) new
  all_applied k new whole = subst (λ done. NodeHasApplied site panel kept history done new) (all_done site kept before node.desk h.desk k whole)

  -- ---- the next tick

  begun_with_all : done_so_far site kept before ≡ applied site kept (Began ∷ before)
  begun_with_all = applied_begun site kept before (by_now site kept before node.desk h.desk)

  -- the word that it keeps of itself is that with all that was done
  own_begun : word_of_itself site kept (applied site kept before) panel history before
      ≡ word_of_itself site kept (applied site kept (Began ∷ before)) panel (Befell Began ∷ history) (Began ∷ before)
  own_begun =
      let grew = grew_now site kept before node.desk h.desk in
      sym (own_later site kept panel history grew.new (applied site kept before) (tick_of before) (done_from_tick (tick_of before) grew.new grew.from) before
      (omega arith))
      ∙ ap (λ done. word_of_itself site kept done panel history before) (sym grew.is ∙ begun_with_all)
      ∙ own_stays site kept (applied site kept (Began ∷ before)) panel Began history refl

  -- its outputs took what its desk has done
  drive_begun : (parts : Parts) (drive : DrivePart) (at tick : ℕ) → at ≡ panel → tick ≡ tick_of before
      → PanelStands site kept (done_so_far site kept before) (told_by_frames site kept (done_so_far site kept before) panel history) panel before parts
      → BeginsTickAfter parts.drive at tick node.desk.done.items drive
      → PanelStands site kept (done_so_far site kept before) (told_by_frames site kept (done_so_far site kept before) panel history) panel (Began ∷ before)
      (record parts { drive = drive })
  drive_begun parts drive at tick is now stands begins =
      after_begin site kept (done_so_far site kept before) told panel before parts drive stands
      (subst (λ done. DrivesFor site told.facts kept done panel (Began ∷ before) drive) (sym h.desk.outcomes.unsettled.done_is)
      (rw (is, now) at begins site told.facts kept h.desk.outcomes.unsettled.older before
      (subst (λ done. DrivesFor site told.facts kept done panel before parts.drive) h.desk.outcomes.unsettled.done_is stands.drives)
      h.desk.outcomes.unsettled.earlier refl))
    where
      told : Told
      told = told_by_frames site kept (done_so_far site kept before) panel history

  pub begun : (node' : Node) → LeavesTheRest node node' → NodeHasApplied site panel kept history (done_so_far site kept before) node'
      → (drive : DrivePart) → BeginsTickAfter node'.parts.drive node'.panel node'.tick.0 node'.desk.done.items drive
      → (desk : Desk) → DesksFor site kept (Began ∷ before) desk → (tick : Tick) → tick.0 ≡ tick_of (Began ∷ before)
      → NodeStandsFor site panel kept (Befell Began ∷ history) (record node' { parts = record node'.parts { drive = drive }; desk = desk; tick = tick })
  begun node' same g drive begins desk desks tick now = record {
    valid = h.valid;
    same = g.same;
    own = g.own;
    plan = subst (HasPlan site) (sym same.plan) h.plan;
    tick = now;
    parts =
        subst (λ done. PanelStands site kept done (told_by_frames site kept done panel (Befell Began ∷ history)) panel (Began ∷ before)
        (record node'.parts { drive = drive })) begun_with_all
        (stands_alike site kept (done_so_far site kept before) (told_by_frames site kept (done_so_far site kept before) panel history)
        (told_by_frames site kept (done_so_far site kept before) panel (Befell Began ∷ history)) panel (Began ∷ before) (record node'.parts { drive = drive })
        (agree_moment site kept (done_so_far site kept before) panel Began history)
        (drive_begun node'.parts drive node'.panel node'.tick.0 g.own g.tick g.parts
        (rw (ap (λ (d : Desk). d.done.items) same.desk) at begins)));
    words =
        subst (λ w. KeepsArrived site.panels panel (Made w ∷ frames_in history) node'.words) own_begun
        (subst (KeepsArrived site.panels panel (arrived site kept (applied site kept before) panel history)) (sym same.words) h.words);
    events = h.events;
    own_events = h.own_events;
    frames = h.frames;
    desk = desks;
    settings = g.settings;
    sized = g.sized;
    things = g.things;
    counts = counts_stay site kept before Began node'.counts (λ e. cc) (subst (CountsFor site kept before) (sym same.counts) h.counts);
  }
