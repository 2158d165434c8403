-- When a tick begins, what was done in the one that ends comes in force: one operation after another, at each panel and
-- in the settings.
use Rattle.std.proofs.Common.{◌≡◌, ℕ, ◌+◌, ◌<◌, ◌≤◌, List, ◌∷◌, length, Some, slice_get, slice_set, inl, inr, sym, ◌∙◌, ap, subst, arith}
use Rattle.std.proofs.lemmas.Option.{slice_get_within}
use Rattle.tick_units.specs.declared.tick.Tick.{Tick}
use Rattle.site_types.specs.declared.retained.Retained.{Retained}
use Rattle.site_types.specs.declared.site.Site.{Site}
use Rattle.site_types.specs.Changes.{IsSized}
use Rattle.site_types.specs.Done.{Done}
use Rattle.coincidence_rules.proofs.Lists.{get_set}
use Rattle.operation_desk.specs.declared.desk.Desk.{Desk}
use Rattle.operation_desk.specs.declared.done_operation.DoneOperation.{DoneOperation}
use Rattle.operation_desk.specs.Replies.{AreInForce}
use Rattle.operation_desk.specs.Requests.{done_from, with_done}
use Rattle.operation_desk.specs.Stands.{DesksFor}
use Rattle.hold_calls.specs.Told.{told_in_ring}
use Rattle.panel_rules.specs.Moments.{Moment, Began, IsRun, tick_of}
use Rattle.settings_shown.specs.Shown.{HasNoStrangeBits}
use Rattle.panel_parts.specs.declared.parts.Parts.{Parts}
use Rattle.panel_core.specs.declared.system.System.{System}
use Rattle.panel_parts.specs.Applied.{MayBeApplied, applied, done_so_far}
use Rattle.panel_parts.specs.Entries.{CountsFor}
use Rattle.panel_parts.specs.Stands.{AreBefore, HasPlan}
use Rattle.panel_core.specs.Changes.{AppliesToAll}
use Rattle.panel_core.specs.Stands.{HasApplied, HasBegunPanels, KeepsWords, MayApplyAll, StandsFor, StandsInRing}
use Rattle.panel_parts.proofs.Applied.{applied_begun}
use Rattle.panel_parts.proofs.TickDone.{all_done, by_now, grew_now, next_applied, none_yet, one_more, settings_yet, so_many}
use Rattle.panel_core.proofs.Later.{done_from_tick, words_later}
use Rattle.panel_parts.proofs.Counts.{counts_stay}
use Rattle.panel_parts.proofs.Panels.{after_begin}
use Rattle.output_drive.specs.declared.drive.Drive.{Drive as DrivePart}
use Rattle.output_drive.specs.Stands.{DrivesFor}
use Rattle.panel_rules.specs.Run.{facts_of}

-- ---- panels

-- the first so many panels stand so already, and the others as they did
pub record Partly (after before : ℕ → Parts → Type 0) (n : ℕ) (panels : List Parts) : Type 0 where
  pub first : (place : ℕ) (parts : Parts) → slice_get panels place ≡ Some parts → place < n → after (place + 1) parts
  pub rest : (place : ℕ) (parts : Parts) → slice_get panels place ≡ Some parts → n ≤ place → before (place + 1) parts

module _ (after before : ℕ → Parts → Type 0) where
  one_panel_more : (n : ℕ) (panels : List Parts) (parts : Parts) → Partly after before n panels → after (n + 1) parts
      → Partly after before (n + 1) (slice_set panels n parts)
  one_panel_more n panels parts h p = record {
    first = λ place q is less. elim (get_set panels n place parts q is) [
      | inl g ↦ (let at : n + 1 ≡ place + 1 = omega (arith, g.0) in subst (λ m. after m q) at (subst (after (n + 1)) g.1 p))
      | inr g ↦ h.first place q g.1 (let apart = g.0 in omega (arith, less, apart))
    ];
    rest = λ place q is more. elim (get_set panels n place parts q is) [
      | inl g ↦ absurd (let at = g.0 in omega (arith, at, more))
      | inr g ↦ h.rest place q g.1 (omega (arith, more))
    ];
  }

  no_panel_yet : (panels : List Parts) → ((place : ℕ) (parts : Parts) → slice_get panels place ≡ Some parts → before (place + 1) parts)
      → Partly after before 0 panels
  no_panel_yet panels each = record { first = λ place q is less. absurd (omega (arith, less)); rest = λ place q is more. each place q is }

  each_panel : (n many : ℕ) (panels : List Parts) → Partly after before n panels → length panels ≡ many → many ≤ n
      → (place : ℕ) (parts : Parts) → slice_get panels place ≡ Some parts → after (place + 1) parts
  each_panel n many panels partly count whole place parts is =
      partly.first place parts is (let within = slice_get_within panels place parts is in omega (arith, within, count, whole))

-- the operation came in force at the first so many panels
abbrev pub PartlyApplied : Site → Retained → List Moment → List Done → Done → ℕ → List Parts → Type 0
PartlyApplied site kept before done d n panels =
    Partly (λ panel parts. StandsInRing site kept (d ∷ done) panel before parts) (λ panel parts. StandsInRing site kept done panel before parts) n panels

pub partly_more : (site : Site) (kept : Retained) (before : List Moment) (done : List Done) (d : Done) (n : ℕ) (panels : List Parts) (parts : Parts)
    → PartlyApplied site kept before done d n panels → StandsInRing site kept (d ∷ done) (n + 1) before parts
    → PartlyApplied site kept before done d (n + 1) (slice_set panels n parts)
partly_more site kept before done d n panels parts =
    one_panel_more (λ panel parts. StandsInRing site kept (d ∷ done) panel before parts) (λ panel parts. StandsInRing site kept done panel before parts) n panels parts

pub partly_none : (site : Site) (kept : Retained) (before : List Moment) (done : List Done) (d : Done) (system : System)
    → HasApplied site kept before done system → PartlyApplied site kept before done d 0 system.panels.items
partly_none site kept before done d system h =
    no_panel_yet (λ panel parts. StandsInRing site kept (d ∷ done) panel before parts) (λ panel parts. StandsInRing site kept done panel before parts)
    system.panels.items h.each

-- all panels and the settings have it
pub applied_more : (site : Site) (kept : Retained) (before : List Moment) (done : List Done) (d : Done) (old new : System) (n : ℕ)
    → HasApplied site kept before done old → new.site ≡ old.site → new.tick ≡ old.tick → length new.panels.items ≡ length old.panels.items
    → PartlyApplied site kept before done d n new.panels.items → site.panels ≤ n → AreInForce site kept (tick_of before + 1) (d ∷ done) new.settings
    → IsSized new.settings → HasNoStrangeBits site new.settings → HasApplied site kept before (d ∷ done) new
applied_more site kept before done d old new n h same tick count partly whole settings sized own = record {
  valid = h.valid;
  same = same ∙ h.same;
  tick = ap (λ (t : Tick). t.0) tick ∙ h.tick;
  count = count ∙ h.count;
  each = each_panel (λ panel parts. StandsInRing site kept (d ∷ done) panel before parts) (λ panel parts. StandsInRing site kept done panel before parts) n
      site.panels new.panels.items partly (count ∙ h.count) whole;
  settings = settings;
  sized = sized;
  own = own;
}

-- ---- outputs

-- the outputs of the first so many panels have taken what was done
abbrev pub PartlyBegun : Site → Retained → List Moment → List Done → ℕ → List Parts → Type 0
PartlyBegun site kept before done n panels =
    Partly (λ panel parts. StandsInRing site kept done panel (Began ∷ before) parts) (λ panel parts. StandsInRing site kept done panel before parts) n panels

pub begun_more : (site : Site) (kept : Retained) (before : List Moment) (done : List Done) (n : ℕ) (panels : List Parts) (parts : Parts)
    → PartlyBegun site kept before done n panels → StandsInRing site kept done (n + 1) (Began ∷ before) parts
    → PartlyBegun site kept before done (n + 1) (slice_set panels n parts)
begun_more site kept before done n panels parts =
    one_panel_more (λ panel parts. StandsInRing site kept done panel (Began ∷ before) parts) (λ panel parts. StandsInRing site kept done panel before parts) n
    panels parts

pub begun_none : (site : Site) (kept : Retained) (before : List Moment) (done : List Done) (system : System)
    → HasApplied site kept before done system → PartlyBegun site kept before done 0 system.panels.items
begun_none site kept before done system h =
    no_panel_yet (λ panel parts. StandsInRing site kept done panel (Began ∷ before) parts) (λ panel parts. StandsInRing site kept done panel before parts)
    system.panels.items h.each

-- what drives the outputs of a panel of the ring
abbrev DrivesInRing : Site → Retained → List Done → ℕ → List Moment → DrivePart → Type 0
DrivesInRing site kept done panel before drive = DrivesFor site (facts_of site kept done) kept done panel before drive

-- a panel whose outputs took what its desk has done in the tick that ends
pub outputs_begun : (site : Site) (kept : Retained) (before : List Moment) (panel : ℕ) (desk : Desk) (ds : List DoneOperation) (parts : Parts) (drive : DrivePart)
    → DesksFor site kept before desk → ds ≡ desk.done.items
    → StandsInRing site kept (done_so_far site kept before) panel before parts
    → ((older : List Done) → DrivesInRing site kept (with_done (tick_of before) ds older) panel before parts.drive → AreBefore (tick_of before) older
    → DrivesInRing site kept (with_done (tick_of before) ds older) panel (Began ∷ before) drive)
    → StandsInRing site kept (done_so_far site kept before) panel (Began ∷ before) (record parts { drive = drive })
outputs_begun site kept before panel desk ds parts drive desks is stands takes =
    let told = desks.outcomes.unsettled in
    let whole : done_so_far site kept before ≡ with_done (tick_of before) ds told.older =
    told.done_is ∙ ap (λ xs. with_done (tick_of before) xs told.older) (sym is) in
    let before_it = subst (λ done. DrivesInRing site kept done panel before parts.drive) whole stands.drives in
    after_begin site kept (done_so_far site kept before) (told_in_ring site kept (done_so_far site kept before) panel) panel before parts drive stands
    (subst (λ done. DrivesInRing site kept done panel (Began ∷ before) drive) (sym whole) (takes told.older before_it told.earlier))

pub all_begun : (site : Site) (kept : Retained) (before : List Moment) (old new : System) (n : ℕ)
    → HasApplied site kept before (done_so_far site kept before) old → new.site ≡ old.site → new.tick ≡ old.tick
    → length new.panels.items ≡ length old.panels.items → new.settings ≡ old.settings
    → PartlyBegun site kept before (done_so_far site kept before) n new.panels.items → site.panels ≤ n → HasBegunPanels site kept before new
all_begun site kept before old new n h same tick count settings partly whole = record {
  valid = h.valid;
  same = same ∙ h.same;
  tick = ap (λ (t : Tick). t.0) tick ∙ h.tick;
  count = count ∙ h.count;
  each = each_panel (λ panel parts. StandsInRing site kept (done_so_far site kept before) panel (Began ∷ before) parts)
      (λ panel parts. StandsInRing site kept (done_so_far site kept before) panel before parts) n site.panels new.panels.items partly (count ∙ h.count) whole;
  settings = rw settings h.settings;
  sized = rw settings h.sized;
  own = rw settings h.own;
}

-- ---- from the end of a tick to the beginning of the next

module _ (site : Site) (kept : Retained) (before : List Moment) (system : System) (h : StandsFor site kept before system) (run :
    IsRun site.panels (Began ∷ before)) where
  pub none_applied : HasApplied site kept before (so_many site kept before system.desk h.desk 0) system
  none_applied = record {
    valid = h.valid;
    same = h.same;
    tick = h.tick;
    count = h.count;
    each = λ place parts is.
        subst (λ done. StandsInRing site kept done (place + 1) before parts) (none_yet site kept before system.desk h.desk) (h.each place parts is);
    settings = settings_yet site kept before system.desk h.desk system.settings h.settings;
    sized = h.sized;
    own = h.own;
  }

  module _ (k tick : ℕ) (d : DoneOperation) (now : System) (at : tick ≡ tick_of before) (is : slice_get system.desk.done.items k ≡ Some d) (has :
      HasApplied site kept before (so_many site kept before system.desk h.desk k) now) where
    may_be : MayBeApplied site before (so_many site kept before system.desk h.desk k) (done_from tick d)
    may_be = next_applied site kept before system.desk h.desk k tick d at is run.0 h.events

    pub may_apply_next : MayApplyAll (done_from tick d) now
    may_apply_next = record { site = site; kept = kept; before = before; done = _; has = has; may = may_be }

    pub more_applied : (new : System) → AppliesToAll now (done_from tick d) new
        → HasApplied site kept before (so_many site kept before system.desk h.desk (k + 1)) new
    more_applied new applies =
        subst (λ done. HasApplied site kept before done new) (one_more site kept before system.desk h.desk k tick d at is) (applies site kept before _ has may_be)

  pub all_applied : (k : ℕ) (new : System) → length system.desk.done.items ≤ k → HasApplied site kept before (so_many site kept before system.desk h.desk k) new
      → HasApplied site kept before (done_so_far site kept before) new
  all_applied k new whole = subst (λ done. HasApplied site kept before done new) (all_done site kept before system.desk h.desk k whole)

  begun_with_all : done_so_far site kept before ≡ applied site kept (Began ∷ before)
  begun_with_all = applied_begun site kept before (by_now site kept before system.desk h.desk)

  -- the words that panels keep are those with all that was done
  words : KeepsWords site kept (applied site kept (Began ∷ before)) (Began ∷ before) system.ring
  words =
      let grew = grew_now site kept before system.desk h.desk in
      subst (λ done. KeepsWords site kept done (Began ∷ before) system.ring) (sym grew.is ∙ begun_with_all)
      (words_later site kept (applied site kept before) grew.new before (tick_of before) (done_from_tick (tick_of before) grew.new grew.from) (omega arith)
      system.ring h.ring)

  pub begun : (new : System) (desk : Desk) (tick : Tick) → tick.0 ≡ tick_of (Began ∷ before)
      → HasBegunPanels site kept before new → DesksFor site kept (Began ∷ before) desk → new.counts ≡ system.counts
      → new.plan ≡ system.plan → new.ring ≡ system.ring
      → StandsFor site kept (Began ∷ before) (record new { desk = desk; tick = tick })
  begun new desk tick now g desks same plan ring = record {
    valid = h.valid;
    same = g.same;
    plan = subst (HasPlan site) (sym plan) h.plan;
    tick = now;
    count = g.count;
    each = λ place parts is.
        subst (λ done. StandsInRing site kept done (place + 1) (Began ∷ before) parts) begun_with_all (g.each place parts is);
    ring = subst (KeepsWords site kept (applied site kept (Began ∷ before)) (Began ∷ before)) (sym ring) words;
    events = h.events;
    desk = desks;
    settings = g.settings;
    sized = g.sized;
    own = g.own;
    counts = subst (CountsFor site kept (Began ∷ before)) (sym same) (counts_stay site kept before Began system.counts (λ e. cc) h.counts);
  }
