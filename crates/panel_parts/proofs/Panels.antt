-- What befalls one panel, and what it is to the others.
use Rattle.std.proofs.Common.{◌≡◌, ℕ, ◌==◌, ◌&&◌, true, List, ◌∷◌}
use Rattle.std.proofs.Common.{◌⊎◌, inl, inr, ◌≢◌, Bool, false, refl, sym, ◌∙◌, ap}
use Rattle.std.proofs.Common.{subst}
use Rattle.tick_units.specs.Lane.{LaneState, with_put}
use Rattle.tick_units.specs.declared.task.Task.{Task}
use Rattle.tick_units.specs.declared.task.Task.TheVariants.{Poll, Decide, Hold}
use Rattle.site_types.specs.declared.answer.Answer.{Answer}
use Rattle.site_types.specs.declared.retained.Retained.{Retained}
use Rattle.site_types.specs.declared.site.Site.{Site}
use Rattle.site_types.specs.Done.{Done}
use Rattle.loop_poller.specs.declared.poller.Poller.{Poller}
use Rattle.loop_poller.specs.Asked.{asked_in}
use Rattle.loop_poller.specs.Calls.{told_point, told_cable}
use Rattle.coincidence.specs.Stands.{DecidesFor}
use Rattle.panel_conditions.specs.Stands.{HoldsFor}
use Rattle.hold_calls.specs.Turns.{hold_turns}
use Rattle.panel_rules.specs.Moments.{Moment, Began, Turned, Kept, is_turn, tick_of}
use Rattle.panel_rules.specs.Answers.{asked}
use Rattle.panel_parts.specs.declared.parts.Parts.{Parts}
use Rattle.panel_rules.specs.Reports.{reports}
use Rattle.hold_calls.specs.Lanes.{answer_lane, finding_lane, decided}
use Rattle.std.proofs.lemmas.Bool.Decides.{eqb_tells}
use Rattle.tick_units.specs.declared.task.Task.TheVariants.{Supply, Desk, Link, Effect, Drive, Keep}
use Rattle.tick_units.specs.Orders.{task_number}
use Rattle.panel_effects.specs.declared.effects.Effects.{Effects as EffectsPart}
use Rattle.panel_effects.specs.Stands.{HasEffects}
use Rattle.panel_effects.proofs.LatestFacts.{effects_stay}
use Rattle.output_drive.specs.declared.drive.Drive.{Drive as DrivePart}
use Rattle.output_drive.specs.Stands.{DrivesFor}
use Rattle.output_drive.proofs.Alike.{after_kept as drives_kept, after_other_turn as drives_left}
use Rattle.hold_calls.specs.Told.{Told}
use Rattle.panel_parts.specs.Stands.{PanelStands}
use Rattle.loop_poller.specs.Stands.{StandsFor as PollsFor}
use Rattle.supply_monitor.specs.declared.supply.Supply.{Supply as SupplyPart}
use Rattle.supply_monitor.specs.Stands.{StandsFor as MonitorsFor}
use Rattle.panel_rules.specs.Faults.{supply_calls}
use Rattle.panel_rules.proofs.Reports.{asked_told}
use Rattle.hold_calls.proofs.Steps.{polled, decided_after_poll, findings_after_poll}

-- ---- what a turn leaves of the facts and the outputs of its own panel

module _ (site : Site) (kept : Retained) (done : List Done) (told : Told) (panel : ℕ) (before : List Moment) where
  abbrev pub HasFacts : List Moment → EffectsPart → Type 0
  HasFacts moments part = HasEffects site told.facts panel moments part

  abbrev pub HasOutputs : List Moment → DrivePart → Type 0
  HasOutputs moments part = DrivesFor site told.facts kept done panel moments part

  -- a turn of another task than Effect
  pub facts_left : (task : Task) (part : EffectsPart) → task ≢ Effect → HasFacts before part → HasFacts (Turned panel task ∷ before) part
  facts_left task part other h = effects_stay site told.facts panel before part (Turned panel task) (λ e. other (turned_task e)) h
    where
      turned_task : Turned panel task ≡ Turned panel Effect → task ≡ Effect
      turned_task e = cc

  -- and one of another than Drive
  pub outputs_left : (task : Task) (part : DrivePart) → task ≢ Drive → HasOutputs before part → HasOutputs (Turned panel task ∷ before) part
  outputs_left task part other h = drives_left site told.facts kept done panel before part h panel task (no_turn task other)
    where
      no_turn : (task : Task) → task ≢ Drive → is_turn panel Drive panel task ≡ false
      no_turn Drive other = absurd (other refl)
      no_turn task other = refl

-- ---- turns

pub after_poll : (site : Site) (kept : Retained) (done : List Done) (told : Told) (panel : ℕ) (before : List Moment) (parts : Parts) (lane : LaneState Answer) (now : ℕ)
    → PanelStands site kept done told panel before parts → now ≡ tick_of before
    → lane ≡ with_put parts.answers (asked_in site panel (told_point (reports site panel before)) (told_cable (reports site panel before)) now)
    → PanelStands site kept done told panel (Turned panel Poll ∷ before) (record parts { answers = lane })
after_poll site kept done told panel before parts lane now h tick put =
    let format = h.polls.asks.valid.forms.format.0 in
    record {
      member = h.member;
      polls = h.polls;
      answers =
          put
          ∙ ap (λ t. with_put parts.answers (asked_in site panel (told_point (reports site panel before)) (told_cable (reports site panel before)) t))
          tick
          ∙ ap (with_put parts.answers) (asked_told site panel before format)
          ∙ ap (λ l. with_put l (asked site panel before)) h.answers
          ∙ polled site panel before;
      decides = subst (λ taken. DecidesFor site kept panel done taken parts.decide) (decided_after_poll site panel before) h.decides;
      findings = h.findings ∙ findings_after_poll site kept done panel before;
      holds = h.holds;
      supplies = h.supplies;
      effects = facts_left site kept done told panel before Poll parts.effects (λ e. cc) h.effects;
      drives = outputs_left site kept done told panel before Poll parts.drive (λ e. cc) h.drives;
    }

-- a moment that changes nothing of a panel's lanes
pub record LeavesLanes (site : Site) (kept : Retained) (done : List Done) (told : Told) (panel : ℕ) (before : List Moment) (moment : Moment) : Type 0 where
  answers : answer_lane site panel (moment ∷ before) ≡ answer_lane site panel before
  decided_same : decided site panel (moment ∷ before) ≡ decided site panel before
  findings : finding_lane site kept done panel (moment ∷ before) ≡ finding_lane site kept done panel before
  turns : hold_turns site kept done told panel (moment ∷ before) ≡ hold_turns site kept done told panel before

module _ (site : Site) (kept : Retained) (done : List Done) (told : Told) (panel : ℕ) (before : List Moment) (moment : Moment) where
  pub leaves_lanes : answer_lane site panel (moment ∷ before) ≡ answer_lane site panel before
      → decided site panel (moment ∷ before) ≡ decided site panel before
      → finding_lane site kept done panel (moment ∷ before) ≡ finding_lane site kept done panel before
      → hold_turns site kept done told panel (moment ∷ before) ≡ hold_turns site kept done told panel before → LeavesLanes site kept done told panel before moment
  leaves_lanes answers taken findings turns = record { answers = answers; decided_same = taken; findings = findings; turns = turns }

  -- after it the parts that take no items of a lane stand for what they took
  pub with_lanes_left : (parts : Parts) (poller : Poller) (supply : SupplyPart) (effects : EffectsPart) (drive : DrivePart)
      → PanelStands site kept done told panel before parts → LeavesLanes site kept done told panel before moment
      → PollsFor site panel (reports site panel (moment ∷ before)) poller → MonitorsFor site.waits (supply_calls panel (moment ∷ before)) supply
      → HasFacts site kept done told panel before (moment ∷ before) effects → HasOutputs site kept done told panel before (moment ∷ before) drive
      → PanelStands site kept done told panel (moment ∷ before) (record parts { poller = poller; supply = supply; effects = effects; drive = drive })
  with_lanes_left parts poller supply effects drive h leaves polls supplies facts drives = record {
    member = h.member;
    polls = polls;
    answers = h.answers ∙ sym leaves.answers;
    decides = subst (λ taken. DecidesFor site kept panel done taken parts.decide) (sym leaves.decided_same) h.decides;
    findings = h.findings ∙ sym leaves.findings;
    holds = subst (λ turns. HoldsFor site kept panel done turns parts.hold) (sym leaves.turns) h.holds;
    supplies = supplies;
    effects = facts;
    drives = drives;
  }

-- a moment that changes nothing of what a panel stands for
record LeavesPanel (site : Site) (kept : Retained) (done : List Done) (told : Told) (panel : ℕ) (before : List Moment) (moment : Moment) : Type 0 where
  lanes : LeavesLanes site kept done told panel before moment
  reported : reports site panel (moment ∷ before) ≡ reports site panel before
  supplies : supply_calls panel (moment ∷ before) ≡ supply_calls panel before
  effects : (part : EffectsPart) → HasEffects site told.facts panel before part
      → HasEffects site told.facts panel (moment ∷ before) part
  drives : (part : DrivePart) → DrivesFor site told.facts kept done panel before part
      → DrivesFor site told.facts kept done panel (moment ∷ before) part

after_nothing : (site : Site) (kept : Retained) (done : List Done) (told : Told) (panel : ℕ) (before : List Moment) (parts : Parts) (moment : Moment)
    → LeavesPanel site kept done told panel before moment → PanelStands site kept done told panel before parts → PanelStands site kept done told panel (moment ∷ before) parts
after_nothing site kept done told panel before parts moment leaves h =
    with_lanes_left site kept done told panel before moment parts parts.poller parts.supply parts.effects parts.drive h leaves.lanes
    (subst (λ calls. PollsFor site panel calls parts.poller) (sym leaves.reported) h.polls)
    (subst (λ calls. MonitorsFor site.waits calls parts.supply) (sym leaves.supplies) h.supplies) (leaves.effects parts.effects h.effects)
    (leaves.drives parts.drive h.drives)

-- a tick begins, and the outputs have taken what was done in the one before
pub after_begin : (site : Site) (kept : Retained) (done : List Done) (told : Told) (panel : ℕ) (before : List Moment) (parts : Parts) (drive : DrivePart)
    → PanelStands site kept done told panel before parts → HasOutputs site kept done told panel before (Began ∷ before) drive
    → PanelStands site kept done told panel (Began ∷ before) (record parts { drive = drive })
after_begin site kept done told panel before parts drive h drives =
    with_lanes_left site kept done told panel before Began parts parts.poller parts.supply parts.effects drive h
    (leaves_lanes site kept done told panel before Began refl refl refl refl) h.polls h.supplies
    (effects_stay site told.facts panel before parts.effects Began (λ e. cc) h.effects) drives

pub after_keep : (site : Site) (kept : Retained) (done : List Done) (told : Told) (panel : ℕ) (failed : Bool) (before : List Moment) (parts : Parts)
    → PanelStands site kept done told panel before parts → PanelStands site kept done told panel (Kept failed ∷ before) parts
after_keep site kept done told panel failed before parts h =
    after_nothing site kept done told panel before parts (Kept failed) (record {
      lanes = leaves_lanes site kept done told panel before (Kept failed) refl refl refl refl;
      reported = refl;
      supplies = refl;
      effects = λ part e. effects_stay site told.facts panel before part (Kept failed) (λ is. cc) e;
      drives = λ part d. drives_kept site told.facts kept done panel before part d failed;
    }) h

-- a turn of another panel leaves the lanes
findings_stay : (site : Site) (kept : Retained) (done : List Done) (panel other : ℕ) (task : Task) (before : List Moment) → (other == panel) ≡ false
    → finding_lane site kept done panel (Turned other task ∷ before) ≡ finding_lane site kept done panel before
findings_stay site kept done panel other Poll before e = rw e refl
findings_stay site kept done panel other Decide before e = rw e refl
findings_stay site kept done panel other Hold before e = rw e refl
findings_stay site kept done panel other task before e = refl

turns_stay : (site : Site) (kept : Retained) (done : List Done) (told : Told) (panel other : ℕ) (task : Task) (before : List Moment) → (other == panel) ≡ false
    → hold_turns site kept done told panel (Turned other task ∷ before) ≡ hold_turns site kept done told panel before
turns_stay site kept done told panel other Hold before e = rw e refl
turns_stay site kept done told panel other task before e = refl

decided_stay : (site : Site) (panel other : ℕ) (task : Task) (before : List Moment) → (other == panel) ≡ false
    → decided site panel (Turned other task ∷ before) ≡ decided site panel before
decided_stay site panel other Poll before e = rw e refl
decided_stay site panel other Decide before e = rw e refl
decided_stay site panel other task before e = refl

supplies_stay : (panel other : ℕ) (task : Task) (before : List Moment) → (other == panel) ≡ false
    → supply_calls panel (Turned other task ∷ before) ≡ supply_calls panel before
supplies_stay panel other Supply before e = rw e refl
supplies_stay panel other task before e = refl

lane_stays : (site : Site) (panel other : ℕ) (task : Task) (before : List Moment) → (other == panel) ≡ false
    → answer_lane site panel (Turned other task ∷ before) ≡ answer_lane site panel before
lane_stays site panel other Poll before e = rw e refl
lane_stays site panel other Decide before e = rw e refl
lane_stays site panel other task before e = refl

pub others_stay : (site : Site) (kept : Retained) (done : List Done) (told : Told) (panel other : ℕ) (task : Task) (before : List Moment) (parts : Parts) → other ≢ panel
    → PanelStands site kept done told panel before parts → PanelStands site kept done told panel (Turned other task ∷ before) parts
others_stay site kept done told panel other task before parts n h =
    after_nothing site kept done told panel before parts (Turned other task) (record {
      lanes =
          leaves_lanes site kept done told panel before (Turned other task) (lane_stays site panel other task before apart)
          (decided_stay site panel other task before apart) (findings_stay site kept done panel other task before apart)
          (turns_stay site kept done told panel other task before apart);
      reported = refl;
      supplies = supplies_stay panel other task before apart;
      effects = λ part e. effects_stay site told.facts panel before part (Turned other task) (λ is. n (of_panel is)) e;
      drives = λ part d. drives_left site told.facts kept done panel before part d other task not_own;
    }) h
  where
    apart : (other == panel) ≡ false
    apart = elim (eqb_tells other panel) [ inl t ↦ absurd (n t.1) | inr t ↦ t.0 ]

    of_panel : Turned other task ≡ Turned panel Effect → other ≡ panel
    of_panel is = cc

    none : (b : Bool) → (b && false) ≡ false
    none true = refl
    none false = refl

    not_own : is_turn panel Drive other task ≡ false
    not_own = ap (λ b. (task_number task == task_number Drive) && b) apart ∙ none (task_number task == task_number Drive)

-- ---- turns that change nothing of a panel

-- of a task that is none of a panel's parts
abbrev IsElsewhere : Task → Type 0
IsElsewhere task = (task ≡ Desk) ⊎ ((task ≡ Link) ⊎ (task ≡ Keep))

-- its turn changes nothing, at whatever panel
elsewhere_leaves : (site : Site) (kept : Retained) (done : List Done) (told : Told) (panel other : ℕ) (before : List Moment) (task : Task) → IsElsewhere task
    → LeavesPanel site kept done told panel before (Turned other task)
elsewhere_leaves site kept done told panel other before task elsewhere = go elsewhere
  where
    with_outputs : (one : Task) → one ≢ Effect → is_turn panel Drive other one ≡ false
        → finding_lane site kept done panel (Turned other one ∷ before) ≡ finding_lane site kept done panel before
        → answer_lane site panel (Turned other one ∷ before) ≡ answer_lane site panel before
        → decided site panel (Turned other one ∷ before) ≡ decided site panel before
        → hold_turns site kept done told panel (Turned other one ∷ before) ≡ hold_turns site kept done told panel before
        → supply_calls panel (Turned other one ∷ before) ≡ supply_calls panel before → LeavesPanel site kept done told panel before (Turned other one)
    with_outputs one apart not_drive findings answers taken turns supplies = record {
      lanes = leaves_lanes site kept done told panel before (Turned other one) answers taken findings turns;
      reported = refl;
      supplies = supplies;
      effects = λ part e. effects_stay site told.facts panel before part (Turned other one) (λ is. apart (of_task is)) e;
      drives = λ part d. drives_left site told.facts kept done panel before part d other one not_drive;
    }
      where
        of_task : Turned other one ≡ Turned panel Effect → one ≡ Effect
        of_task is = cc

    leaves : {one : Task} → task ≡ one → LeavesPanel site kept done told panel before (Turned other one) → LeavesPanel site kept done told panel before (Turned other task)
    leaves e h = subst (λ t. LeavesPanel site kept done told panel before (Turned other t)) (sym e) h

    go : IsElsewhere task → LeavesPanel site kept done told panel before (Turned other task)
    go (inl e) = leaves e (with_outputs Desk (λ is. cc) refl refl refl refl refl refl)
    go (inr (inl e)) = leaves e (with_outputs Link (λ is. cc) refl refl refl refl refl refl)
    go (inr (inr e)) = leaves e (with_outputs Keep (λ is. cc) refl refl refl refl refl refl)

pub after_elsewhere : (site : Site) (kept : Retained) (done : List Done) (told : Told) (panel other : ℕ) (before : List Moment) (parts : Parts) (task : Task) → IsElsewhere task
    → PanelStands site kept done told panel before parts → PanelStands site kept done told panel (Turned other task ∷ before) parts
after_elsewhere site kept done told panel other before parts task elsewhere h =
    after_nothing site kept done told panel before parts (Turned other task) (elsewhere_leaves site kept done told panel other before task elsewhere) h

-- ---- turns of Effect and of Drive

pub after_effect : (site : Site) (kept : Retained) (done : List Done) (told : Told) (panel : ℕ) (before : List Moment) (parts : Parts) (effects : EffectsPart)
    → PanelStands site kept done told panel before parts → HasFacts site kept done told panel before (Turned panel Effect ∷ before) effects
    → PanelStands site kept done told panel (Turned panel Effect ∷ before) (record parts { effects = effects })
after_effect site kept done told panel before parts effects h turned =
    with_lanes_left site kept done told panel before (Turned panel Effect) parts parts.poller parts.supply effects parts.drive h
    (leaves_lanes site kept done told panel before (Turned panel Effect) refl refl refl refl) h.polls h.supplies turned
    (outputs_left site kept done told panel before Effect parts.drive (λ e. cc) h.drives)

pub after_drive : (site : Site) (kept : Retained) (done : List Done) (told : Told) (panel : ℕ) (before : List Moment) (parts : Parts) (drive : DrivePart)
    → PanelStands site kept done told panel before parts → HasOutputs site kept done told panel before (Turned panel Drive ∷ before) drive
    → PanelStands site kept done told panel (Turned panel Drive ∷ before) (record parts { drive = drive })
after_drive site kept done told panel before parts drive h turned =
    with_lanes_left site kept done told panel before (Turned panel Drive) parts parts.poller parts.supply parts.effects drive h
    (leaves_lanes site kept done told panel before (Turned panel Drive) refl refl refl refl) h.polls h.supplies
    (facts_left site kept done told panel before Drive parts.effects (λ e. cc) h.effects) turned
