-- What a panel stands for, after some moments, by what it is told from elsewhere.
use Rattle.std.specs.Prelude.{◌≡◌, ◌<◌, ◌≤◌, ℕ, List, [], ◌∷◌}
use Rattle.std.specs.List.{AllByRecursion}
use Rattle.tick_units.specs.declared.task.Task.{Task}
use Rattle.tick_units.specs.Ticks.{last_tick}
use Rattle.site_types.specs.declared.retained.Retained.{Retained}
use Rattle.site_types.specs.declared.site.Site.{Site}
use Rattle.site_types.specs.Done.{Done}
use Rattle.loop_poller.specs.Stands.{StandsFor as PollsFor}
use Rattle.supply_monitor.specs.Stands.{StandsFor as MonitorsFor}
use Rattle.coincidence.specs.Stands.{DecidesFor}
use Rattle.panel_conditions.specs.Stands.{HoldsFor}
use Rattle.cause_effect.specs.declared.plan.Plan.{Plan}
use Rattle.cause_effect.specs.Cycles.{HasNoCycle}
use Rattle.cause_effect.specs.Stands.{IsPlanOf}
use Rattle.panel_effects.specs.Stands.{HasEffects}
use Rattle.output_drive.specs.Stands.{DrivesFor}
use Rattle.panel_rules.specs.Faults.{supply_calls}
use Rattle.panel_rules.specs.Moments.{Moment, Turned, IsPanel, IsPast, IsRun, tick_of}
use Rattle.panel_rules.specs.Reports.{reports}
use Rattle.hold_calls.specs.Lanes.{answer_lane, decided, finding_lane}
use Rattle.hold_calls.specs.Told.{Told}
use Rattle.hold_calls.specs.Turns.{hold_turns}
use Rattle.panel_parts.specs.declared.parts.Parts.{Parts}
use Rattle.panel_parts.specs.Applied.{MayBeApplied}

-- the plan is of a site in which no marker depends on itself
pub record HasPlan (site : Site) (plan : Plan) : Type 0 where
  pub is : IsPlanOf site plan
  pub free : HasNoCycle site

-- a panel of a site, with these operations applied
pub record PanelStands (site : Site) (kept : Retained) (done : List Done) (told : Told) (panel : ℕ)
    (before : List Moment) (parts : Parts) : Type 0 where
  pub member : IsPanel site.panels panel
  pub polls : PollsFor site panel (reports site panel before) parts.poller
  pub answers : parts.answers ≡ answer_lane site panel before
  pub decides : DecidesFor site kept panel done (decided site panel before) parts.decide
  pub findings : parts.findings ≡ finding_lane site kept done panel before
  pub holds : HoldsFor site kept panel done (hold_turns site kept done told panel before) parts.hold
  pub supplies : MonitorsFor site.waits (supply_calls panel before) parts.supply
  pub effects : HasEffects site told.facts panel before parts.effects
  pub drives : DrivesFor site told.facts kept done panel before parts.drive

-- before the first tick, whatever it is told
abbrev pub StandsAtOpening : Site → Retained → ℕ → Parts → Type 0
StandsAtOpening site kept panel parts = (told : Told) → PanelStands site kept [] told panel [] parts

-- two tell the same to every turn that was made so far
pub record AgreeBefore (before : List Moment) (one other : Told) : Type 0 where
  pub facts : (panel : ℕ) (moment : Moment) (past : List Moment) → IsPast (moment ∷ past) before
      → one.facts panel past ≡ other.facts panel past
  pub stamps : (moment : Moment) (past : List Moment) → IsPast (moment ∷ past) before
      → one.stamps past ≡ other.stamps past
  pub up : (moment : Moment) (past : List Moment) → IsPast (moment ∷ past) before → one.up past ≡ other.up past

-- each was done before a tick
abbrev pub AreBefore : ℕ → List Done → Type 0
AreBefore tick done = AllByRecursion (λ (d : Done). d.tick < tick) done

-- a panel stands for some run in which a task of it may have its turn
pub record MayTurn (task : Task) (tick : ℕ) (parts : Parts) : Type 0 where
  pub site : Site
  pub kept : Retained
  pub done : List Done
  pub told : Told
  pub panel : ℕ
  pub before : List Moment
  pub stands : PanelStands site kept done told panel before parts
  pub past : AreBefore (tick_of before) done
  pub run : IsRun site.panels (Turned panel task ∷ before)
  pub now : tick ≡ tick_of before
  pub few : tick_of before ≤ last_tick

-- a panel stands for some run in which an operation comes in force
pub record MayComeInForce (panel : ℕ) (d : Done) (parts : Parts) : Type 0 where
  pub site : Site
  pub kept : Retained
  pub done : List Done
  pub told : Told
  pub before : List Moment
  pub stands : PanelStands site kept done told panel before parts
  pub may : MayBeApplied site before done d
