-- What a turn of Supply makes of a panel: it is later than those that its supplies had before.
use Rattle.std.proofs.Common.{◌≡◌, ℕ, ◌<◌, ◌==◌, List, [], ◌∷◌, Bool, true, false, refl, sym, subst, if◌then◌else◌, arith}
use Rattle.tick_units.specs.declared.task.Task.TheVariants.{Supply as SupplyTask}
use Rattle.site_types.specs.declared.event.Event.{Event}
use Rattle.site_types.specs.declared.event.Event.TheVariants.{Supply}
use Rattle.site_types.specs.declared.retained.Retained.{Retained}
use Rattle.site_types.specs.declared.site.Site.{Site}
use Rattle.site_types.specs.Done.{Done}
use Rattle.supply_monitor.specs.declared.supply.Supply.{Supply as SupplyPart}
use Rattle.supply_monitor.specs.Supply.{AllBefore, Call, Reported, Turned as TurnMade}
use Rattle.supply_monitor.specs.Stands.{StandsFor as MonitorsFor}
use Rattle.panel_rules.specs.Faults.{and_supply, supply_calls}
use Rattle.panel_rules.specs.Moments.{Moment, Began, Happened, Turned, Kept, IsRun, latest_turn, tick_of}
use Rattle.panel_rules.proofs.AnswersTell.{eq_true}
use Rattle.panel_rules.proofs.Turns.{turn_lag}
use Rattle.hold_calls.specs.Told.{Told}
use Rattle.panel_parts.specs.declared.parts.Parts.{Parts}
use Rattle.panel_parts.specs.Stands.{PanelStands}
use Rattle.panel_parts.proofs.Panels.{facts_left, leaves_lanes, outputs_left, with_lanes_left}

-- a report is no turn
before_report : (panel now : ℕ) (event : Event) (calls : List Call) → AllBefore now calls → AllBefore now (and_supply panel event calls)
before_report panel now (Supply other kind bad) calls h =
    elim (other == panel) as (λ b. AllBefore now (if b then Reported kind bad ∷ calls else calls)) [ true ↦ h | false ↦ h ]
before_report panel now event calls h = h

-- no turn is later than the tick that began last
turns_by : (panel : ℕ) (before : List Moment) (now : ℕ) → tick_of before < now → AllBefore now (supply_calls panel before)
turns_by panel [] now l = tt
turns_by panel (Began ∷ before) now l = turns_by panel before now (omega (arith, l))
turns_by panel (Happened event ∷ before) now l = before_report panel now event (supply_calls panel before) (turns_by panel before now l)
turns_by panel (Turned other SupplyTask ∷ before) now l =
    elim (other == panel) as (λ b. AllBefore now (if b then TurnMade (tick_of before) ∷ supply_calls panel before else supply_calls panel before)) [
      | true ↦ (l, turns_by panel before now l)
      | false ↦ turns_by panel before now l
    ]
turns_by panel (Turned other task ∷ before) now l = turns_by panel before now l
turns_by panel (Kept failed ∷ before) now l = turns_by panel before now l

-- nor than the latest one
turns_before : (panel : ℕ) (before : List Moment) (now : ℕ) → latest_turn panel SupplyTask before < now → AllBefore now (supply_calls panel before)
turns_before panel [] now l = tt
turns_before panel (Began ∷ before) now l = turns_before panel before now l
turns_before panel (Happened event ∷ before) now l = before_report panel now event (supply_calls panel before) (turns_before panel before now l)
turns_before panel (Turned other SupplyTask ∷ before) now l = go (other == panel) l (λ earlier. turns_before panel before now earlier)
  where
    go : (b : Bool) → (if b then tick_of before else latest_turn panel SupplyTask before) < now
        → (latest_turn panel SupplyTask before < now → AllBefore now (supply_calls panel before))
        → AllBefore now (if b then TurnMade (tick_of before) ∷ supply_calls panel before else supply_calls panel before)
    go true earlier rest = (earlier, turns_by panel before now earlier)
    go false earlier rest = rest earlier
turns_before panel (Turned other task ∷ before) now l = turns_before panel before now l
turns_before panel (Kept failed ∷ before) now l = turns_before panel before now l

pub after_supply : (site : Site) (kept : Retained) (done : List Done) (told : Told) (panel : ℕ) (before : List Moment) (parts : Parts) (supply : SupplyPart) (now : ℕ)
    → PanelStands site kept done told panel before parts → now ≡ tick_of before → IsRun site.panels (Turned panel SupplyTask ∷ before)
    → (MonitorsFor site.waits (supply_calls panel before) parts.supply → AllBefore now (supply_calls panel before)
    → MonitorsFor site.waits (TurnMade now ∷ supply_calls panel before) supply)
    → PanelStands site kept done told panel (Turned panel SupplyTask ∷ before) (record parts { supply = supply })
after_supply site kept done told panel before parts supply now h tick run turned =
    let lag = rw run.1 at (turn_lag site.panels panel SupplyTask before h.member tt run.0) in
    let made = turned h.supplies (turns_before panel before now (omega (arith, lag, tick))) in
    with_lanes_left site kept done told panel before (Turned panel SupplyTask) parts parts.poller supply parts.effects parts.drive h
    (leaves_lanes site kept done told panel before (Turned panel SupplyTask) refl refl refl refl) h.polls
    (subst (λ b. MonitorsFor site.waits (if b then TurnMade (tick_of before) ∷ supply_calls panel before else supply_calls panel before) supply)
    (sym (eq_true panel panel refl)) (subst (λ t. MonitorsFor site.waits (TurnMade t ∷ supply_calls panel before) supply) tick made))
    (facts_left site kept done told panel before SupplyTask parts.effects (λ e. cc) h.effects)
    (outputs_left site kept done told panel before SupplyTask parts.drive (λ e. cc) h.drives)
