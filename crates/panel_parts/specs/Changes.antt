-- What reports, turns and operations make of a panel, whatever it stood for.
use Rattle.std.specs.Prelude.{◌≡◌, ◌-◌, ℕ, Bool, true, List, ◌∷◌, Some, slice_get}
use Rattle.tick_units.specs.declared.task.Task.{Task}
use Rattle.tick_units.specs.declared.task.Task.TheVariants.{Drive, Hold}
use Rattle.site_types.specs.declared.event.Event.TheVariants.{Point, Cable, Supply, Confirmed}
use Rattle.site_types.specs.declared.output.Output.{Output}
use Rattle.site_types.specs.declared.piece_state.PieceState.{PieceState}
use Rattle.site_types.specs.declared.point_state.PointState.{PointState}
use Rattle.site_types.specs.declared.retained.Retained.{Retained}
use Rattle.site_types.specs.declared.site.Site.{Site}
use Rattle.site_types.specs.declared.supply_kind.SupplyKind.{SupplyKind}
use Rattle.site_types.specs.Bits.{has_bit}
use Rattle.site_types.specs.Done.{Done, OutputOff, in_force}
use Rattle.output_calls.specs.DoneCalls.{IsLatestFirst}
use Rattle.cause_effect.specs.Cycles.{HasNoCycle}
use Rattle.panel_conditions.specs.declared.outside.Outside.{Outside}
use Rattle.panel_rules.specs.Faults.{is_unconfirmed, links_down, outside_with, silent_panels}
use Rattle.panel_rules.specs.Moments.{Moment, Happened, Turned, IsRun, tick_of}
use Rattle.panel_rules.specs.Outputs.{outputs_where}
use Rattle.panel_rules.specs.Reports.{is_on_panel}
use Rattle.hold_calls.specs.Told.{Told}
use Rattle.panel_parts.specs.declared.parts.Parts.{Parts}
use Rattle.panel_parts.specs.Applied.{MayBeApplied}
use Rattle.panel_parts.specs.Stands.{AgreeBefore, AreBefore, PanelStands}

-- a report came on a point of the panel
abbrev pub HearsPoint : Parts → ℕ → PointState → Parts → Type 0
HearsPoint old point state parts =
    (site : Site) (kept : Retained) (done : List Done) (told : Told) (panel : ℕ) (before : List Moment)
    → PanelStands site kept done told panel before old → is_on_panel panel (slice_get site.points point) ≡ true
    → PanelStands site kept done told panel (Happened (Point point state) ∷ before) parts

-- a report came on a piece of cable of the panel
abbrev pub HearsPiece : Parts → ℕ → ℕ → PieceState → Parts → Type 0
HearsPiece old line piece state parts =
    (site : Site) (kept : Retained) (done : List Done) (told : Told) (panel : ℕ) (before : List Moment)
    → PanelStands site kept done told panel before old
    → PanelStands site kept done told panel (Happened (Cable panel line piece state) ∷ before) parts

-- a report came on a supply of the panel
abbrev pub HearsSupply : Parts → SupplyKind → Bool → Parts → Type 0
HearsSupply old kind bad parts =
    (site : Site) (kept : Retained) (done : List Done) (told : Told) (panel : ℕ) (before : List Moment)
    → PanelStands site kept done told panel before old
    → PanelStands site kept done told panel (Happened (Supply panel kind bad) ∷ before) parts

-- a confirmation came of an output of the panel
abbrev pub HearsConfirmation : Parts → ℕ → Parts → Type 0
HearsConfirmation old number parts =
    (site : Site) (kept : Retained) (done : List Done) (told : Told) (panel output : ℕ) (plan : Output)
    (before : List Moment)
    → PanelStands site kept done told panel before old → slice_get site.outputs output ≡ Some plan
    → plan.panel ≡ panel → plan.number ≡ number
    → PanelStands site kept done told panel (Happened (Confirmed output) ∷ before) parts

-- what a turn of Hold is told from outside, with these silent panels and links that are down
abbrev pub TellsHold : Parts → ℕ → ℕ → Outside → Type 0
TellsHold parts silent links outside =
    (site : Site) (kept : Retained) (done : List Done) (told : Told) (panel : ℕ) (before : List Moment)
    → PanelStands site kept done told panel before parts → IsRun site.panels before
    → outside ≡ outside_with site panel before silent links
    (outputs_where site panel (λ output. is_unconfirmed site told.facts kept done output before))

-- a task had its turn, in the tick that began last
abbrev pub MakesTurn : Parts → Task → ℕ → Parts → Type 0
MakesTurn old task tick parts =
    (site : Site) (kept : Retained) (done : List Done) (told : Told) (panel : ℕ) (before : List Moment)
    → PanelStands site kept done told panel before old → AreBefore (tick_of before) done → tick ≡ tick_of before
    → IsRun site.panels (Turned panel task ∷ before)
    → PanelStands site kept done told panel (Turned panel task ∷ before) parts

-- Hold had its turn, with the panels that are silent and the links that are down
abbrev pub MakesHoldTurn : Parts → ℕ → ℕ → ℕ → Parts → Type 0
MakesHoldTurn old tick silent links parts =
    (site : Site) (kept : Retained) (done : List Done) (told : Told) (panel : ℕ) (before : List Moment)
    → PanelStands site kept done told panel before old → AreBefore (tick_of before) done → tick ≡ tick_of before
    → IsRun site.panels (Turned panel Hold ∷ before)
    → silent ≡ silent_panels site (told.stamps before) (tick_of before)
    → links ≡ links_down site panel (told.up before)
    → PanelStands site kept done told panel (Turned panel Hold ∷ before) parts

-- a mask has the outputs of a panel that are disabled in a tick; bits of numbers without an output may be any
abbrev pub AreOff : Site → Retained → List Done → ℕ → ℕ → ℕ → Type 0
AreOff site kept done panel tick off =
    (output : ℕ) (plan : Output) → slice_get site.outputs output ≡ Some plan → plan.panel ≡ panel
    → has_bit off (plan.number - 1) ≡ in_force site kept (OutputOff output) tick done

-- Drive had its turn, with the outputs that are disabled
abbrev pub MakesDriveTurn : Parts → ℕ → ℕ → Parts → Type 0
MakesDriveTurn old tick off parts =
    (site : Site) (kept : Retained) (done : List Done) (told : Told) (panel : ℕ) (before : List Moment)
    → PanelStands site kept done told panel before old → tick ≡ tick_of before → HasNoCycle site
    → IsLatestFirst done → AreOff site kept done panel (tick_of before) off
    → PanelStands site kept done told panel (Turned panel Drive ∷ before) parts

-- an operation that was done in the tick that ends comes in force; what is told may then be told otherwise, but not
-- to the turns that were made
abbrev pub AppliesDone : Parts → ℕ → Done → Parts → Type 0
AppliesDone old panel d parts =
    (site : Site) (kept : Retained) (done : List Done) (told later : Told) (before : List Moment)
    → PanelStands site kept done told panel before old → MayBeApplied site before done d
    → AgreeBefore before told later → PanelStands site kept (d ∷ done) later panel before parts
