-- What a report, or a confirmation of an output, makes of a panel, and that other events leave it.
use Rattle.std.proofs.Common.{◌≡◌, ◌≢◌, ℕ, ◌≤◌, ◌==◌, ◌&&◌, List, ◌∷◌, slice_get}
use Rattle.std.proofs.Common.{inl, inr, true, false, if◌then◌else◌, refl, sym, ◌∙◌, ap, subst, Bool}
use Rattle.std.specs.Prelude.{nat_le}
use Rattle.std.proofs.lemmas.Bool.Decides.{eqb_tells}
use Rattle.site_types.specs.declared.event.Event.{Event}
use Rattle.site_types.specs.declared.event.Event.TheVariants.{Point, Cable, Supply, Confirmed}
use Rattle.site_types.specs.declared.point_state.PointState.{PointState}
use Rattle.site_types.specs.declared.piece_state.PieceState.{PieceState}
use Rattle.site_types.specs.declared.retained.Retained.{Retained}
use Rattle.site_types.specs.declared.site.Site.{Site}
use Rattle.site_types.specs.declared.supply_kind.SupplyKind.{SupplyKind}
use Rattle.site_types.specs.Done.{Done}
use Rattle.loop_poller.specs.declared.poller.Poller.{Poller}
use Rattle.loop_poller.specs.Calls.{Call, Reported, Cabled}
use Rattle.loop_poller.specs.Stands.{StandsFor as PollsFor}
use Rattle.supply_monitor.specs.declared.supply.Supply.{Supply as SupplyPart}
use Rattle.supply_monitor.specs.Supply.{Call as SupplyCall, Reported as SupplyReported}
use Rattle.supply_monitor.specs.Stands.{StandsFor as MonitorsFor}
use Rattle.panel_rules.specs.Faults.{and_supply, supply_calls}
use Rattle.panel_rules.specs.Moments.{Moment, Happened}
use Rattle.panel_rules.proofs.Reports.{is_line}
use Rattle.panel_rules.proofs.AnswersTell.{eq_true}
use Rattle.panel_parts.specs.declared.parts.Parts.{Parts}
use Rattle.panel_rules.specs.Reports.{and_report, is_on_panel, reports}
use Rattle.panel_parts.specs.Stands.{PanelStands}
use Rattle.panel_effects.proofs.LatestFacts.{effects_stay}
use Rattle.output_drive.specs.declared.drive.Drive.{Drive as DrivePart}
use Rattle.output_drive.proofs.Alike.{ConfirmsNone, after_other_event}
use Rattle.hold_calls.specs.Told.{Told}
use Rattle.panel_parts.proofs.Panels.{HasFacts, HasOutputs, leaves_lanes, with_lanes_left}

module _ (site : Site) (kept : Retained) (done : List Done) (told : Told) (panel : ℕ) (before : List Moment) (parts : Parts) (h : PanelStands site kept done told panel before parts) where
  -- an event is no turn of Effect
  facts_stay : (event : Event) → HasFacts site kept done told panel before (Happened event ∷ before) parts.effects
  facts_stay event = effects_stay site told.facts panel before parts.effects (Happened event) (λ e. cc) h.effects

  -- and one that confirms no output of the panel leaves its outputs
  outputs_stay : (event : Event) → ConfirmsNone site panel event → HasOutputs site kept done told panel before (Happened event ∷ before) parts.drive
  outputs_stay event none = after_other_event site told.facts kept done panel before parts.drive h.drives event none

-- a panel after an event of which its poller was told, and its supplies and outputs weren't
heard : (site : Site) (kept : Retained) (done : List Done) (told : Told) (panel : ℕ) (before : List Moment) (parts : Parts) (poller : Poller) (event : Event)
    → PanelStands site kept done told panel before parts → PollsFor site panel (and_report site panel event (reports site panel before)) poller
    → and_supply panel event (supply_calls panel before) ≡ supply_calls panel before → ConfirmsNone site panel event
    → PanelStands site kept done told panel (Happened event ∷ before) (record parts { poller = poller })
heard site kept done told panel before parts poller event h p s none =
    with_lanes_left site kept done told panel before (Happened event) parts poller parts.supply parts.effects parts.drive h
    (leaves_lanes site kept done told panel before (Happened event) refl refl refl refl) p
    (subst (λ calls. MonitorsFor site.waits calls parts.supply) (sym s) h.supplies) (facts_stay site kept done told panel before parts h event)
    (outputs_stay site kept done told panel before parts h event none)

pub after_point : (site : Site) (kept : Retained) (done : List Done) (told : Told) (panel : ℕ) (before : List Moment) (parts : Parts) (poller : Poller) (point : ℕ) (state :
    PointState) → PanelStands site kept done told panel before parts → is_on_panel panel (slice_get site.points point) ≡ true
    → PollsFor site panel (Reported point state ∷ reports site panel before) poller
    → PanelStands site kept done told panel (Happened (Point point state) ∷ before) (record parts { poller = poller })
after_point site kept done told panel before parts poller point state h at p =
    heard site kept done told panel before parts poller (Point point state) h
    (subst (λ b. PollsFor site panel (if b then Reported point state ∷ reports site panel before else reports site panel before) poller) (sym at)
    p) refl tt

pub after_piece : (site : Site) (kept : Retained) (done : List Done) (told : Told) (panel : ℕ) (before : List Moment) (parts : Parts) (poller : Poller) (line piece : ℕ) (state :
    PieceState) → 1 ≤ line → line ≤ 4 → PanelStands site kept done told panel before parts
    → PollsFor site panel (Cabled line piece state ∷ reports site panel before) poller
    → PanelStands site kept done told panel (Happened (Cable panel line piece state) ∷ before) (record parts { poller = poller })
after_piece site kept done told panel before parts poller line piece state low high h p =
    heard site kept done told panel before parts poller (Cable panel line piece state) h
    (subst (λ b. PollsFor site panel (if b then Cabled line piece state ∷ reports site panel before else reports site panel before) poller)
    (sym (ap (λ b. b && (nat_le 1 line && nat_le line 4)) (eq_true panel panel refl) ∙ is_line line low high)) p) refl tt

pub after_report : (site : Site) (kept : Retained) (done : List Done) (told : Told) (panel : ℕ) (before : List Moment) (parts : Parts) (supply : SupplyPart) (kind : SupplyKind)
    (bad : Bool) → PanelStands site kept done told panel before parts → MonitorsFor site.waits (SupplyReported kind bad ∷ supply_calls panel before) supply
    → PanelStands site kept done told panel (Happened (Supply panel kind bad) ∷ before) (record parts { supply = supply })
after_report site kept done told panel before parts supply kind bad h m =
    with_lanes_left site kept done told panel before (Happened (Supply panel kind bad)) parts parts.poller supply parts.effects parts.drive h
    (leaves_lanes site kept done told panel before (Happened (Supply panel kind bad)) refl refl refl refl) h.polls
    (subst (λ b. MonitorsFor site.waits (if b then SupplyReported kind bad ∷ supply_calls panel before else supply_calls panel before) supply)
    (sym (eq_true panel panel refl)) m) (facts_stay site kept done told panel before parts h (Supply panel kind bad))
    (outputs_stay site kept done told panel before parts h (Supply panel kind bad) tt)

-- an output of the panel was confirmed
pub after_confirmation : (site : Site) (kept : Retained) (done : List Done) (told : Told) (panel : ℕ) (before : List Moment) (parts : Parts) (drive : DrivePart) (output : ℕ)
    → PanelStands site kept done told panel before parts → HasOutputs site kept done told panel before (Happened (Confirmed output) ∷ before) drive
    → PanelStands site kept done told panel (Happened (Confirmed output) ∷ before) (record parts { drive = drive })
after_confirmation site kept done told panel before parts drive output h confirmed =
    with_lanes_left site kept done told panel before (Happened (Confirmed output)) parts parts.poller parts.supply parts.effects drive h
    (leaves_lanes site kept done told panel before (Happened (Confirmed output)) refl refl refl refl) h.polls h.supplies
    (facts_stay site kept done told panel before parts h (Confirmed output)) confirmed

-- a panel that an event doesn't concern
pub untold : (site : Site) (kept : Retained) (done : List Done) (told : Told) (panel : ℕ) (before : List Moment) (parts : Parts) (event : Event) → PanelStands site kept done told panel before parts
    → and_report site panel event (reports site panel before) ≡ reports site panel before
    → and_supply panel event (supply_calls panel before) ≡ supply_calls panel before → ConfirmsNone site panel event
    → PanelStands site kept done told panel (Happened event ∷ before) parts
untold site kept done told panel before parts event h e s none =
    heard site kept done told panel before parts parts.poller event h (subst (λ calls. PollsFor site panel calls parts.poller) (sym e) h.polls) s none

pub not_there : (a b : ℕ) → a ≢ b → (a == b) ≡ false
not_there a b n = elim (eqb_tells a b) [ inl t ↦ absurd (n t.1) | inr t ↦ t.0 ]

-- an event that concerns no panel
abbrev pub IsOther : Event → Type 0
IsOther (Point point state) = ⊥
IsOther (Cable panel line piece state) = ⊥
IsOther (Supply panel kind bad) = ⊥
IsOther (Confirmed output) = ⊥
IsOther event = Unit {0}

pub none_confirmed : (site : Site) (panel : ℕ) (event : Event) → IsOther event → ConfirmsNone site panel event
none_confirmed site panel (Confirmed output) o = absurd o
none_confirmed site panel event o = tt

pub not_reported : (site : Site) (panel : ℕ) (event : Event) (calls : List Call) → IsOther event → and_report site panel event calls ≡ calls
not_reported site panel (Point point state) calls o = absurd o
not_reported site panel (Cable other line piece state) calls o = absurd o
not_reported site panel event calls o = refl

pub not_monitored : (panel : ℕ) (event : Event) (calls : List SupplyCall) → IsOther event → and_supply panel event calls ≡ calls
not_monitored panel (Supply other kind bad) calls o = absurd o
not_monitored panel event calls o = refl
