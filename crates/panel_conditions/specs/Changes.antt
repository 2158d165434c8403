-- What a turn, findings and an operation make of the part that holds, and what it tells, whatever it stands for.
use Rattle.std.specs.Prelude.{◌≡◌, ◌≤◌, ◌&&◌, ℕ, List, [], ◌∷◌, ◌++◌, false, not, take}
use Rattle.tick_units.specs.Lane.{LaneState, turn_count}
use Rattle.site_types.specs.declared.operation.Operation.{Operation}
use Rattle.site_types.specs.declared.retained.Retained.{Retained}
use Rattle.site_types.specs.declared.site.Site.{Site}
use Rattle.site_types.specs.Bits.{has_bit}
use Rattle.site_types.specs.Done.{Done, AreBy}
use Rattle.coincidence_rules.specs.declared.finding.Finding.{Finding}
use Rattle.panel_conditions.specs.declared.hold.Hold.{Hold}
use Rattle.panel_conditions.specs.declared.outside.Outside.{Outside}
use Rattle.panel_conditions.specs.declared.points.Points.{Points}
use Rattle.panel_conditions.specs.declared.shown.Shown.{Shown}
use Rattle.panel_conditions.specs.declared.zones.Zones.{Zones}
use Rattle.panel_conditions.specs.Stands.{HoldsFor, MayApply, MayNote, MayTurn, Settled}
use Rattle.panel_conditions.specs.Stands.{ShownStays, ShowsThen, Watches, WatchesPoints, WatchesZones}
use Rattle.panel_conditions.specs.Stands.{latest_stamp}
use Rattle.panel_conditions.specs.Turns.{HoldTurn}

-- the findings that a turn moves from the lane
abbrev pub moved_from : LaneState Finding → List Finding
moved_from lane = take (turn_count lane) lane.items

-- a turn in a tick, which takes what it moves from the lane
abbrev pub turn_from : ℕ → LaneState Finding → Outside → HoldTurn
turn_from tick lane outside = record { tick = tick; found = moved_from lane; outside = outside }

-- the turn is made after those before
abbrev pub MakesTurn : Hold → HoldTurn → Hold → Type 0
MakesTurn old turn hold =
    (site : Site) (kept : Retained) (panel : ℕ) (done : List Done) (turns : List HoldTurn)
    → HoldsFor site kept panel done turns old → MayTurn done turns turn.tick
    → HoldsFor site kept panel done (turn ∷ turns) hold

-- the operation is done in a tick, after those before
abbrev pub AppliesOperation : Hold → Operation → ℕ → Hold → Type 0
AppliesOperation old operation tick hold =
    (site : Site) (kept : Retained) (panel : ℕ) (done : List Done) (turns : List HoldTurn)
    → HoldsFor site kept panel done turns old → MayApply panel done turns operation tick
    → HoldsFor site kept panel (record { tick = tick; panel = panel; operation = operation } ∷ done) turns
    hold

-- an operation of another panel is done in a tick, after those before
abbrev pub NotesOperation : Hold → ℕ → Hold → Type 0
NotesOperation old tick hold =
    (site : Site) (kept : Retained) (panel : ℕ) (done : List Done) (turns : List HoldTurn) (d : Done)
    → HoldsFor site kept panel done turns old → MayNote site panel turns d → d.tick ≡ tick
    → HoldsFor site kept panel (d ∷ done) turns hold

-- all that is kept of findings and operations takes these findings after those that were taken before
abbrev pub WatchesMore : Hold → List Finding → Hold → Type 0
WatchesMore old findings hold =
    (site : Site) (kept : Retained) (panel : ℕ) (done : List Done) (taken : List Finding)
    → Watches site kept panel done taken old → Watches site kept panel done (taken ++ findings) hold

-- by points, these findings are taken after those before
abbrev pub WatchesPointsMore : Points → List Finding → Points → Type 0
WatchesPointsMore old findings points =
    (site : Site) (kept : Retained) (panel : ℕ) (done : List Done) (taken : List Finding)
    → WatchesPoints site kept panel done taken old
    → WatchesPoints site kept panel done (taken ++ findings) points

-- by zones, these findings are taken after those before
abbrev pub WatchesZonesMore : Zones → List Finding → Zones → Type 0
WatchesZonesMore old findings zones =
    (site : Site) (panel : ℕ) (done : List Done) (taken : List Finding)
    → WatchesZones site panel done taken old.watches.items
    → WatchesZones site panel done (taken ++ findings) zones.watches.items

-- zones that were settled stay so, whatever findings they tell of
abbrev pub ZonesStaySettled : Zones → Zones → Type 0
ZonesStaySettled old zones =
    (site : Site) (panel : ℕ) (done : List Done) (taken : List Finding) (tick : ℕ)
    → WatchesZones site panel done taken old.watches.items → Settled tick old → Settled tick zones

-- by points, these findings are taken after those before, and no point or zone is disabled or enabled
pub record TakesPoints (findings : List Finding) (old points : Points) : Type 0 where
  pub watches : WatchesPointsMore old findings points
  pub off : (points.off ≡ old.off) × (points.zone_off ≡ old.zone_off)
  pub missing : points.changed ≡ false → (old.changed ≡ false) × (points.missing ≡ old.missing)

-- by zones, these findings are taken after those before
pub record ZonesTakeAll (findings : List Finding) (old zones : Zones) : Type 0 where
  pub watches : WatchesZonesMore old findings zones
  pub settled : ZonesStaySettled old zones
  pub moved : zones.moved ≡ old.moved

-- two lists of findings tell the same of each zone, by the latest stamps
pub record TellSame (one other : List Finding) : Type 0 where
  pub confirmed : (k : ℕ)
      → latest_stamp (λ f. has_bit f.confirmed k) one ≡ latest_stamp (λ f. has_bit f.confirmed k) other
  pub called : (k : ℕ)
      → latest_stamp (λ f. has_bit f.manual k) one ≡ latest_stamp (λ f. has_bit f.manual k) other
  pub released : (k : ℕ)
      → latest_stamp (λ f. has_bit f.released k) one ≡ latest_stamp (λ f. has_bit f.released k) other
  pub told : (k : ℕ) → latest_stamp (λ f. has_bit f.counted k && not (has_bit f.manual k)) one
      ≡ latest_stamp (λ f. has_bit f.counted k && not (has_bit f.manual k)) other

-- by zones, any findings are taken that tell of zones what this one does
abbrev pub TakesTold : Finding → Zones → Zones → Type 0
TakesTold finding old zones =
    (findings : List Finding) → TellSame (finding ∷ []) findings → ZonesTakeAll findings old zones

-- by points and by zones, these findings are taken after those before
pub record BothTake (findings : List Finding) (first last : Points) (old new' : Zones) : Type 0 where
  pub points : TakesPoints findings first last
  pub zones : ZonesTakeAll findings old new'

-- in all that is kept, zones that were settled stay so, whatever findings they tell of
abbrev pub StaysSettled : Hold → Hold → Type 0
StaysSettled old hold =
    (site : Site) (kept : Retained) (panel : ℕ) (done : List Done) (taken : List Finding) (tick : ℕ)
    → Watches site kept panel done taken old → Settled tick old.zones → Settled tick hold.zones

-- at a tick that is not before that of the latest turn, it shows what follows from the findings taken and the
-- operations done
abbrev pub ShowsWhatFollows : Hold → ℕ → Outside → Hold → Type 0
ShowsWhatFollows old now outside hold =
    (site : Site) (kept : Retained) (panel : ℕ) (done : List Done) (taken : List Finding) (tick : ℕ)
    → Watches site kept panel done taken old → Settled tick old.zones → tick ≤ now → AreBy now done
    → ShownStays done old → old.shown.word.stamp.0 ≤ now
    → ShowsThen site kept panel done taken now outside old hold

-- what it tells is what a definition says of the operations done and the turns made
abbrev pub ShowsAs : {X : Type 0} → Hold → X → (Site → Retained → ℕ → List Done → List HoldTurn → X) → Type 0
ShowsAs hold told definition =
    (site : Site) (kept : Retained) (panel : ℕ) (done : List Done) (turns : List HoldTurn)
    → HoldsFor site kept panel done turns hold → told ≡ definition site kept panel done turns

-- zones in alarm and in first state, faults and buzzer are shown as before
pub record ShowsAgain (before after : Shown) : Type 0 where
  pub alarm : after.word.alarm ≡ before.word.alarm
  pub first : after.word.first ≡ before.word.first
  pub faults : after.faults ≡ before.faults
  pub buzzer : after.buzzer ≡ before.buzzer
