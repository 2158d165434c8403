-- The part that holds stands for the operations done and the turns made.
use Rattle.std.specs.Prelude.{◌≡◌, ◌≢◌, ◌<◌, ◌≤◌, ◌+◌, ◌-◌, ◌^◌, min, max, ℕ, zero, suc, Bool, true, false, not, List}
use Rattle.std.specs.Prelude.{[], ◌∷◌, ◌++◌, Option, Some, None, length, map, slice_get, ◌&&◌, nat_lt, if◌then◌else◌}
use Rattle.std.specs.Prelude.{option_map}
use Rattle.tick_units.specs.declared.tick.Tick.{Tick}
use Rattle.site_types.specs.declared.site.Site.{Site}
use Rattle.site_types.specs.declared.point.Point.{Point as PointPlan}
use Rattle.site_types.specs.declared.point_set.PointSet.{PointSet}
use Rattle.site_types.specs.declared.zone.Zone.{Zone as ZonePlan}
use Rattle.site_types.specs.declared.rule.Rule.{Rule}
use Rattle.site_types.specs.declared.rule.Rule.TheVariants.{B}
use Rattle.site_types.specs.declared.retained.Retained.{Retained}
use Rattle.site_types.specs.declared.fault_set.FaultSet.{FaultSet}
use Rattle.site_types.specs.declared.buzzer.Buzzer.TheVariants.{Off}
use Rattle.site_types.specs.declared.word.Word.{Word}
use Rattle.site_types.specs.declared.operation.Operation.{Operation}
use Rattle.site_types.specs.Bits.{IsPlace, has_bit, no_set}
use Rattle.site_types.specs.Changes.{IsPanelNumber, IsNumber, HasOwnPlaces}
use Rattle.site_types.specs.Done.{Done, PointOff, in_force, moves_floor, cancels, mutes, muted_before, AreBy}
use Rattle.site_types.specs.Events.{has_operands}
use Rattle.coincidence_rules.specs.declared.finding.Finding.{Finding}
use Rattle.coincidence_rules.specs.Applied.{MayBeDone, TellsLast}
use Rattle.coincidence_rules.specs.Places.{numbered}
use Rattle.coincidence_rules.specs.Wired.{IsWired}
use Rattle.panel_conditions.specs.declared.zone_watch.ZoneWatch.{ZoneWatch}
use Rattle.panel_conditions.specs.declared.sign.Sign.{Sign}
use Rattle.panel_conditions.specs.declared.zones.Zones.{Zones}
use Rattle.panel_conditions.specs.declared.point_switch.PointSwitch.{PointSwitch}
use Rattle.panel_conditions.specs.declared.points.Points.{Points}
use Rattle.panel_conditions.specs.declared.shown.Shown.{Shown}
use Rattle.panel_conditions.specs.declared.hold.Hold.{Hold}
use Rattle.panel_conditions.specs.declared.outside.Outside.{Outside}
use Rattle.panel_conditions.specs.PointSets.{loop_address, set_without}
use Rattle.panel_conditions.specs.Parts.{points_at, points_shown, is_of_zone, watch_shows, sign_mask, zone_taken}
use Rattle.tick_units.specs.LastTicks.{last_at, never_done}
use Rattle.panel_conditions.specs.Points.{points_where}
use Rattle.panel_conditions.specs.Turns.{HoldTurn, findings_taken, latest_tick, AreRising}
use Rattle.panel_conditions.specs.Missing.{missing_found, zone_is_off}
use Rattle.panel_conditions.specs.Told.{TellMissing}
use Rattle.panel_conditions.specs.Words.{has_fault, with_missing, faults_at, faults_after}
use Rattle.panel_conditions.specs.Words.{word_with, word_at, word_after}
use Rattle.site_types.specs.Words.{empty_word, no_faults}
use Rattle.panel_conditions.specs.Shown.{is_news, is_in_fire_alarm, sounds, last_news, buzzer_after, entries_after}

-- ---- at first

-- how long a first state lasts, by the type of a zone
abbrev pub within_rule : Rule → Option ℕ
within_rule (B within) = Some within
within_rule _ = None

-- how long a first state of a zone lasts, if it is of type B
abbrev pub within_of : Option ZonePlan → Option ℕ
within_of None = None
within_of (Some z) = within_rule z.rule

-- how long one of the zone at a place lasts
abbrev pub within_at : Site → Option ℕ → Option ℕ
within_at site None = None
within_at site (Some place) = within_of (slice_get site.zones place)

-- of a zone with this place and bit nothing was told
abbrev pub no_zone_yet : Option ℕ → ℕ → Option ℕ → ZoneWatch
no_zone_yet place bit within =
    record {
      place = place;
      bit = bit;
      within = within;
      floor = never_done;
      cancelled = never_done;
      confirmed = record { 0 = 0 };
      called = record { 0 = 0 };
      released = record { 0 = 0 };
      told = record { 0 = 0 };
    }

-- what is kept of a panel's zone, by its bit, at first
abbrev pub first_watch : Site → ℕ → ℕ → ZoneWatch
first_watch site panel bit =
    no_zone_yet (numbered site panel (bit + 1)) bit (within_at site (numbered site panel (bit + 1)))

-- of the first so many
unfoldable pub are_first_watches : Site → ℕ → ℕ → List ZoneWatch
are_first_watches site panel zero = []
are_first_watches site panel (suc n) = are_first_watches site panel n ++ first_watch site panel n ∷ []

-- the zone, if there is one, has a place in what is retained
abbrev pub HasZoneNumber : Option ZonePlan → Type 0
HasZoneNumber None = Unit {0}
HasZoneNumber (Some z) = IsPanelNumber z.panel × IsNumber z.number

-- a point and its zone have their places in what is retained
abbrev pub HasPlaces : Site → PointPlan → Type 0
HasPlaces site point = IsPanelNumber point.panel × IsPlace point.line point.address
    × HasZoneNumber (slice_get site.zones point.zone)

-- ---- what is shown

-- before the first turn
abbrev pub nothing_shown : Shown
nothing_shown = record {
  word = empty_word;
  faults = no_faults;
  newly = record { 0 = 0 };
  entries =
      0;
  buzzer = Off;
}

-- entries with a word after another; they stay at the greatest number of 64 bits
abbrev pub entries_then : ℕ → Word → Word → ℕ
entries_then entries word before =
    if is_in_fire_alarm word && not (is_in_fire_alarm before) then min (entries + 1) (2 ^ 64 - 1) else entries

-- when something was newly shown, with a word and faults after what was shown
abbrev pub newly_then : Shown → Word → FaultSet → Tick
newly_then shown word faults = if is_news word faults shown.word shown.faults then word.stamp else shown.newly

-- what is shown with a word and faults after what was shown, where the last mute was done in this tick
abbrev pub shown_then : Shown → Word → FaultSet → Tick → Shown
shown_then shown word faults muted =
    record {
      word = word;
      faults = faults;
      newly = newly_then shown word faults;
      entries = entries_then shown.entries word shown.word;
      buzzer = sounds word (nat_lt muted.0 (newly_then shown word faults).0);
    }

-- ---- what the parts stand for

-- the point at a place is disabled at x
abbrev pub point_is_off : Site → Retained → List Done → ℕ → ℕ → Bool
point_is_off site kept done x place = in_force site kept (PointOff place) x done

-- the zone of the point at a place is disabled at x
abbrev pub zone_of_is_off : Site → Retained → List Done → ℕ → ℕ → Bool
zone_of_is_off site kept done x place = zone_is_off site kept done (slice_get site.points place) x

-- a set of points that changes tells a test of them at each tick from its own on
pub record TellsPoints (site : Site) (panel : ℕ) (test : ℕ → ℕ → Bool) (done : List Done) (switch :
    PointSwitch) : Type 0 where
  pub at : (x : ℕ) → switch.since.0 ≤ x → points_at x switch ≡ points_where site panel (test x)
  pub by : (x : ℕ) → AreBy x done → switch.since.0 ≤ x

-- the latest stamp of a finding that passes the test, else 0
abbrev pub latest_stamp : (Finding → Bool) → List Finding → ℕ
latest_stamp test [] = 0
latest_stamp test (f ∷ rest) = max (if test f then f.stamp.0 else 0) (latest_stamp test rest)

-- what is kept of a zone tells of the operations done and the findings taken
pub record WatchesZone (site : Site) (panel : ℕ) (done : List Done) (taken : List Finding) (k : ℕ) (watch :
    ZoneWatch) : Type 0 where
  pub place : watch.place ≡ numbered site panel (k + 1)
  pub bit : watch.bit ≡ k
  pub within : watch.within ≡ within_at site (numbered site panel (k + 1))
  pub floor : (place : ℕ) → numbered site panel (k + 1) ≡ Some place
      → TellsLast (moves_floor site place) done watch.floor
  pub cancelled : (place : ℕ) → numbered site panel (k + 1) ≡ Some place
      → TellsLast (cancels place) done watch.cancelled
  pub confirmed : watch.confirmed.0 ≡ latest_stamp (λ f. has_bit f.confirmed k) taken
  pub called : watch.called.0 ≡ latest_stamp (λ f. has_bit f.manual k) taken
  pub released : watch.released.0 ≡ latest_stamp (λ f. has_bit f.released k) taken
  pub told : watch.told.0 ≡ latest_stamp (λ f. has_bit f.counted k && not (has_bit f.manual k)) taken

-- what is kept of the 32 zones does
pub record WatchesZones (site : Site) (panel : ℕ) (done : List Done) (taken : List Finding) (watches :
    List ZoneWatch) : Type 0 where
  pub count : length watches ≡ 32
  pub each : (k : ℕ) (watch : ZoneWatch) → slice_get watches k ≡ Some watch
      → WatchesZone site panel done taken k watch

-- each zone has the bit of its number
abbrev pub AreNumbered : List ZoneWatch → Type 0
AreNumbered watches = (k : ℕ) (watch : ZoneWatch) → slice_get watches k ≡ Some watch → watch.bit ≡ k

-- the zones take a finding, each by what it tells of it, and none is marked yet
pub record ZonesTake (finding : Finding) (before after : Zones) : Type 0 where
  pub watches : AreNumbered before.watches.items → (k : ℕ)
      → slice_get after.watches.items k ≡ option_map (zone_taken finding) (slice_get before.watches.items k)
  pub count : length after.watches.items ≡ length before.watches.items
  pub changed : after.changed ≡ before.changed
  pub signs : after.signs ≡ before.signs
  pub moved : after.moved ≡ before.moved

-- from a tick on, zones of which nothing was told and that aren't in first state show what they showed when it
-- was drawn last; no operation is later than the latest
pub record Settled (tick : ℕ) (zones : Zones) : Type 0 where
  pub moved : (k : ℕ) (watch : ZoneWatch) → slice_get zones.watches.items k ≡ Some watch
      → (watch.floor.tick.0 ≤ zones.moved.0) × (watch.cancelled.tick.0 ≤ zones.moved.0)
  pub held : (sign : Sign) (k x : ℕ) → k < 32 → tick ≤ x → has_bit zones.changed k ≡ false
      → has_bit zones.signs.first k ≡ false
      → watch_shows sign x (slice_get zones.watches.items k) ≡ has_bit (sign_mask sign zones.signs) k

-- a set, empty where there is none
abbrev pub set_or_none : Option PointSet → PointSet
set_or_none None = no_set
set_or_none (Some points) = points

-- each zone has the set of the panel's points of it, among the first so many
pub record AreZoneSets (site : Site) (panel n : ℕ) (sets : List PointSet) : Type 0 where
  pub count : length sets ≡ length site.zones
  pub each : (zone : ℕ) (points : PointSet) → slice_get sets zone ≡ Some points
      → points ≡ points_where site panel
      (λ place. nat_lt place n && is_of_zone zone (slice_get site.points place))

-- the points are kept by address, zone and state as the findings and operations tell
pub record WatchesPoints (site : Site) (kept : Retained) (panel : ℕ) (done : List Done) (taken : List Finding)
    (points : Points) : Type 0 where
  pub own : HasOwnPlaces site
  pub addresses : points.addresses.items ≡ map (loop_address panel) site.points
  pub of_zones : (zone : ℕ)
      → set_or_none (slice_get points.of_zones.items zone) ≡ points_where site panel
      (λ place. is_of_zone zone (slice_get site.points place))
  pub missing : points.missing ≡ points_where site panel (missing_found taken)
  pub told : TellMissing taken points.told
  pub off : TellsPoints site panel (point_is_off site kept done) done points.off
  pub zone_off : TellsPoints site panel (zone_of_is_off site kept done) done points.zone_off

-- all that is kept of findings and operations
pub record Watches (site : Site) (kept : Retained) (panel : ℕ) (done : List Done) (taken : List Finding)
    (hold : Hold) : Type 0 where
  pub zones : WatchesZones site panel done taken hold.zones.watches.items
  pub points : WatchesPoints site kept panel done taken hold.points
  pub muted : TellsLast (mutes panel) done hold.muted

-- what is shown is what these turns and operations make
pub record Shows (site : Site) (kept : Retained) (panel : ℕ) (done : List Done) (turns : List HoldTurn)
    (shown : Shown) : Type 0 where
  pub word : shown.word ≡ word_after site kept panel done turns
  pub faults : shown.faults ≡ faults_after site kept panel done turns
  pub newly : shown.newly.0 ≡ last_news site kept panel done turns
  pub entries : shown.entries ≡ entries_after site kept panel done turns
  pub buzzer : shown.buzzer ≡ buzzer_after site kept panel done turns

-- what follows at a tick from what is kept, with what the other parts tell
abbrev pub faults_now : ℕ → Outside → Hold → FaultSet
faults_now tick outside hold = with_missing (points_shown tick hold.points) outside

-- all that is shown of it
abbrev pub shown_now : ℕ → Outside → Hold → Shown
shown_now tick outside hold =
    shown_then hold.shown (word_with tick (has_fault (faults_now tick outside hold)) hold.zones.signs)
    (faults_now tick outside hold) (record { 0 = last_at tick hold.muted })

-- what the other parts told of these faults
abbrev pub outside_of : FaultSet → Outside
outside_of faults =
    record {
      supply = faults.supply;
      broken = faults.broken;
      shorted = faults.shorted;
      silent =
          faults.silent;
      links = faults.links;
      unconfirmed = faults.unconfirmed;
    }

-- nothing was told since it was shown, and each operation was in force then
pub record IsUnchanged (outside : Outside) (hold : Hold) : Type 0 where
  pub moved : hold.zones.moved.0 < hold.shown.word.stamp.0
  pub signs : hold.shown.word ≡ word_with hold.shown.word.stamp.0 hold.shown.word.fault hold.zones.signs
  pub outside_is : outside ≡ outside_of hold.shown.faults
  pub missing : hold.points.changed ≡ false

-- no operation is later than the latest; and where each was in force when it was shown, the same follows
-- again from the points that are missing, unless these changed
pub record ShownStays (done : List Done) (hold : Hold) : Type 0 where
  pub by : AreBy hold.zones.moved.0 done
  pub fault : hold.shown.word.fault ≡ has_fault hold.shown.faults
  pub missing : hold.points.changed ≡ false → hold.zones.moved.0 < hold.shown.word.stamp.0
      → set_without (set_without hold.points.missing hold.points.off.after) hold.points.zone_off.after
      ≡ hold.shown.faults.missing
  pub buzzer : hold.zones.moved.0 < hold.shown.word.stamp.0
      → hold.shown.buzzer ≡ sounds hold.shown.word (nat_lt hold.muted.tick.0 hold.shown.newly.0)

-- findings change nothing of what is shown, nor of operations, and mark the missing points where they change them
pub record TakesFindings (before after : Hold) : Type 0 where
  pub shown : after.shown ≡ before.shown
  pub missing : after.points.changed ≡ false
      → (before.points.changed ≡ false) × (after.points.missing ≡ before.points.missing)
  pub moved : after.zones.moved ≡ before.zones.moved
  pub off : after.points.off ≡ before.points.off
  pub zone_off : after.points.zone_off ≡ before.points.zone_off
  pub muted : after.muted ≡ before.muted

-- the part stands for the operations done and the turns made
pub record HoldsFor (site : Site) (kept : Retained) (panel : ℕ) (done : List Done) (turns : List HoldTurn)
    (hold : Hold) : Type 0 where
  pub watches : Watches site kept panel done (findings_taken turns) hold
  pub shows : Shows site kept panel done turns hold.shown
  pub settled : Settled (latest_tick turns) hold.zones
  pub stays : ShownStays done hold
  pub rising : AreRising turns
  pub few : entries_after site kept panel done turns ≤ latest_tick turns

-- a turn may be made in a tick: it is later than those made, and no operation was done after it
pub record MayTurn (done : List Done) (turns : List HoldTurn) (tick : ℕ) : Type 0 where
  pub later : latest_tick turns < tick
  pub since : AreBy tick done

-- an operation of a panel may be applied in a tick: it may be done after those done, and is not earlier than
-- the turns made
pub record MayApply (panel : ℕ) (done : List Done) (turns : List HoldTurn) (operation : Operation) (tick :
    ℕ) : Type 0 where
  pub next : MayBeDone panel done operation tick
  pub turned : latest_tick turns ≤ tick

-- an operation of another panel, of which this one may take note: it is not earlier than the turns made
pub record MayNote (site : Site) (panel : ℕ) (turns : List HoldTurn) (d : Done) : Type 0 where
  pub wired : IsWired site
  pub apart : d.panel ≢ panel
  pub has : has_operands site d.panel d.operation ≡ true
  pub turned : latest_tick turns ≤ d.tick

-- what is shown at a tick, with these findings taken, after what was shown before
abbrev pub shown_at : Site → Retained → ℕ → List Done → List Finding → ℕ → Outside → Shown → Shown
shown_at site kept panel done taken tick outside before =
    shown_then before
    (word_at site panel done taken tick (has_fault (faults_at site kept panel done taken tick outside)))
    (faults_at site kept panel done taken tick outside)
    (record { 0 = muted_before panel tick done })

-- after a turn in a tick with these findings taken: what is shown follows from what was shown before, and all
-- else stays
pub record ShowsThen (site : Site) (kept : Retained) (panel : ℕ) (done : List Done) (taken : List Finding)
    (tick : ℕ) (outside : Outside) (before after : Hold) : Type 0 where
  pub watches : Watches site kept panel done taken after
  pub shown : after.shown ≡ shown_at site kept panel done taken tick outside before.shown
  pub stays : ShownStays done after
