-- What the site of a drill at work stands for, and what each step makes of it.
use Rattle.std.specs.Prelude.{◌≡◌, ◌+◌, ◌-◌, ◌^◌, ◌<◌, ◌≤◌, ℕ, Bool, false, List, length, [], Option}
use Rattle.std.specs.Prelude.{reverse, if◌then◌else◌}
use Rattle.tick_units.specs.declared.seat.Seat.{Seat}
use Rattle.tick_units.specs.Orders.{IsOrder, canonical_seats}
use Rattle.tick_units.specs.Ticks.{last_tick}
use Rattle.site_types.specs.declared.event.Event.{Event}
use Rattle.site_types.specs.declared.site.Site.{Site}
use Rattle.site_types.specs.Changes.{nothing_retained}
use Rattle.panel_edges.specs.declared.sound_memory_disk.SoundMemoryDisk.{SoundMemoryDisk}
use Rattle.retained_journal.specs.declared.journal.Journal.{Journal}
use Rattle.retained_journal.specs.Images.{Stands as StandsOn}
use Rattle.panel_rules.specs.Moments.{Moment, IsRun, and_events, and_turns, moments, tick_of}
use Rattle.panel_rules.specs.Operations.{requests}
use Rattle.panel_core.specs.declared.system.System.{System}
use Rattle.panel_core.specs.Keeping.{KeepsRun}
use Rattle.panel_core.specs.Stands.{StandsFor as SystemStands}
use Rattle.drill_record.specs.Records.{drill_ticks, events_of}
use Rattle.drill_record.specs.Stands.{StandsFor as DrawsFor}
use Rattle.panel_drill.specs.declared.running.Running.{Running}

-- the most ticks of a drill
abbrev pub most_ticks : ℕ
most_ticks = 100000

-- what has befallen after so many ticks of the record of a seed
abbrev pub drill_moments : Site → ℕ → ℕ → List Moment
drill_moments site seed ticks = moments (drill_ticks site seed ticks)

-- a journal stands on its disk; nothing is said of crashes of this one
abbrev pub IsOnDisk : SoundMemoryDisk → Journal → Type 0
IsOnDisk disk journal =
    StandsOn (λ (d : SoundMemoryDisk). ⊥) (λ (d : SoundMemoryDisk) (file : List ℕ). ⊥) disk journal

-- a new journal
pub record OpensFor (wide : Bool) (disk : SoundMemoryDisk) (journal : Journal) : Type 0 where
  pub kept : journal.kept ≡ nothing_retained
  pub same_wide : journal.wide ≡ wide
  pub attempt : journal.attempt.items ≡ []
  pub untried : journal.tried ≡ 0
  pub stands : IsOnDisk disk journal

-- after so many ticks of the record of a seed
pub record IsAfter (site : Site) (seed ticks : ℕ) (own : Running) : Type 0 where
  pub system : SystemStands site nothing_retained (drill_moments site seed ticks) own.system
  pub keeps : KeepsRun site nothing_retained (drill_moments site seed ticks) own.journal
  pub disk : IsOnDisk own.disk own.journal
  pub tried : own.journal.tried ≤ ticks
  pub drawer : DrawsFor seed ticks own.drawer
  pub canonical : own.canonical ≡ canonical_seats site.panels
  pub reversed : own.reversed ≡ reverse (canonical_seats site.panels)

-- a tick may be run, which is the one behind those that were
pub record IsUnderWay (tick : ℕ) (own : Running) : Type 0 where
  pub site : Site
  pub seed : ℕ
  pub ticks : ℕ
  pub is_at : IsAfter site seed ticks own
  pub few : ticks < most_ticks
  pub next : tick ≡ ticks + 1

-- a tick was run, which is the one behind those that were run before
abbrev pub RunsTick : ℕ → Running → Running → Type 0
RunsTick tick old own =
    (site : Site) (seed ticks : ℕ) → IsAfter site seed ticks old → ticks < most_ticks → tick ≡ ticks + 1
    → IsAfter site seed (ticks + 1) own

-- ---- its steps

-- an event may come
pub record MayTell (system : System) : Type 0 where
  pub site : Site
  pub before : List Moment
  pub stands : SystemStands site nothing_retained before system
  pub few : length (requests site before) < 2 ^ 64 - 1

abbrev pub TellsAll : Option Event → System → System → Type 0
TellsAll event old system =
    (site : Site) (before : List Moment) → SystemStands site nothing_retained before old
    → SystemStands site nothing_retained (and_events (events_of site event) before) system

-- the order of a tick's turns
abbrev pub order_in : Bool → Running → List Seat
order_in reversed own = if reversed then own.reversed else own.canonical

-- each seat may have its turn, and the journal one commit more
pub record MayRunTurns (reversed : Bool) (own : Running) : Type 0 where
  pub site : Site
  pub before : List Moment
  pub stands : SystemStands site nothing_retained before own.system
  pub keeps : KeepsRun site nothing_retained before own.journal
  pub disk : IsOnDisk own.disk own.journal
  pub ordered : IsOrder site.panels (order_in reversed own)
  pub run : IsRun site.panels (and_turns false (order_in reversed own) before)
  pub canonical : own.canonical ≡ canonical_seats own.system.site.panels
  pub turned : own.reversed ≡ reverse (canonical_seats own.system.site.panels)
  pub few : tick_of before ≤ last_tick
  pub tried : own.journal.tried ≤ last_tick

-- each seat had its turn, and Keep's didn't fail
pub record HasRunTurns (site : Site) (after : List Moment) (own : Running) : Type 0 where
  pub stands : SystemStands site nothing_retained after own.system
  pub keeps : KeepsRun site nothing_retained after own.journal

pub record RunsTurns (reversed : Bool) (old own : Running) : Type 0 where
  pub rest : own ≡ record old { system = own.system; journal = own.journal; disk = own.disk }
  pub turns : (site : Site) (before : List Moment) → SystemStands site nothing_retained before old.system
      → KeepsRun site nothing_retained before old.journal
      → IsRun site.panels (and_turns false (order_in reversed old) before) → tick_of before ≤ last_tick
      → HasRunTurns site (and_turns false (order_in reversed old) before) own
  pub disk : IsOnDisk own.disk own.journal
  pub tried : own.journal.tried ≤ old.journal.tried + 1

-- ---- all ticks

pub record MayRun (own : Running) : Type 0 where
  pub site : Site
  pub seed : ℕ
  pub is_at : IsAfter site seed 0 own

abbrev pub RunsOn : ℕ → Running → Running → Type 0
RunsOn ticks old own =
    (site : Site) (seed : ℕ) → IsAfter site seed 0 old → IsAfter site seed ticks own
