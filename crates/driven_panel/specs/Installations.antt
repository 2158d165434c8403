-- What is known of a system with its journal that is driven tick by tick.
use Rattle.std.specs.Prelude.{◌≡◌, ◌<◌, ◌≤◌, ℕ, true, false, List, length}
use Rattle.panel_edges.specs.MemoryDisks.{images_of}
use Rattle.panel_edges.specs.declared.memory_disk.MemoryDisk.{MemoryDisk}
use Rattle.site_types.specs.Changes.{nothing_retained}
use Rattle.site_types.specs.declared.site.Site.{Site}
use Rattle.tick_units.specs.declared.task.Task.{Task}
use Rattle.retained_journal.specs.Images.{Stands}
use Rattle.panel_core.specs.Keeping.{KeepsRun}
use Rattle.panel_core.specs.Stands.{StandsFor}
use Rattle.panel_rules.specs.Moments.{Moment, IsRun, HaveAllTurned, has_turned, has_kept, is_fresh, tick_of}
use Rattle.panel_rules.specs.Operations.{requests}
use Rattle.driven_panel.specs.declared.installation.Installation.{Installation}

-- what its parts stand for after some moments of a site that began with nothing retained
pub record IsDriven (site : Site) (before : List Moment) (own : Installation) : Type 0 where
  pub stands : StandsFor site nothing_retained before own.system
  pub keeps : KeepsRun site nothing_retained before own.journal
  pub images : Stands (λ (disk : MemoryDisk). Unit {0}) images_of own.disk own.journal
  pub run : IsRun site.panels before
  pub asked : length (requests site before) ≤ own.events
  pub few_events : own.events ≤ 1000000
  pub few_ticks : tick_of before ≤ 1000000

-- between two ticks: each seat has had its turn
pub record IsBetween (panels : ℕ) (own : Installation) : Type 0 where
  pub site : Site
  pub before : List Moment
  pub after : IsDriven site before own
  pub same : site.panels ≡ panels
  pub all : HaveAllTurned site.panels before
  pub tried : own.journal.tried ≤ tick_of before

-- a tick has begun, and no seat has had its turn in it
pub record HasBegun (panels : ℕ) (own : Installation) : Type 0 where
  pub site : Site
  pub before : List Moment
  pub after : IsDriven site before own
  pub same : site.panels ≡ panels
  pub fresh : is_fresh before ≡ true
  pub unturned : (panel : ℕ) (task : Task) → has_turned panel task before ≡ false
  pub unkept : has_kept before ≡ false
  pub tried : own.journal.tried < tick_of before
