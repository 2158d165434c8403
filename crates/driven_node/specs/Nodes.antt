-- What is known of panels by themselves with their journals that are driven tick by tick.
use Rattle.std.specs.Prelude.{◌≡◌, ◌<◌, ◌≤◌, ℕ, true, false, List, All, length}
use Rattle.panel_edges.specs.MemoryDisks.{images_of}
use Rattle.panel_edges.specs.declared.memory_disk.MemoryDisk.{MemoryDisk}
use Rattle.site_types.specs.Changes.{nothing_retained}
use Rattle.site_types.specs.declared.site.Site.{Site}
use Rattle.tick_units.specs.declared.task.Task.{Task}
use Rattle.retained_journal.specs.Images.{Stands}
use Rattle.panel_core.specs.Keeping.{KeepsRun}
use Rattle.panel_rules.specs.Moments.{Moment, HaveAllTurned, IsPanel, IsRun, has_turned, has_kept, is_fresh, tick_of}
use Rattle.panel_rules.specs.Operations.{requests}
use Rattle.node_rules.specs.Histories.{NodeMoment, befallen}
use Rattle.panel_node.specs.Stands.{NodeStandsFor}
use Rattle.driven_node.specs.declared.driven_node.DrivenNode.{DrivenNode}
use Rattle.driven_node.specs.declared.driven_nodes.DrivenNodes.{DrivenNodes}

-- a tick has begun, no seat has had its turn in it, and the journal has had fewer commits than there were ticks
pub record IsTickOpen (before : List Moment) (tried : ℕ) : Type 0 where
  pub fresh : is_fresh before ≡ true
  pub unturned : (panel : ℕ) (task : Task) → has_turned panel task before ≡ false
  pub unkept : has_kept before ≡ false
  pub untried : tried < tick_of before

-- a driven panel with its journal stands for some run of a site that began with nothing retained, in which a tick is
-- open where the panel says so
pub record IsDrivenNode (own : DrivenNode) : Type 0 where
  pub site : Site
  pub history : List NodeMoment
  pub member : IsPanel site.panels own.panel
  pub stands : NodeStandsFor site own.panel nothing_retained history own.node
  pub keeps : KeepsRun site nothing_retained (befallen history) own.journal
  pub images : Stands (λ (disk : MemoryDisk). Unit {0}) images_of own.disk own.journal
  pub run : IsRun site.panels (befallen history)
  pub asked : length (requests site (befallen history)) ≤ own.events
  pub few_events : own.events ≤ 1000000
  pub few_ticks : tick_of (befallen history) ≤ 1000000
  pub tried : own.journal.tried ≤ tick_of (befallen history)
  pub closed : own.has_begun ≡ false → HaveAllTurned site.panels (befallen history)
  pub opened : own.has_begun ≡ true → IsTickOpen (befallen history) own.journal.tried

-- each of some driven panels with their journals stands for some run of a site that began with nothing retained, in
-- which a tick is open where the panel says so
abbrev pub AreDriven : DrivenNodes → Type 0
AreDriven all = All IsDrivenNode all.nodes.items
