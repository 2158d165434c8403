-- What a turn of a task asks of the parts of its panel, and what it makes of the system.
use Rattle.std.proofs.Common.{◌≡◌, ◌≢◌, ◌-◌, ◌<◌, ℕ, List, ◌∷◌, length, get_or, arith}
use Rattle.std.specs.Vec.{with_item}
use Rattle.tick_units.specs.declared.task.Task.{Task}
use Rattle.tick_units.specs.declared.task.Task.TheVariants.{Desk as DeskTask, Link}
use Rattle.site_types.specs.declared.retained.Retained.{Retained}
use Rattle.site_types.specs.declared.site.Site.{Site}
use Rattle.hold_calls.specs.Told.{told_in_ring}
use Rattle.panel_links.specs.Stands.{HasPanel as RingHasPanel}
use Rattle.panel_rules.specs.Moments.{Moment, Turned, IsPanel}
use Rattle.panel_parts.specs.declared.parts.Parts.{Parts}
use Rattle.panel_core.specs.declared.system.System.{System}
use Rattle.panel_parts.specs.Applied.{applied}
use Rattle.panel_parts.specs.Changes.{MakesTurn}
use Rattle.panel_core.specs.Changes.{MakesTaskTurn}
use Rattle.panel_parts.specs.Stands.{MayTurn}
use Rattle.panel_core.specs.Stands.{MayTurnTask, StandsFor, StandsInRing}
use Rattle.panel_parts.proofs.Applied.{applied_past}
use Rattle.panel_core.proofs.Events.{panel_read}
use Rattle.panel_core.proofs.TaskTurns.{member_too}
use Rattle.panel_core.proofs.Whole.{stands_after_turn}

module _ {panel : ℕ} {task : Task} {system : System} (may : MayTurnTask panel task system) where
  pub place_there : panel - 1 < length system.panels.items
  place_there = let p = may.member in let count = may.stands.count in omega (arith, p.0, p.1, count)

  pub ring_there : RingHasPanel system.ring panel
  ring_there = let p = may.member in let size = may.stands.ring.size in (p.0, omega (arith, p.1, size))

  pub parts_may_turn : (parts : Parts) → parts ≡ get_or system.panels.items (panel - 1) parts → MayTurn task system.tick.0 parts
  parts_may_turn parts read = record {
    site = may.site;
    kept = may.kept;
    done = applied may.site may.kept may.before;
    told = told_in_ring may.site may.kept (applied may.site may.kept may.before) panel;
    panel = panel;
    before = may.before;
    stands = panel_read may.site may.kept may.before system panel parts may.stands may.member read;
    past = applied_past may.site may.kept may.before;
    run = may.run;
    now = may.stands.tick;
    few = may.few;
  }

  -- for each run that the system stands for
  module _ {site : Site} {kept : Retained} {before : List Moment} (h : StandsFor site kept before system) where
    pub member_here : IsPanel site.panels panel
    member_here = member_too site may.site kept may.kept before may.before system panel may.stands may.member h

    pub parts_here : (parts : Parts) → parts ≡ get_or system.panels.items (panel - 1) parts → StandsInRing site kept (applied site kept before) panel before parts
    parts_here parts read = panel_read site kept before system panel parts h member_here read

    pub system_after : task ≢ DeskTask → task ≢ Link → (parts : Parts)
        → StandsInRing site kept (applied site kept before) panel (Turned panel task ∷ before) parts
        → StandsFor site kept (Turned panel task ∷ before) (record system { panels = with_item system.panels (panel - 1) parts })
    system_after other apart parts stands =
        let first = member_here.0 in
        stands_after_turn site kept before system panel task parts h first other apart stands

  -- so a turn that only the parts of the panel make
  pub made_by_parts : (parts after : Parts) → parts ≡ get_or system.panels.items (panel - 1) parts → task ≢ DeskTask → task ≢ Link
      → MakesTurn parts task system.tick.0 after
      → MakesTaskTurn system panel task (record system { panels = with_item system.panels (panel - 1) after })
  made_by_parts parts after read other apart made site kept before h run =
      system_after h other apart after
      (made site kept (applied site kept before) (told_in_ring site kept (applied site kept before) panel) panel before (parts_here h parts read) (applied_past site kept before) h.tick run)
