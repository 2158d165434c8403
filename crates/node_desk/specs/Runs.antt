-- A panel at work by itself: what it stands for between two connections.
use Rattle.std.specs.Prelude.{◌≡◌, ◌≤◌, ℕ, List, length}
use Rattle.tick_units.specs.Ticks.{last_tick}
use Rattle.site_types.specs.declared.retained.Retained.{Retained}
use Rattle.site_types.specs.declared.site.Site.{Site}
use Rattle.panel_core.specs.Keeping.{KeepsRun}
use Rattle.panel_rules.specs.Moments.{IsPanel, TickBlock, moments}
use Rattle.panel_rules.specs.Records.{AreOrdered}
use Rattle.run_text.specs.Failures.{failures}
use Rattle.node_rules.specs.Histories.{NodeMoment, befallen}
use Rattle.node_rules.specs.Nodes.{node_face}
use Rattle.node_answers.specs.Exchanges.{at_tick_end}
use Rattle.panel_node.specs.Stands.{NodeStandsFor}
use Rattle.face_text.specs.Starts.{ArePassed}
use Rattle.node_desk.specs.declared.node_run.NodeRun.{NodeRun}

-- a panel at work by itself ran these ticks, and what befell in them is what befell in this history
pub record RunsFor (site : Site) (panel : ℕ) (kept : Retained) (history : List NodeMoment) (ticks : List TickBlock)
    (run : NodeRun) : Type 0 where
  pub node : NodeStandsFor site panel kept history run.node
  pub own : run.panel ≡ panel
  pub member : IsPanel site.panels panel
  pub befell : befallen history ≡ moments ticks
  pub ordered : AreOrdered site.panels ticks
  pub keeps : KeepsRun site kept (moments ticks) run.journal
  pub tried : run.journal.tried ≤ length ticks
  pub shown : run.shown ≡ node_face site panel (at_tick_end history) kept
  pub failed : run.store_failures ≡ failures ticks
  pub few : length ticks ≤ last_tick
  pub starts : ArePassed site run.starts

-- it ran some ticks
pub record RunsSome (run : NodeRun) : Type 0 where
  pub site : Site
  pub panel : ℕ
  pub kept : Retained
  pub history : List NodeMoment
  pub ticks : List TickBlock
  pub runs : RunsFor site panel kept history ticks run

-- a panel at work by itself ran so many ticks, whatever it stands for
abbrev pub HasTicks : NodeRun → ℕ → Type 0
HasTicks run count =
    (site : Site) (panel : ℕ) (kept : Retained) (history : List NodeMoment) (ticks : List TickBlock)
    → RunsFor site panel kept history ticks run → count ≡ length ticks
