use Rattle.std.proofs.Common.{◌∷◌, ℕ, List}
use Rattle.site_types.specs.declared.retained.Retained.{Retained}
use Rattle.site_types.specs.declared.site.Site.{Site}
use Rattle.node_rules.specs.Histories.{NodeMoment, befallen}
use Rattle.panel_rules.specs.Moments.{Began, IsRun}
use Rattle.panel_node.specs.Changes.{LeavesTheRest}
use Rattle.panel_node.specs.Stands.{NodeHasApplied, NodeStandsFor}
use Rattle.panel_parts.proofs.TickDone.{so_many}
use Rattle.panel_node.proofs.node.Node.apply_done.Given as goal

-- so many of those that were done in the tick came in force
abbrev pub invariant-loop-place : goal.invariant-loop-place
invariant-loop-place l =
    record {
      same : LeavesTheRest l.fn.self l.self;
      applied : (site : Site) (panel : ℕ) (kept : Retained) (history : List NodeMoment) (h : NodeStandsFor site panel kept history l.fn.self)
          (run : IsRun site.panels (Began ∷ befallen history))
          → NodeHasApplied site panel kept history (so_many site kept (befallen history) l.fn.self.desk h.desk l.place) l.self;
    }
