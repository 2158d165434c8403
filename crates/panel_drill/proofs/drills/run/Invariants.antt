use Rattle.std.proofs.Common.{ℕ}
use Rattle.site_types.specs.declared.site.Site.{Site}
use Rattle.panel_drill.specs.Running.{IsAfter}
use Rattle.panel_drill.proofs.drills.run.Given as goal

-- so many ticks were run
abbrev pub invariant-loop-before : goal.invariant-loop-before
invariant-loop-before l =
    (site : Site) (seed : ℕ) → IsAfter site seed 0 l.fn.running → IsAfter site seed l.before l.running
