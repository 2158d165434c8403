use Rattle.std.proofs.Common.{◌≡◌, ℕ, List, take}
use Rattle.site_types.specs.declared.site.Site.{Site}
use Rattle.panel_rules.specs.Markers.{Facts}
use Rattle.panel_rules.specs.Moments.{Moment}
use Rattle.panel_rules.specs.Outputs.{confirmations}
use Rattle.plain_outputs.specs.Drives.{AreSeen, greatest}
use Rattle.plain_outputs.proofs.on.last_confirmation.Given as goal

abbrev pub invariant-loop-one : goal.invariant-loop-one
invariant-loop-one l = (site : Site) (facts : ℕ → List Moment → Facts) (history : List Moment) → AreSeen site facts (take l.one-index l.seen) history
    → l.last.0 ≡ greatest (confirmations l.output history)
