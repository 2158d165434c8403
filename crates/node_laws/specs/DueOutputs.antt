-- Which outputs a panel that runs by itself has on for its own zones.
use Rattle.std.specs.Prelude.{◌≡◌, ◌≢◌, ◌⊎◌, ℕ, true, List, Some, slice_get}
use Rattle.site_types.specs.declared.output.Output.{Output}
use Rattle.site_types.specs.declared.retained.Retained.{Retained}
use Rattle.site_types.specs.declared.site.Site.{Site}
use Rattle.panel_rules.specs.DueOutputs.{IsDueAskedByHand, IsDueThrough}
use Rattle.panel_rules.specs.Moments.{Moment}
use Rattle.panel_laws.specs.FaceLaws.{HasEnded, shows_output}
use Rattle.node_rules.specs.Histories.{NodeMoment, befallen}
use Rattle.node_rules.specs.Nodes.{node_done, node_face}
use Rattle.node_rules.specs.QuietPanels.{HasQuietPoints}
use Rattle.node_laws.specs.MayBeOn.{MayBeOn}

-- nothing was reported on the points of the other panels
abbrev pub AreOthersQuiet : Site → ℕ → List Moment → Type 0
AreOthersQuiet site panel moments = (other : ℕ) → other ≢ panel → HasQuietPoints site other moments

-- the output is due to be on: it is due to be asked by hand, or was due to be asked for as long as its delay, and may
-- be on
pub record IsDueAtNode (site : Site) (panel : ℕ) (kept : Retained) (history : List NodeMoment) (output : ℕ)
    : Type 0 where
  pub free : MayBeOn site panel kept history output
  pub asked : IsDueAskedByHand site kept (node_done site panel history kept) (befallen history) output
      ⊎ IsDueThrough site kept (node_done site panel history kept) (befallen history) output

-- an output that is due to be on is shown on in the face of its panel, where nothing was reported on the points of the
-- other panels
abbrev pub DueAtNodeIsOn : Type 0
DueAtNodeIsOn =
    (site : Site) (kept : Retained) (history : List NodeMoment) (output : ℕ) (plan : Output)
    → HasEnded site (befallen history) → AreOthersQuiet site plan.panel (befallen history)
    → slice_get site.outputs output ≡ Some plan → IsDueAtNode site plan.panel kept history output
    → shows_output (node_face site plan.panel history kept) plan ≡ true
