-- What the beginning of a tick, events, frames and turns make of a panel by itself, whatever it stood for.
use Rattle.std.specs.Prelude.{◌≡◌, ℕ, false, List, ◌∷◌}
use Rattle.tick_units.specs.declared.task.Task.{Task}
use Rattle.tick_units.specs.Orders.{panel_seats}
use Rattle.site_types.specs.declared.event.Event.{Event}
use Rattle.site_types.specs.declared.retained.Retained.{Retained}
use Rattle.site_types.specs.declared.site.Site.{Site}
use Rattle.site_types.specs.Done.{Done}
use Rattle.node_rules.specs.Histories.{Befell, FrameCame, NodeMoment, befallen}
use Rattle.panel_links.specs.declared.frame.Frame.{Frame}
use Rattle.panel_parts.specs.Applied.{MayBeApplied, done_so_far}
use Rattle.panel_rules.specs.Moments.{Began, Happened, Turned, IsRun, and_turns, tick_of}
use Rattle.panel_node.specs.declared.node.Node.{Node}
use Rattle.panel_node.specs.Seats.{and_seats}
use Rattle.panel_node.specs.Stands.{NodeHasApplied, NodeStandsFor}

-- a tick began: the one after that which began last
abbrev pub BeginsTick : Node → ℕ → Node → Type 0
BeginsTick old tick node =
    (site : Site) (panel : ℕ) (kept : Retained) (history : List NodeMoment)
    → NodeStandsFor site panel kept history old → tick ≡ tick_of (Began ∷ befallen history)
    → IsRun site.panels (Began ∷ befallen history)
    → NodeStandsFor site panel kept (Befell Began ∷ history) node

-- an event happened
abbrev pub TakesEvent : Node → Event → Node → Type 0
TakesEvent old event node =
    (site : Site) (panel : ℕ) (kept : Retained) (history : List NodeMoment)
    → NodeStandsFor site panel kept history old
    → NodeStandsFor site panel kept (Befell (Happened event) ∷ history) node

-- a frame came
abbrev pub TakesFrame : Node → Frame → Node → Type 0
TakesFrame old frame node =
    (site : Site) (panel : ℕ) (kept : Retained) (history : List NodeMoment)
    → NodeStandsFor site panel kept history old
    → NodeStandsFor site panel kept (FrameCame frame ∷ history) node

-- a task of the panel had its turn
abbrev pub MakesTurn : Node → Task → Node → Type 0
MakesTurn old task node =
    (site : Site) (panel : ℕ) (kept : Retained) (history : List NodeMoment)
    → NodeStandsFor site panel kept history old → IsRun site.panels (Turned panel task ∷ befallen history)
    → NodeStandsFor site panel kept (Befell (Turned panel task) ∷ history) node

-- all its tasks had their turns, one after another
abbrev pub MakesOwnTurns : Node → Node → Type 0
MakesOwnTurns old node =
    (site : Site) (panel : ℕ) (kept : Retained) (history : List NodeMoment)
    → NodeStandsFor site panel kept history old
    → IsRun site.panels (and_turns false (panel_seats panel) (befallen history))
    → NodeStandsFor site panel kept (and_seats false (panel_seats panel) history) node

-- all but its parts and settings is as it was
pub record LeavesTheRest (old node : Node) : Type 0 where
  pub site : node.site ≡ old.site
  pub plan : node.plan ≡ old.plan
  pub digest : node.digest ≡ old.digest
  pub panel : node.panel ≡ old.panel
  pub words : node.words ≡ old.words
  pub tick : node.tick ≡ old.tick
  pub desk : node.desk ≡ old.desk
  pub counts : node.counts ≡ old.counts

-- an operation that was done in the tick that ends comes in force
abbrev pub AppliesOne : Node → Done → Node → Type 0
AppliesOne old d node =
    (site : Site) (panel : ℕ) (kept : Retained) (history : List NodeMoment) (done : List Done)
    → NodeHasApplied site panel kept history done old → MayBeApplied site (befallen history) done d
    → NodeHasApplied site panel kept history (d ∷ done) node

-- all that were done so far come in force
abbrev pub AppliesAll : Node → Node → Type 0
AppliesAll old node =
    (site : Site) (panel : ℕ) (kept : Retained) (history : List NodeMoment)
    → NodeStandsFor site panel kept history old → IsRun site.panels (Began ∷ befallen history)
    → NodeHasApplied site panel kept history (done_so_far site kept (befallen history)) node
