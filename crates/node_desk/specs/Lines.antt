-- What the lines of a block tell a panel by itself.
use Rattle.std.specs.Prelude.{◌≡◌, ◌≤◌, ℕ, List, [], ◌∷◌, ◌++◌, length, map, None}
use Rattle.desk_runs.specs.Ticks.{HasRoomForTick, block_of, lines_behind}
use Rattle.desk_ticks.specs.Blocks.{most_block_bytes}
use Rattle.node_inputs.specs.OwnBlocks.{own_refusal_behind}
use Rattle.node_rules.specs.Histories.{NodeMoment, Befell, befallen}
use Rattle.panel_node.specs.Changes.{TakesEvent}
use Rattle.panel_node.specs.Stands.{MayHappen, NodeStandsFor}
use Rattle.panel_node.specs.declared.node.Node.{Node}
use Rattle.panel_rules.specs.Moments.{Moment, TickBlock, Began, and_events, moments}
use Rattle.record_lines.specs.declared.line.Line.{Line}
use Rattle.record_lines.specs.declared.line.Line.TheVariants as line
use Rattle.record_lines.specs.declared.step.Step.{Step}
use Rattle.record_lines.specs.declared.step.Step.TheVariants.{Need, Line as LineStep, Refused}
use Rattle.site_types.specs.declared.retained.Retained.{Retained}
use Rattle.site_types.specs.declared.site.Site.{Site}

-- a history in which a tick has begun, with what these lines tell
abbrev pub with_lines : Site → List Line → List NodeMoment → List NodeMoment
with_lines site lines history =
    map (λ (moment : Moment). Befell moment) (and_events (block_of site lines).events (Began ∷ [])) ++ history

-- a tick has begun behind this history, and the lines behind the first of its block are yet to be told
pub record MayTellWith (site : Site) (panel : ℕ) (kept : Retained) (history : List NodeMoment) (ticks : List TickBlock)
    (rest : List ℕ) (node : Node) : Type 0 where
  pub stands : NodeStandsFor site panel kept (with_lines site [] history) node
  pub befell : befallen history ≡ moments ticks
  pub accepted : own_refusal_behind site panel rest ≡ None
  pub short : length rest ≤ most_block_bytes
  pub room : HasRoomForTick ticks

pub record MayTellLines (rest : List ℕ) (node : Node) : Type 0 where
  pub site : Site
  pub panel : ℕ
  pub kept : Retained
  pub history : List NodeMoment
  pub ticks : List TickBlock
  pub with : MayTellWith site panel kept history ticks rest node

-- the lines behind the first of a block were told, each of them an event of the panel, and no byte tells more than one
pub record ToldLines (site : Site) (panel : ℕ) (kept : Retained) (history : List NodeMoment) (rest : List ℕ)
    (node : Node) : Type 0 where
  pub stands : NodeStandsFor site panel kept (with_lines site (lines_behind site rest) history) node
  pub order : (block_of site (lines_behind site rest)).order ≡ (block_of site []).order
  pub few : length (lines_behind site rest) ≤ length rest

abbrev pub TellsLines : List ℕ → Node → Node → Type 0
TellsLines rest old node =
    (site : Site) (panel : ℕ) (kept : Retained) (history : List NodeMoment) (ticks : List TickBlock)
    → MayTellWith site panel kept history ticks rest old → ToldLines site panel kept history rest node

-- what a reader answered may be told
abbrev pub MayTellStep : Step → Node → Type 0
MayTellStep Need node = Unit {0}
MayTellStep (LineStep (line.Tick tick)) node = Unit {0}
MayTellStep (LineStep (line.Event event)) node = MayHappen event node
MayTellStep (LineStep (line.Order order)) node = Unit {0}
MayTellStep (LineStep line.End) node = Unit {0}
MayTellStep (Refused refusal) node = Unit {0}

-- an event was told, and nothing else changes the panel
abbrev pub TellsStep : Step → Node → Node → Type 0
TellsStep Need old node = node ≡ old
TellsStep (LineStep (line.Tick tick)) old node = node ≡ old
TellsStep (LineStep (line.Event event)) old node = TakesEvent old event node
TellsStep (LineStep (line.Order order)) old node = node ≡ old
TellsStep (LineStep line.End) old node = node ≡ old
TellsStep (Refused refusal) old node = node ≡ old
