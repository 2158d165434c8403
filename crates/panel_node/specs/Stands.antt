-- What a panel by itself stands for, after a history.
use Rattle.std.specs.Prelude.{◌≡◌, ◌<◌, ◌≤◌, ◌+◌, ◌-◌, ◌^◌, ℕ, true, false, List, ◌∷◌, length}
use Rattle.tick_units.specs.declared.task.Task.{Task}
use Rattle.tick_units.specs.Orders.{panel_seats}
use Rattle.tick_units.specs.Ticks.{last_tick}
use Rattle.site_types.specs.declared.event.Event.{Event}
use Rattle.site_types.specs.declared.retained.Retained.{Retained}
use Rattle.site_types.specs.declared.site.Site.{Site}
use Rattle.site_types.specs.Changes.{IsSized}
use Rattle.site_types.specs.Done.{Done}
use Rattle.site_types.specs.Events.{has_event}
use Rattle.site_types.specs.Valid.{IsValid}
use Rattle.kept_words.specs.Stands.{KeepsArrived}
use Rattle.node_inputs.specs.OwnEvents.{is_event_of}
use Rattle.node_rules.specs.Histories.{NodeMoment, befallen}
use Rattle.node_rules.specs.NodeLaws.{AreFramesTo}
use Rattle.operation_desk.specs.Replies.{AreInForce}
use Rattle.operation_desk.specs.Stands.{DesksFor}
use Rattle.panel_frames.specs.Grammar.{IsFrame}
use Rattle.panel_laws.specs.OperationLaws.{AreEventsOf}
use Rattle.panel_links.specs.declared.frame.Frame.{Frame}
use Rattle.panel_parts.specs.Applied.{MayBeApplied, applied, done_so_far}
use Rattle.panel_parts.specs.Entries.{CountsFor}
use Rattle.panel_parts.specs.Stands.{HasPlan, PanelStands}
use Rattle.panel_rules.specs.Moments.{Began, Turned, IsRun, and_turns, tick_of}
use Rattle.panel_rules.specs.Operations.{requests}
use Rattle.settings_shown.specs.Shown.{HasNoStrangeBits}
use Rattle.panel_node.specs.declared.node.Node.{Node}
use Rattle.panel_node.specs.Seats.{AreOwnEvents}
use Rattle.panel_node.specs.Told.{arrived, told_by_frames}

-- a panel of a site that was opened with what was kept; only what is its own befell it, and each frame that came is
-- one that it may get
pub record NodeStandsFor (site : Site) (panel : ℕ) (kept : Retained) (history : List NodeMoment) (node : Node) :
    Type 0 where
  pub valid : IsValid site
  pub same : node.site ≡ site
  pub own : node.panel ≡ panel
  pub plan : HasPlan site node.plan
  pub tick : node.tick.0 ≡ tick_of (befallen history)
  pub parts : PanelStands site kept (applied site kept (befallen history))
      (told_by_frames site kept (applied site kept (befallen history)) panel history) panel (befallen history)
      node.parts
  pub words : KeepsArrived site.panels panel
      (arrived site kept (applied site kept (befallen history)) panel history) node.words
  pub events : AreEventsOf site (befallen history)
  pub own_events : AreOwnEvents site panel (befallen history)
  pub frames : AreFramesTo site panel history
  pub desk : DesksFor site kept (befallen history) node.desk
  pub settings : AreInForce site kept (tick_of (befallen history)) (done_so_far site kept (befallen history))
      node.settings
  pub sized : IsSized node.settings
  pub things : HasNoStrangeBits site node.settings
  pub counts : CountsFor site kept (befallen history) node.counts

-- at the end of a tick a list of operations is applied to the parts and settings of a panel by itself
pub record NodeHasApplied (site : Site) (panel : ℕ) (kept : Retained) (history : List NodeMoment) (done : List Done)
    (node : Node) : Type 0 where
  pub valid : IsValid site
  pub same : node.site ≡ site
  pub own : node.panel ≡ panel
  pub tick : node.tick.0 ≡ tick_of (befallen history)
  pub parts : PanelStands site kept done (told_by_frames site kept done panel history) panel (befallen history)
      node.parts
  pub settings : AreInForce site kept (tick_of (befallen history) + 1) done node.settings
  pub sized : IsSized node.settings
  pub things : HasNoStrangeBits site node.settings

-- at the end of a tick an operation done in it comes in force at a panel by itself, after those that the panel has
-- applied
pub record MayApply (d : Done) (node : Node) : Type 0 where
  pub site : Site
  pub panel : ℕ
  pub kept : Retained
  pub history : List NodeMoment
  pub done : List Done
  pub has : NodeHasApplied site panel kept history done node
  pub may : MayBeApplied site (befallen history) done d

-- a tick may begin
pub record MayBegin (node : Node) : Type 0 where
  pub site : Site
  pub panel : ℕ
  pub kept : Retained
  pub history : List NodeMoment
  pub stands : NodeStandsFor site panel kept history node
  pub run : IsRun site.panels (Began ∷ befallen history)

-- an event of the panel may happen: the site has what it names; over a run fewer than 2 ^ 64 operations are asked for
pub record MayHappen (event : Event) (node : Node) : Type 0 where
  pub site : Site
  pub panel : ℕ
  pub kept : Retained
  pub history : List NodeMoment
  pub stands : NodeStandsFor site panel kept history node
  pub has : has_event site event ≡ true
  pub own : is_event_of site panel event ≡ true
  pub few : length (requests site (befallen history)) < 2 ^ 64 - 1

-- a frame may come: it is in the grammar for the panel
pub record MayReceive (frame : Frame) (node : Node) : Type 0 where
  pub site : Site
  pub panel : ℕ
  pub kept : Retained
  pub history : List NodeMoment
  pub stands : NodeStandsFor site panel kept history node
  pub framed : IsFrame site panel frame

-- a task of the panel may have its turn
pub record MayTurn (task : Task) (node : Node) : Type 0 where
  pub site : Site
  pub panel : ℕ
  pub kept : Retained
  pub history : List NodeMoment
  pub stands : NodeStandsFor site panel kept history node
  pub run : IsRun site.panels (Turned panel task ∷ befallen history)
  pub few : tick_of (befallen history) ≤ last_tick

-- all its tasks may have their turns, one after another
pub record MayTurnOwn (node : Node) : Type 0 where
  pub site : Site
  pub panel : ℕ
  pub kept : Retained
  pub history : List NodeMoment
  pub stands : NodeStandsFor site panel kept history node
  pub run : IsRun site.panels (and_turns false (panel_seats panel) (befallen history))
  pub few : tick_of (befallen history) ≤ last_tick

-- a panel by itself stands for some history
pub record StandsForHistory (node : Node) : Type 0 where
  pub site : Site
  pub panel : ℕ
  pub kept : Retained
  pub history : List NodeMoment
  pub stands : NodeStandsFor site panel kept history node
