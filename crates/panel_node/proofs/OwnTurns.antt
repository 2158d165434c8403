-- A turn of a task of the panel: when its parts and its desk may have it, and what it makes of the panel.
use Rattle.std.proofs.Common.{◌≡◌, ◌≢◌, ◌-◌, ◌∙◌, ◌≤◌, ℕ, List, [], ◌∷◌, inl, inr, refl, ap, arith}
use Rattle.std.specs.Prelude.{slice_index}
use Rattle.tick_units.specs.declared.task.Task.{Task}
use Rattle.tick_units.specs.Ticks.{last_tick}
use Rattle.tick_units.specs.declared.task.Task.TheVariants.{Desk as DeskTask, Link, Effect, Drive}
use Rattle.site_types.specs.declared.retained.Retained.{Retained}
use Rattle.site_types.specs.declared.site.Site.{Site}
use Rattle.site_types.specs.declared.word.Word.{Word}
use Rattle.hold_calls.specs.Told.{Told}
use Rattle.hold_calls.specs.Turns.{hold_turns}
use Rattle.hold_calls.proofs.WordsHeld.{word_by_told}
use Rattle.kept_words.specs.declared.kept_words.KeptWords.{KeptWords}
use Rattle.kept_words.specs.Kept.{HearsOwn}
use Rattle.marker_table.specs.declared.facts.Facts.{Facts as Masks}
use Rattle.node_rules.specs.Histories.{Befell, NodeMoment, befallen, frames_in}
use Rattle.operation_desk.specs.declared.desk.Desk.{Desk}
use Rattle.operation_desk.specs.Stands.{CanTurn, DesksFor, MayTakeTurn}
use Rattle.panel_conditions.specs.Words.{word_after}
use Rattle.panel_effects.specs.declared.effects.Effects.{Effects as EffectsPart}
use Rattle.panel_effects.specs.Changes.{MakesEffectTurn}
use Rattle.panel_effects.specs.Masks.{AreMasksOf}
use Rattle.panel_laws.proofs.EventsOfSite.{of_site}
use Rattle.panel_parts.specs.declared.parts.Parts.{Parts}
use Rattle.panel_parts.specs.Applied.{applied}
use Rattle.panel_parts.specs.Changes.{MakesDriveTurn, MakesTurn as PartsMakeTurn}
use Rattle.panel_parts.specs.Stands.{MayTurn as PartsMayTurn}
use Rattle.panel_parts.proofs.Applied.{applied_past}
use Rattle.panel_parts.proofs.Counts.{counts_stay}
use Rattle.panel_parts.proofs.Panels.{after_effect, after_elsewhere}
use Rattle.panel_parts.proofs.Settings.{applied_latest_first, are_off}
use Rattle.panel_rules.specs.Moments.{Moment, Turned, IsRun, tick_of}
use Rattle.panel_node.specs.declared.node.Node.{Node}
use Rattle.panel_node.specs.Changes.{MakesTurn}
use Rattle.panel_node.specs.Stands.{MayTurn, MayTurnOwn, NodeStandsFor}
use Rattle.panel_node.specs.Told.{arrived, word_of_itself, told_by_frames}
use Rattle.panel_node.proofs.Desks.{desk_left}
use Rattle.panel_node.proofs.KeptWords.{made_again}
use Rattle.panel_node.proofs.Next.{stands_further, stands_next, stands_turned}
use Rattle.panel_node.proofs.Words.{own_at_link}

-- ---- one turn after another

-- what befell the panel with the turns of these tasks, the latest first
abbrev pub and_tasks : ℕ → List Task → List NodeMoment → List NodeMoment
and_tasks panel [] history = history
and_tasks panel (task ∷ tasks) history = Befell (Turned panel task) ∷ and_tasks panel tasks history

-- these tasks had their turns
pub record MakeTheirTurns (old : Node) (tasks : List Task) (node : Node) : Type 0 where
  pub makes : (site : Site) (panel : ℕ) (kept : Retained) (history : List NodeMoment) → NodeStandsFor site panel kept history old
      → IsRun site.panels (befallen (and_tasks panel tasks history)) → NodeStandsFor site panel kept (and_tasks panel tasks history) node

pub first_turn : {old node : Node} {task : Task} → MakesTurn old task node → MakeTheirTurns old (task ∷ []) node
first_turn turn = record { makes = turn }

pub then_turn : {old between node : Node} {tasks : List Task} {task : Task} → MakeTheirTurns old tasks between → MakesTurn between task node
    → MakeTheirTurns old (task ∷ tasks) node
then_turn {old} {between} {node} {tasks} {task} first turn = record {
  makes = λ site panel kept history h run. turn site panel kept (and_tasks panel tasks history) (first.makes site panel kept history h run.0) run;
}

-- then another may have its turn
pub may_turn_then : {old node : Node} {tasks : List Task} {task : Task} (may : MayTurnOwn old) → MakeTheirTurns old tasks node
    → IsRun may.site.panels (Turned may.panel task ∷ befallen (and_tasks may.panel tasks may.history)) → MayTurn task node
may_turn_then {old} {node} {tasks} {task} may make run = record {
  site = may.site;
  panel = may.panel;
  kept = may.kept;
  history = and_tasks may.panel tasks may.history;
  stands = make.makes may.site may.panel may.kept may.history may.stands run.0;
  run = run;
  few = same_tick tasks;
}
  where
    same_tick : (all : List Task) → tick_of (befallen (and_tasks may.panel all may.history)) ≤ last_tick
    same_tick [] = may.few
    same_tick (one ∷ all) = same_tick all

-- ---- what a turn makes

pub parts_may_turn : (task : Task) (node : Node) → MayTurn task node → PartsMayTurn task node.tick.0 node.parts
parts_may_turn task node may = record {
  site = may.site;
  kept = may.kept;
  done = applied may.site may.kept (befallen may.history);
  told = told_by_frames may.site may.kept (applied may.site may.kept (befallen may.history)) may.panel may.history;
  panel = may.panel;
  before = befallen may.history;
  stands = may.stands.parts;
  past = applied_past may.site may.kept (befallen may.history);
  run = may.run;
  now = may.stands.tick;
  few = may.few;
}

-- a turn that only the parts make
pub made_by_parts : (task : Task) (node : Node) (parts : Parts) → task ≢ DeskTask → task ≢ Link → PartsMakeTurn node.parts task node.tick.0 parts
    → MakesTurn node task (record node { parts = parts })
made_by_parts task node parts other apart made site panel kept history h run =
    stands_turned site panel kept history node h task parts other apart
    (made site kept (applied site kept (befallen history)) (told_by_frames site kept (applied site kept (befallen history)) panel history) panel (befallen history)
    h.parts (applied_past site kept (befallen history)) h.tick run)

module _ (site : Site) (panel : ℕ) (kept : Retained) (history : List NodeMoment) (node : Node) (h : NodeStandsFor site panel kept history node) where
  abbrev before : List Moment
  before = befallen history

  abbrev told : Told
  told = told_by_frames site kept (applied site kept before) panel history

  -- ---- Desk

  desk_may : IsRun site.panels (Turned panel DeskTask ∷ before) → MayTakeTurn site kept node.settings panel before
  desk_may run = record { valid = h.valid; member = h.parts.member; run = run; of = of_site site before h.events; in_force = h.settings }

  pub desk_can_turn : IsRun site.panels (Turned panel DeskTask ∷ before) → CanTurn node.site node.settings node.panel node.desk
  desk_can_turn run = rw (h.same, h.own) (record { kept = kept; before = before; stands = h.desk; may = desk_may run })

  pub desk_turned : (desk : Desk) → IsRun site.panels (Turned panel DeskTask ∷ before)
      → (DesksFor node.site kept before node.desk → MayTakeTurn node.site kept node.settings node.panel before
      → DesksFor node.site kept (Turned node.panel DeskTask ∷ before) desk)
      → NodeStandsFor site panel kept (Befell (Turned panel DeskTask) ∷ history) (record node { desk = desk })
  desk_turned desk run takes =
      stands_further site panel kept history node h (Turned panel DeskTask) refl h.events h.own_events node.parts desk (λ e. cc) refl
      (after_elsewhere site kept (applied site kept before) told panel panel before node.parts DeskTask (inl refl) h.parts)
      (rw (h.same, h.own) at takes h.desk (desk_may run))

  -- ---- Link

  pub link_turned : (word : Word) (words : KeptWords) → word ≡ word_after site kept panel (applied site kept before) (hold_turns site kept (applied site kept before) told panel before)
      → IsRun site.panels before → HearsOwn node.words word words
      → NodeStandsFor site panel kept (Befell (Turned panel Link) ∷ history) (record node { words = words })
  link_turned word words is run hears =
      stands_next site panel kept history node h (Turned panel Link) refl h.events h.own_events node.parts words word node.desk node.counts
      (after_elsewhere site kept (applied site kept before) told panel panel before node.parts Link (inr (inl refl)) h.parts)
      (is ∙ word_by_told site kept (applied site kept before) told panel before h.valid h.parts.member run
      ∙ own_at_link site kept (applied site kept before) panel history)
      (made_again site.panels panel words (frames_in history) word (word_of_itself site kept (applied site kept before) panel history before)
      (hears site.panels panel (arrived site kept (applied site kept before) panel history) h.words))
      (desk_left site kept before node.desk panel h.desk Link (λ e. cc))
      (counts_stay site kept before (Turned panel Link) node.counts (λ e. cc) h.counts)

  -- ---- Effect and Drive

  pub effect_turned : (masks : Masks) (effects : EffectsPart) → AreMasksOf site (told.facts panel before) masks
      → MakesEffectTurn node.plan node.panel masks node.parts.effects effects
      → NodeStandsFor site panel kept (Befell (Turned panel Effect) ∷ history) (record node { parts = record node.parts { effects = effects } })
  effect_turned masks effects are makes =
      stands_turned site panel kept history node h Effect (record node.parts { effects = effects }) (λ e. cc) (λ e. cc)
      (after_effect site kept (applied site kept before) told panel before node.parts effects h.parts
      (rw h.own at makes site told.facts before h.plan.is h.parts.effects are))

  pub drive_turned : (off : ℕ) (parts : Parts) → off ≡ slice_index node.settings.outputs (node.panel - 1) → MakesDriveTurn node.parts node.tick.0 off parts
      → NodeStandsFor site panel kept (Befell (Turned panel Drive) ∷ history) (record node { parts = parts })
  drive_turned off parts read makes =
      stands_turned site panel kept history node h Drive parts (λ e. cc) (λ e. cc)
      (makes site kept (applied site kept before) told panel before h.parts h.tick h.plan.free (applied_latest_first site kept before)
      (are_off site kept before node.settings panel off h.settings (read ∙ ap (λ p. slice_index node.settings.outputs (p - 1)) h.own)))

  -- where it may have a turn in one history, the tick is early enough in each
  pub few_here : {task : Task} → MayTurn task node → tick_of before ≤ last_tick
  few_here may = (let there = may.stands.tick in let here = h.tick in let few = may.few in omega (arith, there, here, few))
