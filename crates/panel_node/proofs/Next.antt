-- What a moment within a tick makes of a panel, by what it makes of its parts, words, desk and counts.
use Rattle.std.proofs.Common.{◌≡◌, ◌≢◌, ◌∙◌, ◌==◌, ◌&&◌, ℕ, Bool, true, false, List, ◌∷◌, refl, sym, ap, subst}
use Rattle.std.proofs.lemmas.Bool.{ne_eqb}
use Rattle.tick_units.specs.declared.task.Task.{Task}
use Rattle.tick_units.specs.declared.task.Task.TheVariants.{Desk as DeskTask, Link}
use Rattle.tick_units.specs.Orders.{task_number}
use Rattle.site_types.specs.declared.retained.Retained.{Retained}
use Rattle.site_types.specs.declared.site.Site.{Site}
use Rattle.site_types.specs.declared.word.Word.{Word}
use Rattle.site_types.specs.Done.{Done}
use Rattle.kept_words.specs.declared.kept_words.KeptWords.{KeptWords}
use Rattle.kept_words.specs.Arrivals.{Made}
use Rattle.kept_words.specs.Stands.{KeepsArrived}
use Rattle.node_rules.specs.Handed.{own_tells}
use Rattle.node_rules.specs.Histories.{Befell, NodeMoment, befallen, frames_in}
use Rattle.node_rules.specs.Nodes.{node_up, node_words}
use Rattle.operation_desk.specs.declared.desk.Desk.{Desk}
use Rattle.operation_desk.specs.Stands.{DesksFor}
use Rattle.panel_laws.specs.OperationLaws.{AreEventsOf}
use Rattle.panel_parts.specs.declared.kept_counts.KeptCounts.{KeptCounts}
use Rattle.panel_parts.specs.declared.parts.Parts.{Parts}
use Rattle.panel_parts.specs.Applied.{applied}
use Rattle.panel_parts.specs.Entries.{CountsFor}
use Rattle.panel_parts.specs.Stands.{PanelStands}
use Rattle.panel_parts.proofs.Applied.{applied_stays, settings_stay}
use Rattle.panel_parts.proofs.Counts.{counts_stay}
use Rattle.panel_parts.proofs.Operations.{stands_alike}
use Rattle.panel_parts.proofs.Panels.{others_stay}
use Rattle.panel_rules.specs.Kept.{made_at}
use Rattle.panel_rules.specs.Moments.{Moment, Turned, Kept, before_turn, is_turn, tick_of}
use Rattle.panel_rules.specs.Words.{word_made}
use Rattle.panel_node.specs.declared.node.Node.{Node}
use Rattle.panel_node.specs.Seats.{AreOwnEvents}
use Rattle.panel_node.specs.Stands.{NodeStandsFor}
use Rattle.panel_node.specs.Told.{arrived, word_of_itself, told_by_frames}
use Rattle.panel_node.proofs.Desks.{desk_idle, desk_left}
use Rattle.panel_node.proofs.Histories.{agree_moment, own_moment}
use Rattle.panel_node.proofs.OwnEvents.{none_asked}

-- a moment that isn't the panel's turn of Link leaves the word that it keeps of itself
pub own_stays : (site : Site) (kept : Retained) (done : List Done) (panel : ℕ) (moment : Moment) (history : List NodeMoment)
    → before_turn panel Link (moment ∷ befallen history) ≡ before_turn panel Link (befallen history)
    → word_of_itself site kept done panel history (befallen history) ≡ word_of_itself site kept done panel (Befell moment ∷ history) (moment ∷ befallen history)
own_stays site kept done panel moment history turn =
    own_moment site kept done panel moment history
    ∙ ap (λ b. word_made site kept done (λ source. own_tells site kept done panel (node_words site panel (Befell moment ∷ history)) (node_up site panel (Befell moment
    ∷ history))) panel (made_at panel b)) (sym turn)

module _ (site : Site) (panel : ℕ) (kept : Retained) (history : List NodeMoment) (node : Node) (h : NodeStandsFor site panel kept history node) where
  abbrev pub before : List Moment
  before = befallen history

  abbrev pub done : List Done
  done = applied site kept before

  module _ (moment : Moment) (same_tick : tick_of (moment ∷ before) ≡ tick_of before) (events : AreEventsOf site (moment ∷ before))
      (own_events : AreOwnEvents site panel (moment ∷ before)) where
    parts_more : (parts : Parts) → PanelStands site kept done (told_by_frames site kept done panel history) panel (moment ∷ before) parts
        → PanelStands site kept (applied site kept (moment ∷ before))
        (told_by_frames site kept (applied site kept (moment ∷ before)) panel (Befell moment ∷ history)) panel (moment ∷ before) parts
    parts_more parts stands =
        subst (λ ds. PanelStands site kept ds (told_by_frames site kept ds panel (Befell moment ∷ history)) panel (moment ∷ before) parts)
        (applied_stays site kept moment before same_tick)
        (stands_alike site kept done (told_by_frames site kept done panel history) (told_by_frames site kept done panel (Befell moment ∷ history)) panel
        (moment ∷ before) parts (agree_moment site kept done panel moment history) stands)

    words_more : (words : KeptWords) (own : Word) → own ≡ word_of_itself site kept done panel (Befell moment ∷ history) (moment ∷ before)
        → KeepsArrived site.panels panel (Made own ∷ frames_in history) words
        → KeepsArrived site.panels panel (arrived site kept (applied site kept (moment ∷ before)) panel (Befell moment ∷ history)) words
    words_more words own is keeps =
        subst (λ ds. KeepsArrived site.panels panel (arrived site kept ds panel (Befell moment ∷ history)) words) (applied_stays site kept moment before same_tick)
        (subst (λ w. KeepsArrived site.panels panel (Made w ∷ frames_in history) words) is keeps)

    pub stands_next : (parts : Parts) (words : KeptWords) (own : Word) (desk : Desk) (counts : KeptCounts)
        → PanelStands site kept done (told_by_frames site kept done panel history) panel (moment ∷ before) parts
        → own ≡ word_of_itself site kept done panel (Befell moment ∷ history) (moment ∷ before)
        → KeepsArrived site.panels panel (Made own ∷ frames_in history) words → DesksFor site kept (moment ∷ before) desk
        → CountsFor site kept (moment ∷ before) counts
        → NodeStandsFor site panel kept (Befell moment ∷ history) (record node { parts = parts; words = words; desk = desk; counts = counts })
    stands_next parts words own desk counts stands is keeps desks counted = record {
      valid = h.valid;
      same = h.same;
      own = h.own;
      plan = h.plan;
      tick = h.tick ∙ sym same_tick;
      parts = parts_more parts stands;
      words = words_more words own is keeps;
      events = events;
      own_events = own_events;
      frames = h.frames;
      desk = desks;
      settings = settings_stay site kept moment before node.settings same_tick h.settings;
      sized = h.sized;
      things = h.things;
      counts = counted;
    }

    -- where neither the word that it keeps of itself changes nor what is kept
    pub stands_further : (parts : Parts) (desk : Desk) → moment ≢ Kept false → before_turn panel Link (moment ∷ before) ≡ before_turn panel Link before
        → PanelStands site kept done (told_by_frames site kept done panel history) panel (moment ∷ before) parts → DesksFor site kept (moment ∷ before) desk
        → NodeStandsFor site panel kept (Befell moment ∷ history) (record node { parts = parts; desk = desk })
    stands_further parts desk other turn stands desks =
        stands_next parts node.words (word_of_itself site kept done panel history before) desk node.counts stands
        (own_stays site kept done panel moment history turn) h.words desks (counts_stay site kept before moment node.counts other h.counts)

  -- a turn that only the parts of the panel make
  pub stands_turned : (task : Task) (parts : Parts) → task ≢ DeskTask → task ≢ Link
      → PanelStands site kept done (told_by_frames site kept done panel history) panel (Turned panel task ∷ before) parts
      → NodeStandsFor site panel kept (Befell (Turned panel task) ∷ history) (record node { parts = parts })
  stands_turned task parts other apart stands =
      stands_further (Turned panel task) refl h.events h.own_events parts node.desk (λ e. cc) (no_turn task apart) stands
      (desk_left site kept before node.desk panel h.desk task other)
    where
      no_turn : (task : Task) → task ≢ Link → before_turn panel Link (Turned panel task ∷ before) ≡ before_turn panel Link before
      no_turn Link apart = absurd (apart refl)
      no_turn task apart = refl

  -- a turn of another panel changes nothing
  pub stands_elsewhere : (other : ℕ) (task : Task) → other ≢ panel → NodeStandsFor site panel kept (Befell (Turned other task) ∷ history) node
  stands_elsewhere other task apart =
      stands_further (Turned other task) refl h.events h.own_events node.parts node.desk (λ e. cc) no_turn
      (others_stay site kept done (told_by_frames site kept done panel history) panel other task before node.parts apart h.parts)
      (desk_idle site kept before node.desk other h.desk (none_asked site panel other apart (tick_of before) before h.own_events) task)
    where
      and_false : (b : Bool) → (b && false) ≡ false
      and_false true = refl
      and_false false = refl

      not_own : is_turn panel Link other task ≡ false
      not_own = ap (λ b. (task_number task == task_number Link) && b) (ne_eqb other panel apart) ∙ and_false (task_number task == task_number Link)

      no_turn : before_turn panel Link (Turned other task ∷ before) ≡ before_turn panel Link before
      no_turn = rw not_own refl
