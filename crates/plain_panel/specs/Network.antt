-- What the panels of a site show of their own and keep of one another, after a history.
use Rattle.std.specs.Prelude.{◌≡◌, ℕ, ◌-◌, ◌≤◌, List, ◌∷◌, map, slice_index_or, if◌then◌else◌}
use Rattle.std.specs.List.{range_with_len}
use Rattle.tick_units.specs.declared.task.Task.{Task}
use Rattle.tick_units.specs.declared.task.Task.TheVariants.{Hold}
use Rattle.tick_units.specs.declared.tick.Tick.{Tick}
use Rattle.site_types.specs.declared.answer.Answer.{Answer}
use Rattle.site_types.specs.declared.event.Event.{Event}
use Rattle.site_types.specs.declared.fault_set.FaultSet.{FaultSet}
use Rattle.site_types.specs.declared.retained.Retained.{Retained}
use Rattle.site_types.specs.declared.site.Site.{Site}
use Rattle.site_types.specs.declared.word.Word.{Word}
use Rattle.site_types.specs.Done.{Done}
use Rattle.site_types.specs.Limits.{most_panels}
use Rattle.site_types.specs.Valid.{IsPanel as IsPanelOf}
use Rattle.supply_monitor.specs.Supply.{shown_mask}
use Rattle.panel_conditions.specs.declared.outside.Outside.{Outside}
use Rattle.panel_conditions.specs.Shown.{is_news}
use Rattle.site_types.specs.Words.{empty_word, no_faults}
use Rattle.panel_links.specs.Stands.{StandsFor as RingStandsFor}
use Rattle.panel_rules.specs.Moments.{Moment as MomentOf, Happened as HappenedOf, Turned as TurnedOf, IsPanel, tick_of}
use Rattle.panel_rules.specs.States.{is_up}
use Rattle.panel_rules.specs.Kept.{heard}
use Rattle.panel_rules.specs.Words.{latest_word, ring_calls, word_made}
use Rattle.panel_rules.specs.Zones.{held_answers}
use Rattle.panel_rules.specs.Outputs.{outputs_where}
use Rattle.panel_rules.specs.Faults.{broken_loops, is_unconfirmed, links_down, shorted_loops, silent_panels}
use Rattle.panel_rules.specs.Faults.{supply_calls}
use Rattle.panel_rules.specs.Run.{facts_of, faults_of, faults_with, tells_fault}
use Rattle.panel_rules.specs.Faces.{last_news, shown_word}
use Rattle.plain_history.specs.declared.moment.Moment.{Moment}
use Rattle.plain_history.specs.declared.moment.Moment.TheVariants.{Turned}
use Rattle.plain_panel.specs.declared.network.Network.{Network}
use Rattle.plain_panel.specs.declared.indications.Indications.{Indications}

-- a number of a panel
abbrev pub HasPanel : Network → ℕ → Type 0
HasPanel network panel = (1 ≤ panel) × (panel ≤ network.panels)

abbrev pub no_indications : Indications
no_indications = record { word = empty_word; faults = no_faults; news = record { 0 = 0 } }

-- what a panel shows of its own
abbrev pub indications_in : Network → ℕ → Indications
indications_in network panel = slice_index_or network.indications (panel - 1) no_indications

-- what it shows after a turn of Hold made now
abbrev pub indications_then : Indications → Tick → Word → FaultSet → Indications
indications_then own now word faults =
    record {
      word = word;
      faults = faults;
      news =
          if is_news word faults own.word own.faults then now else own.news;
    }

-- what stands besides missing points, with the outputs without confirmation
abbrev pub outside_told : Site → ℕ → List MomentOf → ℕ → Outside
outside_told site panel moments unconfirmed =
    record {
      supply = shown_mask site.waits (supply_calls panel moments);
      broken = broken_loops site panel moments;
      shorted = shorted_loops site panel moments;
      silent = silent_panels site (λ source. heard site.panels panel source moments) (tick_of moments);
      links = links_down site panel (λ link. is_up link moments);
      unconfirmed = unconfirmed;
    }

-- the outputs of a panel without confirmation
abbrev pub unconfirmed_at : Site → Retained → List Done → ℕ → List MomentOf → ℕ
unconfirmed_at site kept done panel moments =
    outputs_where site panel (λ output. is_unconfirmed site (facts_of site kept done) kept done output
    moments)

-- a task that isn't Hold
abbrev pub IsOtherTask : Task → Type 0
IsOtherTask Hold = ⊥
IsOtherTask _ = Unit {0}

-- anything but a turn of Hold
abbrev pub IsNotHold : Moment → Type 0
IsNotHold (Turned panel task) = IsOtherTask task
IsNotHold _ = Unit {0}

-- the network stands for a history
pub record StandsFor (site : Site) (kept : Retained) (done : List Done) (before : List MomentOf) (network :
    Network) : Type 0 where
  pub size : network.panels ≡ site.panels
  -- the ring has the links, and the words that panels keep
  pub ring : RingStandsFor site.panels (ring_calls site kept done (tells_fault site kept done) before) network.ring
  pub words : (panel : ℕ) → IsPanel site.panels panel
      → (indications_in network panel).word ≡ latest_word site kept done (tells_fault site kept done) panel before
  pub faults : (panel : ℕ) → IsPanel site.panels panel
      → (indications_in network panel).faults ≡ faults_of site kept done panel before
  pub news : (panel : ℕ) → IsPanel site.panels panel
      → (indications_in network panel).news.0 ≡ last_news site kept done panel before

-- a moment in a tick befalls the network, whatever the site, what is kept and done, and what befell before
abbrev pub NetworkTakes : ℕ → MomentOf → Network → Network → Type 0
NetworkTakes tick moment earlier later =
    (site : Site) (kept : Retained) (done : List Done) (before : List MomentOf)
    → StandsFor site kept done before earlier → tick ≡ tick_of before → StandsFor site kept done (moment ∷ before) later

-- an event befalls the network, in any tick
abbrev pub NetworkHears : Event → Network → Network → Type 0
NetworkHears event earlier later =
    (site : Site) (kept : Retained) (done : List Done) (before : List MomentOf)
    → StandsFor site kept done before earlier → StandsFor site kept done (HappenedOf event ∷ before) later

-- a turn of a panel's Hold in a tick befalls the network: the panel shows the word and the faults that the rules make
abbrev pub ShowsAtHold : ℕ → ℕ → Word → FaultSet → Network → Network → Type 0
ShowsAtHold tick panel word faults earlier later =
    (site : Site) (kept : Retained) (done : List Done) (before : List MomentOf)
    → StandsFor site kept done before earlier → tick ≡ tick_of before
    → faults ≡ faults_with site kept done (tells_fault site kept done) panel (TurnedOf panel Hold ∷ before)
    → word ≡ word_made site kept done (tells_fault site kept done) panel (TurnedOf panel Hold ∷ before)
    → StandsFor site kept done (TurnedOf panel Hold ∷ before) later

module _ (site : Site) (before : List MomentOf) (tick panel unconfirmed : ℕ) where
  -- what stands besides missing points at a turn of the panel's Hold in a tick, whatever is kept and done
  abbrev pub TellsOutside : Network → Outside → Type 0
  TellsOutside network outside =
      (kept : Retained) (done : List Done) → StandsFor site kept done before network → tick ≡ tick_of before
      → outside ≡ outside_told site panel before unconfirmed

  -- a turn of the panel's Hold in a tick befalls the network; given are the answers that it has taken with it, and the
  -- panel's outputs without confirmation then
  abbrev pub TakesHold : Retained → List Done → List Answer → Network → Network → Type 0
  TakesHold kept done answers earlier later =
      StandsFor site kept done before earlier → tick ≡ tick_of before
      → (IsPanelOf site panel → answers ≡ held_answers site panel (TurnedOf panel Hold ∷ before))
      → (IsPanelOf site panel → unconfirmed ≡ unconfirmed_at site kept done panel (TurnedOf panel Hold ∷ before))
      → StandsFor site kept done (TurnedOf panel Hold ∷ before) later

-- a part of each panel's word that a panel shows, whatever is kept and done
abbrev pub TellsWords : Site → ℕ → (Word → ℕ) → Network → List ℕ → Type 0
TellsWords site panel part network told =
    (kept : Retained) (done : List Done) (before : List MomentOf) → StandsFor site kept done before network
    → told ≡ map (λ (source : ℕ). part (shown_word site kept done panel before source)) (range_with_len 1 most_panels)
