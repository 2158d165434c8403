-- What stands at all panels of a site after a history, where some operations were done.
use Rattle.std.specs.Prelude.{◌≡◌, ℕ, List}
use Rattle.site_types.specs.declared.retained.Retained.{Retained}
use Rattle.site_types.specs.declared.site.Site.{Site}
use Rattle.site_types.specs.Done.{Done}
use Rattle.face_text.specs.declared.face.Face.{Face}
use Rattle.panel_rules.specs.Markers.{Facts}
use Rattle.panel_rules.specs.Moments.{Moment, tick_of}
use Rattle.panel_rules.specs.Faces.{face_with}
use Rattle.panel_rules.specs.Operations.{operations}
use Rattle.panel_rules.specs.Run.{facts_of}
use Rattle.plain_history.specs.declared.settings.Settings.{Settings}
use Rattle.plain_history.specs.Histories.{all_done}
use Rattle.plain_words.specs.declared.entering.Entering.{Entering}
use Rattle.plain_outputs.specs.declared.driving.Driving.{Driving}
use Rattle.plain_panel.specs.declared.network.Network.{Network}
use Rattle.plain_panel.specs.declared.site_state.SiteState.{SiteState}
use Rattle.plain_outputs.specs.Drives.{DrivesFor}
use Rattle.plain_words.specs.Enterings.{AreEntering}
use Rattle.plain_panel.specs.Network.{StandsFor}

-- answers and entries of all panels, what they show of their own and of one another, what drives outputs
pub record StandsForSite (site : Site) (kept : Retained) (done : List Done) (history : List Moment)
    (state : SiteState) : Type 0 where
  pub panels : AreEntering site kept done history state.panels.items
  pub network : StandsFor site kept done history state.network
  pub driving : DrivesFor site (facts_of site kept done) history state.driving

-- what stands with the operations that were done by then
abbrev pub StandsAfter : Site → Retained → List Moment → SiteState → Type 0
StandsAfter site kept history state =
    StandsForSite site kept (operations site kept history).done history state

-- by some settings, what is kept stands for a history: all of it, the entries, what panels show and keep of one
-- another, what drives outputs
module _ (settings : Settings) (history : List Moment) where
  abbrev pub SiteStandsBy : SiteState → Type 0
  SiteStandsBy state = StandsForSite settings.site.now settings.kept.now (all_done settings.done.now) history state

  abbrev pub AreEnteringBy : List Entering → Type 0
  AreEnteringBy panels = AreEntering settings.site.now settings.kept.now (all_done settings.done.now) history panels

  abbrev pub ShowsBy : Network → Type 0
  ShowsBy network = StandsFor settings.site.now settings.kept.now (all_done settings.done.now) history network

  abbrev pub DrivesBy : Driving → Type 0
  DrivesBy driving =
      DrivesFor settings.site.now (facts_of settings.site.now settings.kept.now (all_done settings.done.now)) history
      driving

-- the facts that a turn of Effect of a panel goes by
abbrev pub facts_by : Settings → ℕ → List Moment → Facts
facts_by settings panel history =
    facts_of settings.site.now settings.kept.now (all_done settings.done.now) panel history

-- the face that a panel shows in a tick by what the network and the outputs stand for, with what is stored by then
abbrev pub TellsFace : Settings → Network → Driving → ℕ → Retained → ℕ → Face → Type 0
TellsFace settings network driving tick stored panel face =
    (before : List Moment) → ShowsBy settings before network → DrivesBy settings before driving → tick_of before ≡ tick
    → face ≡ face_with settings.site.now settings.kept.now (all_done settings.done.now) stored panel before
