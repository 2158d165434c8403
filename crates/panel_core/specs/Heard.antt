-- What was heard of a panel: the tick of the word that another one, or it itself, keeps of it.
use Rattle.std.specs.Prelude.{◌≡◌, ℕ, List}
use Rattle.site_types.specs.declared.retained.Retained.{Retained}
use Rattle.site_types.specs.declared.site.Site.{Site}
use Rattle.panel_links.specs.Words.{IsHeard}
use Rattle.panel_rules.specs.Kept.{heard}
use Rattle.panel_rules.specs.Moments.{Moment}
use Rattle.panel_rules.specs.Run.{tells_fault}
use Rattle.panel_rules.specs.Words.{ring_calls}
use Rattle.panel_core.specs.declared.system.System.{System}
use Rattle.panel_parts.specs.Applied.{applied}
use Rattle.panel_core.specs.Stands.{StandsFor}

-- for whatever run the system stands for it is that of the rules, the greatest stamp of a word that came over any
-- chain of turns, along links that were up
pub record HearsOf (system : System) (panel source tick : ℕ) : Type 0 where
  pub ruled : (site : Site) (kept : Retained) (before : List Moment) → StandsFor site kept before system
      → tick ≡ heard site.panels panel source before
  pub greatest : (site : Site) (kept : Retained) (before : List Moment) → StandsFor site kept before system
      → IsHeard site.panels source panel
      (ring_calls site kept (applied site kept before) (tells_fault site kept (applied site kept before)) before)
      tick
