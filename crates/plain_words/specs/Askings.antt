-- What the answers of a panel's points are kept for: a history of the site.
use Rattle.std.specs.Prelude.{◌≡◌, ℕ, List, ◌∷◌}
use Rattle.site_types.specs.declared.site.Site.{Site}
use Rattle.loop_poller.specs.Stands.{StandsFor}
use Rattle.panel_rules.specs.Moments.{Moment, tick_of}
use Rattle.panel_rules.specs.Answers.{answers}
use Rattle.panel_rules.specs.Reports.{reports}
use Rattle.panel_rules.specs.Counts.{taken_by_decide, taken_by_hold}
use Rattle.plain_words.specs.declared.asking.Asking.{Asking}

-- the answers of a panel of a site after a history
pub record StandsForAsking (site : Site) (panel : ℕ) (history : List Moment) (asking : Asking) : Type 0 where
  pub own_panel : asking.panel ≡ panel
  pub told : StandsFor site panel (reports site panel history) asking.poller
  pub all : asking.answers.items ≡ answers site panel history
  pub decided : asking.decided ≡ taken_by_decide site panel history
  pub taken : asking.held ≡ taken_by_hold site panel history

-- the answers of some panel of a site after some history
pub record AsksSome (site : Site) (asking : Asking) : Type 0 where
  pub panel : ℕ
  pub history : List Moment
  pub stands : StandsForAsking site panel history asking

-- a moment more stands in the answers, whatever the panel and what befell before
abbrev pub Hears : Site → Moment → Asking → Asking → Type 0
Hears site moment earlier later =
    (panel : ℕ) (history : List Moment) → StandsForAsking site panel history earlier
    → StandsForAsking site panel (moment ∷ history) later

-- a moment more in a tick stands in the answers, whatever the panel and what befell before
abbrev pub HearsIn : Site → ℕ → Moment → Asking → Asking → Type 0
HearsIn site tick moment earlier later =
    (panel : ℕ) (history : List Moment) → StandsForAsking site panel history earlier → tick_of history ≡ tick
    → StandsForAsking site panel (moment ∷ history) later
