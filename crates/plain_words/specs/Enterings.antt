-- The entries of a panel into the fire alarm condition that are not yet kept, after a history.
use Rattle.std.specs.Prelude.{◌≡◌, ◌≤◌, ◌+◌, ◌==◌, ℕ, Bool, not, List, [], ◌∷◌, length}
use Rattle.tick_units.specs.declared.task.Task.TheVariants.{Hold}
use Rattle.site_types.specs.declared.answer.Answer.{Answer}
use Rattle.site_types.specs.declared.retained.Retained.{Retained}
use Rattle.site_types.specs.declared.site.Site.{Site}
use Rattle.site_types.specs.Done.{Done}
use Rattle.coincidence_rules.specs.Alarm.{is_in_alarm}
use Rattle.coincidence_rules.specs.Places.{zones_where}
use Rattle.panel_rules.specs.Batches.{new_entries}
use Rattle.panel_rules.specs.Moments.{Moment, Turned, latest_turn, tick_of}
use Rattle.plain_history.specs.declared.settings.Settings.{Settings}
use Rattle.plain_history.specs.Histories.{all_done}
use Rattle.plain_words.specs.declared.entering.Entering.{Entering}
use Rattle.plain_words.specs.Askings.{AsksSome, StandsForAsking}

-- the entries of a panel of a site after a history, where some operations were done
pub record StandsForEntering (site : Site) (kept : Retained) (done : List Done) (panel : ℕ) (history :
    List Moment) (entering : Entering) : Type 0 where
  pub own : entering.panel ≡ panel
  pub asks : StandsForAsking site panel history entering.asking
  pub latest : entering.held_at.0 ≡ latest_turn panel Hold history
  pub count : entering.entries ≡ length (new_entries site kept done panel history)

-- entries whose answers are those of some panel of a site after some history
abbrev pub EntersSome : Site → Entering → Type 0
EntersSome site entering = AsksSome site entering.asking

-- the entries of some panels of a site, by number from a first on, after a history, where some operations were done
abbrev pub AllEnter : Site → Retained → List Done → List Moment → ℕ → List Entering → Type 0
AllEnter site kept done history first [] = Unit {0}
AllEnter site kept done history first (entering ∷ rest) =
    StandsForEntering site kept done first history entering × AllEnter site kept done history (first + 1) rest

-- the number of a panel is a place in a list of the entries of panels, counted from 1 on
abbrev pub IsAmong : List Entering → ℕ → Type 0
IsAmong panels panel = (1 ≤ panel) × (panel ≤ length panels)

-- each of some entries has answers that are those of some panel of a site after some history
abbrev pub AllAsk : Site → List Entering → Type 0
AllAsk site [] = Unit {0}
AllAsk site (entering ∷ rest) = EntersSome site entering × AllAsk site rest

-- the entries of all panels of a site after a history, where some operations were done
pub record AreEntering (site : Site) (kept : Retained) (done : List Done) (history : List Moment) (panels :
    List Entering) : Type 0 where
  pub all : AllEnter site kept done history 1 panels
  pub count : length panels ≡ site.panels

module _ (site : Site) (kept : Retained) (done : List Done) (tick : ℕ) where
  -- a moment more in a tick stands in the entries of a panel, whatever the panel and what befell before
  abbrev pub EntersWith : Moment → Entering → Entering → Type 0
  EntersWith moment earlier later =
      (panel : ℕ) (history : List Moment) → StandsForEntering site kept done panel history earlier
      → tick_of history ≡ tick → StandsForEntering site kept done panel (moment ∷ history) later

  -- a turn more of a panel's own Hold in a tick stands in the entries of that panel, whatever the panel and what befell
  -- before
  abbrev pub EntersAtHold : Entering → Entering → Type 0
  EntersAtHold earlier later =
      (panel : ℕ) (history : List Moment) → StandsForEntering site kept done panel history earlier
      → tick_of history ≡ tick → StandsForEntering site kept done panel (Turned panel Hold ∷ history) later

  -- a moment more in a tick stands in the entries of some panels, by number from a first on
  abbrev pub AllEnterWith : Moment → List Entering → List Entering → Type 0
  AllEnterWith moment earlier later =
      (first : ℕ) (history : List Moment) → AllEnter site kept done history first earlier
      → tick_of history ≡ tick → AllEnter site kept done (moment ∷ history) first later

  -- a panel is in the fire alarm condition by some answers at the tick
  abbrev pub holds_fire_alarm : List Answer → ℕ → Bool
  holds_fire_alarm answers panel =
      not (zones_where site panel (λ zone. is_in_alarm site kept done answers zone tick) == 0)

-- a moment, or a turn of the panel's own Hold, or a moment for all panels, stands in entries by some settings
abbrev pub EntersBy : Settings → ℕ → Moment → Entering → Entering → Type 0
EntersBy settings = EntersWith settings.site.now settings.kept.now (all_done settings.done.now)

abbrev pub EntersAtHoldBy : Settings → ℕ → Entering → Entering → Type 0
EntersAtHoldBy settings = EntersAtHold settings.site.now settings.kept.now (all_done settings.done.now)

abbrev pub AllEnterBy : Settings → ℕ → Moment → List Entering → List Entering → Type 0
AllEnterBy settings = AllEnterWith settings.site.now settings.kept.now (all_done settings.done.now)
