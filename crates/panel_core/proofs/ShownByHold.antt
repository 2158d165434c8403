-- What Hold shows after its turn is what the rules say.
use Rattle.std.proofs.Common.{◌∙◌, ◌∷◌, ℕ, List, sym, ap}
use Rattle.tick_units.specs.declared.task.Task.TheVariants.{Hold}
use Rattle.site_types.specs.declared.retained.Retained.{Retained}
use Rattle.site_types.specs.declared.site.Site.{Site}
use Rattle.site_types.specs.declared.word.Word.{Word}
use Rattle.site_types.specs.Valid.{IsValid}
use Rattle.hold_calls.specs.Turns.{ring_turns}
use Rattle.hold_calls.proofs.FaultsHeld.{faults_held}
use Rattle.hold_calls.proofs.NewsHeld.{buzzer_held}
use Rattle.hold_calls.proofs.WordsHeld.{word_held}
use Rattle.panel_conditions.specs.declared.hold.Hold.{Hold as HoldPart}
use Rattle.panel_conditions.specs.Changes.{ShowsAgain}
use Rattle.panel_conditions.specs.Stands.{HoldsFor}
use Rattle.panel_rules.specs.Moments.{Moment, Turned, IsPanel, IsRun}
use Rattle.panel_parts.specs.Applied.{applied}
use Rattle.panel_core.specs.PartsShown.{HoldShowsAgain}

-- where it shows the same after its turn as before, so it is by the rules
pub shown_again : (site : Site) (kept : Retained) (panel : ℕ) (before : List Moment) (old new : HoldPart) → IsValid site → IsPanel site.panels panel
    → IsRun site.panels (Turned panel Hold ∷ before)
    → HoldsFor site kept panel (applied site kept before) (ring_turns site kept (applied site kept before) panel before) old
    → HoldsFor site kept panel (applied site kept before) (ring_turns site kept (applied site kept before) panel (Turned panel Hold ∷ before)) new
    → ShowsAgain old.shown new.shown → HoldShowsAgain site kept panel before
shown_again site kept panel before old new valid member run was is again =
    let done = applied site kept before in
    let after = Turned panel Hold ∷ before in
    let word = was.shows.word ∙ word_held site kept done panel before valid member run.0 in
    let new_word = is.shows.word ∙ word_held site kept done panel after valid member run in
    record {
      alarms = sym (ap (λ (w : Word). w.alarm) new_word) ∙ again.alarm ∙ ap (λ (w : Word). w.alarm) word;
      firsts = sym (ap (λ (w : Word). w.first) new_word) ∙ again.first ∙ ap (λ (w : Word). w.first) word;
      faults =
          sym (is.shows.faults ∙ faults_held site kept done panel after) ∙ again.faults ∙ was.shows.faults ∙ faults_held site kept done panel before;
      buzzer =
          sym (is.shows.buzzer ∙ buzzer_held site kept done panel after valid member run) ∙ again.buzzer ∙ was.shows.buzzer
          ∙ buzzer_held site kept done panel before valid member run.0;
    }
