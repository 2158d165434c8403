-- What a panel shows that is handed the words of the others.
use Rattle.std.specs.Prelude.{ℕ, ◌==◌, ◌&&◌, nat_lt, Bool, List, [], ◌∷◌, if◌then◌else◌}
use Rattle.tick_units.specs.declared.task.Task.TheVariants.{Hold}
use Rattle.site_types.specs.declared.buzzer.Buzzer.{Buzzer}
use Rattle.site_types.specs.declared.retained.Retained.{Retained}
use Rattle.site_types.specs.declared.site.Site.{Site}
use Rattle.site_types.specs.declared.word.Word.{Word}
use Rattle.site_types.specs.Done.{Done, muted_before}
use Rattle.face_text.specs.declared.face.Face.{Face}
use Rattle.panel_conditions.specs.Shown.{is_news, sounds}
use Rattle.panel_rules.specs.Faces.{counter_in, with_settings}
use Rattle.panel_rules.specs.Moments.{Moment, Began, Happened, Turned, Kept, latest_turn, tick_of}
use Rattle.panel_rules.specs.Outputs.{is_confirmed_out, is_on}
use Rattle.node_rules.specs.Handed.{handed_facts, handed_faults, handed_word}

module _ (site : Site) (kept : Retained) (done : List Done) (panel : ℕ) (handed : List Moment → ℕ → Word)
    (up : List Moment → ℕ → Bool) where
  -- a turn of Hold made now shows a zone in alarm, a first state or a fault that the turn before it did not
  abbrev pub tells_news : List Moment → Bool
  tells_news before =
      is_news (handed_word site kept done panel handed up (Turned panel Hold ∷ before))
      (handed_faults site kept done panel handed up (Turned panel Hold ∷ before))
      (handed_word site kept done panel handed up before) (handed_faults site kept done panel handed up before)

  -- the last tick in which something was newly shown, else 0
  abbrev pub handed_news : List Moment → ℕ
  handed_news [] = 0
  handed_news (Began ∷ before) = handed_news before
  handed_news (Happened event ∷ before) = handed_news before
  handed_news (Turned other Hold ∷ before) =
      if (other == panel) && tells_news before then tick_of before else handed_news before
  handed_news (Turned other task ∷ before) = handed_news before
  handed_news (Kept failed ∷ before) = handed_news before

  -- the buzzer sounds where something of the panel's own is shown, and was newly shown after the last mute that was
  -- done before
  abbrev pub handed_buzzer : List Moment → Buzzer
  handed_buzzer moments =
      sounds (handed_word site kept done panel handed up moments)
      (nat_lt (muted_before panel (latest_turn panel Hold moments) done) (handed_news moments))

  -- the word of a panel that is shown: of its own zones the latest, of others the one that it was handed by now
  abbrev pub word_on_face : (ℕ → Word) → List Moment → ℕ → Word
  word_on_face now moments source =
      if source == panel then handed_word site kept done panel handed up moments else now source

  -- the face of a panel, with the words that it was handed by now and with what is kept
  abbrev pub handed_face : (ℕ → Word) → Retained → List Moment → Face
  handed_face now stored moments =
      with_settings site kept done panel (tick_of moments) (word_on_face now moments)
      (handed_faults site kept done panel handed up moments)
      (λ output. is_on site (handed_facts site kept done panel handed up) kept done output moments)
      (λ output. is_confirmed_out site (handed_facts site kept done panel handed up) kept done output moments)
      (handed_buzzer moments) (counter_in panel stored)
