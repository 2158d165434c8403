-- What a panel's Hold shows, by what the panel is told from elsewhere.
use Rattle.std.specs.Prelude.{ℕ, ◌==◌, ◌&&◌, nat_lt, Bool, List, [], ◌∷◌, if◌then◌else◌}
use Rattle.tick_units.specs.declared.task.Task.TheVariants.{Hold}
use Rattle.site_types.specs.declared.buzzer.Buzzer.{Buzzer}
use Rattle.site_types.specs.declared.fault_set.FaultSet.{FaultSet}
use Rattle.site_types.specs.declared.retained.Retained.{Retained}
use Rattle.site_types.specs.declared.site.Site.{Site}
use Rattle.site_types.specs.declared.word.Word.{Word}
use Rattle.site_types.specs.Done.{Done, muted_before}
use Rattle.site_types.specs.Words.{no_faults}
use Rattle.panel_conditions.specs.Answered.{answered_faults}
use Rattle.panel_conditions.specs.Shown.{is_news, sounds}
use Rattle.panel_conditions.specs.Words.{has_fault}
use Rattle.panel_rules.specs.Kept.{made_at}
use Rattle.panel_rules.specs.Moments.{Moment, Began, Happened, Turned, Kept, latest_turn, tick_of}
use Rattle.panel_rules.specs.Words.{word_made}
use Rattle.panel_rules.specs.Zones.{held_answers}
use Rattle.hold_calls.specs.Told.{Told}
use Rattle.hold_calls.specs.Turns.{outside_now}

module _ (site : Site) (kept : Retained) (done : List Done) (told : Told) (panel : ℕ) where
  -- the faults that stood at the turn of Hold that made a word; none at the empty word
  abbrev pub faults_told : List Moment → FaultSet
  faults_told [] = no_faults
  faults_told (turn ∷ before) =
      answered_faults site kept panel done (held_answers site panel (turn ∷ before)) (tick_of (turn ∷ before))
      (outside_now site kept done told panel before)

  -- whether the word that a turn of Hold made tells a fault
  abbrev pub fault_told : List Moment → Bool
  fault_told word = has_fault (faults_told word)

  -- the faults that stood at the latest turn of the panel's Hold, none where it had no turn
  abbrev pub latest_faults : List Moment → FaultSet
  latest_faults moments = faults_told (made_at panel moments)

  -- the latest word that the panel made, by what the panel is told from elsewhere
  abbrev pub word_told : List Moment → Word
  word_told moments = word_made site kept done (λ source. fault_told) panel (made_at panel moments)

  -- a turn of Hold made now shows a zone in alarm, a first state or a fault that the turn before it did not
  abbrev pub is_news_told : List Moment → Bool
  is_news_told before =
      is_news (word_told (Turned panel Hold ∷ before)) (latest_faults (Turned panel Hold ∷ before))
      (word_told before) (latest_faults before)

  -- the last tick in which something was newly shown, else 0
  abbrev pub news_told : List Moment → ℕ
  news_told [] = 0
  news_told (Began ∷ before) = news_told before
  news_told (Happened event ∷ before) = news_told before
  news_told (Turned other Hold ∷ before) =
      if (other == panel) && is_news_told before then tick_of before else news_told before
  news_told (Turned other task ∷ before) = news_told before
  news_told (Kept failed ∷ before) = news_told before

  -- the buzzer sounds where something of the panel's own is shown, and was newly shown after the last mute that was
  -- done before
  abbrev pub buzzer_told : List Moment → Buzzer
  buzzer_told moments =
      sounds (word_told moments) (nat_lt (muted_before panel (latest_turn panel Hold moments) done) (news_told moments))
