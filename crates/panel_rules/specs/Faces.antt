-- The face of a panel: all that it shows.
use Rattle.std.specs.Prelude.{ℕ, ◌-◌, ◌==◌, ◌&&◌, nat_lt, Bool, List, [], ◌∷◌, map, slice_index, if◌then◌else◌}
use Rattle.std.specs.List.{range_with_len}
use Rattle.tick_units.specs.declared.task.Task.TheVariants.{Hold}
use Rattle.site_types.specs.declared.buzzer.Buzzer.{Buzzer}
use Rattle.site_types.specs.declared.fault_set.FaultSet.{FaultSet}
use Rattle.site_types.specs.declared.retained.Retained.{Retained}
use Rattle.site_types.specs.declared.site.Site.{Site}
use Rattle.site_types.specs.declared.word.Word.{Word}
use Rattle.site_types.specs.Done.{Done, PointOff, ZoneOff, OutputOff, InTest, DelaysOff, in_force, muted_before}
use Rattle.site_types.specs.Limits.{most_panels}
use Rattle.coincidence_rules.specs.Places.{zones_where}
use Rattle.face_text.specs.declared.face.Face.{Face}
use Rattle.panel_conditions.specs.Points.{points_where}
use Rattle.panel_conditions.specs.Shown.{is_news, sounds}
use Rattle.panel_rules.specs.Moments.{Moment, Began, Happened, Turned, Kept, tick_of, latest_turn}
use Rattle.panel_rules.specs.Words.{latest_word, kept_word_of}
use Rattle.panel_rules.specs.Outputs.{outputs_where, is_on, is_confirmed_out}
use Rattle.panel_rules.specs.Run.{tells_fault, facts_of, faults_of}

-- the counter of a panel in what is kept
abbrev pub counter_in : ℕ → Retained → ℕ
counter_in panel stored = slice_index stored.counters (panel - 1)

module _ (site : Site) (kept : Retained) (done : List Done) where
  -- the settings in force at a tick, the other parts given
  abbrev pub with_settings : ℕ → ℕ → (ℕ → Word) → FaultSet → (ℕ → Bool) → (ℕ → Bool) → Buzzer → ℕ → Face
  with_settings panel tick words faults on confirmed buzzer counter =
      record {
        panel = panel;
        zones = map (λ source. (words source).alarm) (range_with_len 1 most_panels);
        firsts = map (λ source. (words source).first) (range_with_len 1 most_panels);
        faults = faults;
        outputs = outputs_where site panel on;
        confirmed = outputs_where site panel confirmed;
        points_off = points_where site panel (λ point. in_force site kept (PointOff point) tick done);
        zones_off = zones_where site panel (λ zone. in_force site kept (ZoneOff zone) tick done);
        outputs_off = outputs_where site panel (λ output. in_force site kept (OutputOff output) tick done);
        test = zones_where site panel (λ zone. in_force site kept (InTest zone) tick done);
        delays_off = in_force site kept (DelaysOff panel) tick done;
        buzzer = buzzer;
        counter = counter;
      }

  -- the word of a panel that another one shows: of its own zones the latest, of others the one that it keeps
  abbrev pub shown_word : ℕ → List Moment → ℕ → Word
  shown_word panel moments source =
      if source == panel then latest_word site kept done (tells_fault site kept done) panel moments else
      kept_word_of site kept done (tells_fault site kept done) panel source moments

  -- a turn of Hold made now shows a zone in alarm, a first state or a fault that the turn before it did not
  abbrev pub shows_news : ℕ → List Moment → Bool
  shows_news panel before =
      is_news (latest_word site kept done (tells_fault site kept done) panel (Turned panel Hold ∷ before))
      (faults_of site kept done panel (Turned panel Hold ∷ before))
      (latest_word site kept done (tells_fault site kept done) panel before)
      (faults_of site kept done panel before)

  -- the last tick in which something was newly shown, else 0
  abbrev pub last_news : ℕ → List Moment → ℕ
  last_news panel [] = 0
  last_news panel (Began ∷ before) = last_news panel before
  last_news panel (Happened event ∷ before) = last_news panel before
  last_news panel (Turned other Hold ∷ before) =
      if (other == panel) && shows_news panel before then tick_of before else last_news panel before
  last_news panel (Turned other task ∷ before) = last_news panel before
  last_news panel (Kept failed ∷ before) = last_news panel before

  -- the buzzer sounds where something of the panel's own is shown, and was newly shown after the last mute
  -- that was done before
  abbrev pub buzzer_of : ℕ → List Moment → Buzzer
  buzzer_of panel moments =
      sounds (latest_word site kept done (tells_fault site kept done) panel moments)
      (nat_lt (muted_before panel (latest_turn panel Hold moments) done) (last_news panel moments))

  -- the face of a panel, with what is kept
  abbrev pub face_with : Retained → ℕ → List Moment → Face
  face_with stored panel moments =
      with_settings panel (tick_of moments) (shown_word panel moments)
      (faults_of site kept done panel moments)
      (λ output. is_on site (facts_of site kept done) kept done output moments)
      (λ output. is_confirmed_out site (facts_of site kept done) kept done output moments)
      (buzzer_of panel moments) (counter_in panel stored)
