-- What the parts of a panel show makes the face of the rules: what was done in the tick that began last changes nothing of it.
use Rattle.std.proofs.Common.{◌≡◌, ◌≢◌, ◌∙◌, ◌++◌, ◌≤◌, ◌==◌, ◌&&◌, ℕ, false, List, [], ◌∷◌}
use Rattle.std.proofs.Common.{inl, inr, if◌then◌else◌, refl, ap, arith}
use Rattle.std.specs.Prelude.{nat_lt}
use Rattle.std.proofs.lemmas.Bool.Decides.{eqb_tells}
use Rattle.tick_units.specs.declared.task.Task.{Task}
use Rattle.tick_units.specs.declared.task.Task.TheVariants.{Poll, Decide, Supply, Desk, Hold, Link, Effect, Drive, Keep}
use Rattle.site_types.specs.declared.retained.Retained.{Retained}
use Rattle.site_types.specs.declared.site.Site.{Site}
use Rattle.site_types.specs.Done.{Done, muted_before}
use Rattle.site_types.proofs.Done.{muted-later}
use Rattle.site_types.proofs.LaterDone.{AreFrom}
use Rattle.face_text.specs.declared.face.Face.{Face}
use Rattle.face_text.proofs.EqualFaces.{faces_from}
use Rattle.later_operations.specs.Later.{AreDoneFrom}
use Rattle.later_operations.proofs.Laws.{faults, outputs}
use Rattle.later_operations.proofs.EarlierWords.{faults_later, kept_word_later, latest_word_later}
use Rattle.panel_conditions.specs.Shown.{is_news, sounds}
use Rattle.panel_laws.proofs.LaterDone.{turn_in_time}
use Rattle.panel_rules.specs.Faces.{buzzer_of, last_news, shown_word, shows_news}
use Rattle.panel_rules.specs.Moments.{Moment, Began, Happened, Turned, Kept, latest_turn, tick_of}
use Rattle.panel_rules.specs.Outputs.{is_confirmed_out, is_on}
use Rattle.panel_rules.specs.Run.{facts_of, faults_of, tells_fault}
use Rattle.panel_rules.specs.Words.{kept_word_of, latest_word}
use Rattle.panel_rules.proofs.AnswersTell.{eq_true}
use Rattle.settings_shown.specs.OnFaces.{with_settings_of}
use Rattle.panel_parts.specs.Applied.{applied, done_so_far}
use Rattle.panel_parts.proofs.EntriesKept.{same_since_applied}
use Rattle.panel_core.proofs.Later.{done_from_tick}

-- ---- as more is done

from_below : (x y : ℕ) (ds : List Done) → x ≤ y → AreFrom y ds → AreFrom x ds
from_below x y [] less from = tt
from_below x y (d ∷ ds) less from = (let by = from.0 in omega (arith, less, by), from_below x y ds less from.1)

module _ (site : Site) (kept : Retained) (new old : List Done) (x : ℕ) (from : AreFrom x new) (panel : ℕ) where
  shows_later : (before : List Moment) → tick_of before ≤ x → shows_news site kept (new ++ old) panel before ≡ shows_news site kept old panel before
  shows_later before by =
      let word = latest_word_later site kept new old x from panel (Turned panel Hold ∷ before) by in
      let fault = faults_later site kept new old x from panel (Turned panel Hold ∷ before) by in
      let word_then = latest_word_later site kept new old x from panel before by in
      let fault_then = faults_later site kept new old x from panel before by in
      ap (λ w. is_news w (faults_of site kept (new ++ old) panel (Turned panel Hold ∷ before))
      (latest_word site kept (new ++ old) (tells_fault site kept (new ++ old)) panel before) (faults_of site kept (new ++ old) panel before)) word
      ∙ ap (λ f. is_news (latest_word site kept old (tells_fault site kept old) panel (Turned panel Hold ∷ before)) f
      (latest_word site kept (new ++ old) (tells_fault site kept (new ++ old)) panel before) (faults_of site kept (new ++ old) panel before)) fault
      ∙ ap (λ w. is_news (latest_word site kept old (tells_fault site kept old) panel (Turned panel Hold ∷ before))
      (faults_of site kept old panel (Turned panel Hold ∷ before)) w (faults_of site kept (new ++ old) panel before)) word_then
      ∙ ap (is_news (latest_word site kept old (tells_fault site kept old) panel (Turned panel Hold ∷ before))
      (faults_of site kept old panel (Turned panel Hold ∷ before)) (latest_word site kept old (tells_fault site kept old) panel before)) fault_then

  news_later : (m : List Moment) → tick_of m ≤ x → last_news site kept (new ++ old) panel m ≡ last_news site kept old panel m
  news_later [] by = refl
  news_later (Began ∷ before) by = news_later before (omega (arith, by))
  news_later (Happened event ∷ before) by = news_later before by
  news_later (Turned other task ∷ before) by = turned task (news_later before by)
    where
      turned : (task : Task) → last_news site kept (new ++ old) panel before ≡ last_news site kept old panel before
          → last_news site kept (new ++ old) panel (Turned other task ∷ before) ≡ last_news site kept old panel (Turned other task ∷ before)
      turned Hold same =
          ap (λ b. if (other == panel) && b then tick_of before else last_news site kept (new ++ old) panel before) (shows_later before by)
          ∙ ap (λ n. if (other == panel) && shows_news site kept old panel before then tick_of before else n) same
      turned Poll same = same
      turned Decide same = same
      turned Supply same = same
      turned Desk same = same
      turned Link same = same
      turned Effect same = same
      turned Drive same = same
      turned Keep same = same
  news_later (Kept failed ∷ before) by = news_later before by

  buzzer_later : (m : List Moment) → tick_of m ≤ x → buzzer_of site kept (new ++ old) panel m ≡ buzzer_of site kept old panel m
  buzzer_later m by =
      let turn = latest_turn panel Hold m in
      let time = turn_in_time panel Hold m in
      ap (λ w. sounds w (nat_lt (muted_before panel turn (new ++ old)) (last_news site kept (new ++ old) panel m)))
      (latest_word_later site kept new old x from panel m by)
      ∙ ap (λ n. sounds (latest_word site kept old (tells_fault site kept old) panel m) (nat_lt n (last_news site kept (new ++ old) panel m)))
      (muted-later panel turn new old (from_below turn x new (omega (arith, time, by)) from))
      ∙ ap (λ n. sounds (latest_word site kept old (tells_fault site kept old) panel m) (nat_lt (muted_before panel turn old) n)) (news_later m by)

-- ---- with all that was done so far

module _ (site : Site) (kept : Retained) (before : List Moment) (panel : ℕ) where
  abbrev all_done : List Done
  all_done = done_so_far site kept before

  abbrev in_force_done : List Done
  in_force_done = applied site kept before

  done_from : (new : List Done) → AreFrom (tick_of before) new → AreDoneFrom (tick_of before) new
  done_from new from = done_from_tick (tick_of before) new from

  pub faults_now : faults_of site kept all_done panel before ≡ faults_of site kept in_force_done panel before
  faults_now =
      same_since_applied site kept before (λ done. faults_of site kept done panel before)
      (λ new from. faults site kept panel (tick_of before) new in_force_done before (done_from new from) (omega arith))

  pub on_now : (output : ℕ) → is_on site (facts_of site kept all_done) kept all_done output before
      ≡ is_on site (facts_of site kept in_force_done) kept in_force_done output before
  on_now output =
      same_since_applied site kept before (λ done. is_on site (facts_of site kept done) kept done output before)
      (λ new from. outputs.on site kept output (tick_of before) new in_force_done before (done_from new from) (omega arith))

  pub confirmed_now : (output : ℕ) → is_confirmed_out site (facts_of site kept all_done) kept all_done output before
      ≡ is_confirmed_out site (facts_of site kept in_force_done) kept in_force_done output before
  confirmed_now output =
      same_since_applied site kept before (λ done. is_confirmed_out site (facts_of site kept done) kept done output before)
      (λ new from. outputs.confirmed site kept output (tick_of before) new in_force_done before (done_from new from) (omega arith))

  pub buzzer_now : buzzer_of site kept all_done panel before ≡ buzzer_of site kept in_force_done panel before
  buzzer_now =
      same_since_applied site kept before (λ done. buzzer_of site kept done panel before)
      (λ new from. buzzer_later site kept new in_force_done (tick_of before) from panel before (omega arith))

  pub word_now : latest_word site kept all_done (tells_fault site kept all_done) panel before
      ≡ latest_word site kept in_force_done (tells_fault site kept in_force_done) panel before
  word_now =
      same_since_applied site kept before (λ done. latest_word site kept done (tells_fault site kept done) panel before)
      (λ new from. latest_word_later site kept new in_force_done (tick_of before) from panel before (omega arith))

  pub kept_word_now : (source : ℕ) → kept_word_of site kept all_done (tells_fault site kept all_done) panel source before
      ≡ kept_word_of site kept in_force_done (tells_fault site kept in_force_done) panel source before
  kept_word_now source =
      same_since_applied site kept before (λ done. kept_word_of site kept done (tells_fault site kept done) panel source before)
      (λ new from. kept_word_later site kept new in_force_done (tick_of before) from panel source before (omega arith))

  -- ---- the words that are shown

  pub own_shown : (source : ℕ) → source ≡ panel
      → shown_word site kept all_done panel before source ≡ latest_word site kept all_done (tells_fault site kept all_done) panel before
  own_shown source own = ap (λ b. if b then latest_word site kept all_done (tells_fault site kept all_done) panel before
      else kept_word_of site kept all_done (tells_fault site kept all_done) panel source before) (eq_true source panel own)

  pub other_shown : (source : ℕ) → source ≢ panel
      → shown_word site kept all_done panel before source ≡ kept_word_of site kept all_done (tells_fault site kept all_done) panel source before
  other_shown source apart = ap (λ b. if b then latest_word site kept all_done (tells_fault site kept all_done) panel before
      else kept_word_of site kept all_done (tells_fault site kept all_done) panel source before) not_own
    where
      not_own : (source == panel) ≡ false
      not_own = elim (eqb_tells source panel) [ inl t ↦ absurd (apart t.1) | inr t ↦ t.0 ]

-- ---- settings put on a face

-- a face with the settings that another one shows is that one where all else is alike
pub same_face : (shown face : Face) → face.panel ≡ shown.panel → face.zones ≡ shown.zones → face.firsts ≡ shown.firsts → face.faults ≡ shown.faults
    → face.outputs ≡ shown.outputs → face.confirmed ≡ shown.confirmed → face.buzzer ≡ shown.buzzer → face.counter ≡ shown.counter
    → with_settings_of shown face ≡ shown
same_face shown face panel zones firsts faults outputs confirmed buzzer counter =
    faces_from (with_settings_of shown face) shown panel zones firsts faults outputs confirmed refl refl refl refl refl buzzer counter
