-- What the parts of a panel by itself show is what the rules show of it: what was done in the tick that began last changes nothing of it.
use Rattle.std.proofs.Common.{◌≡◌, ◌∙◌, ◌++◌, ◌≤◌, ℕ, Bool, List, [], ◌∷◌, nat_lt, refl, ap, arith}
use Rattle.tick_units.specs.declared.task.Task.TheVariants.{Poll, Decide, Supply, Desk, Hold, Link, Effect, Drive, Keep}
use Rattle.site_types.specs.declared.fault_set.FaultSet.{FaultSet}
use Rattle.site_types.specs.declared.retained.Retained.{Retained}
use Rattle.site_types.specs.declared.site.Site.{Site}
use Rattle.site_types.specs.declared.word.Word.{Word}
use Rattle.site_types.specs.Done.{Done, muted_before}
use Rattle.site_types.proofs.Done.{muted-later}
use Rattle.site_types.proofs.LaterDone.{AreFrom}
use Rattle.hold_calls.specs.Shown.{buzzer_told, news_told, is_news_told}
use Rattle.later_operations.specs.Later.{AreDoneFrom}
use Rattle.later_operations.proofs.ByFacts.{goes_by_facts}
use Rattle.later_operations.proofs.ByOutputs.{confirmed_by_outputs, on_by_outputs}
use Rattle.later_operations.proofs.Earlier.{then_earlier, up_to_tick}
use Rattle.later_operations.proofs.GoesOn.{goes_later}
use Rattle.node_rules.specs.Handed.{handed_facts, handed_faults, handed_word}
use Rattle.node_rules.specs.Histories.{NodeMoment, befallen}
use Rattle.node_rules.specs.Nodes.{node_up, node_words}
use Rattle.node_rules.specs.Shown.{handed_buzzer, handed_news, tells_news}
use Rattle.node_rules.proofs.LaterHanded.{handed_stays}
use Rattle.panel_conditions.specs.Shown.{is_news, sounds}
use Rattle.panel_laws.proofs.LaterDone.{turn_in_time}
use Rattle.panel_parts.specs.Applied.{applied, done_so_far}
use Rattle.panel_parts.proofs.EntriesKept.{same_since_applied}
use Rattle.panel_rules.specs.Moments.{Moment, Began, Happened, Turned, Kept, latest_turn, tick_of}
use Rattle.panel_rules.specs.Outputs.{goes_on, is_confirmed_out, is_on}
use Rattle.panel_node.specs.Told.{word_of_itself, told_by_frames}
use Rattle.panel_node.proofs.Later.{done_from_tick, own_later}
use Rattle.panel_node.proofs.Words.{faults_handed, word_handed}

news_alike : (word word' earlier earlier' : Word) (faults faults' past past' : FaultSet) → word ≡ word' → faults ≡ faults' → earlier ≡ earlier' → past ≡ past'
    → is_news word faults earlier past ≡ is_news word' faults' earlier' past'
news_alike word word' earlier earlier' faults faults' past past' a b c d =
    ap (λ w. is_news w faults earlier past) a
    ∙ ap (λ f. is_news word' f earlier past) b
    ∙ ap (λ w. is_news word' faults' w past) c
    ∙ ap (λ f. is_news word' faults' earlier' f) d

-- ---- what Hold tells is what the panel is handed

module _ (site : Site) (kept : Retained) (done : List Done) (panel : ℕ) (history : List NodeMoment) where
  news_there : (before : List Moment) → is_news_told site kept done (told_by_frames site kept done panel history) panel before
      ≡ tells_news site kept done panel (node_words site panel history) (node_up site panel history) before
  news_there before =
      news_alike _ _ _ _ _ _ _ _ (word_handed site kept done panel history (Turned panel Hold ∷ before))
      (faults_handed site kept done panel history (Turned panel Hold ∷ before)) (word_handed site kept done panel history before)
      (faults_handed site kept done panel history before)

  news_handed : (m : List Moment) → news_told site kept done (told_by_frames site kept done panel history) panel m
      ≡ handed_news site kept done panel (node_words site panel history) (node_up site panel history) m
  news_handed [] = refl
  news_handed (Began ∷ before) = news_handed before
  news_handed (Happened event ∷ before) = news_handed before
  news_handed (Turned other Hold ∷ before) = rw (news_there before, news_handed before) refl
  news_handed (Turned other Poll ∷ before) = news_handed before
  news_handed (Turned other Decide ∷ before) = news_handed before
  news_handed (Turned other Supply ∷ before) = news_handed before
  news_handed (Turned other Desk ∷ before) = news_handed before
  news_handed (Turned other Link ∷ before) = news_handed before
  news_handed (Turned other Effect ∷ before) = news_handed before
  news_handed (Turned other Drive ∷ before) = news_handed before
  news_handed (Turned other Keep ∷ before) = news_handed before
  news_handed (Kept failed ∷ before) = news_handed before

  pub buzzer_handed : (m : List Moment) → buzzer_told site kept done (told_by_frames site kept done panel history) panel m
      ≡ handed_buzzer site kept done panel (node_words site panel history) (node_up site panel history) m
  buzzer_handed m =
      ap (λ word. sounds word (nat_lt (muted_before panel (latest_turn panel Hold m) done) (news_told site kept done (told_by_frames site kept done panel history) panel m)))
      (word_handed site kept done panel history m)
      ∙ ap (λ news. sounds (handed_word site kept done panel (node_words site panel history) (node_up site panel history) m)
      (nat_lt (muted_before panel (latest_turn panel Hold m) done) news)) (news_handed m)

-- ---- as more is done

from_below : (x y : ℕ) (ds : List Done) → x ≤ y → AreFrom y ds → AreFrom x ds
from_below x y [] less from = tt
from_below x y (d ∷ ds) less from = (let by = from.0 in omega (arith, less, by), from_below x y ds less from.1)

abbrev IsUpTo : ℕ → List Moment → Type 0
IsUpTo x m = tick_of m ≤ x

module _ (site : Site) (kept : Retained) (panel : ℕ) (handed : List Moment → ℕ → Word) (up : List Moment → ℕ → Bool) (new old : List Done) (x : ℕ)
    (from : AreFrom x new) where
  done_from : AreDoneFrom x new
  done_from = done_from_tick x new from

  word_later : (m : List Moment) → tick_of m ≤ x → handed_word site kept (new ++ old) panel handed up m ≡ handed_word site kept old panel handed up m
  word_later m by = (handed_stays site kept panel handed up).word x new old m done_from by

  faults_later : (m : List Moment) → tick_of m ≤ x → handed_faults site kept (new ++ old) panel handed up m ≡ handed_faults site kept old panel handed up m
  faults_later m by = (handed_stays site kept panel handed up).faults x new old m done_from by

  tells_later : (before : List Moment) → tick_of before ≤ x → tells_news site kept (new ++ old) panel handed up before ≡ tells_news site kept old panel handed up before
  tells_later before by =
      news_alike _ _ _ _ _ _ _ _ (word_later (Turned panel Hold ∷ before) by) (faults_later (Turned panel Hold ∷ before) by) (word_later before by)
      (faults_later before by)

  news_later : (m : List Moment) → tick_of m ≤ x → handed_news site kept (new ++ old) panel handed up m ≡ handed_news site kept old panel handed up m
  news_later [] by = refl
  news_later (Began ∷ before) by = news_later before (omega (arith, by))
  news_later (Happened event ∷ before) by = news_later before by
  news_later (Turned other Hold ∷ before) by = rw (tells_later before by, news_later before by) refl
  news_later (Turned other Poll ∷ before) by = news_later before by
  news_later (Turned other Decide ∷ before) by = news_later before by
  news_later (Turned other Supply ∷ before) by = news_later before by
  news_later (Turned other Desk ∷ before) by = news_later before by
  news_later (Turned other Link ∷ before) by = news_later before by
  news_later (Turned other Effect ∷ before) by = news_later before by
  news_later (Turned other Drive ∷ before) by = news_later before by
  news_later (Turned other Keep ∷ before) by = news_later before by
  news_later (Kept failed ∷ before) by = news_later before by

  buzzer_later : (m : List Moment) → tick_of m ≤ x → handed_buzzer site kept (new ++ old) panel handed up m ≡ handed_buzzer site kept old panel handed up m
  buzzer_later m by =
      let turn = latest_turn panel Hold m in
      let time = turn_in_time panel Hold m in
      ap (λ w. sounds w (nat_lt (muted_before panel turn (new ++ old)) (handed_news site kept (new ++ old) panel handed up m))) (word_later m by)
      ∙ ap (λ n. sounds (handed_word site kept old panel handed up m) (nat_lt n (handed_news site kept (new ++ old) panel handed up m)))
      (muted-later panel turn new old (from_below turn x new (omega (arith, time, by)) from))
      ∙ ap (λ n. sounds (handed_word site kept old panel handed up m) (nat_lt (muted_before panel turn old) n)) (news_later m by)

  goes_stays : (output : ℕ) (b : List Moment) → tick_of b ≤ x
      → goes_on site (handed_facts site kept (new ++ old) panel handed up) kept (new ++ old) output b
      ≡ goes_on site (handed_facts site kept old panel handed up) kept old output b
  goes_stays output b by =
      goes_by_facts (IsUpTo x) (up_to_tick x) site (handed_facts site kept (new ++ old) panel handed up) (handed_facts site kept old panel handed up)
      (λ q past early. (handed_stays site kept panel handed up).facts q x new old past done_from early) kept (new ++ old) output b by
      ∙ goes_later site (handed_facts site kept old panel handed up) kept new old x from output b by

  on_later : (output : ℕ) (m : List Moment) → tick_of m ≤ x
      → is_on site (handed_facts site kept (new ++ old) panel handed up) kept (new ++ old) output m
      ≡ is_on site (handed_facts site kept old panel handed up) kept old output m
  on_later output m by =
      on_by_outputs (IsUpTo x) (up_to_tick x) site (handed_facts site kept (new ++ old) panel handed up) (handed_facts site kept old panel handed up) kept
      (new ++ old) old goes_stays output m (then_earlier (IsUpTo x) (up_to_tick x) m by)

  confirmed_later : (output : ℕ) (m : List Moment) → tick_of m ≤ x
      → is_confirmed_out site (handed_facts site kept (new ++ old) panel handed up) kept (new ++ old) output m
      ≡ is_confirmed_out site (handed_facts site kept old panel handed up) kept old output m
  confirmed_later output m by =
      confirmed_by_outputs (IsUpTo x) (up_to_tick x) site (handed_facts site kept (new ++ old) panel handed up) (handed_facts site kept old panel handed up) kept
      (new ++ old) old goes_stays output m (then_earlier (IsUpTo x) (up_to_tick x) m by)

-- ---- with all that was done so far

module _ (site : Site) (kept : Retained) (panel : ℕ) (history : List NodeMoment) where
  abbrev before : List Moment
  before = befallen history

  abbrev handed : List Moment → ℕ → Word
  handed = node_words site panel history

  abbrev up : List Moment → ℕ → Bool
  up = node_up site panel history

  abbrev all_done : List Done
  all_done = done_so_far site kept before

  abbrev in_force_done : List Done
  in_force_done = applied site kept before

  pub word_now : handed_word site kept all_done panel handed up before ≡ handed_word site kept in_force_done panel handed up before
  word_now =
      same_since_applied site kept before (λ done. handed_word site kept done panel handed up before)
      (λ new from. word_later site kept panel handed up new in_force_done (tick_of before) from before (omega arith))

  pub own_now : word_of_itself site kept all_done panel history before ≡ word_of_itself site kept in_force_done panel history before
  own_now =
      same_since_applied site kept before (λ done. word_of_itself site kept done panel history before)
      (λ new from. own_later site kept panel history new in_force_done (tick_of before) (done_from_tick (tick_of before) new from) before (omega arith))

  pub faults_now : handed_faults site kept all_done panel handed up before ≡ handed_faults site kept in_force_done panel handed up before
  faults_now =
      same_since_applied site kept before (λ done. handed_faults site kept done panel handed up before)
      (λ new from. faults_later site kept panel handed up new in_force_done (tick_of before) from before (omega arith))

  pub buzzer_now : handed_buzzer site kept all_done panel handed up before ≡ handed_buzzer site kept in_force_done panel handed up before
  buzzer_now =
      same_since_applied site kept before (λ done. handed_buzzer site kept done panel handed up before)
      (λ new from. buzzer_later site kept panel handed up new in_force_done (tick_of before) from before (omega arith))

  pub on_now : (output : ℕ) → is_on site (handed_facts site kept all_done panel handed up) kept all_done output before
      ≡ is_on site (handed_facts site kept in_force_done panel handed up) kept in_force_done output before
  on_now output =
      same_since_applied site kept before (λ done. is_on site (handed_facts site kept done panel handed up) kept done output before)
      (λ new from. on_later site kept panel handed up new in_force_done (tick_of before) from output before (omega arith))

  pub confirmed_now : (output : ℕ) → is_confirmed_out site (handed_facts site kept all_done panel handed up) kept all_done output before
      ≡ is_confirmed_out site (handed_facts site kept in_force_done panel handed up) kept in_force_done output before
  confirmed_now output =
      same_since_applied site kept before (λ done. is_confirmed_out site (handed_facts site kept done panel handed up) kept done output before)
      (λ new from. confirmed_later site kept panel handed up new in_force_done (tick_of before) from output before (omega arith))
