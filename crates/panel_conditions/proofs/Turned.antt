-- The part that holds, after one more turn or operation, and at first.
use Rattle.std.proofs.Common.{◌≡◌, ℕ, ◌+◌, ◌-◌, ◌<◌, ◌≤◌, ◌^◌, min, Bool, true, false, not, List, ◌∷◌, ◌++◌}
use Rattle.std.proofs.Common.{◌&&◌, nat_lt, if◌then◌else◌, refl, sym, ◌∙◌, ap}
use Rattle.std.proofs.Common.{subst, arith}
use Rattle.tick_units.specs.declared.tick.Tick.{Tick}
use Rattle.site_types.specs.declared.site.Site.{Site}
use Rattle.site_types.specs.declared.retained.Retained.{Retained}
use Rattle.site_types.specs.declared.fault_set.FaultSet.{FaultSet}
use Rattle.site_types.specs.declared.word.Word.{Word}
use Rattle.site_types.specs.Done.{Done, muted_before}
use Rattle.panel_conditions.specs.declared.shown.Shown.{Shown}
use Rattle.panel_conditions.specs.declared.hold.Hold.{Hold}
use Rattle.panel_conditions.specs.Turns.{HoldTurn, findings_taken, latest_tick}
use Rattle.panel_conditions.specs.Words.{faults_after, word_after}
use Rattle.panel_conditions.specs.Shown.{is_news, is_in_fire_alarm, last_news, sounds, entries_after}
use Rattle.panel_conditions.specs.Stands.{HoldsFor, Settled, Shows, ShowsThen, MayTurn, shown_at, shown_then, newly_then}
use Rattle.panel_conditions.proofs.BeforeOperation.{faults-yet, word-yet, news-yet, entries-yet, buzzer-yet}

tick_if : (b : Bool) (s t : Tick) → (if b then s else t).0 ≡ (if b then s.0 else t.0)
tick_if true s t = refl
tick_if false s t = refl

-- entries stay far below the greatest number
entries_more : (b : Bool) (e latest tick : ℕ) → e ≤ latest → latest < tick → tick < 2 ^ 64
    → (if b then min (e + 1) (2 ^ 64 - 1) else e) ≡ e + (if b then 1 else 0)
entries_more true e latest tick few later fits = omega (arith, few, later, fits)
entries_more false e latest tick few later fits = omega arith

entries_few : (b : Bool) (e latest tick : ℕ) → e ≤ latest → latest < tick → e + (if b then 1 else 0) ≤ tick
entries_few true e latest tick few later = omega (arith, few, later)
entries_few false e latest tick few later = omega (arith, few, later)

-- what is shown after a turn
shows_more : (site : Site) (kept : Retained) (panel : ℕ) (done : List Done) (turn : HoldTurn) (before : List HoldTurn) (shown : Shown)
    → Shows site kept panel done before shown →
    entries_after site kept panel done before ≤ latest_tick before → latest_tick before < turn.tick → turn.tick < 2 ^ 64 →
    Shows site kept panel done (turn ∷ before) (shown_at site kept panel done (findings_taken (turn ∷ before)) turn.tick turn.outside shown)
shows_more site kept panel done turn before shown h few later fits = record {
  word = refl;
  faults = refl;
  newly = newly;
  entries =
      ap (λ e. if enters shown.word then min (e + 1) (2 ^ 64 - 1) else e) h.entries
      ∙ ap (λ w. if enters w then min (entries_after site kept panel done before + 1) (2 ^ 64 - 1) else entries_after site kept panel done before)
      h.word
      ∙ entries_more (enters (word_after site kept panel done before)) (entries_after site kept panel done before) (latest_tick before) turn.tick few
      later fits;
  buzzer = ap (λ n. sounds word (nat_lt (muted_before panel turn.tick done) n)) newly;
}
  where
    word : Word
    word = word_after site kept panel done (turn ∷ before)

    faults : FaultSet
    faults = faults_after site kept panel done (turn ∷ before)

    enters : Word → Bool
    enters w = is_in_fire_alarm word && not (is_in_fire_alarm w)

    newly : (newly_then shown word faults).0 ≡ last_news site kept panel done (turn ∷ before)
    newly =
        tick_if (is_news word faults shown.word shown.faults) word.stamp shown.newly
        ∙ ap (λ n. if is_news word faults shown.word shown.faults then turn.tick else n) h.newly
        ∙ ap (λ w. if is_news word faults w shown.faults then turn.tick else last_news site kept panel done before) h.word
        ∙ ap (λ f. if is_news word faults (word_after site kept panel done before) f then turn.tick else last_news site kept panel done before)
        h.faults

-- one more turn
pub holds_turn : (site : Site) (kept : Retained) (panel : ℕ) (done : List Done) (turn : HoldTurn) (before : List HoldTurn) (was amid after : Hold)
    → turn.tick < 2 ^ 64 → HoldsFor site kept panel done before was →
    MayTurn done before turn.tick → amid.shown ≡ was.shown → Settled turn.tick after.zones
    → ShowsThen site kept panel done (findings_taken before ++ turn.found) turn.tick turn.outside amid after →
    HoldsFor site kept panel done (turn ∷ before) after
holds_turn site kept panel done turn before was amid after fits h may same settled step = record {
  watches = step.watches;
  shows =
      subst (Shows site kept panel done (turn ∷ before))
      (sym (step.shown ∙ ap (shown_at site kept panel done (findings_taken (turn ∷ before)) turn.tick turn.outside) same))
      (shows_more site kept panel done turn before was.shown h.shows h.few may.later fits);
  settled = settled;
  stays = step.stays;
  rising = (may.later, h.rising);
  few = entries_few _ (entries_after site kept panel done before) (latest_tick before) turn.tick h.few may.later;
}

-- one more operation: what is shown stays
pub shows_after : (site : Site) (kept : Retained) (panel : ℕ) (done : List Done) (turns : List HoldTurn) (d : Done) (was : Hold)
    → HoldsFor site kept panel done turns was → latest_tick turns ≤ d.tick → Shows site kept panel (d ∷ done) turns was.shown
shows_after site kept panel done turns d was h turned = record {
  word = h.shows.word ∙ sym (word-yet site kept panel d done turns turned);
  faults = h.shows.faults ∙ sym (faults-yet site kept panel d done turns turned);
  newly = h.shows.newly ∙ sym (news-yet site kept panel d done turns h.rising turned);
  entries = h.shows.entries ∙ sym (entries-yet site kept panel d done turns h.rising turned);
  buzzer = h.shows.buzzer ∙ sym (buzzer-yet site kept panel d done turns h.rising turned);
}

pub few_after : (site : Site) (kept : Retained) (panel : ℕ) (done : List Done) (turns : List HoldTurn) (d : Done) (was : Hold)
    → HoldsFor site kept panel done turns was → latest_tick turns ≤ d.tick → entries_after site kept panel (d ∷ done) turns ≤ latest_tick turns
few_after site kept panel done turns d was h turned =
    subst (λ n. n ≤ latest_tick turns) (sym (entries-yet site kept panel d done turns h.rising turned)) h.few

-- what is shown goes by the word, the faults and the last mute
pub shown_same : (shown : Shown) (word other_word : Word) (faults other_faults : FaultSet) (muted : Tick) (tick : ℕ) → word ≡ other_word
    → faults ≡ other_faults → muted.0 ≡ tick →
    shown_then shown word faults muted ≡ shown_then shown other_word other_faults (record { 0 = tick })
shown_same shown word other_word faults other_faults muted tick p q r =
    ap (λ w. shown_then shown w faults muted) p ∙ ap (λ f. shown_then shown other_word f muted) q ∙ ap
    (λ n. shown_then shown other_word other_faults (record { 0 = n })) r
