-- The entries of a panel that are not yet kept, a moment later.
use Rattle.std.proofs.Common.{◌≡◌, ◌≢◌, ◌∙◌, ◌+◌, ◌==◌, ◌&&◌, not, ℕ, Bool, true, false, List, [], ◌∷◌, length, Result, Ok, Err, ap, arith, refl, subst, sym}
use Rattle.std.specs.Prelude.{OnOk, if◌then◌else◌}
use Rattle.std.proofs.lemmas.Bool.Decides.{nat_tests}
use Rattle.tick_units.specs.declared.task.Task.{Task}
use Rattle.tick_units.specs.declared.task.Task.TheVariants.{Poll, Decide, Supply, Desk, Hold, Link, Effect, Drive, Keep}
use Rattle.tick_units.specs.declared.tick.Tick.{Tick}
use Rattle.site_types.specs.declared.answer.Answer.{Answer}
use Rattle.site_types.specs.declared.event.Event.{Event}
use Rattle.site_types.specs.declared.retained.Retained.{Retained}
use Rattle.site_types.specs.declared.site.Site.{Site}
use Rattle.site_types.specs.Done.{Done}
use Rattle.coincidence_rules.specs.Alarm.{is_in_alarm}
use Rattle.coincidence_rules.specs.Places.{zones_where}
use Rattle.panel_rules.specs.Batches.{enters, is_in_fire_alarm, new_entries}
use Rattle.panel_rules.specs.Moments.{Moment, Began, Happened, Turned, Kept, latest_turn, tick_of}
use Rattle.panel_rules.specs.Zones.{held_answers}
use Rattle.plain_words.specs.declared.asking.Asking.{Asking}
use Rattle.plain_words.specs.declared.entering.Entering.{Entering}
use Rattle.plain_words.specs.Askings.{StandsForAsking}
use Rattle.plain_words.specs.Enterings.{StandsForEntering}

same_number : (n : ℕ) → (n == n) ≡ true
same_number n = grind (arith, nat_tests)

other_number : (m n : ℕ) → m ≢ n → (m == n) ≡ false
other_number m n apart = grind (arith, nat_tests)

module _ (site : Site) (kept : Retained) (done : List Done) where
  -- nothing enters the condition at a panel by a moment
  pub record IsQuiet (panel : ℕ) (moment : Moment) : Type 0 where
    pub latest : (history : List Moment) → latest_turn panel Hold history ≡ latest_turn panel Hold (moment ∷ history)
    pub entries : (history : List Moment) → new_entries site kept done panel history ≡ new_entries site kept done panel (moment ∷ history)

  pub began_is_quiet : (panel : ℕ) (moment : Moment) → moment ≡ Began → IsQuiet panel moment
  began_is_quiet panel moment is = subst (λ m. IsQuiet panel m) (sym is) (record { latest = λ history. refl; entries = λ history. refl })

  pub event_is_quiet : (panel : ℕ) (event : Event) (moment : Moment) → moment ≡ Happened event → IsQuiet panel moment
  event_is_quiet panel event moment is = subst (λ m. IsQuiet panel m) (sym is) (record { latest = λ history. refl; entries = λ history. refl })

  pub other_task_is_quiet : (panel other : ℕ) (task : Task) → task ≢ Hold → IsQuiet panel (Turned other task)
  other_task_is_quiet panel other Poll apart = record { latest = λ history. refl; entries = λ history. refl }
  other_task_is_quiet panel other Decide apart = record { latest = λ history. refl; entries = λ history. refl }
  other_task_is_quiet panel other Supply apart = record { latest = λ history. refl; entries = λ history. refl }
  other_task_is_quiet panel other Desk apart = record { latest = λ history. refl; entries = λ history. refl }
  other_task_is_quiet panel other Hold apart = absurd (apart refl)
  other_task_is_quiet panel other Link apart = record { latest = λ history. refl; entries = λ history. refl }
  other_task_is_quiet panel other Effect apart = record { latest = λ history. refl; entries = λ history. refl }
  other_task_is_quiet panel other Drive apart = record { latest = λ history. refl; entries = λ history. refl }
  other_task_is_quiet panel other Keep apart = record { latest = λ history. refl; entries = λ history. refl }

  latest_passed : (b : Bool) (x y : ℕ) → b ≡ false → y ≡ (if b then x else y)
  latest_passed true x y h = cc
  latest_passed false x y h = refl

  entries_passed : (b c : Bool) (x y : List ℕ) → b ≡ false → y ≡ (if b && c then x else y)
  entries_passed true c x y h = cc
  entries_passed false c x y h = refl

  pub other_panel_is_quiet : (panel other : ℕ) (task : Task) → task ≡ Hold → other ≢ panel → IsQuiet panel (Turned other task)
  other_panel_is_quiet panel other task is apart =
      subst (λ t. IsQuiet panel (Turned other t)) (sym is) (record {
        latest = λ history. latest_passed (other == panel) (tick_of history) (latest_turn panel Hold history) (other_number other panel apart);
        entries =
            λ history. entries_passed (other == panel) (enters site kept done panel history) (tick_of history
            ∷ new_entries site kept done panel history) (new_entries site kept done panel history) (other_number other panel apart);
      })

  -- nothing enters by a moment, but answers are taken
  quiet : (entering : Entering) (asking : Asking) (panel : ℕ) (moment : Moment) (history : List Moment) → IsQuiet panel moment
      → StandsForAsking site panel (moment ∷ history) asking →
      StandsForEntering site kept done panel history entering
      → StandsForEntering site kept done panel (moment ∷ history) (record entering { asking = asking })
  quiet entering asking panel moment history is asks stands =
      record { own = stands.own; asks = asks; latest = stands.latest ∙ is.latest history; count = stands.count ∙ ap length (is.entries history) }

  pub quiet_ok : {T E : Type 0} (result : Result T E) (entering : Entering) (asking : Asking) (moment : Moment) (tick : ℕ)
      → ((panel : ℕ) → entering.panel ≡ panel → IsQuiet panel moment) →
      OnOk result ((panel : ℕ) (history : List Moment) → StandsForAsking site panel history entering.asking → tick_of history ≡ tick
      → StandsForAsking site panel (moment ∷ history) asking) →
      OnOk result ((panel : ℕ) (history : List Moment) → StandsForEntering site kept done panel history entering → tick_of history ≡ tick
      → StandsForEntering site kept done panel (moment ∷ history) (record entering { asking = asking }))
  quiet_ok (Ok value) entering asking moment tick is told =
      λ panel history stands ticks. quiet entering asking panel moment history (is panel stands.own) (told panel history stands.asks ticks) stands
  quiet_ok (Err error) entering asking moment tick is told = tt

  -- a turn of Keep
  kept_count : (failed : Bool) (count entries : ℕ) (ticks : List ℕ) → count ≡ (if failed then entries else 0) → entries ≡ length ticks
      → count ≡ length (if failed then ticks else [])
  kept_count true count entries ticks is was = is ∙ was
  kept_count false count entries ticks is was = is

  pub keeps : (entering : Entering) (asking : Asking) (count panel : ℕ) (failed : Bool) (history : List Moment)
      → count ≡ (if failed then entering.entries else 0) →
      StandsForAsking site panel (Kept failed ∷ history) asking → StandsForEntering site kept done panel history entering →
      StandsForEntering site kept done panel (Kept failed ∷ history) (record entering { asking = asking; entries = count })
  keeps entering asking count panel failed history is asks stands =
      record {
        own = stands.own;
        asks = asks;
        latest = stands.latest;
        count =
            kept_count failed count entering.entries (new_entries site kept done panel history) is stands.count;
      }

  -- a turn of the panel's own Hold
  held_count : (b enters : Bool) (count entries tick : ℕ) (ticks : List ℕ) → b ≡ true → count ≡ (if enters then entries + 1 else entries)
      → entries ≡ length ticks →
      count ≡ length (if b && enters then tick ∷ ticks else ticks)
  held_count true true count entries tick ticks own is was = omega arith
  held_count true false count entries tick ticks own is was = is ∙ was
  held_count false enters count entries tick ticks own is was = cc

  latest_own : (b : Bool) (x y : ℕ) → b ≡ true → x ≡ (if b then x else y)
  latest_own true x y h = refl
  latest_own false x y h = cc

  fire_by : (panel own : ℕ) (shown held : List Answer) (at latest : ℕ) → panel ≡ own → shown ≡ held → at ≡ latest →
      not (zones_where site panel (λ zone. is_in_alarm site kept done shown zone at) == 0)
      ≡ not (zones_where site own (λ zone. is_in_alarm site kept done held zone latest) == 0)
  fire_by panel own shown held at latest same_panel same_answers same_tick =
      ap (λ p. not (zones_where site p (λ zone. is_in_alarm site kept done shown zone at) == 0)) same_panel
      ∙ ap (λ xs. not (zones_where site own (λ zone. is_in_alarm site kept done xs zone at) == 0)) same_answers
      ∙ ap (λ t. not (zones_where site own (λ zone. is_in_alarm site kept done held zone t) == 0)) same_tick

  pub holds : (entering : Entering) (asking : Asking) (tick : Tick) (own count : ℕ) (history : List Moment) (before after : List Answer)
      (was is enters_now : Bool) →
      StandsForEntering site kept done own history entering → tick_of history ≡ tick.0
      → StandsForAsking site own (Turned entering.panel Hold ∷ history) asking →
      before ≡ held_answers site own history
      → was ≡ not (zones_where site entering.panel (λ zone. is_in_alarm site kept done before zone entering.held_at.0) == 0) →
      after ≡ held_answers site own (Turned entering.panel Hold ∷ history)
      → is ≡ not (zones_where site entering.panel (λ zone. is_in_alarm site kept done after zone tick.0) == 0) →
      enters_now ≡ (is && not was) → count ≡ (if enters_now then entering.entries + 1 else entering.entries) →
      StandsForEntering site kept done own (Turned own Hold ∷ history) (record {
        panel = entering.panel;
        asking = asking;
        held_at = tick;
        entries =
            count;
      })
  holds entering asking tick own count history before after was is enters_now stands ticks asks held_before was_by held_after is_by enters_by counts =
      let same : (own == own) ≡ true = same_number own in
      let turned : List Moment = Turned own Hold ∷ history in
      let latest : tick.0 ≡ latest_turn own Hold turned = sym ticks ∙ latest_own (own == own) (tick_of history) (latest_turn own Hold history) same in
      let was_in : was ≡ is_in_fire_alarm site kept done own history =
      was_by ∙ fire_by entering.panel own before (held_answers site own history) entering.held_at.0 _ stands.own held_before stands.latest in
      let shown : after ≡ held_answers site own turned = held_after ∙ ap (λ p. held_answers site own (Turned p Hold ∷ history)) stands.own in
      let is_in : is ≡ is_in_fire_alarm site kept done own turned =
      is_by ∙ fire_by entering.panel own after (held_answers site own turned) tick.0 _ stands.own shown latest in
      let does_enter : enters_now ≡ enters site kept done own history =
      enters_by ∙ ap (λ b. b && not was) is_in ∙ ap (λ b. is_in_fire_alarm site kept done own turned && not b) was_in in
      record {
        own = stands.own;
        asks = subst (λ p. StandsForAsking site own (Turned p Hold ∷ history) asking) stands.own asks;
        latest = latest;
        count =
            held_count (own == own) (enters site kept done own history) count entering.entries (tick_of history)
            (new_entries site kept done own history) same (counts ∙ ap (λ b. if b then entering.entries + 1 else entering.entries) does_enter)
            stands.count;
      }

  -- the same told of a turn by its panel and task
  pub own_turn_ok : {T E : Type 0} (result : Result T E) (before after : Entering) (tick panel : ℕ) (task : Task) → task ≡ Hold
      → panel ≡ before.panel →
      OnOk result ((own : ℕ) (history : List Moment) → StandsForEntering site kept done own history before → tick_of history ≡ tick
      → StandsForEntering site kept done own (Turned own Hold ∷ history) after) →
      OnOk result ((own : ℕ) (history : List Moment) → StandsForEntering site kept done own history before → tick_of history ≡ tick
      → StandsForEntering site kept done own (Turned panel task ∷ history) after)
  own_turn_ok (Ok value) before after tick panel task is same told =
      λ own history stands ticks.
      subst (λ t. StandsForEntering site kept done own (Turned panel t ∷ history) after) (sym is)
      (subst (λ p. StandsForEntering site kept done own (Turned p Hold ∷ history) after) (sym (same ∙ stands.own)) (told own history stands ticks))
  own_turn_ok (Err error) before after tick panel task is same told = tt
