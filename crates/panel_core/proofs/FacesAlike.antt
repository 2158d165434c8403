-- When a panel shows the same before and after a moment.
use mathlib.Core.Path.{fun_ext}
use Rattle.std.proofs.Common.{◌≡◌, ◌≢◌, ◌∙◌, ◌==◌, ◌&&◌, ℕ, Bool, true, false, List, [], ◌∷◌, Some}
use Rattle.std.proofs.Common.{inl, inr, if◌then◌else◌, map, refl, sym, ap, subst, slice_get}
use Rattle.std.specs.Prelude.{nat_lt}
use Rattle.std.specs.List.{range_with_len}
use Rattle.std.proofs.lemmas.Bool.Decides.{eqb_tells}
use Rattle.tick_units.specs.declared.task.Task.{Task}
use Rattle.tick_units.specs.declared.task.Task.TheVariants.{Poll, Decide, Supply, Desk, Hold, Link, Effect, Drive, Keep}
use Rattle.site_types.specs.declared.buzzer.Buzzer.{Buzzer}
use Rattle.site_types.specs.declared.event.Event.{Event}
use Rattle.site_types.specs.declared.event.Event.TheVariants.{Cable, Confirmed, Link as LinkEvent, Op, Point, Supply as SupplyEvent}
use Rattle.site_types.specs.declared.fault_set.FaultSet.{FaultSet}
use Rattle.site_types.specs.declared.output.Output.{Output}
use Rattle.site_types.specs.declared.retained.Retained.{Retained}
use Rattle.site_types.specs.declared.site.Site.{Site}
use Rattle.site_types.specs.Done.{Done, Setting, PointOff, ZoneOff, OutputOff, InTest, DelaysOff, in_force, muted_before}
use Rattle.site_types.specs.Limits.{most_panels}
use Rattle.site_types.proofs.Done.{in_force-later}
use Rattle.coincidence_rules.specs.Places.{zones_where}
use Rattle.face_text.specs.declared.face.Face.{Face}
use Rattle.output_drive.proofs.OutputBits.{where_same}
use Rattle.panel_conditions.specs.Points.{points_where}
use Rattle.panel_conditions.specs.Shown.{sounds}
use Rattle.panel_laws.proofs.LaterDone.{next_grew}
use Rattle.panel_rules.specs.Batches.{kept_after}
use Rattle.panel_rules.specs.Faces.{buzzer_of, counter_in, last_news, shown_word, shows_news}
use Rattle.panel_rules.specs.Kept.{kept_at, made_at}
use Rattle.panel_rules.specs.Moments.{Moment, Began, Happened, Turned, Kept, latest_turn, tick_of}
use Rattle.panel_rules.specs.Outputs.{confirmations, goes_on, is_confirmed_in, is_confirmed_out, is_on, on_run, outputs_where}
use Rattle.panel_rules.specs.Outputs.{panel_of_output, panel_of_plan}
use Rattle.panel_rules.specs.Run.{facts_of, faults_of, faults_with, tells_fault}
use Rattle.panel_rules.specs.Timeline.{face_of}
use Rattle.panel_rules.specs.Words.{kept_word_of, latest_word, word_made}
use Rattle.panel_parts.specs.Applied.{applied, done_so_far}
use Rattle.panel_parts.proofs.Applied.{applied_past, applied_stays}
use Rattle.panel_parts.proofs.Settings.{past_force}
use Rattle.panel_core.proofs.WholeFaces.{buzzer_now, confirmed_now, faults_now, kept_word_now, on_now, word_now}

-- tasks whose turns show nothing
abbrev pub IsUnseen : Task → Type 0
IsUnseen Hold = ⊥
IsUnseen Link = ⊥
IsUnseen Drive = ⊥
IsUnseen _ = Unit {0}

-- events but for confirmations
abbrev pub IsUnseenEvent : Event → Type 0
IsUnseenEvent (Confirmed output) = ⊥
IsUnseenEvent _ = Unit {0}

module _ (site : Site) (kept : Retained) (panel : ℕ) where
  -- ---- what is shown besides settings and the counter, with these operations

  abbrev pub alarms_shown : List Done → List Moment → List ℕ
  alarms_shown done m = map (λ source. (shown_word site kept done panel m source).alarm) (range_with_len 1 most_panels)

  abbrev pub firsts_shown : List Done → List Moment → List ℕ
  firsts_shown done m = map (λ source. (shown_word site kept done panel m source).first) (range_with_len 1 most_panels)

  abbrev pub on_shown : List Done → List Moment → ℕ
  on_shown done m = outputs_where site panel (λ output. is_on site (facts_of site kept done) kept done output m)

  abbrev pub confirmed_shown : List Done → List Moment → ℕ
  confirmed_shown done m = outputs_where site panel (λ output. is_confirmed_out site (facts_of site kept done) kept done output m)

  -- the same is shown of two histories, each with its operations
  pub record Alike (more : List Done) (after : List Moment) (done : List Done) (before : List Moment) : Type 0 where
    pub alarms : alarms_shown more after ≡ alarms_shown done before
    pub firsts : firsts_shown more after ≡ firsts_shown done before
    pub faults : faults_of site kept more panel after ≡ faults_of site kept done panel before
    pub on : on_shown more after ≡ on_shown done before
    pub confirmed : confirmed_shown more after ≡ confirmed_shown done before
    pub buzzer : buzzer_of site kept more panel after ≡ buzzer_of site kept done panel before

  alike_back : (more done : List Done) (after before : List Moment) → Alike more after done before → Alike done before more after
  alike_back more done after before h = record {
    alarms = sym h.alarms;
    firsts = sym h.firsts;
    faults = sym h.faults;
    on = sym h.on;
    confirmed = sym h.confirmed;
    buzzer = sym h.buzzer;
  }

  alike_then : (most more done : List Done) (last after before : List Moment) → Alike most last more after → Alike more after done before
      → Alike most last done before
  alike_then most more done last after before g h = record {
    alarms = g.alarms ∙ h.alarms;
    firsts = g.firsts ∙ h.firsts;
    faults = g.faults ∙ h.faults;
    on = g.on ∙ h.on;
    confirmed = g.confirmed ∙ h.confirmed;
    buzzer = g.buzzer ∙ h.buzzer;
  }

  -- what was done in the tick that began last changes nothing of it
  words_now : (m : List Moment) → shown_word site kept (done_so_far site kept m) panel m ≡ shown_word site kept (applied site kept m) panel m
  words_now m = fun_ext (λ source.
      ap (λ w. if source == panel then w else kept_word_of site kept (done_so_far site kept m) (tells_fault site kept (done_so_far site kept m)) panel source m)
      (word_now site kept m panel)
      ∙ ap (λ w. if source == panel then latest_word site kept (applied site kept m) (tells_fault site kept (applied site kept m)) panel m else w)
      (kept_word_now site kept m panel source))

  pub alike_now : (m : List Moment) → Alike (done_so_far site kept m) m (applied site kept m) m
  alike_now m = record {
    alarms = ap (λ words. map (λ source. (words source).alarm) (range_with_len 1 most_panels)) (words_now m);
    firsts = ap (λ words. map (λ source. (words source).first) (range_with_len 1 most_panels)) (words_now m);
    faults = faults_now site kept m panel;
    on = ap (outputs_where site panel) (fun_ext (on_now site kept m panel));
    confirmed = ap (outputs_where site panel) (fun_ext (confirmed_now site kept m panel));
    buzzer = buzzer_now site kept m panel;
  }

  -- ---- a face by what is shown

  abbrev face_by : (Setting → Bool) → List ℕ → List ℕ → FaultSet → ℕ → ℕ → Buzzer → ℕ → Face
  face_by force alarms firsts faults on confirmed buzzer counter =
      record {
        panel = panel;
        zones = alarms;
        firsts = firsts;
        faults = faults;
        outputs = on;
        confirmed = confirmed;
        points_off = points_where site panel (λ point. force (PointOff point));
        zones_off = zones_where site panel (λ zone. force (ZoneOff zone));
        outputs_off = outputs_where site panel (λ output. force (OutputOff output));
        test = zones_where site panel (λ zone. force (InTest zone));
        delays_off = force (DelaysOff panel);
        buzzer = buzzer;
        counter = counter;
      }

  abbrev force_at : List Moment → Setting → Bool
  force_at m setting = in_force site kept setting (tick_of m) (done_so_far site kept m)

  faces_alike : (after before : List Moment) → Alike (done_so_far site kept after) after (done_so_far site kept before) before
      → ((setting : Setting) → force_at after setting ≡ force_at before setting)
      → counter_in panel (kept_after site kept after) ≡ counter_in panel (kept_after site kept before)
      → face_of site kept panel after ≡ face_of site kept panel before
  faces_alike after before h settings counter =
      let more = done_so_far site kept after in
      let done = done_so_far site kept before in
      let here = force_at before in
      ap (λ x. face_by x (alarms_shown more after) (firsts_shown more after) (faults_of site kept more panel after) (on_shown more after)
      (confirmed_shown more after) (buzzer_of site kept more panel after) (counter_in panel (kept_after site kept after))) (fun_ext settings)
      ∙ ap (λ x. face_by here x (firsts_shown more after) (faults_of site kept more panel after) (on_shown more after)
      (confirmed_shown more after) (buzzer_of site kept more panel after) (counter_in panel (kept_after site kept after))) h.alarms
      ∙ ap (λ x. face_by here (alarms_shown done before) x (faults_of site kept more panel after) (on_shown more after)
      (confirmed_shown more after) (buzzer_of site kept more panel after) (counter_in panel (kept_after site kept after))) h.firsts
      ∙ ap (λ x. face_by here (alarms_shown done before) (firsts_shown done before) x (on_shown more after)
      (confirmed_shown more after) (buzzer_of site kept more panel after) (counter_in panel (kept_after site kept after))) h.faults
      ∙ ap (λ x. face_by here (alarms_shown done before) (firsts_shown done before) (faults_of site kept done panel before) x
      (confirmed_shown more after) (buzzer_of site kept more panel after) (counter_in panel (kept_after site kept after))) h.on
      ∙ ap (λ x. face_by here (alarms_shown done before) (firsts_shown done before) (faults_of site kept done panel before) (on_shown done before)
      x (buzzer_of site kept more panel after) (counter_in panel (kept_after site kept after))) h.confirmed
      ∙ ap (λ x. face_by here (alarms_shown done before) (firsts_shown done before) (faults_of site kept done panel before) (on_shown done before)
      (confirmed_shown done before) x (counter_in panel (kept_after site kept after))) h.buzzer
      ∙ ap (λ x. face_by here (alarms_shown done before) (firsts_shown done before) (faults_of site kept done panel before) (on_shown done before)
      (confirmed_shown done before) (buzzer_of site kept done panel before) x) counter

  -- the settings stay through a moment of a tick
  force_stays : (moment : Moment) (before : List Moment) → tick_of (moment ∷ before) ≡ tick_of before → (setting : Setting)
      → force_at (moment ∷ before) setting ≡ force_at before setting
  force_stays moment before same setting =
      let grew = next_grew site kept moment before in
      ap (λ t. in_force site kept setting t (done_so_far site kept (moment ∷ before))) same
      ∙ ap (in_force site kept setting (tick_of before)) grew.is
      ∙ in_force-later site kept setting (tick_of before) grew.new (done_so_far site kept before) grew.from

  -- so does the face, where what the parts show with what is in force stays, and the counter
  pub face_stays : (moment : Moment) (before : List Moment) → tick_of (moment ∷ before) ≡ tick_of before
      → Alike (applied site kept before) (moment ∷ before) (applied site kept before) before
      → counter_in panel (kept_after site kept (moment ∷ before)) ≡ counter_in panel (kept_after site kept before)
      → face_of site kept panel (moment ∷ before) ≡ face_of site kept panel before
  face_stays moment before same h counter =
      let done = applied site kept before in
      let now = applied site kept (moment ∷ before) in
      let later = subst (λ ds. Alike ds (moment ∷ before) done before) (applied_stays site kept moment before same) h in
      faces_alike (moment ∷ before) before
      (alike_then (done_so_far site kept (moment ∷ before)) now (done_so_far site kept before) (moment ∷ before) (moment ∷ before) before
      (alike_now (moment ∷ before))
      (alike_then now done (done_so_far site kept before) (moment ∷ before) before before later
      (alike_back (done_so_far site kept before) done before before (alike_now before))))
      (force_stays moment before same) counter

  -- and when a tick begins, where nothing was done in the one that ends
  pub face_stays_begun : (before : List Moment) → done_so_far site kept before ≡ applied site kept before
      → face_of site kept panel (Began ∷ before) ≡ face_of site kept panel before
  face_stays_begun before none =
      faces_alike (Began ∷ before) before (record { alarms = refl; firsts = refl; faults = refl; on = refl; confirmed = refl; buzzer = refl })
      (λ setting.
      ap (in_force site kept setting (tick_of (Began ∷ before))) none
      ∙ sym (past_force site kept setting (tick_of before) (applied site kept before) (applied_past site kept before))
      ∙ ap (in_force site kept setting (tick_of before)) (sym none))
      refl

  -- ---- what the parts show at each moment

  module _ (done : List Done) (before : List Moment) where
    pub unseen_turn : (other : ℕ) (task : Task) → IsUnseen task → Alike done (Turned other task ∷ before) done before
    unseen_turn other Poll unseen = record { alarms = refl; firsts = refl; faults = refl; on = refl; confirmed = refl; buzzer = refl }
    unseen_turn other Decide unseen = record { alarms = refl; firsts = refl; faults = refl; on = refl; confirmed = refl; buzzer = refl }
    unseen_turn other Supply unseen = record { alarms = refl; firsts = refl; faults = refl; on = refl; confirmed = refl; buzzer = refl }
    unseen_turn other Desk unseen = record { alarms = refl; firsts = refl; faults = refl; on = refl; confirmed = refl; buzzer = refl }
    unseen_turn other Effect unseen = record { alarms = refl; firsts = refl; faults = refl; on = refl; confirmed = refl; buzzer = refl }
    unseen_turn other Hold unseen = elim unseen [ ]
    unseen_turn other Link unseen = elim unseen [ ]
    unseen_turn other Drive unseen = elim unseen [ ]
    unseen_turn other Keep unseen = record { alarms = refl; firsts = refl; faults = refl; on = refl; confirmed = refl; buzzer = refl }

    pub unseen_keep : (failed : Bool) → Alike done (Kept failed ∷ before) done before
    unseen_keep failed = record { alarms = refl; firsts = refl; faults = refl; on = refl; confirmed = refl; buzzer = refl }

    pub unseen_event : (event : Event) → IsUnseenEvent event → Alike done (Happened event ∷ before) done before
    unseen_event (Point point state) unseen = record { alarms = refl; firsts = refl; faults = refl; on = refl; confirmed = refl; buzzer = refl }
    unseen_event (Cable at line piece state) unseen = record { alarms = refl; firsts = refl; faults = refl; on = refl; confirmed = refl; buzzer = refl }
    unseen_event (SupplyEvent at kind bad) unseen = record { alarms = refl; firsts = refl; faults = refl; on = refl; confirmed = refl; buzzer = refl }
    unseen_event (LinkEvent link up) unseen = record { alarms = refl; firsts = refl; faults = refl; on = refl; confirmed = refl; buzzer = refl }
    unseen_event (Op at code operation) unseen = record { alarms = refl; firsts = refl; faults = refl; on = refl; confirmed = refl; buzzer = refl }
    unseen_event (Confirmed output) unseen = elim unseen [ ]

    -- a confirmation of an output of another panel
    pub confirmed_elsewhere : (output : ℕ) (plan : Output) → slice_get site.outputs output ≡ Some plan → plan.panel ≢ panel
        → Alike done (Happened (Confirmed output) ∷ before) done before
    confirmed_elsewhere output plan is apart = record {
      alarms = refl;
      firsts = refl;
      faults = refl;
      on = refl;
      confirmed = where_same site panel _ _ (λ o at.
          ap (λ b. is_confirmed_in (on_run site (facts_of site kept done) kept done o before) (if b then tick_of before ∷ confirmations o before else confirmations o before))
          (another o at));
      buzzer = refl;
    }
      where
        another : (o : ℕ) → panel_of_output site o ≡ panel → (output == o) ≡ false
        another o at = elim (eqb_tells output o) [
          | inl t ↦ absurd (apart (ap panel_of_plan (sym is) ∙ ap (panel_of_output site) t.1 ∙ at))
          | inr t ↦ t.0
        ]

    -- turns at other panels
    pub hold_elsewhere : (other : ℕ) → (other == panel) ≡ false → Alike done (Turned other Hold ∷ before) done before
    hold_elsewhere other e = record {
      alarms = ap (λ made. map (λ source. (if source == panel then word_made site kept done (tells_fault site kept done) panel made
          else kept_word_of site kept done (tells_fault site kept done) panel source before).alarm) (range_with_len 1 most_panels)) made_stays;
      firsts = ap (λ made. map (λ source. (if source == panel then word_made site kept done (tells_fault site kept done) panel made
          else kept_word_of site kept done (tells_fault site kept done) panel source before).first) (range_with_len 1 most_panels)) made_stays;
      faults = ap (faults_with site kept done (tells_fault site kept done) panel) made_stays;
      on = refl;
      confirmed = refl;
      buzzer = ap (λ b. sounds (word_made site kept done (tells_fault site kept done) panel (if b then Turned other Hold ∷ before else made_at panel before))
          (nat_lt (muted_before panel (if b then tick_of before else latest_turn panel Hold before) done)
          (if b && shows_news site kept done panel before then tick_of before else last_news site kept done panel before))) e;
    }
      where
        made_stays : made_at panel (Turned other Hold ∷ before) ≡ made_at panel before
        made_stays = ap (λ b. if b then Turned other Hold ∷ before else made_at panel before) e

    pub link_elsewhere : (other : ℕ) → (other == panel) ≡ false → Alike done (Turned other Link ∷ before) done before
    link_elsewhere other e = record {
      alarms = ap (λ shown. map shown (range_with_len 1 most_panels)) (fun_ext (λ source.
          ap (λ made. (if source == panel then latest_word site kept done (tells_fault site kept done) panel before
          else word_made site kept done (tells_fault site kept done) source made).alarm) (kept_stays source)));
      firsts = ap (λ shown. map shown (range_with_len 1 most_panels)) (fun_ext (λ source.
          ap (λ made. (if source == panel then latest_word site kept done (tells_fault site kept done) panel before
          else word_made site kept done (tells_fault site kept done) source made).first) (kept_stays source)));
      faults = refl;
      on = refl;
      confirmed = refl;
      buzzer = refl;
    }
      where
        kept_stays : (source : ℕ) → kept_at site.panels panel source (Turned other Link ∷ before) ≡ kept_at site.panels panel source before
        kept_stays source = rw e refl

    pub drive_elsewhere : (other : ℕ) → (other == panel) ≡ false → Alike done (Turned other Drive ∷ before) done before
    drive_elsewhere other e = record {
      alarms = refl;
      firsts = refl;
      faults = refl;
      on = where_same site panel _ _ (λ output at.
          ap (λ b. if b then goes_on site (facts_of site kept done) kept done output before else is_on site (facts_of site kept done) kept done output before)
          (apart output at));
      confirmed = where_same site panel _ _ (λ output at.
          ap (λ b. is_confirmed_in (if b then (if goes_on site (facts_of site kept done) kept done output before then tick_of before
          ∷ on_run site (facts_of site kept done) kept done output before else []) else on_run site (facts_of site kept done) kept done output before)
          (confirmations output before)) (apart output at));
      buzzer = refl;
    }
      where
        apart : (output : ℕ) → panel_of_output site output ≡ panel → (other == panel_of_output site output) ≡ false
        apart output at = subst (λ q. (other == q) ≡ false) (sym at) e

    -- its own turns, where what the part shows is as it was
    pub hold_alike : (latest_word site kept done (tells_fault site kept done) panel (Turned panel Hold ∷ before)).alarm
        ≡ (latest_word site kept done (tells_fault site kept done) panel before).alarm
        → (latest_word site kept done (tells_fault site kept done) panel (Turned panel Hold ∷ before)).first
        ≡ (latest_word site kept done (tells_fault site kept done) panel before).first
        → faults_of site kept done panel (Turned panel Hold ∷ before) ≡ faults_of site kept done panel before
        → buzzer_of site kept done panel (Turned panel Hold ∷ before) ≡ buzzer_of site kept done panel before
        → Alike done (Turned panel Hold ∷ before) done before
    hold_alike alarm first faults buzzer = record {
      alarms = ap (λ shown. map shown (range_with_len 1 most_panels)) (fun_ext (λ source. alarm_of source (source == panel)));
      firsts = ap (λ shown. map shown (range_with_len 1 most_panels)) (fun_ext (λ source. first_of source (source == panel)));
      faults = faults;
      on = refl;
      confirmed = refl;
      buzzer = buzzer;
    }
      where
        alarm_of : (source : ℕ) (own : Bool)
            → (if own then latest_word site kept done (tells_fault site kept done) panel (Turned panel Hold ∷ before)
            else kept_word_of site kept done (tells_fault site kept done) panel source (Turned panel Hold ∷ before)).alarm
            ≡ (if own then latest_word site kept done (tells_fault site kept done) panel before
            else kept_word_of site kept done (tells_fault site kept done) panel source before).alarm
        alarm_of source true = alarm
        alarm_of source false = refl

        first_of : (source : ℕ) (own : Bool)
            → (if own then latest_word site kept done (tells_fault site kept done) panel (Turned panel Hold ∷ before)
            else kept_word_of site kept done (tells_fault site kept done) panel source (Turned panel Hold ∷ before)).first
            ≡ (if own then latest_word site kept done (tells_fault site kept done) panel before
            else kept_word_of site kept done (tells_fault site kept done) panel source before).first
        first_of source true = first
        first_of source false = refl

    pub link_alike : alarms_shown done (Turned panel Link ∷ before) ≡ alarms_shown done before
        → firsts_shown done (Turned panel Link ∷ before) ≡ firsts_shown done before → Alike done (Turned panel Link ∷ before) done before
    link_alike alarms firsts = record { alarms = alarms; firsts = firsts; faults = refl; on = refl; confirmed = refl; buzzer = refl }

    pub drive_alike : on_shown done (Turned panel Drive ∷ before) ≡ on_shown done before
        → confirmed_shown done (Turned panel Drive ∷ before) ≡ confirmed_shown done before → Alike done (Turned panel Drive ∷ before) done before
    drive_alike on confirmed = record { alarms = refl; firsts = refl; faults = refl; on = on; confirmed = confirmed; buzzer = refl }
