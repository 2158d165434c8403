-- The small cases, judged.
use Rattle.std.proofs.Common.{◌≡◌, ◌≢◌, ◌⊎◌, ℕ, zero, suc, ◌+◌, ◌≤◌, ◌<◌, ◌++◌, Bool, true, false, ◌&&◌, ◌||◌, not, List, [], ◌∷◌, length, Option, Some, None, slice_get}
use Rattle.std.proofs.Common.{if◌then◌else◌, inl, inr, refl, sym, ◌∙◌, ap, subst, arith}
use Rattle.std.specs.Prelude.{◌==◌, ◌-◌, nat_le}
use Rattle.std.specs.List.{list_all, range_with_len}
use Rattle.std.proofs.lemmas.Bool.Decides.{leb_tells, eqb_tells}
use Rattle.site_types.specs.declared.output.Output.{Output}
use Rattle.site_types.specs.declared.retained.Retained.{Retained}
use Rattle.site_types.specs.declared.zone.Zone.{Zone}
use Rattle.site_types.specs.declared.point_state.PointState.{PointState}
use Rattle.site_types.specs.declared.point_state.PointState.TheVariants.{Quiet, Alarm, Gone}
use Rattle.site_types.specs.Done.{Done, is_blocked}
use Rattle.loop_poller.specs.Asked.{asked_in}
use Rattle.face_text.specs.declared.face.Face.{Face}
use Rattle.face_text.specs.declared.group.Group.TheVariants.{Zones, Outputs}
use Rattle.face_text.specs.declared.step.Step.{Step}
use Rattle.face_text.specs.declared.timeline.Timeline.{Timeline}
use Rattle.face_text.specs.Faces.{empty_face}
use Rattle.face_reading.specs.Reading.{face_at}
use Rattle.face_text.specs.Slots.{shows}
use Rattle.panel_rules.specs.Caused.{IsCausedAt}
use Rattle.panel_rules.specs.Due.{IsDue, IsHeld, by_one, own as own_due, reached_at}
use Rattle.panel_rules.specs.Markers.{Facts}
use Rattle.panel_rules.specs.Moments.{Moment, TickBlock, moments, tick_of, up_to, IsPanel}
use Rattle.panel_rules.specs.Operations.{Request}
use Rattle.panel_rules.specs.States.{state_of}
use Rattle.panel_rules.proofs.Bools.{all_at, not_false, parts}
use Rattle.panel_rules.proofs.Places.{range_get}
use Rattle.panel_rules.proofs.Floors.{le_from}
use Rattle.audit_rules.specs.declared.audit_rule.AuditRule.{AuditRule}
use Rattle.audit_rules.specs.declared.audit_rule.AuditRule.TheVariants.{Length, Answer, Indication, Output as OutputRule, Zone as ZoneRule, Cause}
use Rattle.audit_rules.specs.Answering.{HasUnfounded}
use Rattle.audit_rules.specs.Breaches.{Breach, BreaksRule, BreaksAnswer, BreaksIndication, BreaksOutput, BreaksZone, BreaksCause, IsBreach, IsFirstBreach, NamesZone, NamesOutput}
use Rattle.audit_rules.specs.Breaches.{asked_in_record, done_by_text, kept_by_text, befallen_by, place_of_rule}
use Rattle.audit_rules.specs.CanCause.{CanBeHeard, CanBeShown, own, told, CanBeTrue, CanBeOn}
use Rattle.audit_rules.specs.Examples.{Unnamed, site_one, ticks_of_one, zone_face, fire_face, shown_in, text_of_one, zone_of_one, PassesOne, FailsUnshown, FailsUncaused}
use Rattle.audit_rules.specs.Hearing.{MayBeHeard}
use Rattle.audit_rules.specs.Shown.{face_told_after, text_tells_zone, text_tells_output}
use Rattle.audit_rules.specs.Verdicts.{IsJudged, is_failed, is_passed}
use Rattle.audit_rules.proofs.FirstOnes.{StandsHigher, not_before}
use Rattle.audit_rules.proofs.SmallSite.{up_to_by, due_late, due_on_late, zone_is, output_is}

-- ---- no answers

nothing_in : (before : List Step) (step : Step) (after : List Step) → [] ≡ before ++ step ∷ after → ⊥
nothing_in [] step after e = cc
nothing_in (one ∷ before) step after e = cc

none_unfounded : (asked : List Request) (tick : ℕ) → HasUnfounded asked [] tick → ⊥
none_unfounded asked tick h = nothing_in h.before h.step h.after h.splits

unanswered : (one : Step) → one.answers.ops ≡ [] → (before : List Step) (step : Step) (after : List Step)
    → one ∷ [] ≡ before ++ step ∷ after → step.answers.ops ≡ []
unanswered one none [] step after e =
    let same : one ≡ step = cc in ap (λ (s : Step). s.answers.ops) (sym same) ∙ none
unanswered one none (other ∷ before) step after e =
    let rest : [] ≡ before ++ step ∷ after = cc in absurd (nothing_in before step after rest)

one_unfounded : (asked : List Request) (one : Step) (tick : ℕ) → one.answers.ops ≡ [] → HasUnfounded asked (one ∷ []) tick → ⊥
one_unfounded asked one tick none h =
    let e : slice_get h.step.answers.ops h.place ≡ None = ap (λ ops. slice_get ops h.place) (unanswered one none h.before h.step h.after h.splits) in
    let f = sym e ∙ h.is in
    cc

-- ---- what a text with one step shows

module _ (unnamed : Unnamed) where
  panel_one : (panel : ℕ) → IsPanel 1 panel → panel ≡ 1
  panel_one panel h = omega (arith, h.0, h.1)

  same_zone : (one plan : Zone) → Some one ≡ Some plan → one ≡ plan
  same_zone one plan h = cc

  same_output : (one plan : Output) → Some one ≡ Some plan → one ≡ plan
  same_output one plan h = cc

  -- a zone that is shown is the first one, and shown at panel 1
  module _ (timeline : Timeline) (tick : ℕ) (second : text_tells_zone timeline 1 (zone_of_one unnamed 2) tick ≡ true → ⊥) where
    pub shown_zone : (panel place : ℕ) (plan : Zone) → IsPanel 1 panel → slice_get (site_one unnamed).zones place ≡ Some plan
        → text_tells_zone timeline panel plan tick ≡ true → (place ≡ 0) × (text_tells_zone timeline 1 (zone_of_one unnamed 1) tick ≡ true)
    shown_zone panel zero plan p h shown = (
      refl,
      subst (λ z. text_tells_zone timeline 1 z tick ≡ true) (sym (same_zone (zone_of_one unnamed 1) plan h))
          (subst (λ q. text_tells_zone timeline q plan tick ≡ true) (panel_one panel p) shown),
    )
    shown_zone panel (suc zero) plan p h shown =
        absurd
        (second
        (subst (λ z. text_tells_zone timeline 1 z tick ≡ true) (sym (same_zone (zone_of_one unnamed 2) plan h))
        (subst (λ q. text_tells_zone timeline q plan tick ≡ true) (panel_one panel p) shown)))
    shown_zone panel (suc (suc place)) plan p h shown = absurd cc

  -- the same of outputs
  module _ (timeline : Timeline) (tick : ℕ) (second : shows (face_told_after timeline 1 tick) Outputs 2 ≡ true → ⊥) where
    pub shown_output : (place : ℕ) (plan : Output) → slice_get (site_one unnamed).outputs place ≡ Some plan
        → text_tells_output timeline plan tick ≡ true → (place ≡ 0) × (shows (face_told_after timeline 1 tick) Outputs 1 ≡ true)
    shown_output zero plan h shown = (refl, subst (λ o. text_tells_output timeline o tick ≡ true) (sym (same_output _ plan h)) shown)
    shown_output (suc zero) plan h shown =
        absurd (second (subst (λ o. text_tells_output timeline o tick ≡ true) (sym (same_output _ plan h)) shown))
    shown_output (suc (suc place)) plan h shown = absurd cc

-- faces from a step on, and before it
zone_by : (by : Bool) (face : Face) → shows (face_at (if by then face ∷ [] else empty_face 1 ∷ []) 1) (Zones 1) 1 ≡ true → by ≡ true
zone_by true face h = refl
zone_by false face h = cc

second_by : (by : Bool) → shows (face_at (if by then fire_face ∷ [] else empty_face 1 ∷ []) 1) (Zones 1) 2 ≡ true → ⊥
second_by true h = cc
second_by false h = cc

second_of_zone : (by : Bool) → shows (face_at (if by then zone_face ∷ [] else empty_face 1 ∷ []) 1) (Zones 1) 2 ≡ true → ⊥
second_of_zone true h = cc
second_of_zone false h = cc

output_by : (by : Bool) → shows (face_at (if by then fire_face ∷ [] else empty_face 1 ∷ []) 1) Outputs 1 ≡ true → by ≡ true
output_by true h = refl
output_by false h = cc

no_output_by : (by : Bool) → shows (face_at (if by then zone_face ∷ [] else empty_face 1 ∷ []) 1) Outputs 1 ≡ true → ⊥
no_output_by true h = cc
no_output_by false h = cc

second_output_by : (by : Bool) (face : Face) → shows face Outputs 2 ≡ false
    → shows (face_at (if by then face ∷ [] else empty_face 1 ∷ []) 1) Outputs 2 ≡ true → ⊥
second_output_by true face off h = let never = sym off ∙ h in cc
second_output_by false face off h = cc

-- ---- a text that passes

not_none : (zone : ℕ) → (suc zone == 0) ≡ true → ⊥
not_none zone h =
    elim (eqb_tells (suc zone) 0) [ inl e ↦ omega (arith, e.1) | inr e ↦ (let never = sym h ∙ e.0 in cc) ]

abbrev passed_text : Timeline
passed_text = text_of_one (shown_in 12 fire_face ∷ []) 12

module _ (unnamed : Unnamed) where
  abbrev passed_moments : ℕ → List Moment
  passed_moments tick = befallen_by (site_one unnamed) (ticks_of_one 12) passed_text tick

  abbrev passed_kept : Retained
  passed_kept = kept_by_text (site_one unnamed) (ticks_of_one 12) passed_text

  abbrev passed_done : List Done
  passed_done = done_by_text (site_one unnamed) (ticks_of_one 12) passed_text

  -- the detector's answer of tick 12 confirms the zone
  twelfth_causes : IsCausedAt (site_one unnamed) passed_kept passed_done (passed_moments 12) 0 12
  unfolding asked_in
  twelfth_causes = record { stamp = 12; past = omega arith; given = refl; floor = refl }

  twelfth_is_heard : (zone : ℕ) → (zone == 0) ≡ true → CanBeHeard (site_one unnamed) passed_text passed_kept passed_done (passed_moments 12) 1 zone
  twelfth_is_heard zero h =
      record { stamp = 12; heard = record { past = omega arith; recent = λ joined. omega arith }; cause = twelfth_causes }
  twelfth_is_heard (suc zone) h = absurd (not_none zone h)

  sounder_is_caused : CanBeOn (site_one unnamed) passed_text passed_kept passed_done (passed_moments 12) 0
  sounder_is_caused =
      record {
        facts = record { released = λ zone. zone == 0; by_hand = λ zone. false; faulty = λ source. false };
        caused = record { released = λ zone h. twelfth_is_heard zone h; by_hand = λ zone h. absurd cc; faults = λ source h. absurd cc };
        asks = refl;
      }

  zone_is_caused : CanBeShown (site_one unnamed) passed_text passed_kept passed_done (passed_moments 12) 1 0
  zone_is_caused = own refl twelfth_causes

  none_broken : (breach : Breach) → breach.tick ≤ 12 → (rule : AuditRule) → BreaksRule (site_one unnamed) (ticks_of_one 12) passed_text rule breach → ⊥
  none_broken breach ends Length h = h
  none_broken breach ends Answer h =
      one_unfounded (asked_in_record (site_one unnamed) (ticks_of_one 12) passed_text) (shown_in 12 fire_face) breach.tick refl h.unfounded
  none_broken breach ends Indication h =
      let late = due_late (site_one unnamed) passed_kept passed_done refl (passed_moments breach.tick) h.place breach.panel h.due in
      let by = up_to_by breach.tick (moments (ticks_of_one 12)) in
      omega (arith, late, by, ends)
  none_broken breach ends OutputRule h =
      let late = due_on_late unnamed passed_kept passed_done (passed_moments breach.tick) h.place h.due in
      let by = up_to_by breach.tick (moments (ticks_of_one 12)) in
      omega (arith, late, by, ends)
  none_broken breach ends ZoneRule h =
      let s = shown_zone unnamed passed_text breach.tick (λ t. second_by (nat_le 12 breach.tick) t) breach.panel h.place h.plan h.names.panel h.names.plan_is h.shown in
      let from = le_from 12 breach.tick (zone_by (nat_le 12 breach.tick) fire_face s.1) in
      let at : breach.tick ≡ 12 = omega (arith, from, ends) in
      let panel = panel_one unnamed breach.panel h.names.panel in
      h.uncaused (rw (at, panel, s.0) zone_is_caused)
  none_broken breach ends Cause h =
      let s = shown_output unnamed passed_text breach.tick (λ t. second_output_by (nat_le 12 breach.tick) fire_face refl t) h.place h.plan h.names.plan_is h.on in
      let from = le_from 12 breach.tick (output_by (nat_le 12 breach.tick) s.1) in
      let at : breach.tick ≡ 12 = omega (arith, from, ends) in
      h.uncaused (rw (at, s.0) sounder_is_caused)

pub passes_one : PassesOne
passes_one unnamed = is_passed refl (λ breach broken. none_broken unnamed breach broken.ends breach.rule broken.breaks)

-- ---- a text that shows nothing

abbrev silent_text : Timeline
silent_text = text_of_one [] 40

abbrev is_alarm_state : PointState → Bool
is_alarm_state Alarm = true
is_alarm_state Quiet = false
is_alarm_state Gone = false

alarm_state : (state : PointState) → is_alarm_state state ≡ true → state ≡ Alarm
alarm_state Alarm h = refl
alarm_state Quiet h = cc
alarm_state Gone h = cc

abbrev unshown : Breach
unshown = record { tick = 21; rule = Indication; panel = 1; owner = 1; number = 1 }

module _ (unnamed : Unnamed) where
  abbrev silent_moments : ℕ → List Moment
  silent_moments tick = befallen_by (site_one unnamed) (ticks_of_one 40) silent_text tick

  abbrev silent_kept : Retained
  silent_kept = kept_by_text (site_one unnamed) (ticks_of_one 40) silent_text

  abbrev silent_done : List Done
  silent_done = done_by_text (site_one unnamed) (ticks_of_one 40) silent_text

  abbrev signals : ℕ → Bool
  signals tick =
      is_alarm_state (state_of 1 (up_to tick (moments (ticks_of_one 21))))
      && (reached_at (site_one unnamed) 1 (up_to tick (moments (ticks_of_one 21)))
      && not (is_blocked (site_one unnamed) silent_kept silent_done 1 tick))

  signals_all : list_all signals (range_with_len 1 12) ≡ true
  signals_all = refl

  signals_each : (tick : ℕ) → 1 ≤ tick → tick < 13 → signals tick ≡ true
  signals_each tick from to =
      let at : slice_get (range_with_len 1 12) (tick - 1) ≡ Some (1 + (tick - 1)) = range_get 1 12 (tick - 1) (omega (arith, from, to)) in
      let same : 1 + (tick - 1) ≡ tick = omega (arith, from) in
      all_at signals (range_with_len 1 12) (tick - 1) tick signals_all (subst (λ t. slice_get (range_with_len 1 12) (tick - 1) ≡ Some t) same at)

  first_ticks : silent_moments 21 ≡ moments (ticks_of_one 21)
  first_ticks = refl

  held : IsHeld (site_one unnamed) silent_kept silent_done (moments (ticks_of_one 21)) 1 1
  held tick from to =
      let p = parts _ _ (signals_each tick from to) in
      let q = parts _ _ p.1 in
      record { alarm = alarm_state _ p.0; reached = q.0; free = not_false _ q.1 }

  due_at_last : IsDue (site_one unnamed) silent_kept silent_done (moments (ticks_of_one 21)) 0 1
  due_at_last =
      let last : tick_of (moments (ticks_of_one 21)) ≡ 21 = refl in
      record {
        settled = 1;
        signal = by_one (record { point = 1; begins = omega arith; rule = inl refl; of_zone = refl; held = held; floor = refl });
        late = own_due refl (omega (arith, last));
      }

  is_hidden : BreaksIndication (site_one unnamed) (ticks_of_one 40) silent_text unshown
  is_hidden =
      record {
        place = 0;
        plan = zone_of_one unnamed 1;
        names = record { panel = (omega arith, omega arith); plan_is = refl; owner = refl; number = refl };
        due = subst (λ m. IsDue (site_one unnamed) silent_kept silent_done m 0 1) (sym first_ticks) due_at_last;
        hidden = refl;
      }

  is_unshown : IsBreach (site_one unnamed) (ticks_of_one 40) silent_text unshown
  is_unshown = record { begins = omega arith; ends = omega arith; breaks = is_hidden }

  -- what else is broken stands no lower
  later_unshown : (other : Breach) → (rule : AuditRule) → other.rule ≡ rule → BreaksRule (site_one unnamed) (ticks_of_one 40) silent_text rule other
      → StandsHigher other unshown
  later_unshown other Length e h = absurd h
  later_unshown other Answer e h = absurd (none_unfounded (asked_in_record (site_one unnamed) (ticks_of_one 40) silent_text) other.tick h.unfounded)
  later_unshown other Indication e h =
      let late = due_late (site_one unnamed) silent_kept silent_done refl (silent_moments other.tick) h.place other.panel h.due in
      let by = up_to_by other.tick (moments (ticks_of_one 40)) in
      let z = zone_is unnamed h.place h.plan h.names.plan_is in
      record {
        tick = omega (arith, late, by);
        rule = subst (λ r. 2 ≤ place_of_rule r) (sym e) (omega arith);
        panel = h.names.panel.0;
        owner = omega (arith, h.names.owner, z.0);
        number = omega (arith, h.names.number, z.1);
      }
  later_unshown other OutputRule e h =
      let late = due_on_late unnamed silent_kept silent_done (silent_moments other.tick) h.place h.due in
      let by = up_to_by other.tick (moments (ticks_of_one 40)) in
      let o = output_is unnamed h.place h.plan h.names.plan_is in
      record {
        tick = omega (arith, late, by);
        rule = subst (λ r. 2 ≤ place_of_rule r) (sym e) (omega arith);
        panel = omega (arith, h.names.panel, o.0);
        owner = omega (arith, h.names.owner, o.0);
        number = omega (arith, h.names.number, o.1);
      }
  later_unshown other ZoneRule e h =
      let s = shown_zone unnamed silent_text other.tick (λ t. cc) other.panel h.place h.plan h.names.panel h.names.plan_is h.shown in
      let never : false ≡ true = s.1 in
      absurd cc
  later_unshown other Cause e h =
      let s = shown_output unnamed silent_text other.tick (λ t. cc) h.place h.plan h.names.plan_is h.on in
      let never : false ≡ true = s.1 in
      absurd cc

pub fails_unshown : FailsUnshown
fails_unshown unnamed =
    is_failed refl unshown
    (record {
      broken = is_unshown unnamed;
      first = λ other broken. not_before other unshown (later_unshown unnamed other other.rule refl broken.breaks);
    })

-- ---- a text that shows a zone too early

abbrev early_text : Timeline
early_text = text_of_one (shown_in 5 zone_face ∷ []) 12

abbrev uncaused : Breach
uncaused = record { tick = 5; rule = ZoneRule; panel = 1; owner = 1; number = 1 }

-- two answers that don't count
neither : (a b : Bool) → ((a && false) || ((b && false) || false)) ≡ true → ⊥
neither true true h = cc
neither true false h = cc
neither false true h = cc
neither false false h = cc

module _ (unnamed : Unnamed) where
  abbrev early_moments : ℕ → List Moment
  early_moments tick = befallen_by (site_one unnamed) (ticks_of_one 12) early_text tick

  abbrev early_kept : Retained
  early_kept = kept_by_text (site_one unnamed) (ticks_of_one 12) early_text

  abbrev early_done : List Done
  early_done = done_by_text (site_one unnamed) (ticks_of_one 12) early_text

  -- by tick 5 two other detectors answered, which are quiet
  no_cause : (tick : ℕ) → IsCausedAt (site_one unnamed) early_kept early_done (early_moments 5) 0 tick → ⊥
  unfolding asked_in
  no_cause tick cause = neither (1 == cause.stamp) (2 == cause.stamp) cause.given

  not_shown : CanBeShown (site_one unnamed) early_text early_kept early_done (early_moments 5) 1 0 → ⊥
  not_shown (own same cause) = no_cause _ cause
  not_shown (told other heard) = other refl

  is_early : BreaksZone (site_one unnamed) (ticks_of_one 12) early_text uncaused
  is_early =
      record {
        place = 0;
        plan = zone_of_one unnamed 1;
        names = record { panel = (omega arith, omega arith); plan_is = refl; owner = refl; number = refl };
        shown = refl;
        uncaused = not_shown;
      }

  is_uncaused : IsBreach (site_one unnamed) (ticks_of_one 12) early_text uncaused
  is_uncaused = record { begins = omega arith; ends = omega arith; breaks = is_early }

  later_uncaused : (other : Breach) → other.tick ≤ 12 → (rule : AuditRule) → other.rule ≡ rule
      → BreaksRule (site_one unnamed) (ticks_of_one 12) early_text rule other → StandsHigher other uncaused
  later_uncaused other ends Length e h = absurd h
  later_uncaused other ends Answer e h =
      absurd (one_unfounded (asked_in_record (site_one unnamed) (ticks_of_one 12) early_text) (shown_in 5 zone_face) other.tick refl h.unfounded)
  later_uncaused other ends Indication e h =
      let late = due_late (site_one unnamed) early_kept early_done refl (early_moments other.tick) h.place other.panel h.due in
      let by = up_to_by other.tick (moments (ticks_of_one 12)) in
      absurd (omega (arith, late, by, ends))
  later_uncaused other ends OutputRule e h =
      let late = due_on_late unnamed early_kept early_done (early_moments other.tick) h.place h.due in
      let by = up_to_by other.tick (moments (ticks_of_one 12)) in
      absurd (omega (arith, late, by, ends))
  later_uncaused other ends ZoneRule e h =
      let s = shown_zone unnamed early_text other.tick (λ t. second_of_zone (nat_le 5 other.tick) t) other.panel h.place h.plan h.names.panel h.names.plan_is h.shown in
      let from = le_from 5 other.tick (zone_by (nat_le 5 other.tick) zone_face s.1) in
      let z = zone_is unnamed h.place h.plan h.names.plan_is in
      record {
        tick = from;
        rule = subst (λ r. 4 ≤ place_of_rule r) (sym e) (omega arith);
        panel = h.names.panel.0;
        owner = omega (arith, h.names.owner, z.0);
        number = omega (arith, h.names.number, z.1);
      }
  later_uncaused other ends Cause e h =
      let s = shown_output unnamed early_text other.tick (λ t. second_output_by (nat_le 5 other.tick) zone_face refl t) h.place h.plan h.names.plan_is h.on in
      absurd (no_output_by (nat_le 5 other.tick) s.1)

pub fails_uncaused : FailsUncaused
fails_uncaused unnamed =
    is_failed refl uncaused
    (record {
      broken = is_uncaused unnamed;
      first = λ other broken. not_before other uncaused (later_uncaused unnamed other broken.ends other.rule refl broken.breaks);
    })
