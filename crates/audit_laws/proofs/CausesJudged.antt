-- No output that a run's text shows on is without a cause.
use Rattle.std.proofs.Common.{◌≡◌, ◌⊎◌, ℕ, zero, suc, ◌+◌, ◌≤◌, ◌&&◌, ◌||◌, Bool, true, false, List, [], ◌∷◌, length, Some, slice_get, inl}
use Rattle.std.proofs.Common.{inr, refl, sym, ◌∙◌, ap, subst, arith}
use Rattle.std.specs.Prelude.{nat_lt, slice_index_or}
use Rattle.std.specs.List.{Contains, list_any}
use Rattle.std.proofs.lemmas.Bool.Decides.{leb_tells}
use Rattle.std.proofs.lemmas.Option.{get_or_from_slice_get, slice_get_within}
use Rattle.tick_units.specs.declared.seat.Seat.{Seat}
use Rattle.tick_units.specs.declared.task.Task.{Task}
use Rattle.tick_units.specs.declared.task.Task.TheVariants.{Drive, Effect, Hold, Keep, Link}
use Rattle.tick_units.specs.Orders.{canonical_seats, keep_seat}
use Rattle.tick_units.proofs.Canonical.{Contains-canonical_seats-cases, IsPanelSeat}
use Rattle.tick_units.proofs.Sound.{sound_from_order}
use Rattle.site_types.specs.declared.event.Event.{Event}
use Rattle.site_types.specs.declared.fault_set.FaultSet.{FaultSet}
use Rattle.site_types.specs.declared.output.Output.{Output}
use Rattle.site_types.specs.declared.point_set.PointSet.{PointSet}
use Rattle.site_types.specs.declared.retained.Retained.{Retained}
use Rattle.site_types.specs.declared.site.Site.{Site}
use Rattle.site_types.specs.Done.{Done}
use Rattle.site_types.specs.Profile.{network_of}
use Rattle.site_types.specs.Valid.{IsValid}
use Rattle.site_types.proofs.ValidSites.{output_at}
use Rattle.face_text.specs.declared.face.Face.{Face}
use Rattle.face_text.specs.declared.timeline.Timeline.{Timeline}
use Rattle.face_text.specs.Faces.{has_points, has_some, is_in_fault}
use Rattle.panel_conditions.specs.Words.{has_fault, has_points as panel_has_points, on_line, some_on_line}
use Rattle.panel_rules.specs.Caused.{IsCausedByHand, IsCausedOut}
use Rattle.panel_rules.specs.CausedOutputs.{before_effect}
use Rattle.panel_rules.specs.Kept.{heard, kept_at, made_at}
use Rattle.panel_rules.specs.Markers.{Facts}
use Rattle.panel_rules.specs.Moments.{IsPanel, IsPast, Moment, Began, Happened, Turned, Kept, TickBlock, and_events, and_turns}
use Rattle.panel_rules.specs.Moments.{before_turn, later, moments, present, tick_of, turn_of, up_to}
use Rattle.panel_rules.specs.Outputs.{goes_on, is_on, is_true_over, panel_of_output, panel_of_plan}
use Rattle.panel_rules.specs.Records.{AreOrdered}
use Rattle.panel_rules.specs.Ring.{AreJoined}
use Rattle.panel_rules.specs.Run.{facts_of, faults_with, tells_fault}
use Rattle.panel_rules.specs.Run.{tells_to}
use Rattle.panel_rules.specs.Timeline.{timeline_of}
use Rattle.panel_rules.specs.Zones.{panel_of_zone}
use Rattle.panel_rules.proofs.Bools.{both, either, either_left, either_right, parts}
use Rattle.panel_rules.proofs.Causes.{hand_caused, released_caused}
use Rattle.panel_rules.proofs.FaultsTold.{told_where}
use Rattle.panel_rules.proofs.Floors.{lt_from, lt_to}
use Rattle.panel_rules.proofs.Joined.{joined_heard, kept_stamp}
use Rattle.panel_rules.proofs.KeptWords.{IsMade, in_turn, kept_is, made_is, nothing}
use Rattle.panel_rules.proofs.Turns.{past_on, tick_rises}
use Rattle.panel_laws.specs.FaceLaws.{HasEnded}
use Rattle.panel_laws.proofs.DriveTurns.{made_true}
use Rattle.panel_laws.proofs.DueOn.{same_past, up_to_is_past, zone_panel}
use Rattle.panel_laws.proofs.EffectWords.{effect_past, link_late}
use Rattle.panel_laws.proofs.HeardWords.{latest_then}
use Rattle.panel_laws.proofs.LaterDone.{turn_in_time}
use Rattle.panel_laws.proofs.Monotony.{output_grows}
use Rattle.panel_laws.proofs.Steps.{up_to_tick}
use Rattle.run_text.specs.Failures.{as_recorded}
use Rattle.run_text.proofs.FailuresCounted.{are_the_same}
use Rattle.run_text.proofs.TickTimes.{tick_moments}
use Rattle.audit_rules.specs.CanCause.{CanBeOn, CanBeTrue, CanTellFault}
use Rattle.audit_rules.specs.Hearing.{MayBeHeard, network_start}
use Rattle.audit_rules.specs.Shown.{text_tells_fault}
use Rattle.audit_laws.specs.AccountsTold.{TellsAccount}
use Rattle.audit_laws.specs.AlikeZones.{Account}
use Rattle.audit_laws.specs.CausesJudged.{CauseRuleIsKept, HeardAtEffectMayBe, ReleasedIsInAlarm}
use Rattle.audit_laws.specs.RecordedMoments.{without_failures}
use Rattle.audit_laws.specs.ZonesJudged.{account_of_run, account_of_text}
use Rattle.audit_laws.proofs.AccountsTold.{on_is}
use Rattle.audit_laws.proofs.AlikeFaults.{faults_stand}
use Rattle.audit_laws.proofs.FacesTold.{face_told}
use Rattle.audit_laws.proofs.MomentsTold.{made_same, records_told}
use Rattle.audit_laws.proofs.Released.{out_alarm}
use Rattle.audit_laws.proofs.ZonesJudged.{ended_at}

pub released_in_alarm : ReleasedIsInAlarm
released_in_alarm site kept done m zone tick h = out_alarm site kept done m zone tick h

-- ---- what was heard at Effect's turn

pub heard_at_effect : HeardAtEffectMayBe
heard_at_effect site kept done m panel source after p s =
    record {
      past = omega (arith, in_time);
      recent = λ joined. elim (leb_tells (network_of site.format) (tick_of m)) [ inl l ↦ long l.1 joined | inr l ↦ omega (arith, l.1) ];
    }
  where
    past : List Moment
    past = before_effect site kept done m panel

    is_past : IsPast (before_effect site kept done m panel) m
    is_past = effect_past site kept done m after.valid after.run after.ended panel p

    in_time : heard site.panels panel source (before_effect site kept done m panel) ≤ tick_of m
    in_time =
        let word =
        tick_rises (kept_at site.panels panel source (before_effect site kept done m panel)) (before_effect site kept done m panel)
        (kept_is site.panels panel source (before_effect site kept done m panel)).past in
        let effect = tick_rises (before_effect site kept done m panel) m is_past in
        omega (arith, word, effect)

    long : network_of site.format ≤ tick_of m → AreJoined site.panels m source panel (network_start site (tick_of m)) (tick_of m)
        → tick_of m ≤ heard site.panels panel source (before_effect site kept done m panel) + network_of site.format
    long l joined =
        let format = after.valid.forms.format.0 in
        let late = link_late site kept done m after.valid after.run after.ended panel p in
        let by = turn_in_time panel Link (before_effect site kept done m panel) in
        let effect = tick_rises (before_effect site kept done m panel) m is_past in
        let came =
        joined_heard site.panels m (before_effect site kept done m panel) after.run is_past after.valid.forms.panels.1 source panel s p
        (network_start site (tick_of m)) (tick_of m) (omega (arith, by, effect)) (omega (arith, late, l, format)) joined in
        omega (arith, came, late, format)

-- ---- turns are of panels of the site

abbrev AreOfPanels : ℕ → List Moment → Type 0
AreOfPanels panels [] = Unit {0}
AreOfPanels panels (Began ∷ before) = AreOfPanels panels before
AreOfPanels panels (Happened event ∷ before) = AreOfPanels panels before
AreOfPanels panels (Turned panel task ∷ before) = IsPanel panels panel × AreOfPanels panels before
AreOfPanels panels (Kept failed ∷ before) = AreOfPanels panels before

module _ (panels : ℕ) where
  turn_of_panel : (failed : Bool) (seat : Seat) (before : List Moment) → Contains (canonical_seats panels) seat → AreOfPanels panels before
      → AreOfPanels panels (turn_of failed seat.panel seat.task ∷ before)
  turn_of_panel failed seat before known h = by ((Contains-canonical_seats-cases panels seat).0 known) seat.task refl
    where
      by : (IsPanelSeat panels seat ⊎ (seat ≡ keep_seat)) → (task : Task) → seat.task ≡ task
          → AreOfPanels panels (turn_of failed seat.panel task ∷ before)
      by c Keep e = h
      by (inl s) task e = ((s.low, s.high), h)
      by (inr same) task e = absurd (let x = sym (ap (λ (s : Seat). s.task) same) ∙ e in cc)

  turns_of_panels : (failed : Bool) (seats : List Seat) (before : List Moment)
      → ((k : ℕ) (seat : Seat) → slice_get seats k ≡ Some seat → Contains (canonical_seats panels) seat) → AreOfPanels panels before
      → AreOfPanels panels (and_turns failed seats before)
  turns_of_panels failed [] before known h = h
  turns_of_panels failed (seat ∷ seats) before known h =
      turns_of_panels failed seats (turn_of failed seat.panel seat.task ∷ before) (λ k s is. known (suc k) s is)
      (turn_of_panel failed seat before (known 0 seat refl) h)

  events_of_panels : (events : List Event) (before : List Moment) → AreOfPanels panels before → AreOfPanels panels (and_events events before)
  events_of_panels [] before h = h
  events_of_panels (event ∷ events) before h = events_of_panels events (Happened event ∷ before) h

  all_of_panels : (ticks : List TickBlock) → AreOrdered panels ticks → AreOfPanels panels (moments ticks)
  all_of_panels [] ordered = tt
  all_of_panels (tick ∷ ticks) ordered =
      let sound = sound_from_order panels tick.order ordered.1 in
      turns_of_panels tick.failed tick.order (and_events tick.events (Began ∷ moments ticks))
      (λ k seat is. subst (Contains (canonical_seats panels)) (get_or_from_slice_get tick.order k seat seat is)
      (sound.known k seat (slice_get_within tick.order k seat is)))
      (events_of_panels tick.events (Began ∷ moments ticks) (all_of_panels ticks ordered.0))

  past_of_panels : (past m : List Moment) → IsPast past m → AreOfPanels panels m → AreOfPanels panels past
  past_of_panels past m present h = h
  past_of_panels past m (later Began before g) h = past_of_panels past before g h
  past_of_panels past m (later (Happened event) before g) h = past_of_panels past before g h
  past_of_panels past m (later (Turned panel task) before g) h = past_of_panels past before g h.1
  past_of_panels past m (later (Kept failed) before g) h = past_of_panels past before g h

-- ---- faults

-- a fault that a word tells is shown
half_shown : (halves : List ℕ) → some_on_line halves ≡ true → list_any has_some halves ≡ true
half_shown [] h = cc
half_shown (a ∷ []) h = elim (either (has_some a) false h) [ inl t ↦ either_left (has_some a) false t | inr t ↦ absurd cc ]
half_shown (a ∷ b ∷ rest) h =
    elim (either (has_some a) (has_some b) h) [
      | inl t ↦ either_left (has_some a) (list_any has_some (b ∷ rest)) t
      | inr t ↦ either_right (has_some a) (list_any has_some (b ∷ rest)) (either_left (has_some b) (list_any has_some rest) t)
    ]

line_shown : (loops : List (List ℕ)) (line : ℕ) → some_on_line (slice_index_or loops line []) ≡ true
    → list_any (λ (halves : List ℕ). list_any has_some halves) loops ≡ true
line_shown [] line h = cc
line_shown (halves ∷ loops) zero h = either_left (list_any has_some halves) _ (half_shown halves h)
line_shown (halves ∷ loops) (suc line) h = either_right (list_any has_some halves) _ (line_shown loops line h)

points_shown : (set : PointSet) → panel_has_points set ≡ true → has_points set ≡ true
points_shown set h =
    elim (either (on_line set 0) (on_line set 1 || (on_line set 2 || on_line set 3)) h) [
      | inl t ↦ line_shown set.loops 0 t
      | inr g ↦
          elim (either (on_line set 1) (on_line set 2 || on_line set 3) g) [
            | inl t ↦ line_shown set.loops 1 t
            | inr k ↦
                elim (either (on_line set 2) (on_line set 3) k) [
                  | inl t ↦ line_shown set.loops 2 t
                  | inr t ↦ line_shown set.loops 3 t
                ]
          ]
    ]

one_of_seven : (told shown b c d e f g : Bool) → (told ≡ true → shown ≡ true) → (told || (b || (c || (d || (e || (f || g)))))) ≡ true
    → (shown || b || c || d || e || f || g) ≡ true
one_of_seven told true b c d e f g h t = refl
one_of_seven true false b c d e f g h t = absurd (let x = h refl in cc)
one_of_seven false false true c d e f g h t = refl
one_of_seven false false false true d e f g h t = refl
one_of_seven false false false false true e f g h t = refl
one_of_seven false false false false false true f g h t = refl
one_of_seven false false false false false false true g h t = refl
one_of_seven false false false false false false false g h t = t

fault_shown : (faults : FaultSet) → has_fault faults ≡ true → is_in_fault faults ≡ true
fault_shown faults h =
    one_of_seven (panel_has_points faults.missing) (has_points faults.missing) (has_some faults.broken) (has_some faults.shorted)
    (has_some faults.supply) (has_some faults.silent) (has_some faults.links) (has_some faults.unconfirmed) (points_shown faults.missing) h

no_word_tells : (site : Site) (kept : Retained) (done : List Done) (panel : ℕ) → tells_fault site kept done panel [] ≡ false
unfolding tells_to
no_word_tells site kept done panel = refl

module _ (site : Site) (kept : Retained) (ticks : List TickBlock) (valid : IsValid site) (ordered : AreOrdered site.panels ticks)
    (tells : TellsAccount site kept ticks) (tick : ℕ) (by : tick ≤ length ticks) (place : ℕ) (plan : Output)
    (is : slice_get site.outputs place ≡ Some plan) where
  abbrev text : Timeline
  text = timeline_of site kept (moments ticks)

  abbrev said : Account
  said = account_of_text site (as_recorded ticks) (timeline_of site kept (moments ticks))

  abbrev told : List Moment
  told = up_to tick (moments (as_recorded ticks))

  abbrev panel : ℕ
  panel = panel_of_output site place

  abbrev effect : List Moment
  effect = before_effect site said.kept said.done told (panel_of_output site place)

  ordered_told : AreOrdered site.panels (as_recorded ticks)
  ordered_told = (are_the_same site.panels ticks).1.1 ordered

  in_time : tick ≤ length (as_recorded ticks)
  in_time = let long = (are_the_same site.panels ticks).0 in omega (arith, by, long)

  after : HasEnded site told
  after = let ends = ended_at site.panels (as_recorded ticks) tick ordered_told in_time in record { valid = valid; run = ends.0; ended = ends.1 }

  own_panel : IsPanel site.panels panel
  own_panel = subst (λ o. IsPanel site.panels (panel_of_plan o)) (sym is) (output_at site valid place plan is).panel

  was_effect : IsPast effect told
  was_effect = effect_past site said.kept said.done told valid after.run after.ended panel own_panel

  abbrev word_of : ℕ → List Moment
  word_of source = kept_at site.panels panel source effect

  word_past : (source : ℕ) → IsPast (word_of source) told
  word_past source = past_on (word_of source) effect told (kept_is site.panels panel source effect).past was_effect

  stamp_in_time : (source : ℕ) → tick_of (word_of source) ≤ tick
  stamp_in_time source =
      let long = tick_moments (as_recorded ticks) in
      let now : tick_of told ≡ tick = up_to_tick tick (moments (as_recorded ticks)) (let few = in_time in omega (arith, few, long)) in
      let rises = tick_rises (word_of source) told (word_past source) in
      omega (arith, now, rises)

  -- a panel whose word tells a fault showed one at the stamp of that word
  showed_fault : (source : ℕ) → IsPanel site.panels source
      → has_fault (faults_with site said.kept said.done (tells_fault site said.kept said.done) source (word_of source)) ≡ true
      → text_tells_fault text source (tick_of (word_of source)) ≡ true
  showed_fault source s fault =
      let stamp = tick_of (word_of source) in
      let early = stamp_in_time source in
      let then_by : tick_of (word_of source) ≤ length ticks = omega (arith, early, by) in
      let long = tick_moments (as_recorded ticks) in
      let now : tick_of told ≡ tick = up_to_tick tick (moments (as_recorded ticks)) (let few = in_time in omega (arith, few, long)) in
      let many = tick_moments ticks in
      let stamp_is : tick_of (up_to stamp (moments ticks)) ≡ stamp = up_to_tick stamp (moments ticks) (omega (arith, then_by, many)) in
      let made = made_at source (up_to stamp (moments ticks)) in
      let made_by = tick_rises made (up_to stamp (moments ticks)) (made_is source (up_to stamp (moments ticks))).past in
      let word_is : without_failures made ≡ word_of source =
      sym (made_same source (up_to stamp (moments ticks)))
      ∙ ap (made_at source) (sym (records_told ticks stamp) ∙ same_past (moments (as_recorded ticks)) tick stamp early now)
      ∙ latest_then site.panels source told (word_of source) (kept_is site.panels panel source effect).made (word_past source) after.run in
      let run = account_of_run site kept (up_to stamp (moments ticks)) in
      let same = faults_stand site said run stamp (tells.each stamp then_by) valid source made (omega (arith, made_by, stamp_is)) in
      ap (λ (face : Face). is_in_fault face.faults) (face_told site kept ticks stamp source then_by s)
      ∙ ap is_in_fault (sym same)
      ∙ ap (λ (word : List Moment). is_in_fault (faults_with site said.kept said.done (tells_fault site said.kept said.done) source word)) word_is
      ∙ fault_shown (faults_with site said.kept said.done (tells_fault site said.kept said.done) source (word_of source)) fault

  tells_of : (source : ℕ) → tells_fault site said.kept said.done source (word_of source) ≡ true → CanTellFault site text said.kept said.done told panel source
  tells_of source t = by_word (kept_is site.panels panel source effect).made
    where
      by_word : IsMade source (word_of source) → CanTellFault site text said.kept said.done told panel source
      by_word (nothing e) =
          absurd (let x = sym (no_word_tells site said.kept said.done source) ∙ ap (tells_fault site said.kept said.done source) (sym e) ∙ t in cc)
      by_word (in_turn before e) =
          let of =
          past_of_panels site.panels (Turned source Hold ∷ before) told
          (subst (λ (word : List Moment). IsPast word told) e (word_past source))
          (past_of_panels site.panels told (moments (as_recorded ticks)) (up_to_is_past tick (moments (as_recorded ticks)))
          (all_of_panels site.panels (as_recorded ticks) ordered_told)) in
          let fault =
          ap (λ (word : List Moment). has_fault (faults_with site said.kept said.done (tells_fault site said.kept said.done) source word)) e
          ∙ sym (told_where site said.kept said.done source (Turned source Hold) before)
          ∙ ap (tells_fault site said.kept said.done source) (sym e) ∙ t in
          record {
            stamp = heard site.panels panel source effect;
            heard = heard_at_effect site said.kept said.done told panel source after own_panel of.0;
            shown = showed_fault source of.0 fault;
          }

  -- ---- the facts of that turn of Effect, of the zones of the site

  abbrev turn_facts : Facts
  turn_facts = facts_of site said.kept said.done panel effect

  abbrev site_facts : Facts
  site_facts = record {
    released = λ zone. nat_lt zone (length site.zones) && turn_facts.released zone;
    by_hand = λ zone. nat_lt zone (length site.zones) && turn_facts.by_hand zone;
    faulty = turn_facts.faulty;
  }

  owns : (zone : ℕ) → nat_lt zone (length site.zones) ≡ true → IsPanel site.panels (panel_of_zone site zone)
  owns zone within = zone_panel site valid zone (lt_from zone (length site.zones) within)

  -- what the panel heard of the zone's own panel may be heard
  heard_of : (zone : ℕ) → nat_lt zone (length site.zones) ≡ true
      → MayBeHeard site told panel (panel_of_zone site zone) (heard site.panels panel (panel_of_zone site zone) effect)
  heard_of zone within = heard_at_effect site said.kept said.done told panel (panel_of_zone site zone) after own_panel (owns zone within)

  can_be_true : CanBeTrue site text said.kept said.done told panel site_facts
  can_be_true = record {
    released =
        λ zone t. (let g = parts (nat_lt zone (length site.zones)) _ t in
        record {
          stamp = heard site.panels panel (panel_of_zone site zone) effect;
          heard = heard_of zone g.0;
          cause =
              out_alarm site said.kept said.done told zone (heard site.panels panel (panel_of_zone site zone) effect)
              (subst (IsCausedOut site said.kept said.done told zone) (kept_stamp site.panels panel (panel_of_zone site zone) effect)
              (released_caused site said.kept said.done told (word_of (panel_of_zone site zone)) zone after.run (word_past (panel_of_zone site zone))
              (owns zone g.0) g.1));
        });
    by_hand =
        λ zone t. (let g = parts (nat_lt zone (length site.zones)) _ t in
        record {
          stamp = heard site.panels panel (panel_of_zone site zone) effect;
          heard = heard_of zone g.0;
          cause =
              subst (IsCausedByHand site said.kept said.done told zone) (kept_stamp site.panels panel (panel_of_zone site zone) effect)
              (hand_caused site said.kept said.done told (word_of (panel_of_zone site zone)) zone after.run (word_past (panel_of_zone site zone))
              (owns zone g.0) g.1);
        });
    faults = λ source t. tells_of source t;
  }

  pub can_be_on : is_on site (facts_of site said.kept said.done) said.kept said.done place told ≡ true
      → CanBeOn site text said.kept said.done told place
  can_be_on on = record {
    facts = site_facts;
    caused = can_be_true;
    asks =
        output_grows site valid turn_facts site_facts
        (record {
          released = λ zone l t. both _ _ (lt_to zone (length site.zones) l) t;
          by_hand = λ zone l t. both _ _ (lt_to zone (length site.zones) l) t;
          faulty = λ source own t. t;
        }) place asked;
  }
    where
      asked : is_true_over site place turn_facts ≡ true
      asked =
          let goes = made_true panel Drive (goes_on site (facts_of site said.kept said.done) said.kept said.done place) told on in
          made_true panel Effect (λ before. is_true_over site place (facts_of site said.kept said.done panel before)) (before_turn panel Drive told)
          (parts _ _ (parts _ _ goes).0).0

pub cause_rule_kept : CauseRuleIsKept
cause_rule_kept site kept ticks breach valid ordered tells by b =
    b.uncaused
    (can_be_on site kept ticks valid ordered tells breach.tick by b.place b.plan b.names.plan_is
    (sym (on_is site kept ticks valid ordered tells breach.tick by b.place b.plan b.names.plan_is) ∙ b.on))
