-- A face shows the first state of a zone of its own panel.
use Rattle.std.proofs.Common.{◌≡◌, ℕ, ◌-◌, ◌==◌, List, [], ◌∷◌, map, take, Option, Some, None, slice_get, inl, inr, true, if◌then◌else◌, refl, sym, ◌∙◌, ap, subst, arith}
use Rattle.std.specs.Prelude.{slice_index}
use Rattle.std.specs.List.{range_with_len}
use Rattle.std.proofs.lemmas.Bool.Decides.{eqb_tells}
use Rattle.tick_units.specs.declared.task.Task.TheVariants.{Hold}
use Rattle.site_types.specs.declared.retained.Retained.{Retained}
use Rattle.site_types.specs.declared.site.Site.{Site}
use Rattle.site_types.specs.declared.zone.Zone.{Zone}
use Rattle.site_types.specs.Bits.{has_bit}
use Rattle.site_types.specs.Done.{Done}
use Rattle.site_types.specs.Valid.{IsValid}
use Rattle.site_types.proofs.ValidSites.{zone_numbers}
use Rattle.coincidence_rules.proofs.ValidWired.{wired_of}
use Rattle.coincidence_rules.proofs.ZoneMasks.{has_bit-zone}
use Rattle.coincidence_rules.specs.Alarm.{is_in_alarm}
use Rattle.coincidence_rules.specs.First.{is_first, is_first_by}
use Rattle.coincidence_rules.specs.Places.{rule_of}
use Rattle.site_types.specs.declared.rule.Rule.{Rule}
use Rattle.site_types.specs.declared.rule.Rule.TheVariants.{Plain, A, B, C}
use Rattle.panel_rules.specs.Moments.{Moment, Began, Happened, Turned, Kept, tick_of, IsPanel, latest_turn}
use Rattle.panel_rules.specs.Answers.{answers}
use Rattle.panel_rules.specs.Counts.{taken_by_hold}
use Rattle.panel_rules.specs.Kept.{made_at, kept_at}
use Rattle.panel_rules.specs.Zones.{held_answers, holds_alarm, holds_first}
use Rattle.panel_rules.specs.Words.{word_made}
use Rattle.panel_rules.specs.Run.{tells_fault}
use Rattle.panel_laws.specs.FaceLaws.{LoneZoneIsShown}
use Rattle.panel_rules.proofs.AnswersTell.{eq_true}
use Rattle.panel_rules.proofs.KeptWords.{made_is, made_tick}
use Rattle.panel_rules.proofs.Causes.{held_front}
use Rattle.panel_rules.proofs.Deadlines.{lone_shown}
use Rattle.panel_laws.proofs.FacesShow.{entry, in_face, of_plan, plan_panel, own_stamp}

-- what Hold had taken at its latest turn, it has taken now
taken_made : (site : Site) (panel : ℕ) (m : List Moment) → taken_by_hold site panel (made_at panel m) ≡ taken_by_hold site panel m
taken_made site panel [] = refl
taken_made site panel (Began ∷ before) = taken_made site panel before
taken_made site panel (Happened event ∷ before) = taken_made site panel before
taken_made site panel (Turned other Hold ∷ before) =
    elim (eqb_tells other panel) [
      | inl t ↦ ap (λ b. taken_by_hold site panel (if b then Turned other Hold ∷ before else made_at panel before)) t.0
      | inr t ↦ rw t.0 (taken_made site panel before)
    ]
taken_made site panel (Turned other task ∷ before) = taken_made site panel before
taken_made site panel (Kept failed ∷ before) = taken_made site panel before

pub held_made : (site : Site) (panel : ℕ) (m : List Moment) → held_answers site panel (made_at panel m) ≡ held_answers site panel m
held_made site panel m =
    held_front site panel (made_at panel m) m (made_is panel m).past ∙ ap (λ n. take n (answers site panel m)) (taken_made site panel m)

-- without answers no zone is in first state
no_first : (site : Site) (kept : Retained) (done : List Done) (zone : ℕ) (o : Option Rule) → is_first_by site kept done [] zone 0 o ≡ true → ⊥
no_first site kept done zone None h = cc
no_first site kept done zone (Some Plain) h = cc
no_first site kept done zone (Some (A verify within)) h = cc
no_first site kept done zone (Some (B within)) h = cc
no_first site kept done zone (Some C) h = cc

module _ (site : Site) (kept : Retained) (done : List Done) (valid : IsValid site) (zone : ℕ) (plan : Zone) (is :
    slice_get site.zones zone ≡ Some plan) where
  stamp_made : (m : List Moment) → latest_turn plan.panel Hold (made_at plan.panel m) ≡ latest_turn plan.panel Hold m
  stamp_made m = own_stamp site kept done valid zone plan is m ∙ made_tick plan.panel m

  alarm_made : (m : List Moment) → holds_alarm site kept done plan.panel (made_at plan.panel m) zone ≡ holds_alarm site kept done plan.panel m zone
  alarm_made m = ap (λ xs. is_in_alarm site kept done xs zone (latest_turn plan.panel Hold (made_at plan.panel m))) (held_made site plan.panel m) ∙ ap
      (λ t. is_in_alarm site kept done (held_answers site plan.panel m) zone t) (stamp_made m)

  first_made : (m : List Moment) → holds_first site kept done plan.panel (made_at plan.panel m) zone ≡ holds_first site kept done plan.panel m zone
  first_made m = ap (λ xs. is_first site kept done xs zone (latest_turn plan.panel Hold (made_at plan.panel m))) (held_made site plan.panel m) ∙ ap
      (λ t. is_first site kept done (held_answers site plan.panel m) zone t) (stamp_made m)

  -- the bit of the zone in a word of its panel
  first_in_word : (word : List Moment) → latest_turn plan.panel Hold word ≡ tick_of word → holds_first site kept done plan.panel word zone ≡ true
      → has_bit (word_made site kept done (tells_fault site kept done) plan.panel word).first (plan.number - 1) ≡ true
  first_in_word [] e h = absurd (no_first site kept done zone (rule_of (slice_get site.zones zone)) h)
  first_in_word (moment ∷ before) e h =
      has_bit-zone site (λ z. is_first site kept done (held_answers site plan.panel (moment ∷ before)) z (tick_of (moment ∷ before))) zone plan
      (wired_of site valid) is
      ∙ ap (λ t. is_first site kept done (held_answers site plan.panel (moment ∷ before)) zone t) (sym e)
      ∙ h

  alarm_in_own : (m : List Moment) → holds_alarm site kept done plan.panel m zone ≡ true
      → has_bit
      (slice_index
      (map
      (λ source.
      (if source == plan.panel then word_made site kept done (tells_fault site kept done) plan.panel (made_at plan.panel m) else word_made site
      kept done (tells_fault site kept done) source (kept_at site.panels plan.panel source m)).alarm) (range_with_len 1 8)) (plan.panel - 1))
      (plan.number - 1) ≡ true
  alarm_in_own m h =
      in_face site kept done valid zone plan is plan.panel m
      ∙ ap (λ b. holds_alarm site kept done plan.panel (if b then made_at plan.panel m else kept_at site.panels plan.panel plan.panel m) zone)
      (eq_true plan.panel plan.panel refl)
      ∙ alarm_made m
      ∙ h

  first_in_own : (m : List Moment) → holds_first site kept done plan.panel m zone ≡ true
      → has_bit
      (slice_index
      (map
      (λ source.
      (if source == plan.panel then word_made site kept done (tells_fault site kept done) plan.panel (made_at plan.panel m) else word_made site
      kept done (tells_fault site kept done) source (kept_at site.panels plan.panel source m)).first) (range_with_len 1 8)) (plan.panel - 1))
      (plan.number - 1) ≡ true
  first_in_own m h =
      ap (λ mask. has_bit mask (plan.number - 1))
      (entry
      (λ source.
      (if source == plan.panel then word_made site kept done (tells_fault site kept done) plan.panel (made_at plan.panel m) else word_made site
      kept done (tells_fault site kept done) source (kept_at site.panels plan.panel source m)).first) (plan.panel - 1) (let n =
      zone_numbers site valid zone plan is in omega (arith, n.0, n.1))
      ∙ ap (λ q. (if q == plan.panel then word_made site kept done (tells_fault site kept done) plan.panel (made_at plan.panel m) else word_made site kept done (tells_fault site kept done) q (kept_at site.panels plan.panel q m)).first) (let n = zone_numbers site valid zone plan is in omega (arith, n.0))
      ∙ ap (λ b. (if b then word_made site kept done (tells_fault site kept done) plan.panel (made_at plan.panel m) else word_made site kept done (tells_fault site kept done) plan.panel (kept_at site.panels plan.panel plan.panel m)).first) (eq_true plan.panel plan.panel refl))
      ∙ first_in_word (made_at plan.panel m) (own_stamp site kept done valid zone plan is m) (first_made m ∙ h)

pub lone_zone_shown : LoneZoneIsShown
lone_zone_shown site kept done stored m zone plan after is signal =
    let of = of_plan site kept done after.valid zone plan is in
    elim (lone_shown site kept done m zone (record {
      valid = after.valid;
      run = after.run;
      ended = after.ended;
      panel =
          subst (IsPanel site.panels) (sym of) (plan_panel site kept done after.valid zone plan is);
    }) signal) [
      | inl h ↦ inl (alarm_in_own site kept done after.valid zone plan is m (subst (λ q. holds_alarm site kept done q m zone ≡ true) of h))
      | inr h ↦ inr (first_in_own site kept done after.valid zone plan is m (subst (λ q. holds_first site kept done q m zone ≡ true) of h))
    ]
