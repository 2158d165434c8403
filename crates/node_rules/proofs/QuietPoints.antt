-- A panel on whose points nothing was reported never enters the fire alarm condition.
use Rattle.std.proofs.Common.{◌≡◌, ◌∙◌, ◌+◌, ◌==◌, ◌&&◌, not, ℕ, suc, Bool, true, false, List, [], ◌∷◌}
use Rattle.std.proofs.Common.{Some, None, Option, nat_le, nat_lt, slice_get, if◌then◌else◌, inl, inr, refl, sym, ap, subst, lit<}
use Rattle.std.proofs.Math.Path.{fun_ext}
use Rattle.std.specs.List.{list_any}
use Rattle.std.proofs.lemmas.Bool.{eq-eqb}
use Rattle.std.proofs.lemmas.Bool.Decides.{eqb_tells}
use Rattle.tick_units.specs.declared.task.Task.TheVariants.{Hold}
use Rattle.site_types.specs.declared.answer.Answer.{Answer}
use Rattle.site_types.specs.declared.event.Event.{Event}
use Rattle.site_types.specs.declared.heard.Heard.{Heard}
use Rattle.site_types.specs.declared.event.Event.TheVariants.{Point, Cable, Supply, Link, Confirmed, Op}
use Rattle.site_types.specs.declared.point.Point.{Point as PointPlan}
use Rattle.site_types.specs.declared.point_state.PointState.{PointState}
use Rattle.site_types.specs.declared.point_state.PointState.TheVariants.{Quiet}
use Rattle.site_types.specs.declared.retained.Retained.{Retained}
use Rattle.site_types.specs.declared.site.Site.{Site}
use Rattle.site_types.specs.Done.{Done, floor_before}
use Rattle.site_types.proofs.Masks.{has_bit-zero}
use Rattle.loop_poller.specs.Asked.{heard_of}
use Rattle.coincidence_rules.specs.Confirmed.{confirms}
use Rattle.coincidence_rules.specs.Counted.{is_alarm}
use Rattle.coincidence_rules.specs.Places.{numbered, on_zone, zones_where}
use Rattle.coincidence_rules.proofs.ZoneMasks.{zones_from_bits}
use Rattle.panel_rules.specs.Answers.{answers}
use Rattle.panel_rules.specs.Batches.{enters, entries, is_in_fire_alarm, new_entries}
use Rattle.panel_rules.specs.Counts.{taken_by_hold}
use Rattle.panel_rules.specs.Moments.{Moment, Began, Happened, Turned, Kept, IsRun, latest_turn, present, tick_of, up_to}
use Rattle.panel_rules.specs.States.{state_of, told_point}
use Rattle.panel_rules.specs.Zones.{held_answers, holds_alarm}
use Rattle.panel_rules.proofs.AnswersTell.{told_by}
use Rattle.panel_rules.proofs.Places.{take_get}
use Rattle.node_rules.specs.QuietPanels.{HasQuietPoints, IsElsewhere, QuietPanelsHaveNoEntries}

any_none : {X : Type 0} (test : X → Bool) (xs : List X) → ((k : ℕ) (x : X) → slice_get xs k ≡ Some x → test x ≡ false) → list_any test xs ≡ false
any_none test [] none = refl
any_none test (x ∷ xs) none = rw (none 0 x refl) (any_none test xs (λ k y is. none (suc k) y is))

none_on : (o : Option ℕ) → on_zone (λ _. false) o ≡ false
none_on None = refl
none_on (Some place) = refl

no_zones : (site : Site) (panel : ℕ) → 0 ≡ zones_where site panel (λ _. false)
no_zones site panel = zones_from_bits site panel (λ _. false) 0 (lit< tt) (λ k l. has_bit-zero k ∙ sym (none_on (numbered site panel (k + 1))))

module _ (site : Site) (panel point : ℕ) (plan : PointPlan) (is : slice_get site.points point ≡ Some plan) (at : plan.panel ≡ panel) where
  told_quiet : (event : Event) (was : PointState) → IsElsewhere site panel event → was ≡ Quiet → told_point point event was ≡ Quiet
  told_quiet (Point other state) was away quiet =
      elim (eqb_tells other point) [
        | inl t ↦ absurd (
            let there : (plan.panel == panel) ≡ true = eq-eqb plan.panel panel at in
            let same = ap (slice_get site.points) t.1 ∙ is in
            let gone = rw same at away in
            let no_way : true ≡ false = sym there ∙ gone in
            cc)
        | inr t ↦ rw t.0 quiet
      ]
  told_quiet (Cable other line piece state) was away quiet = quiet
  told_quiet (Supply other kind bad) was away quiet = quiet
  told_quiet (Link link up) was away quiet = quiet
  told_quiet (Confirmed output) was away quiet = quiet
  told_quiet (Op other code operation) was away quiet = quiet

  stays_quiet : (moments : List Moment) → HasQuietPoints site panel moments → state_of point moments ≡ Quiet
  stays_quiet [] h = refl
  stays_quiet (Began ∷ before) h = stays_quiet before h
  stays_quiet (Happened event ∷ before) h = told_quiet event (state_of point before) h.0 (stays_quiet before h.1)
  stays_quiet (Turned other task ∷ before) h = stays_quiet before h
  stays_quiet (Kept failed ∷ before) h = stays_quiet before h

  pub was_quiet : (tick : ℕ) (moments : List Moment) → HasQuietPoints site panel moments → state_of point (up_to tick moments) ≡ Quiet
  was_quiet tick [] h = refl
  was_quiet tick (moment ∷ before) h =
      elim (nat_le (tick_of (moment ∷ before)) tick) as (λ b. state_of point (if b then moment ∷ before else up_to tick before) ≡ Quiet) [
        | true ↦ stays_quiet (moment ∷ before) h
        | false ↦ was_quiet tick before (earlier moment h)
      ]
    where
      earlier : (moment : Moment) → HasQuietPoints site panel (moment ∷ before) → HasQuietPoints site panel before
      earlier Began h = h
      earlier (Happened event) h = h.1
      earlier (Turned other task) h = h
      earlier (Kept failed) h = h

module _ (site : Site) (kept : Retained) (done : List Done) (panel : ℕ) where
  no_alarm : (moments : List Moment) → IsRun site.panels moments → HasQuietPoints site panel moments → (k : ℕ) (a : Answer)
      → slice_get (answers site panel moments) k ≡ Some a → is_alarm a.heard ≡ false
  no_alarm moments run quiet k a there =
      let tells = told_by site site.panels panel moments moments k a run present there in
      not_alarm a.heard (state_of a.point (up_to a.stamp.0 moments)) _ tells.heard (was_quiet site panel a.point tells.plan tells.is tells.of_panel a.stamp.0 moments quiet)
    where
      not_alarm : (heard : Heard) (state : PointState) (reached : Bool) → heard ≡ heard_of state reached → state ≡ Quiet → is_alarm heard ≡ false
      not_alarm heard state true is quiet = ap is_alarm (is ∙ ap (λ s. heard_of s true) quiet)
      not_alarm heard state false is quiet = ap is_alarm (is ∙ ap (λ s. heard_of s false) quiet)

  none_confirms : (moments : List Moment) → IsRun site.panels moments → HasQuietPoints site panel moments → (zone : ℕ)
      → holds_alarm site kept done panel moments zone ≡ false
  none_confirms moments run quiet zone =
      any_none (λ answer. nat_lt (floor_before site zone (latest_turn panel Hold moments) done) answer.stamp.0
      && confirms site kept done (held_answers site panel moments) zone answer) (held_answers site panel moments)
      (λ k a there. rw (no_alarm moments run quiet k a (take_get (taken_by_hold site panel moments) (answers site panel moments) k a there).1)
      (and_false (nat_lt (floor_before site zone (latest_turn panel Hold moments) done) a.stamp.0)))
    where
      and_false : (b : Bool) → (b && false) ≡ false
      and_false true = refl
      and_false false = refl

  no_fire : (moments : List Moment) → IsRun site.panels moments → HasQuietPoints site panel moments → is_in_fire_alarm site kept done panel moments ≡ false
  no_fire moments run quiet =
      ap (λ mask. not (mask == 0)) (ap (zones_where site panel) (fun_ext (none_confirms moments run quiet)) ∙ sym (no_zones site panel))

  none_enters : (before : List Moment) → IsRun site.panels (Turned panel Hold ∷ before) → HasQuietPoints site panel before
      → enters site kept done panel before ≡ false
  none_enters before run quiet = ap (λ b. b && not (is_in_fire_alarm site kept done panel before)) (no_fire (Turned panel Hold ∷ before) run quiet)

  no_entries : (moments : List Moment) → IsRun site.panels moments → HasQuietPoints site panel moments → entries site kept done panel moments ≡ []
  no_entries [] run quiet = refl
  no_entries (Began ∷ before) run quiet = no_entries before run.0 quiet
  no_entries (Happened event ∷ before) run quiet = no_entries before run.0 quiet.1
  no_entries (Turned other Hold ∷ before) run quiet =
      elim (eqb_tells other panel) [
        | inl t ↦ rw (t.0, none_enters before (subst (λ p. IsRun site.panels (Turned p Hold ∷ before)) t.1 run) quiet) (no_entries before run.0 quiet)
        | inr t ↦ rw t.0 (no_entries before run.0 quiet)
      ]
  no_entries (Turned other task ∷ before) run quiet = no_entries before run.0 quiet
  no_entries (Kept failed ∷ before) run quiet = no_entries before run.0 quiet

  no_new : (moments : List Moment) → IsRun site.panels moments → HasQuietPoints site panel moments → new_entries site kept done panel moments ≡ []
  no_new [] run quiet = refl
  no_new (Began ∷ before) run quiet = no_new before run.0 quiet
  no_new (Happened event ∷ before) run quiet = no_new before run.0 quiet.1
  no_new (Turned other Hold ∷ before) run quiet =
      elim (eqb_tells other panel) [
        | inl t ↦ rw (t.0, none_enters before (subst (λ p. IsRun site.panels (Turned p Hold ∷ before)) t.1 run) quiet) (no_new before run.0 quiet)
        | inr t ↦ rw t.0 (no_new before run.0 quiet)
      ]
  no_new (Turned other task ∷ before) run quiet = no_new before run.0 quiet
  no_new (Kept true ∷ before) run quiet = no_new before run.0 quiet
  no_new (Kept false ∷ before) run quiet = refl

pub quiet_panels : QuietPanelsHaveNoEntries
quiet_panels site kept done panel moments run quiet =
    (no_entries site kept done panel moments run quiet, no_new site kept done panel moments run quiet)
