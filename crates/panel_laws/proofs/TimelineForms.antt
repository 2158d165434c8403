-- The timeline of a run is in form.
use Rattle.std.proofs.Common.{◌≡◌, ◌≢◌, ◌⊎◌, ℕ, zero, suc, ◌+◌, ◌-◌, ◌^◌, ◌≤◌, ◌<◌, ◌==◌, inl, inr, not, Bool, true}
use Rattle.std.proofs.Common.{false, List, [], ◌∷◌, length, map, Some, slice_get, if◌then◌else◌, refl, sym, ◌∙◌, ap}
use Rattle.std.proofs.Common.{arith}
use Rattle.std.specs.Prelude.{filter, nat_le, option_map}
use Rattle.std.specs.List.{range_with_len}
use Rattle.std.specs.Cmp.Lexicographic.{pointwise}
use Rattle.std.specs.Str.{bytes_eq}
use Rattle.std.proofs.lemmas.Bool.Decides.{leb_tells}
use Rattle.std.proofs.lemmas.Slice.Eq.{bytes_eq-Decides, slice_eq-Decides}
use Rattle.tick_units.specs.declared.task.Task.{Task}
use Rattle.site_types.specs.declared.buzzer.Buzzer.{Buzzer}
use Rattle.site_types.specs.declared.buzzer.Buzzer.TheVariants.{Off, Fault, Fire}
use Rattle.site_types.specs.declared.event.Event.TheVariants.{Op, Point, Cable, Supply, Link, Confirmed}
use Rattle.site_types.specs.declared.fault_set.FaultSet.{FaultSet}
use Rattle.site_types.specs.declared.retained.Retained.{Retained}
use Rattle.site_types.specs.declared.site.Site.{Site}
use Rattle.access_levels.specs.Levels.{level_of}
use Rattle.face_text.specs.declared.face.Face.{Face}
use Rattle.face_text.specs.declared.step.Step.{Step}
use Rattle.face_text.specs.Faces.{same_buzzer, same_face, same_faces, same_faults, same_truth}
use Rattle.face_text.specs.Timelines.{AreSteps, HasAnswer, IsInForm}
use Rattle.panel_rules.specs.Moments.{Moment, Began, Happened, Turned, Kept, IsPast, IsRun, has_kept, has_turned, is_fresh, is_turn, later, present, tick_of, up_to}
use Rattle.panel_rules.specs.Operations.{Request, request_of, requests}
use Rattle.panel_rules.specs.Timeline.{faces_of, has_answer, is_told, step_of, timeline_of}
use Rattle.panel_laws.specs.FormLaws.{CanBeTold, TimelineIsInForm, ToldTicksTell}
use Rattle.panel_laws.proofs.AnswersRise.{in_form as answers_in_form, tells}
use Rattle.panel_rules.proofs.Bools.{both, either, not_false}
use Rattle.panel_laws.proofs.DueOn.{up_to_is_past}
use Rattle.panel_laws.proofs.FacesInForm.{faces_in_form}
use Rattle.panel_rules.proofs.FaultsTold.{past_short}
use Rattle.panel_rules.proofs.Places.{get_front}
use Rattle.panel_laws.proofs.Steps.{untold_is_same, up_to_tick}
use Rattle.panel_rules.proofs.AnswersTell.{eq_true}
use Rattle.panel_rules.proofs.Turns.{run_tail}

-- ---- a history up to a tick can be told

requests_next : (site : Site) (moment : Moment) (before : List Moment) (k : ℕ) (r : Request) → slice_get (requests site before) k ≡ Some r
    → slice_get (requests site (moment ∷ before)) k ≡ Some r
requests_next site Began before k r h = h
requests_next site (Happened (Op panel code operation)) before k r h =
    get_front (requests site before) (request_of (tick_of before) panel (level_of site (option_map (λ label. label.bytes) code)) operation
    (requests site before) ∷ []) k r h
requests_next site (Happened (Point point state)) before k r h = h
requests_next site (Happened (Cable panel line piece state)) before k r h = h
requests_next site (Happened (Supply panel kind bad)) before k r h = h
requests_next site (Happened (Link link up)) before k r h = h
requests_next site (Happened (Confirmed output)) before k r h = h
requests_next site (Turned panel task) before k r h = h
requests_next site (Kept failed) before k r h = h

requests_front : (site : Site) (past moments : List Moment) (k : ℕ) (r : Request) → IsPast past moments → slice_get (requests site past) k ≡ Some r
    → slice_get (requests site moments) k ≡ Some r
requests_front site past moments k r present h = h
requests_front site past moments k r (later moment before p) h = requests_next site moment before k r (requests_front site past before k r p h)

few_of : (most n l : ℕ) → n ≤ l → l < most → n < most
few_of most n l k h = omega (arith, k, h)

can_past : (site : Site) (kept : Retained) (past moments : List Moment) → IsPast past moments → CanBeTold site kept moments → CanBeTold site kept past
can_past site kept past moments p can =
    record {
      valid = can.valid;
      run = run_tail site.panels past moments p can.run;
      of_site = λ place r h. can.of_site place r (requests_front site past moments place r p h);
      counters = can.counters;
      few = few_of (2 ^ 64) (length past) (length moments) (past_short past moments p) can.few;
    }

-- ---- before the first tick nothing befalls

fresh_tick : (moments : List Moment) → is_fresh moments ≡ true → 1 ≤ tick_of moments
fresh_tick [] f = absurd cc
fresh_tick (Began ∷ before) f = omega arith
fresh_tick (Happened event ∷ before) f = fresh_tick before f
fresh_tick (Turned panel task ∷ before) f = absurd cc
fresh_tick (Kept failed ∷ before) f = absurd cc

turned_tick : (panel : ℕ) (task : Task) (moments : List Moment) → has_turned panel task moments ≡ false → 1 ≤ tick_of moments
turned_tick panel task [] f = absurd cc
turned_tick panel task (Began ∷ before) f = omega arith
turned_tick panel task (Happened event ∷ before) f = turned_tick panel task before f
turned_tick panel task (Turned other_panel other ∷ before) f = go (is_turn panel task other_panel other) f (turned_tick panel task before)
  where
    go : (b : Bool) → (if b then true else has_turned panel task before) ≡ false → (has_turned panel task before ≡ false → 1 ≤ tick_of before)
        → 1 ≤ tick_of before
    go true f ih = absurd cc
    go false f ih = ih f
turned_tick panel task (Kept failed ∷ before) f = turned_tick panel task before f

kept_tick : (moments : List Moment) → has_kept moments ≡ false → 1 ≤ tick_of moments
kept_tick [] f = absurd cc
kept_tick (Began ∷ before) f = omega arith
kept_tick (Happened event ∷ before) f = kept_tick before f
kept_tick (Turned panel task ∷ before) f = kept_tick before f
kept_tick (Kept failed ∷ before) f = absurd cc

above : (a b : ℕ) → b < a → nat_le a b ≡ false
above a b l = elim (leb_tells a b) [ inl h ↦ (let k = h.1 in absurd (omega (arith, k, l))) | inr h ↦ h.0 ]

up_to_none : (panels : ℕ) (moments : List Moment) → IsRun panels moments → up_to 0 moments ≡ []
up_to_none panels [] run = refl
up_to_none panels (Began ∷ before) run = rw (above (tick_of before + 1) 0 (omega arith)) (up_to_none panels before run.0)
up_to_none panels (Happened event ∷ before) run = let l = fresh_tick before run.1 in
    rw (above (tick_of before) 0 (omega (arith, l))) (up_to_none panels before run.0)
up_to_none panels (Turned panel task ∷ before) run = let l = turned_tick panel task before run.1 in
    rw (above (tick_of before) 0 (omega (arith, l))) (up_to_none panels before run.0)
up_to_none panels (Kept failed ∷ before) run = let l = kept_tick before run.1 in
    rw (above (tick_of before) 0 (omega (arith, l))) (up_to_none panels before run.0)

ticks_few : (moments : List Moment) → tick_of moments ≤ length moments
ticks_few [] = omega arith
ticks_few (Began ∷ before) = let ih = ticks_few before in omega (arith, ih)
ticks_few (Happened event ∷ before) = let ih = ticks_few before in omega (arith, ih)
ticks_few (Turned panel task ∷ before) = let ih = ticks_few before in omega (arith, ih)
ticks_few (Kept failed ∷ before) = let ih = ticks_few before in omega (arith, ih)

-- ---- faces are the same as themselves

bytes_self : (xs : List ℕ) → bytes_eq xs xs ≡ true
bytes_self xs = (bytes_eq-Decides xs xs).1 refl

lists_self : (xs : List (List ℕ)) → pointwise bytes_eq xs xs ≡ true
lists_self xs = (slice_eq-Decides bytes_eq-Decides xs xs (pointwise bytes_eq xs xs) refl).1 refl

number_self : (n : ℕ) → (n == n) ≡ true
number_self n = eq_true n n refl

truth_self : (b : Bool) → same_truth b b ≡ true
truth_self true = refl
truth_self false = refl

buzzer_self : (b : Buzzer) → same_buzzer b b ≡ true
buzzer_self Off = refl
buzzer_self Fault = refl
buzzer_self Fire = refl

faults_self : (f : FaultSet) → same_faults f f ≡ true
faults_self f =
    both _ _ (lists_self f.missing.loops) (both _ _ (number_self f.broken) (both _ _ (number_self f.shorted) (both _ _ (number_self f.supply)
    (both _ _ (number_self f.silent) (both _ _ (number_self f.links) (number_self f.unconfirmed))))))

face_self : (a : Face) → same_face a a ≡ true
face_self a =
    both _ _ (number_self a.panel) (both _ _ (bytes_self a.zones) (both _ _ (bytes_self a.firsts) (both _ _ (faults_self a.faults)
    (both _ _ (number_self a.outputs) (both _ _ (number_self a.confirmed) (both _ _ (lists_self a.points_off.loops)
    (both _ _ (number_self a.zones_off) (both _ _ (number_self a.outputs_off) (both _ _ (number_self a.test)
    (both _ _ (truth_self a.delays_off) (both _ _ (buzzer_self a.buzzer) (number_self a.counter))))))))))))

pub faces_self : (faces : List Face) → same_faces faces faces ≡ true
faces_self [] = refl
faces_self (face ∷ faces) = both (same_face face face) (same_faces faces faces) (face_self face) (faces_self faces)

differ : (b : Bool) → b ≡ true → b ≡ false → ⊥
differ true e f = cc
differ false e f = cc

-- ---- steps

pub told_ticks_tell : ToldTicksTell
told_ticks_tell site kept moments tick can told =
    let after = faces_of site kept (up_to tick moments) in
    let earlier = faces_of site kept (up_to (tick - 1) moments) in
    elim (either (not (same_faces after earlier)) (has_answer site kept (up_to tick moments)) told) [
      | inl h ↦
          inl (λ e. differ (same_faces after earlier) (ap (λ faces. same_faces faces earlier) e ∙ faces_self earlier)
          (not_false (same_faces after earlier) h))
      | inr h ↦ inr (tells site kept (up_to tick moments) (can_past site kept (up_to tick moments) moments (up_to_is_past tick moments) can) h)
    ]

module _ (site : Site) (kept : Retained) (moments : List Moment) (can : CanBeTold site kept moments) where
  abbrev step_at : ℕ → Step
  step_at tick = step_of site kept (up_to tick moments)

  abbrev faces_at : ℕ → List Face
  faces_at tick = faces_of site kept (up_to tick moments)

  abbrev steps_in : ℕ → ℕ → List Step
  steps_in from many = map step_at (filter (is_told site kept moments) (range_with_len from many))

  steps_from : (many from before : ℕ) (shown : List Face) → before < from → from + many ≡ tick_of moments + 1 → shown ≡ faces_at (from - 1)
      → AreSteps site before shown (tick_of moments) (steps_in from many)
  steps_from zero from before shown less end same = omega (arith, less, end)
  steps_from (suc many) from before shown less end same =
      by (is_told site kept moments from) refl (λ next faces l e. steps_from many (from + 1) next faces l (omega (arith, end)) e)
    where
      back : from ≡ (from + 1) - 1
      back = omega arith

      at : tick_of (up_to from moments) ≡ from
      at = up_to_tick from moments (omega (arith, end))

      tells_now : is_told site kept moments from ≡ true → (faces_at from ≢ shown) ⊎ HasAnswer (step_at from).answers
      tells_now told =
          elim (told_ticks_tell site kept moments from can told) [
            | inl h ↦ inl (λ e. h (e ∙ same))
            | inr h ↦ inr h
          ]

      by : (b : Bool) → is_told site kept moments from ≡ b
          → ((next : ℕ) (faces : List Face) → next < from + 1 → faces ≡ faces_at ((from + 1) - 1)
          → AreSteps site next faces (tick_of moments) (steps_in (from + 1) many)) →
          AreSteps site before shown (tick_of moments)
          (map step_at (if b then from ∷ filter (is_told site kept moments) (range_with_len (from + 1) many) else filter
          (is_told site kept moments) (range_with_len (from + 1) many)))
      by false told ih = ih before shown (omega (arith, less)) (same ∙ sym (untold_is_same site kept moments from told).0 ∙ ap faces_at back)
      by true told ih = (
        omega (arith, less, at),
        faces_in_form site kept (up_to from moments) can.counters,
        answers_in_form site kept (up_to from moments) (can_past site kept (up_to from moments) moments (up_to_is_past from moments) can),
        tells_now told,
        ih (tick_of (up_to from moments)) (faces_at from) (omega (arith, at)) (ap faces_at back),
      )

  pub is_in_form : IsInForm site (timeline_of site kept moments)
  is_in_form =
      record {
        opened = faces_in_form site kept [] can.counters;
        steps =
            steps_from (tick_of moments) 1 0 (faces_of site kept []) (omega arith) (omega arith)
            (ap (faces_of site kept) (sym (up_to_none site.panels moments can.run)));
        last = few_of (2 ^ 64) (tick_of moments) (length moments) (ticks_few moments) can.few;
      }

pub in_form : TimelineIsInForm
in_form site kept moments can = is_in_form site kept moments can
