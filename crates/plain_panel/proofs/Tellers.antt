-- What is told of a run, one moment further.
use Rattle.std.proofs.Common.{◌≡◌, ◌∙◌, ◌+◌, ◌-◌, ◌<◌, ◌≤◌, ◌==◌, ◌&&◌, ◌||◌, ℕ, Bool, false, List, ◌∷◌, Result, Ok, Err, add-one, ap, arith, get_or, length}
use Rattle.std.proofs.Common.{map, nat_le, subst, sym, take}
use Rattle.std.specs.Prelude.{OnOk, not}
use Rattle.std.specs.List.{filter_map}
use Rattle.std.proofs.Math.Seq.{take-suc}
use Rattle.std.proofs.lemmas.List.{length-map}
use Rattle.face_text.specs.declared.face.Face.{Face}
use Rattle.face_text.specs.Faces.{same_faces}
use Rattle.site_types.specs.declared.retained.Retained.{Retained}
use Rattle.site_types.specs.declared.site.Site.{Site}
use Rattle.panel_rules.specs.Moments.{Moment as MomentOf, Began, tick_of, up_to}
use Rattle.panel_rules.specs.Operations.{Answered as AnsweredOf, Operations, Request as RequestOf, operations, requests as requests_of}
use Rattle.panel_rules.specs.Timeline.{answer_in, answers_now, faces_of, failed_now, is_told}
use Rattle.plain_operations.specs.declared.desk.Desk.{Desk}
use Rattle.plain_history.specs.declared.moment.Moment.{Moment}
use Rattle.plain_operations.specs.declared.op_answered.OpAnswered.{OpAnswered as Answered}
use Rattle.plain_operations.specs.declared.request.Request.{Request}
use Rattle.plain_panel.specs.declared.telling.Telling.{Telling}
use Rattle.plain_operations.specs.Desks.{StandsForDesk, all_answered, all_requests, answered_of}
use Rattle.plain_history.specs.Histories.{history, moment_of}
use Rattle.plain_panel.specs.Keepings.{StandsForKeeping}
use Rattle.plain_panel.specs.Timelines.{StandsForTelling}
use Rattle.panel_bridges.specs.ClosedSteps.{steps_upto}
use Rattle.plain_history.proofs.Histories.{history_more}
use Rattle.plain_panel.proofs.Timelines.{told_is}
use Rattle.panel_bridges.proofs.ClosedSteps.{failed_began, faces_next, faces_stay, steps_next, steps_stay}

module _ (site : Site) (kept : Retained) where
  then_told : {A E : Type 0} (moments : List MomentOf) (after : Telling) (result : Result A E)
      → OnOk result (StandsForKeeping site kept moments after.keeping) → OnOk result (tick_of moments ≡ after.tick.0)
      → (StandsForKeeping site kept moments after.keeping → tick_of moments ≡ after.tick.0 → StandsForTelling site kept moments after)
      → OnOk result (StandsForTelling site kept moments after)
  then_told moments after (Ok x) keeping tick make = make keeping tick
  then_told moments after (Err e) keeping tick make = tt

  pub began_told : {A E : Type 0} (moment : MomentOf) (before : List MomentOf) (after : Telling) (result : Result A E) → moment ≡ Began
      → OnOk result (StandsForKeeping site kept (moment ∷ before) after.keeping) → OnOk result (tick_of (moment ∷ before) ≡ after.tick.0)
      → after.failed ≡ false → after.steps.items ≡ steps_upto site kept before (tick_of before) → after.faces.items ≡ faces_of site kept before
      → OnOk result (StandsForTelling site kept (moment ∷ before) after)
  began_told moment before after result is keeping tick failed steps faces =
      then_told (moment ∷ before) after result keeping tick
      (λ k t. record {
        keeping = k;
        tick = t;
        failed = failed ∙ sym (failed_began site kept before) ∙ ap (λ m. failed_now site kept (m ∷ before)) (sym is);
        steps = steps ∙ sym (steps_next site kept before) ∙ ap (λ m. steps_upto site kept (m ∷ before) (tick_of (m ∷ before) - 1)) (sym is);
        faces = λ begun. faces ∙ sym (faces_next site kept before) ∙ ap (λ m. faces_of site kept (up_to (tick_of (m ∷ before) - 1) (m ∷ before)))
            (sym is);
      })

  pub other_told : {A E : Type 0} (moment : MomentOf) (before : List MomentOf) (old after : Telling) (result : Result A E)
      → StandsForTelling site kept before old → tick_of (moment ∷ before) ≡ tick_of before
      → OnOk result (StandsForKeeping site kept (moment ∷ before) after.keeping) → OnOk result (tick_of (moment ∷ before) ≡ after.tick.0)
      → after.failed ≡ failed_now site kept (moment ∷ before) → after.steps.items ≡ old.steps.items → after.faces.items ≡ old.faces.items
      → OnOk result (StandsForTelling site kept (moment ∷ before) after)
  other_told moment before old after result s same keeping tick failed steps faces =
      then_told (moment ∷ before) after result keeping tick
      (λ k t. record {
        keeping = k;
        tick = t;
        failed = failed;
        steps = steps ∙ s.steps ∙ sym (steps_stay site kept moment before same);
        faces = λ begun. faces ∙ s.faces (begun_before begun) ∙ sym (faces_stay site kept moment before same begun);
      })
    where
      begun_before : 1 ≤ tick_of (moment ∷ before) → 1 ≤ tick_of before
      begun_before begun = omega arith

  abbrev asked_for : List MomentOf → List RequestOf
  asked_for moments = requests_of site moments

  abbrev told_so_far : List MomentOf → List AnsweredOf
  told_so_far moments = (operations site kept moments).answers

  -- the answers of the tick that began last, by the desk
  answers_are : (moments : List MomentOf) (desk : Desk) (tick : ℕ) (requests : List Request) (answers : List Answered) (now : List AnsweredOf)
      → StandsForDesk site kept moments desk → tick_of moments ≡ tick → requests ≡ desk.requests.items → answers ≡ desk.outcomes.answers.items
      → now ≡ filter_map (answer_in site kept tick (all_answered answers)) (all_requests requests) → now ≡ answers_now site kept moments
  answers_are moments desk tick requests answers now s at asked given is =
      is
      ∙ ap (λ xs. filter_map (answer_in site kept tick (all_answered answers)) (all_requests xs)) asked
      ∙ ap (filter_map (answer_in site kept tick (all_answered answers))) s.requested
      ∙ ap (λ xs. filter_map (answer_in site kept tick (all_answered xs)) (asked_for moments)) given
      ∙ ap (λ xs. filter_map (answer_in site kept tick xs) (asked_for moments)) (ap (λ (o : Operations). o.answers) s.became)
      ∙ ap (λ t. filter_map (answer_in site kept t (told_so_far moments)) (asked_for moments)) (sym at)

  -- those that are given in it, of what the desk holds
  pub given_now : (moments : List MomentOf) (telling : Telling) → StandsForTelling site kept moments telling
      → (requests : List Request) (answers given : List Answered) → requests ≡ telling.keeping.desk.requests.items
      → answers ≡ telling.keeping.desk.outcomes.answers.items
      → map answered_of given ≡ filter_map (answer_in site kept telling.tick.0 (all_answered answers)) (all_requests requests)
      → map answered_of given ≡ answers_now site kept moments
  given_now moments telling s requests answers given asked answered is =
      answers_are moments telling.keeping.desk telling.tick.0 requests answers (map answered_of given) s.keeping.desk s.tick asked answered is

  -- whether that tick is told, by the faces now and at the end of the tick before, by the answers given in it and by Keep
  pub told_then : (moments : List MomentOf) (telling : Telling) → StandsForTelling site kept moments telling → (faces last : List Face)
      → faces ≡ faces_of site kept moments → last ≡ telling.faces.items → (given listed : List Answered)
      → map answered_of given ≡ answers_now site kept moments → listed ≡ given → (told : Bool)
      → told ≡ (nat_le 1 telling.tick.0 && (not (same_faces faces last) || (not (length listed == 0) || telling.failed)))
      → told ≡ (nat_le 1 (tick_of moments) && is_told site kept moments (tick_of moments))
  told_then moments telling s faces last faces_are last_are given listed now all told is =
      is
      ∙ told_is site kept moments telling.tick.0 faces last (length listed) telling.failed s.tick faces_are
      (λ begun. last_are ∙ s.faces begun) (ap length all ∙ sym (length-map given answered_of) ∙ ap length now) s.failed

  -- what is told after one moment more of a list
  pub next_told : (moments : List Moment) (place : ℕ) (moment : Moment) (after : Telling) → place < length moments
      → moment ≡ get_or moments place moment → StandsForTelling site kept (moment_of moment ∷ history (take place moments)) after
      → StandsForTelling site kept (history (take (place + 1) moments)) after
  next_told moments place moment after within is s =
      let upto : history (take (place + 1) moments) ≡ moment_of (get_or moments place moment) ∷ history (take place moments) =
      rw (add-one, take-suc moments place moment within) (history_more (take place moments) (get_or moments place moment)) in
      let here : moment_of moment ∷ history (take place moments) ≡ history (take (place + 1) moments) =
      ap (λ m. moment_of m ∷ history (take place moments)) is ∙ sym upto in
      subst (λ h. StandsForTelling site kept h after) here s
