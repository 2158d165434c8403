-- What a turn of a task makes of the lanes.
use Rattle.std.proofs.Common.{◌≡◌, ℕ, ◌+◌, ◌≤◌, min, List, [], ◌∷◌, ◌++◌, length, take, drop, refl, sym, ◌∙◌, ap, arith, length-append, length-drop, length-take, drop-drop}
use Rattle.std.proofs.lemmas.List.{drop-append-le, take-append-le}
use Rattle.tick_units.specs.Lane.{LaneState, with_put, after_turn, turn_count}
use Rattle.tick_units.specs.declared.task.Task.TheVariants.{Poll, Decide, Hold}
use Rattle.site_types.specs.declared.retained.Retained.{Retained}
use Rattle.site_types.specs.declared.site.Site.{Site}
use Rattle.site_types.specs.Done.{Done}
use Rattle.coincidence_rules.specs.Findings.{findings_of, findings_after}
use Rattle.panel_rules.specs.Moments.{Moment, Turned}
use Rattle.panel_rules.specs.Answers.{answers, asked}
use Rattle.panel_rules.specs.Counts.{answer_count, taken_by_decide, taken_by_hold}
use Rattle.panel_rules.proofs.Counts.{decide_behind, hold_behind}
use Rattle.panel_rules.proofs.AnswersTell.{eq_true}
use Rattle.hold_calls.specs.Lanes.{decided, answer_lane, found, finding_lane}
use Rattle.hold_calls.proofs.Fronts.{front_more, found_more, found_count}
use Rattle.coincidence_rules.specs.declared.finding.Finding.{Finding}

-- the findings that it has taken
abbrev pub seen : Site → Retained → List Done → ℕ → List Moment → List Finding
seen site kept done panel before = take (taken_by_hold site panel before) (found site kept done panel before)

-- the same lane by its parts
pub lane_is : {X : Type 0} (items items' : List X) (put put' taken taken' : ℕ) → items ≡ items' → put ≡ put' → taken ≡ taken'
    → (let l : LaneState X = record { items = items; put = put; taken = taken; quota = 32; capacity = 64 } in l) ≡ (let l : LaneState X =
    record { items = items'; put = put'; taken = taken'; quota = 32; capacity = 64 } in l)
lane_is items items' put put' taken taken' i p t = rw (i, p, t) refl

module _ (site : Site) (panel : ℕ) (before : List Moment) where
  answers_poll : answers site panel (Turned panel Poll ∷ before) ≡ answers site panel before ++ asked site panel before
  answers_poll = rw (eq_true panel panel refl) refl

  pub taken_decide : taken_by_decide site panel (Turned panel Decide ∷ before) ≡ min (taken_by_decide site panel before + 32)
      (answer_count site panel before)
  taken_decide = rw (eq_true panel panel refl) refl

  pub taken_hold : taken_by_hold site panel (Turned panel Hold ∷ before) ≡ min (taken_by_hold site panel before + 32)
      (taken_by_decide site panel before)
  taken_hold = rw (eq_true panel panel refl) refl

  pub polled : with_put (answer_lane site panel before) (asked site panel before) ≡ answer_lane site panel (Turned panel Poll ∷ before)
  polled =
      lane_is _ _ _ _ _ _
      (sym (ap (drop (taken_by_decide site panel before)) answers_poll ∙ drop-append-le (taken_by_decide site panel before)
      (answers site panel before) (asked site panel before) (decide_behind site panel before)))
      (sym (ap length answers_poll ∙ length-append (answers site panel before) (asked site panel before)))
      refl

  -- what Poll puts leaves what was taken
  pub decided_after_poll : decided site panel before ≡ decided site panel (Turned panel Poll ∷ before)
  decided_after_poll =
      sym (ap (take (taken_by_decide site panel before)) answers_poll ∙ take-append-le (taken_by_decide site panel before) (answers site panel before)
      (asked site panel before) (decide_behind site panel before))

  -- how many Decide takes
  decide_takes : taken_by_decide site panel before + turn_count (answer_lane site panel before) ≡ min (taken_by_decide site panel before + 32)
      (answer_count site panel before)
  decide_takes = omega (arith, length-drop (taken_by_decide site panel before) (answers site panel before), decide_behind site panel before)

  pub decided_answers : after_turn (answer_lane site panel before) ≡ answer_lane site panel (Turned panel Decide ∷ before)
  decided_answers =
      let n = turn_count (answer_lane site panel before) in
      lane_is _ _ _ _ _ _
      (drop-drop n (taken_by_decide site panel before) (answers site panel before) ∙ ap (λ k. drop k (answers site panel before))
      (decide_takes ∙ sym taken_decide))
      refl
      (decide_takes ∙ sym taken_decide)

  pub decided_more : decided site panel before ++ take (turn_count (answer_lane site panel before)) (answer_lane site panel before).items
      ≡ decided site panel (Turned panel Decide ∷ before)
  decided_more =
      front_more (taken_by_decide site panel before) (turn_count (answer_lane site panel before)) (answers site panel before)
      ∙ ap (λ k. take k (answers site panel before)) (decide_takes ∙ sym taken_decide)

module _ (site : Site) (kept : Retained) (done : List Done) (panel : ℕ) (before : List Moment) where
  decided_count : length (decided site panel before) ≡ taken_by_decide site panel before
  decided_count = omega (arith, length-take (taken_by_decide site panel before) (answers site panel before), decide_behind site panel before)

  pub found_length : length (found site kept done panel before) ≡ taken_by_decide site panel before
  found_length = found_count site kept panel done [] (decided site panel before) ∙ decided_count

  pub found_after_decide : found site kept done panel before
      ++ findings_after site kept panel done (decided site panel before)
      (take (turn_count (answer_lane site panel before)) (answer_lane site panel before).items) ≡ found site kept done panel (Turned panel Decide
      ∷ before)
  found_after_decide =
      sym (found_more site kept panel done (decided site panel before) (take (turn_count (answer_lane site panel before)) (answer_lane site panel before).items))
      ∙ ap (findings_of site kept panel done) (decided_more site panel before)

  pub decided_findings :
      with_put (finding_lane site kept done panel before)
      (findings_after site kept panel done (decided site panel before)
      (take (turn_count (answer_lane site panel before)) (answer_lane site panel before).items)) ≡ finding_lane site kept done panel
      (Turned panel Decide ∷ before)
  decided_findings =
      let ys = take (turn_count (answer_lane site panel before)) (answer_lane site panel before).items in
      let few : taken_by_hold site panel before ≤ length (found site kept done panel before) =
      omega (arith, found_length, hold_behind site panel before) in
      let count : length (findings_after site kept panel done (decided site panel before) ys) ≡ turn_count (answer_lane site panel before) =
      found_count site kept panel done (decided site panel before) ys ∙ length-take (turn_count (answer_lane site panel before))
      (answer_lane site panel before).items ∙ omega arith in
      lane_is _ _ _ _ _ _
      (sym (drop-append-le (taken_by_hold site panel before) (found site kept done panel before) (findings_after site kept panel done
      (decided site panel before) ys) few) ∙ ap (drop (taken_by_hold site panel before)) found_after_decide)
      (omega (arith, count, decide_takes site panel before, taken_decide site panel before))
      refl

  -- what Hold takes
  hold_takes : taken_by_hold site panel before + turn_count (finding_lane site kept done panel before) ≡ min (taken_by_hold site panel before + 32)
      (taken_by_decide site panel before)
  hold_takes =
      omega (arith, length-drop (taken_by_hold site panel before) (found site kept done panel before), found_length, hold_behind site panel before)

  pub held_findings : after_turn (finding_lane site kept done panel before) ≡ finding_lane site kept done panel (Turned panel Hold ∷ before)
  held_findings =
      let n = turn_count (finding_lane site kept done panel before) in
      lane_is _ _ _ _ _ _
      (drop-drop n (taken_by_hold site panel before) (found site kept done panel before) ∙ ap (λ k. drop k (found site kept done panel before))
      (hold_takes ∙ sym (taken_hold site panel before)))
      refl
      (hold_takes ∙ sym (taken_hold site panel before))

  pub seen_more : seen site kept done panel before
      ++ take (turn_count (finding_lane site kept done panel before)) (finding_lane site kept done panel before).items
      ≡ seen site kept done panel (Turned panel Hold ∷ before)
  seen_more =
      front_more (taken_by_hold site panel before) (turn_count (finding_lane site kept done panel before)) (found site kept done panel before)
      ∙ ap (λ k. take k (found site kept done panel before)) (hold_takes ∙ sym (taken_hold site panel before))

  -- what Decide puts leaves what Hold has taken
  pub seen_after_decide : seen site kept done panel before ≡ seen site kept done panel (Turned panel Decide ∷ before)
  seen_after_decide =
      let few : taken_by_hold site panel before ≤ length (found site kept done panel before) =
      omega (arith, found_length, hold_behind site panel before) in
      sym (ap (take (taken_by_hold site panel before)) (sym found_after_decide) ∙ take-append-le (taken_by_hold site panel before)
      (found site kept done panel before) _ few)

  -- what Poll puts leaves the findings
  pub findings_after_poll : finding_lane site kept done panel before ≡ finding_lane site kept done panel (Turned panel Poll ∷ before)
  findings_after_poll =
      lane_is _ _ _ _ _ _
      (ap (λ xs. drop (taken_by_hold site panel before) (findings_of site kept panel done xs)) (decided_after_poll site panel before)) refl refl
