-- How often the Hold of a panel saw it enter the fire alarm condition is how often it did.
use Rattle.std.proofs.Common.{◌≡◌, ◌∙◌, ◌+◌, ◌==◌, ◌&&◌, not, ℕ, Bool, true, false, List, [], ◌∷◌, length, inl, inr, ap, arith, refl, subst, sym}
use Rattle.std.specs.Prelude.{if◌then◌else◌}
use Rattle.std.proofs.lemmas.Bool.Decides.{eqb_tells}
use Rattle.tick_units.specs.declared.task.Task.TheVariants.{Hold}
use Rattle.site_types.specs.declared.retained.Retained.{Retained}
use Rattle.site_types.specs.declared.site.Site.{Site}
use Rattle.site_types.specs.Done.{Done}
use Rattle.site_types.specs.Valid.{IsValid}
use Rattle.panel_conditions.specs.Shown.{entries_after, is_in_fire_alarm as shows_fire_alarm}
use Rattle.panel_conditions.specs.Turns.{HoldTurn}
use Rattle.panel_conditions.specs.Words.{word_after}
use Rattle.panel_rules.specs.Batches.{is_in_fire_alarm, enters, entries}
use Rattle.panel_rules.specs.Moments.{Moment, Began, Happened, Turned, Kept, IsPanel, IsRun, tick_of}
use Rattle.panel_rules.proofs.AnswersTell.{eq_true}
use Rattle.hold_calls.specs.HoldLaws.{HeldEntries}
use Rattle.hold_calls.specs.Told.{Told, told_in_ring}
use Rattle.hold_calls.specs.ToldLaws.{ToldEntries}
use Rattle.hold_calls.specs.Turns.{hold_turn, hold_turns}
use Rattle.hold_calls.proofs.TurnsMade.{own_turn}
use Rattle.hold_calls.proofs.ZonesHeld.{alarm_shown}

one_more : (enters : Bool) (tick count : ℕ) (ticks : List ℕ) → count ≡ length ticks
    → count + (if enters then 1 else 0) ≡ length (if enters then tick ∷ ticks else ticks)
one_more true tick count ticks is = omega (arith, is)
one_more false tick count ticks is = omega (arith, is)

module _ (site : Site) (kept : Retained) (done : List Done) (told : Told) (panel : ℕ) (valid : IsValid site) (member : IsPanel site.panels panel) where
  fire_alarm_shown : (before : List Moment) → IsRun site.panels before
      → shows_fire_alarm (word_after site kept panel done (hold_turns site kept done told panel before)) ≡ is_in_fire_alarm site kept done panel before
  fire_alarm_shown before run = ap (λ mask. not (mask == 0)) (alarm_shown site kept done told panel before valid run member)

  told_more : (before : List Moment) → IsRun site.panels (Turned panel Hold ∷ before)
      → entries_after site kept panel done (hold_turns site kept done told panel before) ≡ length (entries site kept done panel before)
      → entries_after site kept panel done (hold_turns site kept done told panel (Turned panel Hold ∷ before))
      ≡ length (entries site kept done panel (Turned panel Hold ∷ before))
  told_more before run ih =
      let turns = hold_turns site kept done told panel before in
      let count = entries_after site kept panel done turns in
      let turned : List HoldTurn = hold_turn site kept done told panel before ∷ turns in
      let is_shown : shows_fire_alarm (word_after site kept panel done turned) ≡ is_in_fire_alarm site kept done panel (Turned panel Hold ∷ before) =
      ap (λ ts. shows_fire_alarm (word_after site kept panel done ts)) (sym (own_turn site kept done told panel before)) ∙ fire_alarm_shown (Turned panel Hold ∷ before) run in
      ap (entries_after site kept panel done) (own_turn site kept done told panel before)
      ∙ ap (λ b. count + (if b && not (shows_fire_alarm (word_after site kept panel done turns)) then 1 else 0)) is_shown
      ∙ ap (λ b. count + (if is_in_fire_alarm site kept done panel (Turned panel Hold ∷ before) && not b then 1 else 0))
      (fire_alarm_shown before run.0)
      ∙ one_more (enters site kept done panel before) (tick_of before) count (entries site kept done panel before) ih
      ∙ ap (λ b. length (if b && enters site kept done panel before then tick_of before ∷ entries site kept done panel before else entries site kept
      done panel before)) (sym (eq_true panel panel refl))

  -- Hold tells the entries that the rules count
  pub entries_told : (before : List Moment) → IsRun site.panels before
      → entries_after site kept panel done (hold_turns site kept done told panel before) ≡ length (entries site kept done panel before)
  entries_told [] run = refl
  entries_told (Began ∷ before) run = entries_told before run.0
  entries_told (Happened event ∷ before) run = entries_told before run.0
  entries_told (Turned other Hold ∷ before) run =
      elim (eqb_tells other panel) [
        | inl t ↦
            subst (λ p. entries_after site kept panel done (hold_turns site kept done told panel (Turned p Hold ∷ before))
            ≡ length (entries site kept done panel (Turned p Hold ∷ before))) (sym t.1)
            (told_more before (subst (λ p. IsRun site.panels (Turned p Hold ∷ before)) t.1 run) (entries_told before run.0))
        | inr t ↦ rw t.0 (entries_told before run.0)
      ]
  entries_told (Turned other task ∷ before) run = entries_told before run.0
  entries_told (Kept failed ∷ before) run = entries_told before run.0

pub entries_by_told : ToldEntries
entries_by_told site kept done told panel before valid member run = entries_told site kept done told panel valid member before run

pub entries_held : HeldEntries
entries_held site kept done panel before valid member run =
    entries_by_told site kept done (told_in_ring site kept done panel) panel before valid member run
