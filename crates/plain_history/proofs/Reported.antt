-- What was never reported bad is sound.
use Rattle.std.proofs.Common.{◌≡◌, ◌∙◌, ◌==◌, ◌&&◌, ◌||◌, ℕ, Bool, true, false, List, [], ◌∷◌, ap, refl, sym, if◌then◌else◌}
use Rattle.std.specs.List.{list_any}
use Rattle.std.proofs.Math.Path.{fun_ext}
use Rattle.tick_units.specs.declared.task.Task.TheVariants.{Poll, Decide, Supply as SupplyTask, Desk, Hold, Link as LinkTask, Effect, Drive, Keep}
use Rattle.site_types.specs.declared.event.Event.TheVariants.{Cable, Confirmed, Link, Op, Point, Supply}
use Rattle.site_types.specs.declared.loop_plan.LoopPlan.{LoopPlan}
use Rattle.site_types.specs.declared.piece_state.PieceState.{PieceState}
use Rattle.site_types.specs.declared.piece_state.PieceState.TheVariants.{Sound}
use Rattle.site_types.specs.declared.supply_kind.SupplyKind.{SupplyKind}
use Rattle.isolators.specs.declared.line_status.LineStatus.{LineStatus}
use Rattle.isolators.specs.Reach.{is_open, is_short, pieces_of, status_of}
use Rattle.supply_monitor.specs.Supply.{Call, Reported, Turned as TurnMade, bad_turns, is_bad, is_same_kind, lasts}
use Rattle.panel_rules.specs.Faults.{supply_calls}
use Rattle.panel_rules.specs.Moments.{Moment as MomentOf, Began, Happened, Turned, Kept, tick_of}
use Rattle.panel_rules.specs.States.{piece_of}
use Rattle.plain_history.specs.declared.moment.Moment.{Moment}
use Rattle.plain_history.specs.Histories.{and_moments, history, moment_of}
use Rattle.plain_history.specs.Reported.{tells_bad, tells_cable}

-- neither of two tests holds
pub or_first : (a b : Bool) → (a || b) ≡ false → a ≡ false
or_first true b e = e
or_first false b e = refl

pub or_rest : (a b : Bool) → (a || b) ≡ false → b ≡ false
or_rest true b e = let t : true ≡ false = e in cc
or_rest false b e = e

-- a supply was never bad
record Calm (kind : SupplyKind) (calls : List Call) : Type 0 where
  pub bad : is_bad kind calls ≡ false
  pub turns : bad_turns kind calls ≡ []

told_calm : (same told was : Bool) → (told && same) ≡ false → was ≡ false → (if same then told else was) ≡ false
told_calm true true was none calm = none
told_calm true false was none calm = refl
told_calm false told was none calm = calm

module _ (kind : SupplyKind) (calls : List Call) (calm : Calm kind calls) where
  reported : (other : SupplyKind) (bad here : Bool) → (bad && (here && is_same_kind kind other)) ≡ false
      → Calm kind (if here then Reported other bad ∷ calls else calls)
  reported other bad true none = record { bad = told_calm (is_same_kind kind other) bad (is_bad kind calls) none calm.bad; turns = calm.turns }
  reported other bad false none = calm

  turned : (tick : ℕ) (here : Bool) → Calm kind (if here then TurnMade tick ∷ calls else calls)
  turned tick true = record { bad = calm.bad; turns = rw calm.bad refl }
  turned tick false = calm

module _ (panel : ℕ) (kind : SupplyKind) where
  calm_next : (moment : MomentOf) (before : List MomentOf) → tells_bad panel kind moment ≡ false → Calm kind (supply_calls panel before)
      → Calm kind (supply_calls panel (moment ∷ before))
  calm_next Began before none calm = calm
  calm_next (Happened (Supply other told bad)) before none calm = reported kind (supply_calls panel before) calm told bad (other == panel) none
  calm_next (Happened (Point a b)) before none calm = calm
  calm_next (Happened (Cable a b c d)) before none calm = calm
  calm_next (Happened (Link a b)) before none calm = calm
  calm_next (Happened (Confirmed a)) before none calm = calm
  calm_next (Happened (Op a b c)) before none calm = calm
  calm_next (Turned other SupplyTask) before none calm = turned kind (supply_calls panel before) calm (tick_of before) (other == panel)
  calm_next (Turned other Poll) before none calm = calm
  calm_next (Turned other Decide) before none calm = calm
  calm_next (Turned other Desk) before none calm = calm
  calm_next (Turned other Hold) before none calm = calm
  calm_next (Turned other LinkTask) before none calm = calm
  calm_next (Turned other Effect) before none calm = calm
  calm_next (Turned other Drive) before none calm = calm
  calm_next (Turned other Keep) before none calm = calm
  calm_next (Kept failed) before none calm = calm

  calm_all : (moments : List Moment) (before : List MomentOf) → list_any (λ m. tells_bad panel kind (moment_of m)) moments ≡ false
      → Calm kind (supply_calls panel before) →
      Calm kind (supply_calls panel (and_moments moments before))
  calm_all [] before none calm = calm
  calm_all (m ∷ ms) before none calm =
      let later = or_rest (tells_bad panel kind (moment_of m)) (list_any (λ m. tells_bad panel kind (moment_of m)) ms) none in
      calm_all ms (moment_of m ∷ before) later
      (calm_next (moment_of m) before (or_first (tells_bad panel kind (moment_of m)) (list_any (λ m. tells_bad panel kind (moment_of m)) ms) none)
      calm)

  pub never_bad : (wait : ℕ) (moments : List Moment) → list_any (λ m. tells_bad panel kind (moment_of m)) moments ≡ false
      → false ≡ lasts wait (bad_turns kind (supply_calls panel (history moments)))
  never_bad wait moments none = let calm = calm_all moments [] none (record { bad = refl; turns = refl }) in sym (ap (lasts wait) calm.turns)

told_sound : (here there same : Bool) (state was : PieceState) → (here && there) ≡ false → was ≡ Sound
    → (if here && (there && same) then state else was) ≡ Sound
told_sound true true same state was none sound = absurd (let t : true ≡ false = none in cc)
told_sound true false same state was none sound = sound
told_sound false there same state was none sound = sound

none_any : (test : ℕ → Bool) (xs : List ℕ) → ((x : ℕ) → test x ≡ false) → list_any test xs ≡ false
none_any test [] h = refl
none_any test (x ∷ xs) h = rw (h x, none_any test xs h) refl

pub neither : (broken shorted : Bool) → broken ≡ false → shorted ≡ false
    → (let status : LineStatus = record { broken = broken; shorted = shorted } in status ≡ record { broken = false; shorted = false })
neither broken shorted a b = rw (a, b) refl

sound_status : (plan : LoopPlan) → status_of plan (λ piece. Sound) ≡ record { broken = false; shorted = false }
sound_status plan =
    neither (list_any (λ piece. is_open Sound) (pieces_of plan)) (list_any (λ piece. is_short Sound) (pieces_of plan))
    (none_any (λ piece. is_open Sound) (pieces_of plan) (λ x. refl))
    (none_any (λ piece. is_short Sound) (pieces_of plan) (λ x. refl))

module _ (panel line : ℕ) where
  sound_next : (piece : ℕ) (moment : MomentOf) (before : List MomentOf) → tells_cable panel line moment ≡ false
      → piece_of panel line piece before ≡ Sound → piece_of panel line piece (moment ∷ before) ≡ Sound
  sound_next piece Began before none sound = sound
  sound_next piece (Happened (Cable of_panel of_line other state)) before none sound =
      told_sound (of_panel == panel) (of_line == line) (other == piece) state (piece_of panel line piece before) none sound
  sound_next piece (Happened (Point a b)) before none sound = sound
  sound_next piece (Happened (Supply a b c)) before none sound = sound
  sound_next piece (Happened (Link a b)) before none sound = sound
  sound_next piece (Happened (Confirmed a)) before none sound = sound
  sound_next piece (Happened (Op a b c)) before none sound = sound
  sound_next piece (Turned other task) before none sound = sound
  sound_next piece (Kept failed) before none sound = sound

  sound_all : (piece : ℕ) (moments : List Moment) (before : List MomentOf) → list_any (λ m. tells_cable panel line (moment_of m)) moments ≡ false
      → piece_of panel line piece before ≡ Sound →
      piece_of panel line piece (and_moments moments before) ≡ Sound
  sound_all piece [] before none sound = sound
  sound_all piece (m ∷ ms) before none sound =
      let later = or_rest (tells_cable panel line (moment_of m)) (list_any (λ m. tells_cable panel line (moment_of m)) ms) none in
      sound_all piece ms (moment_of m ∷ before) later
      (sound_next piece (moment_of m) before
      (or_first (tells_cable panel line (moment_of m)) (list_any (λ m. tells_cable panel line (moment_of m)) ms) none) sound)

  pub never_told : (plan : LoopPlan) (moments : List Moment) → list_any (λ m. tells_cable panel line (moment_of m)) moments ≡ false →
      record { broken = false; shorted = false } ≡ status_of plan (λ piece. piece_of panel line piece (history moments))
  never_told plan moments none = sym (ap (status_of plan) (fun_ext (λ piece. sound_all piece moments [] none refl)) ∙ sound_status plan)
