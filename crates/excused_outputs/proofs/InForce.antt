-- What is in force at a tick is what the operations before it set.
use Rattle.std.proofs.Common.{◌≡◌, ℕ, zero, suc, ◌==◌, ◌&&◌, ◌||◌, ◌≤◌, ◌<◌, Bool, true, false, List, [], ◌∷◌, take, Option, Some, slice_get, refl, sym, ◌∙◌, ap, arith, if◌then◌else◌}
use Rattle.std.specs.Prelude.{nat_lt}
use Rattle.site_types.specs.declared.operation.Operation.{Operation}
use Rattle.site_types.specs.declared.operation.Operation.TheVariants.{Mute, Override, Silence, Resound, Reset, Cancel}
use Rattle.site_types.specs.declared.operation.Operation.TheVariants.{Disable, Enable, Test, Untest, Delays, Clear}
use Rattle.site_types.specs.declared.output.Output.{Output}
use Rattle.site_types.specs.declared.retained.Retained.{Retained}
use Rattle.site_types.specs.declared.site.Site.{Site}
use Rattle.site_types.specs.Done.{Done, OutputOff, in_force, silence_before, silence_then}
use Rattle.site_types.proofs.Done.{lt_false, lt_true}
use Rattle.panel_rules.specs.Outputs.{is_sounder, is_sounder_kind, on_output}
use Rattle.audit_rules.specs.Breaches.{is_some, was_silenced}
use Rattle.blocked_points.specs.declared.done_operation.DoneOperation.{DoneOperation}
use Rattle.blocked_points.specs.Operations.{and_later_done, as_done, done_newest_first, value_behind}
use Rattle.blocked_points.proofs.InForce.{in_force_is}
use Rattle.excused_outputs.specs.declared.excused_outputs.ExcusedOutputs.{ExcusedOutputs}
use Rattle.excused_outputs.specs.Behind.{silenced_behind, silenced_by}
use Rattle.excused_outputs.specs.Excused.{StandsFor, is_excused}

silence_told : (operation : Operation) (tick : ℕ) (before : Option ℕ) → is_some (silence_then operation tick before) ≡ silenced_by operation (is_some before)
silence_told Mute tick before = refl
silence_told Override tick before = refl
silence_told Silence tick before = refl
silence_told Resound tick before = refl
silence_told Reset tick before = refl
silence_told (Cancel zone) tick before = refl
silence_told (Disable item) tick before = refl
silence_told (Enable item) tick before = refl
silence_told (Test zone) tick before = refl
silence_told (Untest zone) tick before = refl
silence_told (Delays on) tick before = refl
silence_told Clear tick before = refl

module _ (panel tick : ℕ) where
  -- an operation of a later tick changes nothing yet
  silence-yet : (d : Done) (before : List Done) → tick ≤ d.tick → was_silenced panel tick (d ∷ before) ≡ was_silenced panel tick before
  silence-yet d before late = go (d.panel == panel) (nat_lt d.tick tick) (lt_false d.tick tick late)
    where
      go : (a b : Bool) → b ≡ false
          → is_some (if a && b then silence_then d.operation d.tick (silence_before panel tick before) else silence_before panel tick before)
          ≡ was_silenced panel tick before
      go true false e = refl
      go true true e = cc
      go false b e = refl

  silence-then : (d : Done) (before : List Done) → d.tick < tick
      → was_silenced panel tick (d ∷ before)
      ≡ (if d.panel == panel then silenced_by d.operation (was_silenced panel tick before) else was_silenced panel tick before)
  silence-then d before early = go (d.panel == panel) (nat_lt d.tick tick) (lt_true d.tick tick early)
    where
      go : (a b : Bool) → b ≡ true
          → is_some (if a && b then silence_then d.operation d.tick (silence_before panel tick before) else silence_before panel tick before)
          ≡ (if a then silenced_by d.operation (was_silenced panel tick before) else was_silenced panel tick before)
      go true true e = silence_told d.operation d.tick (silence_before panel tick before)
      go true false e = cc
      go false b e = refl

  later_silent : (operations : List DoneOperation) (before : List Done)
      → ((place : ℕ) (d : DoneOperation) → slice_get operations place ≡ Some d → tick ≤ d.tick.0)
      → was_silenced panel tick (and_later_done operations before) ≡ was_silenced panel tick before
  later_silent [] before from = refl
  later_silent (d ∷ rest) before from =
      later_silent rest (as_done d ∷ before) (λ place e at. from (suc place) e at) ∙ silence-yet (as_done d) before (from 0 d refl)

  pub silenced_is : (operations : List DoneOperation) (n : ℕ) (before : List Done)
      → ((place : ℕ) (d : DoneOperation) → place < n → slice_get operations place ≡ Some d → d.tick.0 < tick)
      → ((place : ℕ) (d : DoneOperation) → n ≤ place → slice_get operations place ≡ Some d → tick ≤ d.tick.0)
      → was_silenced panel tick before ≡ silenced_behind panel before
      → was_silenced panel tick (and_later_done operations before) ≡ silenced_behind panel (and_later_done (take n operations) before)
  silenced_is [] zero before earlier later is = is
  silenced_is [] (suc n) before earlier later is = is
  silenced_is (d ∷ rest) zero before earlier later is = later_silent (d ∷ rest) before (λ place e at. later place e (omega arith) at) ∙ is
  silenced_is (d ∷ rest) (suc n) before earlier later is =
      silenced_is rest n (as_done d ∷ before) (λ place e less at. earlier (suc place) e (omega (arith, less)) at)
      (λ place e more at. later (suc place) e (omega (arith, more)) at)
      (silence-then (as_done d) before (earlier 0 d (omega arith) refl)
      ∙ ap (λ v. if d.panel == panel then silenced_by d.operation v else v) is)

-- what is kept tells which outputs are excused
module _ (site : Site) (kept : Retained) (operations : List DoneOperation) (tick : ℕ) (excused : ExcusedOutputs) (stands :
    StandsFor site kept operations tick excused) (place : ℕ) (output : Output) (at : slice_get site.outputs place ≡ Some output) where
  off_is : in_force site kept (OutputOff place) tick (done_newest_first operations)
      ≡ value_behind site kept (done_newest_first (take excused.in_force operations)) (OutputOff place)
  off_is = in_force_is site kept tick (OutputOff place) operations excused.in_force [] stands.earlier stands.later refl

  silent_is : was_silenced output.panel tick (done_newest_first operations)
      ≡ silenced_behind output.panel (done_newest_first (take excused.in_force operations))
  silent_is = silenced_is output.panel tick operations excused.in_force [] stands.earlier stands.later refl

  sounds : is_sounder site place ≡ is_sounder_kind output.kind
  sounds = ap (on_output (λ o. is_sounder_kind o.kind)) at

  pub excused_is : (off sounder silenced : Bool) → off ≡ value_behind site kept (done_newest_first (take excused.in_force operations)) (OutputOff place)
      → sounder ≡ is_sounder_kind output.kind → silenced ≡ silenced_behind output.panel (done_newest_first (take excused.in_force operations))
      → (off || (sounder && silenced)) ≡ is_excused site kept (done_newest_first operations) tick output.panel place
  excused_is off sounder silenced p q r =
      ap (λ b. b || (sounder && silenced)) (p ∙ sym off_is)
      ∙ ap (λ b. in_force site kept (OutputOff place) tick (done_newest_first operations) || (b && silenced)) (q ∙ sym sounds)
      ∙ ap (λ b. in_force site kept (OutputOff place) tick (done_newest_first operations) || (is_sounder site place && b)) (r ∙ sym silent_is)

-- ---- the answer in each case

pub off_first : (off rest : Bool) → off ≡ true → off ≡ (off || rest)
off_first true rest h = refl
off_first false rest h = cc

pub silenced_last : (off sounder silenced : Bool) → off ≡ false → sounder ≡ true → silenced ≡ (off || (sounder && silenced))
silenced_last true sounder silenced p q = cc
silenced_last false true silenced p q = refl
silenced_last false false silenced p q = cc

pub no_sounder : (off sounder silenced : Bool) → off ≡ false → sounder ≡ false → sounder ≡ (off || (sounder && silenced))
no_sounder true sounder silenced p q = cc
no_sounder false true silenced p q = cc
no_sounder false false silenced p q = refl
