-- What a desk tells is what the rules answer.
use Rattle.std.proofs.Common.{◌≡◌, ◌-◌, ℕ, Bool, List, [], ◌∷◌, length, map, refl, arith}
use Rattle.std.specs.Prelude.{slice_index}
use Rattle.std.specs.List.{range_with_len}
use Rattle.face_text.specs.declared.answers.Answers.{Answers}
use Rattle.face_text.specs.declared.op_answer.OpAnswer.{OpAnswer}
use Rattle.site_types.specs.declared.retained.Retained.{Retained}
use Rattle.site_types.specs.declared.site.Site.{Site}
use Rattle.site_types.specs.Changes.{IsPanelNumber}
use Rattle.site_types.specs.Limits.{most_panels}
use Rattle.operation_desk.specs.declared.desk.Desk.{Desk}
use Rattle.operation_desk.specs.Stands.{DesksFor}
use Rattle.panel_rules.specs.Moments.{Moment}
use Rattle.panel_rules.specs.Timeline.{answers_now, busy_count, failed_now, told}

-- a list of eight by what stands at each place
eight : (f : ℕ → ℕ) (xs : List ℕ) → length xs ≡ 8 → ((panel : ℕ) → IsPanelNumber panel → slice_index xs (panel - 1) ≡ f panel)
    → xs ≡ map f (range_with_len 1 most_panels)
eight f (a ∷ b ∷ c ∷ d ∷ e ∷ g ∷ h ∷ i ∷ []) count at =
    let one = at 1 (omega arith, omega arith) in
    let two = at 2 (omega arith, omega arith) in
    let three = at 3 (omega arith, omega arith) in
    let four = at 4 (omega arith, omega arith) in
    let five = at 5 (omega arith, omega arith) in
    let six = at 6 (omega arith, omega arith) in
    let seven = at 7 (omega arith, omega arith) in
    let last = at 8 (omega arith, omega arith) in
    rw (one, two, three, four, five, six, seven, last) refl
eight f [] count at = absurd (omega (arith, count))
eight f (a ∷ []) count at = absurd (omega (arith, count))
eight f (a ∷ b ∷ []) count at = absurd (omega (arith, count))
eight f (a ∷ b ∷ c ∷ []) count at = absurd (omega (arith, count))
eight f (a ∷ b ∷ c ∷ d ∷ []) count at = absurd (omega (arith, count))
eight f (a ∷ b ∷ c ∷ d ∷ e ∷ []) count at = absurd (omega (arith, count))
eight f (a ∷ b ∷ c ∷ d ∷ e ∷ g ∷ []) count at = absurd (omega (arith, count))
eight f (a ∷ b ∷ c ∷ d ∷ e ∷ g ∷ h ∷ []) count at = absurd (omega (arith, count))
eight f (a ∷ b ∷ c ∷ d ∷ e ∷ g ∷ h ∷ i ∷ j ∷ rest) count at = absurd (omega (arith, count))

same_answers : (ops ops' : List OpAnswer) (busy busy' : List ℕ) (failed failed' : Bool) → ops ≡ ops' → busy ≡ busy' → failed ≡ failed'
    → ◌≡◌ {A = Answers} (record { ops = ops; busy = busy; failed = failed }) (record { ops = ops'; busy = busy'; failed = failed' })
same_answers ops ops' busy busy' failed failed' p q r = cc

pub answers_told : (site : Site) (kept : Retained) (before : List Moment) (desk : Desk) → DesksFor site kept before desk
    → desk.answers ≡ told (answers_now site kept before) (failed_now site kept before)
answers_told site kept before desk h =
    same_answers desk.answers.ops _ desk.answers.busy _ desk.answers.failed _ h.outcomes.ops
    (eight (λ panel. busy_count panel (answers_now site kept before)) desk.answers.busy h.sized.1 h.busy) h.failed
