-- What was done from a tick on, as the crates below say it, and what so stays as operations grow.
use Rattle.std.proofs.Common.{◌≡◌, ℕ, List, [], ◌∷◌, ◌∙◌, ap, arith}
use Rattle.site_types.specs.Done.{Done}
use Rattle.site_types.proofs.LaterDone.{AreFrom}
use Rattle.panel_rules.specs.Moments.{Moment, tick_of}
use Rattle.panel_laws.proofs.LaterDone.{Grew}
use Rattle.later_operations.specs.Later.{AreDoneFrom, StaysAsMoreIsDone}

pub are_from : (tick : ℕ) (new : List Done) → AreDoneFrom tick new → AreFrom tick new
are_from tick [] from = tt
are_from tick (d ∷ ds) from = (from.0, are_from tick ds from.1)

pub are_done_from : (tick : ℕ) (new : List Done) → AreFrom tick new → AreDoneFrom tick new
are_done_from tick [] from = tt
are_done_from tick (d ∷ ds) from = (from.0, are_done_from tick ds from.1)

-- what stays as more is done is the same where the operations grew in the tick that began last or later
pub as_more_is_done : {X : Type 0} (told : List Done → List Moment → X) → StaysAsMoreIsDone told → (less more : List Done) (moments : List Moment)
    → Grew less more (tick_of moments) → told more moments ≡ told less moments
as_more_is_done told stays less more moments grew =
    ap (λ done. told done moments) grew.is
    ∙ stays (tick_of moments) grew.new less moments (are_done_from (tick_of moments) grew.new grew.from) (omega arith)
