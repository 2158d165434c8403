-- The earliest of some ticks stays as later ones come.
use Rattle.std.proofs.Common.{◌≡◌, ℕ, List, [], ◌∷◌, Some, unwrap_or, refl}
use Rattle.tick_units.specs.declared.tick.Tick.{Tick}
use Rattle.tick_units.specs.Earliest.{earliest_of}

pub earliest_more : (now : Tick) (ticks : List ℕ) → Some (unwrap_or (earliest_of ticks) now) ≡ earliest_of (now.0 ∷ ticks)
earliest_more now [] = refl
earliest_more now (tick ∷ ticks) = refl
