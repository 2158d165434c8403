-- What a drawer stands for: a seed, and how many ticks of its record were drawn.
use Rattle.std.specs.Prelude.{◌≡◌, ◌+◌, ◌*◌, ℕ}
use Rattle.drill_record.specs.declared.drawer.Drawer.{Drawer}
use Rattle.drill_record.specs.declared.drawn.Drawn.{Drawn}
use Rattle.drill_record.specs.Records.{after_words, drawn_behind}

abbrev pub StandsFor : ℕ → ℕ → Drawer → Type 0
StandsFor seed ticks drawer = drawer.draws ≡ after_words seed (2 * ticks)

-- the next tick of whatever record it stands for
pub record DrawsNext (seed ticks : ℕ) (drawn : Drawn) (drawer : Drawer) : Type 0 where
  pub drew : drawn ≡ drawn_behind seed ticks
  pub stands : StandsFor seed (ticks + 1) drawer

abbrev pub DrawsTick : Drawer → Drawn → Drawer → Type 0
DrawsTick old drawn drawer = (seed ticks : ℕ) → StandsFor seed ticks old → DrawsNext seed ticks drawn drawer
