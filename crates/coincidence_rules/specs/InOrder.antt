-- How answers come: their stamps never fall, and no point gives two in one tick.
use Rattle.std.specs.Prelude.{◌≡◌, ◌≤◌, ℕ, List, Some, slice_get}
use Rattle.site_types.specs.declared.answer.Answer.{Answer}

pub record AreInOrder (answers : List Answer) : Type 0 where
  pub rising : (i j : ℕ) (a b : Answer) → i ≤ j → slice_get answers i ≡ Some a → slice_get answers j ≡ Some b
      → a.stamp.0 ≤ b.stamp.0
  pub once : (i j : ℕ) (a b : Answer) → slice_get answers i ≡ Some a → slice_get answers j ≡ Some b
      → a.point ≡ b.point → a.stamp.0 ≡ b.stamp.0 → i ≡ j
