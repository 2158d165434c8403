-- Flags that tell of each number up to one whether it passes a test.
use Rattle.std.proofs.Common.{◌≡◌, ◌≢◌, ℕ, ◌+◌, ◌<◌, List, length, slice_index_or, slice_set, inl, inr, Bool, false, sym, ◌∙◌, ap, arith}
use Rattle.std.proofs.lemmas.Bool.Decides.{eqb_tells}
use Rattle.std.proofs.lemmas.Grind.{get_or-set_at}
use Rattle.std.proofs.lemmas.List.{get_or-set_other}

-- one flag more
pub told_next : (flags : List Bool) (test : ℕ → Bool) (place : ℕ) (flag : Bool) → place < length flags → flag ≡ test place
    → ((k : ℕ) → k < place → slice_index_or flags k false ≡ test k)
    → (k : ℕ) → k < place + 1 → slice_index_or (slice_set flags place flag) k false ≡ test k
told_next flags test place flag room is told k small =
    elim (eqb_tells k place) [
      | inl t ↦ get_or-set_at flags place k flag false t.1 room ∙ is ∙ ap test (sym t.1)
      | inr t ↦ get_or-set_other flags place k flag false t.1 ∙ told k (below k place small t.1)
    ]
  where
    below : (k place : ℕ) → k < place + 1 → k ≢ place → k < place
    below k place small apart = omega arith
