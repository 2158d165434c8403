use Rattle.std.proofs.Common.{◌≡◌, ◌<◌, ◌==◌, ℕ, false, slice_index_or, length, take}
use Rattle.std.specs.List.{list_any}
use Rattle.isolators.proofs.begins.places_of.Given as goal

abbrev pub invariant-loop-isolator : goal.invariant-loop-isolator
invariant-loop-isolator l = record {
  size : length l.isolates ≡ 256;
  known : (place : ℕ) → place < 256
      → slice_index_or l.isolates place false ≡ list_any (λ isolator. isolator == place) (take l.isolator-index l.isolators);
}
