use Rattle.std.proofs.Common.{◌≡◌, ◌+◌, ◌<◌, ◌≤◌, ℕ, List, false, length, slice_index_or}
use Rattle.kept_words.specs.Arrivals.{Arrival, is_silent_from}
use Rattle.kept_words.specs.Stands.{KeepsArrived}
use Rattle.kept_words.proofs.kept_words.KeptWords.silent.Given as goal

abbrev pub invariant-loop-of : goal.invariant-loop-of
invariant-loop-of l = record {
  size : length l.silent ≡ 8;
  known : (panels panel : ℕ) (arrivals : List Arrival) → KeepsArrived panels panel arrivals l.self → (k : ℕ) → k + 1 < l.of
      → slice_index_or l.silent k false ≡ is_silent_from panels panel arrivals l.now.0 l.limit (k + 1);
  rest : (k : ℕ) → k < 8 → l.of ≤ k + 1 → slice_index_or l.silent k false ≡ false;
}
