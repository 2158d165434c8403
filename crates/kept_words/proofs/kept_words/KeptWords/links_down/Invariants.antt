use Rattle.std.proofs.Common.{◌≡◌, ◌+◌, ◌<◌, ℕ, List, false, length, slice_index_or}
use Rattle.kept_words.specs.Arrivals.{Arrival, counts_as_down}
use Rattle.kept_words.specs.Stands.{KeepsArrived}
use Rattle.kept_words.proofs.kept_words.KeptWords.links_down.Given as goal

abbrev pub invariant-loop-link : goal.invariant-loop-link
invariant-loop-link l = record {
  size : length l.down ≡ 8;
  known : (panels panel : ℕ) (arrivals : List Arrival) → KeepsArrived panels panel arrivals l.self → (k : ℕ) → k + 1 < l.link
      → slice_index_or l.down k false ≡ counts_as_down panels panel arrivals l.now.0 l.limit (k + 1);
}
