use Rattle.std.proofs.Common.{◌≡◌, ◌+◌, ◌<◌, ℕ, false, [], length, get_or}
use Rattle.routing_outputs.specs.Confirmations.{is_watched}
use Rattle.routing_outputs.specs.Stands.{watched_at}
use Rattle.output_lists.proofs.Listing.{ListsOutputs}
use Rattle.routing_outputs.proofs.routing.Routing.new.Given as goal

abbrev pub invariant-loop-place : goal.invariant-loop-place
invariant-loop-place l = record {
  outputs : ListsOutputs (λ output. output.place) (watched_at l.site l.panel []) l.place l.outputs.items;
  size : length l.watched ≡ 32;
  flags : (k : ℕ) → k < l.place → get_or l.watched k false ≡ is_watched l.site l.panel (k + 1);
}
