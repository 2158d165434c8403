use Rattle.std.proofs.Common.{◌≡◌, ◌+◌, ◌==◌, ◌&&◌, ◌∷◌, length, map, refl, ◌∙◌, ap, arith}
use Rattle.std.specs.List.{filter_map, list_any}
use Rattle.site_types.specs.Bits.{has_bit}
use Rattle.site_types.proofs.Masks.{mask_same}
use Rattle.routing_outputs.specs.Confirmations.{Turned, is_watched}
use Rattle.routing_outputs.specs.WatchedOutputs.{is_late, turned_by}
use Rattle.routing_outputs.specs.Stands.{watched_at}
use Rattle.site_types.specs.Limits.{output_bits}
use Rattle.output_lists.proofs.Bits.{bit_is}
use Rattle.routing_outputs.proofs.Confirming.{on_at, confirmed_at, late_at, late_outputs}
use Rattle.tick_units.proofs.Listed.{map_found}
use Rattle.routing_outputs.proofs.Runs.{output_turned, on_turned, confirmed_turned}
use Rattle.output_lists.proofs.Turning.{placed_states, turned_states}
use Rattle.routing_outputs.proofs.NoneWatched.{none_turned}
use Rattle.routing_outputs.proofs.routing.Routing.turn.Goals as goal

pub returns : goal.returns
returns c site panel limit calls stands =
    let now = c.args.now in
    let on = c.args.on in
    let f = turned_by now on in
    let items = c.args.self.now.outputs.items in
    let after = Turned now.0 on ∷ calls in
    let given : c.turn_outputs-self.new.outputs ≡ map f items = c.turn_outputs-self.ensures.outputs ∙ ap (map f) c.as_mut_slice.ensures.value in
    let found : map f items ≡ filter_map (watched_at site panel after) output_bits =
    ap (map f) stands.outputs ∙ map_found f (watched_at site panel calls) (watched_at site panel after) output_bits (output_turned site panel calls now on)
    in
    let watched = bit_is c.args.self.now.watched (λ k. is_watched site panel (k + 1)) stands.watched in
    let confirmed = bit_is c.args.self.now.confirmed (confirmed_at site panel limit calls) stands.confirmed in
    record {
      kept = stands.kept;
      outputs = turned_states f items c.turn_outputs-self.new.outputs given ∙ found;
      watched = stands.watched;
      on = c.common_32-self.ensures
          ∙ mask_same 32 (λ k. has_bit c.args.self.now.watched k && has_bit on k) (on_at site panel limit after)
          (λ k small. ap (λ b. b && has_bit on k) (watched k small) ∙ on_turned (is_watched site panel (k + 1)) now.0 on k calls);
      confirmed = c.common_32-self-2.ensures
          ∙ mask_same 32 (λ k. has_bit c.args.self.now.confirmed k && has_bit on k) (confirmed_at site panel limit after)
          (λ k small. ap (λ b. b && has_bit on k) (confirmed k small) ∙ confirmed_turned (is_watched site panel (k + 1)) now.0 on k calls);
      late = c.turn_outputs-self.ensures.late
          ∙ mask_same 32 (λ k. list_any (λ output. (output.place == k) && is_late now c.args.self.now.limit output) c.turn_outputs-self.new.outputs)
          (late_at site panel limit after)
          (λ k small.
          ap (list_any (λ output. (output.place == k) && is_late now c.args.self.now.limit output)) (given ∙ found)
          ∙ late_outputs site panel c.args.self.now.limit after now k small calls on refl
          ∙ ap (λ n. late_at site panel n after k) stands.kept);
    }

pub invariant_of-self : goal.invariant_of-self
invariant_of-self c =
    let f = turned_by c.args.now c.args.on in
    let items = c.args.self.now.outputs.items in
    let given : c.turn_outputs-self.new.outputs ≡ map f items = c.turn_outputs-self.ensures.outputs ∙ ap (map f) c.as_mut_slice.ensures.value in
    record { placed = placed_states f (λ output. output.place) (λ output. refl) items c.turn_outputs-self.new.outputs c.args.self.now.placed given }

pub returns-then-is_empty : goal.returns-then-is_empty
returns-then-is_empty c site panel limit calls stands =
    let few : length c.args.self.now.outputs.items ≡ 0 = grind (arith, c.is_empty.ensures, c.if-is_empty.true) in
    none_turned site panel limit calls c.args.self.now few stands c.args.now c.args.on
