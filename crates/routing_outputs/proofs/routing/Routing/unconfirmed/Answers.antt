use Rattle.std.proofs.Common.{◌+◌, ◌&&◌, ◌∙◌, ap}
use Rattle.std.specs.Prelude.{not}
use Rattle.site_types.specs.Bits.{has_bit}
use Rattle.site_types.proofs.Masks.{mask_same}
use Rattle.routing_outputs.specs.Confirmations.{is_watched, run_of, has_confirmation, ticks_of, spans, is_unconfirmed, state_of}
use Rattle.output_lists.proofs.Bits.{bit_is}
use Rattle.routing_outputs.proofs.Runs.{is_unconfirmed_in}
use Rattle.routing_outputs.proofs.routing.Routing.unconfirmed.Goals as goal

pub returns : goal.returns
returns c site panel limit calls stands =
    let late = c.args.self.now.late in
    let confirmed = c.args.self.now.confirmed in
    c.without_32.ensures
    ∙ mask_same 32 (λ k. has_bit late k && not (has_bit confirmed k)) (λ k. is_unconfirmed (state_of site panel limit (k + 1) calls))
    (λ k small.
    ap (λ b. b && not (has_bit confirmed k)) (bit_is late (λ j. is_watched site panel (j + 1) && spans limit (ticks_of (run_of (j + 1) calls)))
    stands.late k small)
    ∙ ap (λ b. (is_watched site panel (k + 1) && spans limit (ticks_of (run_of (k + 1) calls))) && not b)
    (bit_is confirmed (λ j. is_watched site panel (j + 1) && has_confirmation (j + 1) (run_of (j + 1) calls)) stands.confirmed k small)
    ∙ is_unconfirmed_in (is_watched site panel (k + 1)) limit (k + 1) (run_of (k + 1) calls))
