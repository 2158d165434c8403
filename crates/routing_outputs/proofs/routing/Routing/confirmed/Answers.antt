use Rattle.std.proofs.Common.{◌+◌, ◌&&◌, ◌∙◌}
use Rattle.site_types.proofs.Masks.{mask_same}
use Rattle.routing_outputs.specs.Confirmations.{is_watched, run_of, has_confirmation, is_confirmed, state_of}
use Rattle.routing_outputs.proofs.Runs.{is_confirmed_in}
use Rattle.routing_outputs.proofs.routing.Routing.confirmed.Goals as goal

pub returns : goal.returns
returns c site panel limit calls stands =
    stands.confirmed
    ∙ mask_same 32 (λ k. is_watched site panel (k + 1) && has_confirmation (k + 1) (run_of (k + 1) calls))
    (λ k. is_confirmed (state_of site panel limit (k + 1) calls))
    (λ k small. is_confirmed_in (is_watched site panel (k + 1)) limit (k + 1) (run_of (k + 1) calls))
