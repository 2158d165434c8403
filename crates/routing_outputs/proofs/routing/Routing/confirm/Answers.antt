use Rattle.std.proofs.Common.{◌≡◌, ◌<◌, ◌+◌, ◌∷◌, ℕ, List, sym, ◌∙◌, arith}
use Rattle.std.specs.List.{AllByRecursion}
use Rattle.site_types.specs.declared.site.Site.{Site}
use Rattle.site_types.specs.Bits.{mask_of}
use Rattle.site_types.specs.Changes.{IsNumber}
use Rattle.site_types.proofs.Masks.{mask_same}
use Rattle.routing_outputs.specs.declared.routing.Routing.{Routing}
use Rattle.routing_outputs.specs.Confirmations.{Call, Confirmed, is_watched, run_of}
use Rattle.routing_outputs.specs.Stands.{StandsFor, watched_at}
use Rattle.site_types.specs.Limits.{output_bits}
use Rattle.routing_outputs.proofs.Confirming.{after_at, confirmed_more, confirmed_still, late_at, on_at}
use Rattle.tick_units.proofs.Listed.{found_same}
use Rattle.routing_outputs.proofs.Runs.{output_confirmed, on_confirmed, late_confirmed}
use Rattle.routing_outputs.proofs.routing.Routing.confirm.Goals as goal

-- what a confirmation leaves, if its mask is of the outputs confirmed now
stands_after : (site : Site) (panel limit : ℕ) (calls : List Call) (routing : Routing) (number confirmed : ℕ)
    (placed : AllByRecursion (λ output. output.place < 32) routing.outputs.items)
    → (known : IsNumber number) → StandsFor site panel limit calls routing
    → confirmed ≡ mask_of 32 (after_at site panel limit calls number known)
    → StandsFor site panel limit (Confirmed number ∷ calls) (record routing { confirmed = confirmed; placed = placed })
stands_after site panel limit calls routing number confirmed placed known stands is =
    let after = Confirmed number ∷ calls in
    record {
      kept = stands.kept;
      outputs =
          stands.outputs
          ∙ found_same (watched_at site panel calls) (watched_at site panel after) output_bits (output_confirmed site panel number calls);
      watched = stands.watched;
      on = stands.on ∙ mask_same 32 (on_at site panel limit calls) (on_at site panel limit after)
          (λ k small. on_confirmed (is_watched site panel (k + 1)) number (run_of (k + 1) calls));
      confirmed = is;
      late = stands.late ∙ mask_same 32 (late_at site panel limit calls) (late_at site panel limit after)
          (λ k small. late_confirmed (is_watched site panel (k + 1)) limit number k calls);
    }

pub returns-then-has_bit_32 : goal.returns-then-has_bit_32
returns-then-has_bit_32 c site panel limit calls stands =
    let s = c.args.self.now in
    let number = c.args.number in
    stands_after site panel limit calls s number c.with_bit_32-self.result _ c.requires stands
    (confirmed_more site panel limit calls number c.requires s.on s.confirmed c.with_bit_32-self.result stands.on stands.confirmed
    (sym c.has_bit_32.ensures ∙ c.if-has_bit_32.true) c.with_bit_32-self.ensures.this c.with_bit_32-self.ensures.others (omega arith))

pub returns-else-has_bit_32 : goal.returns-else-has_bit_32
returns-else-has_bit_32 c site panel limit calls stands =
    let s = c.args.self.now in
    let number = c.args.number in
    stands_after site panel limit calls s number s.confirmed _ c.requires stands
    (confirmed_still site panel limit calls number c.requires s.on s.confirmed stands.on stands.confirmed
    (sym c.has_bit_32.ensures ∙ c.if-has_bit_32.false))
