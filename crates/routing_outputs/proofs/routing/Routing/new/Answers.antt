use Rattle.std.proofs.Common.{◌≡◌, ◌≢◌, ◌+◌, ◌<◌, ◌&&◌, ℕ, false, [], None, length, get_or, set, below_more, get_or-set_same, get_or-set_other, refl, sym, ◌∙◌, ap, arith}
use Rattle.std.proofs.lemmas.Grind.{common_steps}
use Rattle.site_types.specs.Bits.{mask_of}
use Rattle.site_types.proofs.Masks.{mask_same}
use Rattle.routing_outputs.specs.Confirmations.{is_watched}
use Rattle.routing_outputs.specs.Stands.{watched_at}
use Rattle.output_lists.proofs.Listing.{all_listed, none_more, one_more}
use Rattle.routing_outputs.proofs.Bits.{and_false, none_set}
use Rattle.routing_outputs.proofs.Runs.{there_is_watched, none_is_watched}
use Rattle.routing_outputs.proofs.routing.Routing.new.Goals as goal
use Rattle.routing_outputs.proofs.routing.Routing.new.Goals.{then-waits, else-waits}

pub loop-place-preserved : goal.loop-place-preserved
loop-place-preserved c =
    let site = c.args.site.now in
    let panel = c.args.panel in
    let place = c.loop-place.place in
    let inv = c.loop-place.invariant in
    let small : place < 32 = c.loop-place-test.true in
    let size : length (set c.loop-place.watched place c.is_watched-waits.result) ≡ 32 = grind (arith, common_steps) in
    let flags : (k : ℕ) → k < place + 1 → get_or (set c.loop-place.watched place c.is_watched-waits.result) k false ≡ is_watched site panel (k + 1) =
    below_more (λ k. get_or (set c.loop-place.watched place c.is_watched-waits.result) k false ≡ is_watched site panel (k + 1)) place
    (λ k below. let apart : k ≢ place = omega (arith, below) in
    get_or-set_other c.loop-place.watched place k c.is_watched-waits.result false apart ∙ inv.flags k below)
    (get_or-set_same c.loop-place.watched place c.is_watched-waits.result false (omega arith) ∙ c.is_watched-waits.ensures) in
    elim c.if-waits.branch [
      | then-waits w ↦ record {
        outputs =
            one_more (λ output. output.place) (watched_at site panel []) place c.loop-place.outputs.items c.if-waits.outputs.items
            (record { place = place; since = None }) inv.outputs
            (there_is_watched site panel place (sym c.is_watched-waits.ensures ∙ w.if-waits.true)) small
            (ap (λ v. v.items) w.outputs-is ∙ w.push.ensures.items);
        size = size;
        flags = flags;
      }
      | else-waits w ↦ record {
        outputs =
            none_more (λ output. output.place) (watched_at site panel []) place c.loop-place.outputs.items c.if-waits.outputs.items inv.outputs
            (none_is_watched site panel place (sym c.is_watched-waits.ensures ∙ w.if-waits.false)) (ap (λ v. v.items) w.outputs-is);
        size = size;
        flags = flags;
      }
    ]

pub returns : goal.returns
returns c =
    let site = c.args.site.now in
    let panel = c.args.panel in
    let inv = c.loop-place.invariant in
    let none = none_set (λ k. is_watched site panel (k + 1) && false) (λ k. and_false (is_watched site panel (k + 1))) in
    record {
      kept = refl;
      outputs =
          all_listed (λ output. output.place) (watched_at site panel []) c.loop-place.place c.loop-place.outputs.items (omega arith) inv.outputs;
      watched = c.mask_from_32.ensures ∙ ap (λ n. mask_of n (λ k. get_or c.loop-place.watched k false)) inv.size
          ∙ mask_same 32 (λ k. get_or c.loop-place.watched k false) (λ k. is_watched site panel (k + 1))
          (λ k small. inv.flags k (omega (arith, small)));
      on = none;
      confirmed = none;
      late = none;
    }
