use Rattle.std.proofs.Common.{◌∙◌, ℕ, ap, arith, length, length-set}
use Rattle.site_types.proofs.ValidSites.{few_outputs}
use Rattle.plain_history.specs.Histories.{all_done}
use Rattle.plain_outputs.specs.Outputs.{is_in_state}
use Rattle.plain_outputs.proofs.FlagsTold.{told_next}
use Rattle.plain_outputs.proofs.output_masks.outputs_in.Goals as goal

pub overflow_cast-place : goal.overflow_cast-place
overflow_cast-place c =
    let few = few_outputs c.args.settings.now.site.now c.requires in
    let all = ap length c.as_slice-place-end.ensures in
    omega (arith, few, all)

pub bounds-flags-place : goal.bounds-flags-place
bounds-flags-place c =
    let few = few_outputs c.args.settings.now.site.now c.requires in
    let all = ap length c.as_slice-place-end.ensures in
    omega (arith, few, all)

pub loop-place-preserved : goal.loop-place-preserved
loop-place-preserved c =
    let few = few_outputs c.args.settings.now.site.now c.requires in
    let all = ap length c.as_slice-place-end.ensures in
    record {
      wide = length-set c.loop-place.flags c.loop-place.place _ ∙ c.loop-place.invariant.wide;
      told = λ facts history stands.
          told_next c.loop-place.flags
          (λ (k : ℕ). is_in_state c.args.state c.args.settings.now.site.now facts c.args.settings.now.kept.now (all_done c.args.settings.now.done.now)
          k history)
          c.loop-place.place _
          (omega (arith, few, all, c.loop-place.invariant.wide))
          (c.is_in.ensures facts history stands) (c.loop-place.invariant.told facts history stands);
    }

pub returns : goal.returns
returns c facts history stands =
    let all = ap length c.as_slice-place-end.ensures in
    c.outputs_that.ensures (λ (k : ℕ). is_in_state c.args.state c.args.settings.now.site.now facts c.args.settings.now.kept.now (all_done c.args.settings.now.done.now) k history)
    (λ k small. c.loop-place.invariant.told facts history stands k (omega (arith, small, all)))
