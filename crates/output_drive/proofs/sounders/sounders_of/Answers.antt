use Rattle.std.proofs.Common.{◌≡◌, ◌≢◌, ◌+◌, ◌<◌, ℕ, false, get_or, set, below_more, get_or-set_same, get_or-set_other, ◌∙◌, ap, arith}
use Rattle.std.proofs.lemmas.Grind.{common_steps}
use Rattle.site_types.specs.Bits.{mask_of}
use Rattle.site_types.proofs.Masks.{mask_same}
use Rattle.output_drive.specs.Sounders.{is_numbered_sounder}
use Rattle.output_drive.proofs.Sounding.{sounders_are}
use Rattle.output_drive.proofs.sounders.sounders_of.Goals as goal

pub loop-place-preserved : goal.loop-place-preserved
loop-place-preserved c =
    let place = c.loop-place.place in
    let flags = c.loop-place.sounders in
    let sounds = c.is_numbered_sounder.result in
    let inv = c.loop-place.invariant in
    let small : place < 32 = c.loop-place-test.true in
    let is : ℕ → Type 0 = λ k. get_or (set flags place sounds) k false ≡ is_numbered_sounder c.args.site.now c.args.panel (k + 1) in
    record {
      size = grind (arith, common_steps);
      flags = below_more is place
          (λ k below. let apart : k ≢ place = omega (arith, below) in get_or-set_other flags place k sounds false apart ∙ inv.flags k below)
          (get_or-set_same flags place sounds false (omega arith) ∙ c.is_numbered_sounder.ensures);
    }

pub returns : goal.returns
returns c =
    let inv = c.loop-place.invariant in
    c.mask_from_32.ensures ∙ ap (λ n. mask_of n (λ k. get_or c.loop-place.sounders k false)) inv.size
    ∙ mask_same 32 (λ k. get_or c.loop-place.sounders k false) (λ k. is_numbered_sounder c.args.site.now c.args.panel (k + 1))
    (λ k small. inv.flags k (omega (arith, small)))
    ∙ sounders_are c.args.site.now c.requires c.args.panel
