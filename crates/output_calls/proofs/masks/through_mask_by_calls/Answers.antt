use Rattle.output_calls.proofs.OutputMasks.{through_mask as law}
use Rattle.output_calls.proofs.masks.through_mask_by_calls.Goals as goal

pub returns : goal.returns
returns c = law
