use Rattle.output_calls.proofs.OutputMasks.{confirmed_mask as law}
use Rattle.output_calls.proofs.masks.confirmed_mask_by_calls.Goals as goal

pub returns : goal.returns
returns c = law
