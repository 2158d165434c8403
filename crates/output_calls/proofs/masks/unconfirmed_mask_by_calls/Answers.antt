use Rattle.output_calls.proofs.OutputMasks.{unconfirmed_mask as law}
use Rattle.output_calls.proofs.masks.unconfirmed_mask_by_calls.Goals as goal

pub returns : goal.returns
returns c = law
