use Rattle.output_calls.proofs.OutputMasks.{overrides_over as law}
use Rattle.output_calls.proofs.masks.overrides_are_over.Goals as goal

pub returns : goal.returns
returns c = law
