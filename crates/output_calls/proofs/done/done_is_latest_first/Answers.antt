use Rattle.output_calls.proofs.LatestFirst.{latest_first as law}
use Rattle.output_calls.proofs.done.done_is_latest_first.Goals as goal

pub returns : goal.returns
returns c = law
