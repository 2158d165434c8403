use Rattle.run_text.proofs.WholeTexts.{of_run as law}
use Rattle.run_text.proofs.texts.timeline_is_of_run.Goals as goal

pub returns : goal.returns
returns c = law
