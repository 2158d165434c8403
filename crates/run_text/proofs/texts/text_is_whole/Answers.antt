use Rattle.run_text.proofs.WholeTexts.{is_whole as law}
use Rattle.run_text.proofs.texts.text_is_whole.Goals as goal

pub returns : goal.returns
returns c = law
