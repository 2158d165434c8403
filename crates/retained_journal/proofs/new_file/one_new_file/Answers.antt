use Rattle.retained_journal.proofs.SameFiles.{one_new_file}
use Rattle.retained_journal.proofs.new_file.one_new_file.Goals as goal

pub returns : goal.returns
returns c = one_new_file
