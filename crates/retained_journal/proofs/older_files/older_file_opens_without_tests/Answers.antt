use Rattle.retained_journal.proofs.OlderFiles.{opens_without_tests}
use Rattle.retained_journal.proofs.older_files.older_file_opens_without_tests.Goals as goal

pub returns : goal.returns
returns c = opens_without_tests
