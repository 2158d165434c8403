use Rattle.retained_journal.proofs.OlderFiles.{opens_to_its_slot}
use Rattle.retained_journal.proofs.older_files.older_file_opens_to_its_slot.Goals as goal

pub returns : goal.returns
returns c = opens_to_its_slot
