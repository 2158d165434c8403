-- What is told of an import, and the status with which it ends.
use Rattle.std.specs.Prelude.{ℕ, List, [], Result, Ok, Err, codes}
use Rattle.program_status.specs.declared.status.Status.{Status}
use Rattle.program_status.specs.declared.status.Status.TheVariants as exit
use Rattle.register_import.specs.declared.imported.Imported.{Imported}
use Rattle.register_import.specs.declared.refusal.ImportRefusal.{ImportRefusal}
use Rattle.register_import.specs.declared.refusal.ImportRefusal.TheVariants as why
use Rattle.named_files.specs.Missing.{file_status, file_text}
use Rattle.import_command.specs.Lines.{imported_line, row_line}
use Rattle.import_command.specs.declared.import_stop.ImportStop.{ImportStop}
use Rattle.import_command.specs.declared.import_stop.ImportStop.TheVariants.{Missing, Refused}

abbrev pub rows_status : ImportRefusal → Status
rows_status (why.Row row number) = exit.BadRow
rows_status why.KeeperFault = exit.KeeperFault
rows_status why.NoMemory = exit.NoMemory

-- nothing is said of want of memory
abbrev pub rows_line : ImportRefusal → List ℕ
rows_line (why.Row row number) = row_line row number
rows_line why.KeeperFault = codes "fault keeper\n"
rows_line why.NoMemory = []

abbrev pub import_status : Result Imported ImportStop → Status
import_status (Ok imported) = exit.Done
import_status (Err (Missing stop)) = file_status stop
import_status (Err (Refused refusal)) = rows_status refusal

-- what is told of the file of a name
abbrev pub import_text : List ℕ → Result Imported ImportStop → List ℕ
import_text name (Ok imported) = imported_line imported
import_text name (Err (Missing stop)) = file_text name stop
import_text name (Err (Refused refusal)) = rows_line refusal
