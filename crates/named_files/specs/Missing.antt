-- What is told of a file that isn't at hand, and the status with which a command ends then.
use Rattle.std.specs.Prelude.{ℕ, List, [], codes}
use Rattle.program_status.specs.declared.status.Status.{Status}
use Rattle.program_status.specs.declared.status.Status.TheVariants as exit
use Rattle.site_commands.specs.Refusals.{named_text}
use Rattle.named_files.specs.declared.file_stop.FileStop.{FileStop}
use Rattle.named_files.specs.declared.file_stop.FileStop.TheVariants.{NoFile, ReadFault, NoMemory}

-- the word of a file that is absent or too long
abbrev pub file_line : List ℕ → List ℕ
file_line name = named_text (codes "refused file ") name (codes "\n")

abbrev pub file_status : FileStop → Status
file_status NoFile = exit.BadFile
file_status ReadFault = exit.ReadFault
file_status NoMemory = exit.NoMemory

-- what is told of the file of a name; nothing is said of want of memory
abbrev pub file_text : List ℕ → FileStop → List ℕ
file_text name NoFile = file_line name
file_text name ReadFault = codes "fault read\n"
file_text name NoMemory = []
