-- What is told of a journal that can't be used, and the status then.
use Rattle.std.specs.Prelude.{ℕ, List, ◌++◌, codes, decimal}
use Rattle.hex.specs.Hex.{encode_lower}
use Rattle.retained_journal.specs.declared.create_refusal.CreateRefusal.{CreateRefusal}
use Rattle.retained_journal.specs.declared.create_refusal.CreateRefusal.TheVariants.{DiskFault as CreateFault, NotEmpty}
use Rattle.retained_journal.specs.declared.open_refusal.OpenRefusal.{OpenRefusal}
use Rattle.retained_journal.specs.declared.open_refusal.OpenRefusal.TheVariants.{Damaged, DiskFault, NotAJournal}
use Rattle.retained_journal.specs.declared.open_refusal.OpenRefusal.TheVariants.{OtherSite}
use Rattle.program_status.specs.declared.status.Status.{Status}
use Rattle.program_status.specs.declared.status.Status.TheVariants as exit

-- ---- a file that isn't opened

-- the beginning of a file that is no journal, in hexadecimal
abbrev pub other_file_text : List ℕ → List ℕ
other_file_text mark = codes "refused journal 1 " ++ encode_lower mark ++ codes "\n"

-- the digests of the site that is kept and of the site that is given
abbrev pub other_site_text : List ℕ → List ℕ → List ℕ
other_site_text kept given =
    codes "refused journal 2 " ++ encode_lower kept ++ codes " " ++ encode_lower given ++ codes "\n"

-- the offset of the first byte that is out of its form, and the byte
abbrev pub damage_text : ℕ → ℕ → List ℕ
damage_text offset byte = codes "refused journal 3 " ++ decimal offset ++ codes " " ++ decimal byte ++ codes "\n"

abbrev pub journal_text : OpenRefusal → List ℕ
journal_text (NotAJournal mark) = other_file_text mark
journal_text (OtherSite kept given) = other_site_text kept given
journal_text (Damaged offset byte) = damage_text offset byte
journal_text DiskFault = codes "fault disk\n"

abbrev pub journal_status : OpenRefusal → Status
journal_status (NotAJournal mark) = exit.BadJournal
journal_status (OtherSite kept given) = exit.BadJournal
journal_status (Damaged offset byte) = exit.BadJournal
journal_status DiskFault = exit.DiskFault

-- ---- a file in which no journal is made

-- the length of a file that isn't empty
abbrev pub target_text : CreateRefusal → List ℕ
target_text (NotEmpty length) = codes "refused target " ++ decimal length ++ codes "\n"
target_text CreateFault = codes "fault disk\n"

abbrev pub target_status : CreateRefusal → Status
target_status (NotEmpty length) = exit.BadJournal
target_status CreateFault = exit.DiskFault
