-- Why a command stops before its site is at hand, and what is told then.
use Rattle.std.specs.Prelude.{ℕ, ℤ, List, [], ◌++◌, codes, decimal}
use Rattle.std.specs.Fmt.{signed_decimal}
use Rattle.site_document.specs.declared.refusal.SiteRefusal.{SiteRefusal}
use Rattle.site_document.specs.declared.refusal.SiteRefusal.TheVariants as code
use Rattle.program_status.specs.declared.status.Status.{Status}
use Rattle.program_status.specs.declared.status.Status.TheVariants as exit
use Rattle.site_commands.specs.declared.stop.Stop.{Stop}
use Rattle.site_commands.specs.declared.stop.Stop.TheVariants.{Absent, Refused, Cycle, ReadFault, NoMemory}

-- a refusal with a key or a name
abbrev pub named_text : List ℕ → List ℕ → List ℕ → List ℕ
named_text word name detail = word ++ name ++ detail

-- a refusal with a key and a number
abbrev pub range_text : List ℕ → List ℕ → ℤ → List ℕ
range_text word key number =
    named_text (word ++ codes " 5 ") key (codes " " ++ signed_decimal number ++ codes "\n")

-- a section that crosses zones
abbrev pub crossing_text : List ℕ → ℕ → ℕ → ℕ → List ℕ
crossing_text word panel line place =
    word ++ codes " 8 " ++ decimal panel ++ codes " " ++ decimal line ++ codes " " ++ decimal place ++ codes "\n"

-- the line of a refused site: the words that it begins with, the number of the refusal and what is told besides;
-- nothing is said of want of memory
abbrev pub refusal_text : List ℕ → SiteRefusal → List ℕ
refusal_text word code.NotToml = word ++ codes " 1\n"
refusal_text word (code.Missing key) = named_text (word ++ codes " 2 ") key (codes "\n")
refusal_text word (code.WrongKind key) = named_text (word ++ codes " 3 ") key (codes "\n")
refusal_text word (code.Unknown key) = named_text (word ++ codes " 4 ") key (codes "\n")
refusal_text word (code.OutOfRange key number) = range_text word key number
refusal_text word (code.Twice name) = named_text (word ++ codes " 6 ") name (codes "\n")
refusal_text word (code.NoSuch name) = named_text (word ++ codes " 7 ") name (codes "\n")
refusal_text word (code.SectionCrossesZones panel line place) = crossing_text word panel line place
refusal_text word (code.PartnerNotMutual label) = named_text (word ++ codes " 9 ") label.bytes (codes "\n")
refusal_text word code.TooLong = word ++ codes " 10\n"
refusal_text word code.NoMemory = []

abbrev pub refusal_status : SiteRefusal → Status
refusal_status code.NotToml = exit.BadSite
refusal_status (code.Missing key) = exit.BadSite
refusal_status (code.WrongKind key) = exit.BadSite
refusal_status (code.Unknown key) = exit.BadSite
refusal_status (code.OutOfRange key number) = exit.BadSite
refusal_status (code.Twice name) = exit.BadSite
refusal_status (code.NoSuch name) = exit.BadSite
refusal_status (code.SectionCrossesZones panel line place) = exit.BadSite
refusal_status (code.PartnerNotMutual label) = exit.BadSite
refusal_status code.TooLong = exit.BadSite
refusal_status code.NoMemory = exit.NoMemory

-- what is written of a stop, and its status
abbrev pub stop_text_of : List ℕ → Stop → List ℕ
stop_text_of word Absent = word ++ codes " 0\n"
stop_text_of word (Refused refusal) = refusal_text word refusal
stop_text_of word (Cycle names) = word ++ names
stop_text_of word ReadFault = codes "fault read\n"
stop_text_of word NoMemory = []

-- of the one site of a command, and of the old one of two
abbrev pub stop_text : Stop → List ℕ
stop_text stop = stop_text_of (codes "refused site") stop

abbrev pub old_stop_text : Stop → List ℕ
old_stop_text stop = stop_text_of (codes "refused old site") stop

abbrev pub stop_status : Stop → Status
stop_status Absent = exit.BadSite
stop_status (Refused refusal) = refusal_status refusal
stop_status (Cycle line) = exit.BadSite
stop_status ReadFault = exit.ReadFault
stop_status NoMemory = exit.NoMemory
