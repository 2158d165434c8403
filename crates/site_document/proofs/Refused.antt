-- What is found in the document of the bytes refuses them.
use Rattle.std.proofs.Common.{◌≤◌, ℕ, List, Option, length}
use Rattle.toml.specs.Data.{Members}
use Rattle.site_types.specs.Limits.{site_bytes}
use Rattle.site_document.specs.declared.refusal.SiteRefusal.{SiteRefusal}
use Rattle.site_document.specs.declared.refusal.SiteRefusal.TheVariants as code
use Rattle.site_document.specs.Documents.{IsDocument, IsRefusedBy}
use Rattle.site_document.specs.Refusals.{Refusal, IsSaid}

pub refused_by : (find : Members → Option Refusal) (bytes : List ℕ) (doc : Members) (e : SiteRefusal) → length bytes ≤ site_bytes
    → IsDocument bytes doc
    → IsSaid e (find doc) → IsRefusedBy find bytes e
refused_by find bytes doc code.NotToml short spelled said = absurd (cc (said.0))
refused_by find bytes doc (code.Missing key) short spelled said = record { short = short; document = doc; spelled = spelled; found = said.1 }
refused_by find bytes doc (code.WrongKind key) short spelled said = record { short = short; document = doc; spelled = spelled; found = said.1 }
refused_by find bytes doc (code.Unknown key) short spelled said = record { short = short; document = doc; spelled = spelled; found = said.1 }
refused_by find bytes doc (code.OutOfRange key number) short spelled said =
    record { short = short; document = doc; spelled = spelled; found = said.1 }
refused_by find bytes doc (code.Twice name) short spelled said = record { short = short; document = doc; spelled = spelled; found = said.1 }
refused_by find bytes doc (code.NoSuch name) short spelled said = record { short = short; document = doc; spelled = spelled; found = said.1 }
refused_by find bytes doc (code.SectionCrossesZones panel line place) short spelled said =
    record { short = short; document = doc; spelled = spelled; found = said.1 }
refused_by find bytes doc (code.PartnerNotMutual label) short spelled said =
    record { short = short; document = doc; spelled = spelled; found = said.1 }
refused_by find bytes doc code.TooLong short spelled said = absurd (cc (said.0))
refused_by find bytes doc code.NoMemory short spelled said = tt
