-- The document that the bytes of a site file spell, and the first fault of the bytes.
use Rattle.std.specs.Prelude.{◌≡◌, ◌≤◌, ◌<◌, ℕ, List, Option, Some, None, length, IsUtf8}
use Rattle.toml.specs.Data.{Members}
use Rattle.toml.specs.Parse.{parse_document}
use Rattle.site_types.specs.Limits.{site_bytes}
use Rattle.site_document.specs.Refusals.{Refusal, missing, wrong_kind, unknown, out_of_range, twice, no_such}
use Rattle.site_document.specs.Refusals.{section_crosses_zones, partner_not_mutual}
use Rattle.site_document.specs.declared.refusal.SiteRefusal.{SiteRefusal}
use Rattle.site_document.specs.declared.refusal.SiteRefusal.TheVariants as code

-- the bytes are UTF-8 and spell this document
abbrev pub IsDocument : List ℕ → Members → Type 0
IsDocument bytes doc = IsUtf8 bytes × (parse_document bytes ≡ Some doc)

-- the bytes aren't too many, and spell a document in which this is found
pub record IsFoundBy (find : Members → Option Refusal) (bytes : List ℕ) (refusal : Refusal) : Type 0 where
  pub short : length bytes ≤ site_bytes
  pub document : Members
  pub spelled : IsDocument bytes document
  pub found : find document ≡ Some refusal

-- the refusal is the one that the bytes call for, where this finds what is wrong in a document; want of
-- memory may come at any place
abbrev pub IsRefusedBy : (Members → Option Refusal) → List ℕ → SiteRefusal → Type 0
IsRefusedBy find bytes code.TooLong = site_bytes < length bytes
IsRefusedBy find bytes code.NotToml =
    (length bytes ≤ site_bytes) × ((doc : Members) → IsDocument bytes doc → ⊥)
IsRefusedBy find bytes (code.Missing key) = IsFoundBy find bytes (missing key)
IsRefusedBy find bytes (code.WrongKind key) = IsFoundBy find bytes (wrong_kind key)
IsRefusedBy find bytes (code.Unknown key) = IsFoundBy find bytes (unknown key)
IsRefusedBy find bytes (code.OutOfRange key number) = IsFoundBy find bytes (out_of_range key number)
IsRefusedBy find bytes (code.Twice name) = IsFoundBy find bytes (twice name)
IsRefusedBy find bytes (code.NoSuch name) = IsFoundBy find bytes (no_such name)
IsRefusedBy find bytes (code.SectionCrossesZones panel line place) =
    IsFoundBy find bytes (section_crosses_zones panel line place)
IsRefusedBy find bytes (code.PartnerNotMutual label) = IsFoundBy find bytes (partner_not_mutual label.bytes)
IsRefusedBy find bytes code.NoMemory = Unit {0}

-- the bytes aren't too many, and spell a document in which nothing is found
pub record IsAccepted (find : Members → Option Refusal) (bytes : List ℕ) (document : Members) : Type 0 where
  pub short : length bytes ≤ site_bytes
  pub spelled : IsDocument bytes document
  pub clean : find document ≡ None
