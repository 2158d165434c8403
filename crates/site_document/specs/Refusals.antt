-- What a refusal says, and when an answer agrees with the first finding in a site file.
use Rattle.std.specs.Prelude.{◌≡◌, ℕ, ℤ, List, [], ◌∷◌, Bool, true, false, Option, Some, None, IfSome, Result, Ok, Err}
use Rattle.site_document.specs.declared.refusal.SiteRefusal.{SiteRefusal}
use Rattle.site_document.specs.declared.refusal.SiteRefusal.TheVariants as code

-- what is found in a site file; names and keys are their bytes
pub data Refusal : Type 0 where
  missing : (key : List ℕ) → Refusal
  wrong_kind : (key : List ℕ) → Refusal
  unknown : (key : List ℕ) → Refusal
  out_of_range : (key : List ℕ) → (number : ℤ) → Refusal
  twice : (name : List ℕ) → Refusal
  no_such : (name : List ℕ) → Refusal
  section_crosses_zones : (panel : ℕ) → (line : ℕ) → (place : ℕ) → Refusal
  partner_not_mutual : (name : List ℕ) → Refusal

-- what a refusal finds in the document
abbrev pub refusal_of : SiteRefusal → Option Refusal
refusal_of code.NotToml = None
refusal_of (code.Missing key) = Some (missing key)
refusal_of (code.WrongKind key) = Some (wrong_kind key)
refusal_of (code.Unknown key) = Some (unknown key)
refusal_of (code.OutOfRange key number) = Some (out_of_range key number)
refusal_of (code.Twice name) = Some (twice name)
refusal_of (code.NoSuch name) = Some (no_such name)
refusal_of (code.SectionCrossesZones panel line place) = Some (section_crosses_zones panel line place)
refusal_of (code.PartnerNotMutual label) = Some (partner_not_mutual label.bytes)
refusal_of code.TooLong = None
refusal_of code.NoMemory = None

-- a refusal of the bytes, before there is a document
abbrev pub is_of_bytes : SiteRefusal → Bool
is_of_bytes code.NotToml = true
is_of_bytes (code.Missing key) = false
is_of_bytes (code.WrongKind key) = false
is_of_bytes (code.Unknown key) = false
is_of_bytes (code.OutOfRange key number) = false
is_of_bytes (code.Twice name) = false
is_of_bytes (code.NoSuch name) = false
is_of_bytes (code.SectionCrossesZones panel line place) = false
is_of_bytes (code.PartnerNotMutual label) = false
is_of_bytes code.TooLong = true
is_of_bytes code.NoMemory = false

-- the refusal is what is found, or want of memory
abbrev pub IsSaid : SiteRefusal → Option Refusal → Type 0
IsSaid refusal found = (is_of_bytes refusal ≡ false) × IfSome (refusal_of refusal) (λ r. found ≡ Some r)

-- an answer agrees with what is found: a refusal is the finding or want of memory, and all else comes where
-- nothing is found
abbrev pub Tells : {A : Type 0} → Result A SiteRefusal → Option Refusal → Type 0
Tells (Ok _) found = found ≡ None
Tells (Err refusal) found = IsSaid refusal found

-- the first of two findings
abbrev pub or_later : Option Refusal → Option Refusal → Option Refusal
or_later (Some found) later = Some found
or_later None later = later

-- the first finding in a list of things to look at
abbrev pub first_found : {X : Type 0} → (X → Option Refusal) → List X → Option Refusal
first_found find [] = None
first_found find (x ∷ rest) = or_later (find x) (first_found find rest)
