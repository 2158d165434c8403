-- A record that is whole, and why another is refused.
use Rattle.std.specs.Prelude.{◌≡◌, ℕ, List, map, Option, Some, None}
use Rattle.site_types.specs.declared.site.Site.{Site}
use Rattle.record_lines.specs.Judged.{line_view}
use Rattle.record_lines.specs.Lines.{reading_of}
use Rattle.record_lines.specs.declared.line.Line.{Line}
use Rattle.record_lines.specs.declared.over.Over.{Over}
use Rattle.record_lines.specs.declared.over.Over.TheVariants.{Ended, Refused}
use Rattle.record_lines.specs.declared.refusal.Refusal.{Refusal}
use Rattle.record_lines.specs.declared.why.Why.TheVariants.{Truncated}
use Rattle.whole_records.specs.declared.record_refusal.RecordRefusal.{RecordRefusal}
use Rattle.whole_records.specs.declared.record_refusal.RecordRefusal.TheVariants.{Line as LineRefusal, NoMemory}

-- the bytes hold these lines, the last of which is `end`
pub record IsWholeRecord (site : Site) (bytes : List ℕ) (lines : List Line) : Type 0 where
  pub ended : (reading_of site bytes).ending ≡ Some Ended
  pub are : map line_view lines ≡ (reading_of site bytes).lines

-- how a reading ended: with a refused line, or before the line `end` came
abbrev pub EndsRefused : ℕ → Option Over → Refusal → Type 0
EndsRefused number None refusal = refusal ≡ record { line = number; why = Truncated }
EndsRefused number (Some Ended) refusal = ⊥
EndsRefused number (Some (Refused other)) refusal = refusal ≡ other

-- why a record isn't read: by its first refused line, or since it ends too early, or for want of memory
abbrev pub IsWhyRefused : Site → List ℕ → RecordRefusal → Type 0
IsWhyRefused site bytes (LineRefusal refusal) =
    EndsRefused (reading_of site bytes).number (reading_of site bytes).ending refusal
IsWhyRefused site bytes NoMemory = Unit {0}
