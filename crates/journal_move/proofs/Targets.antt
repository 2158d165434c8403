-- What was made in a file, and what it was before.
use Rattle.std.proofs.Common.{◌≡◌, ℕ, Bool, List, Option, Some, None, length, subst}
use Rattle.std.specs.Prelude.{IfSome}
use Rattle.panel_edges.specs.Disks.{Becomes}
use Rattle.retained_journal.specs.NewFiles.{BecomesNew}
use Rattle.retained_journal.specs.Opening.{Opens, opened}
use Rattle.retained_journal.specs.Outcomes.{EachOpens}
use Rattle.retained_journal.specs.declared.journal.Journal.{Journal}
use Rattle.site_types.specs.declared.retained.Retained.{Retained}

-- it was empty
pub was_empty : (digest : List ℕ) (state : Retained) (old new : Option (List ℕ)) → Becomes (BecomesNew digest state) old new
    → IfSome old (λ bytes. length bytes ≡ 0)
was_empty digest state None new made = tt
was_empty digest state (Some bytes) None made = absurd made
was_empty digest state (Some bytes) (Some file) made = made.empty

-- what each file opens to by a journal, it opens to for its digest and format
pub opens_so : (wide : Bool) (digest : List ℕ) (journal : Journal) (images : List ℕ → Type 0) → journal.wide ≡ wide → journal.digest ≡ digest
    → EachOpens images journal → (bytes : List ℕ) → images bytes → opened wide digest bytes ≡ Opens journal.kept
opens_so wide digest journal images same_wide same_digest each bytes is =
    subst (λ (d : List ℕ). opened wide d bytes ≡ Opens journal.kept) same_digest
    (subst (λ (w : Bool). opened w journal.digest bytes ≡ Opens journal.kept) same_wide (each bytes is).0)
