-- A disk that is left alone is spared.
use Rattle.std.proofs.Common.{◌≡◌, ℕ, List, Option, Some, None, refl}
use Rattle.panel_edges.specs.Crashes.{LeavesOnly}
use Rattle.panel_edges.proofs.Moments.{stays}
use Rattle.retained_journal.specs.Outcomes.{UnlessEmpty}
use Rattle.journal_move.specs.Disks.{Spares}

unless_empty : (seen : Option (List ℕ)) (P : Type 0) → P → UnlessEmpty seen P
unless_empty None P p = tt
unless_empty (Some file) P p = λ more. p

pub spares_alone : {D : Type 0} (seen : D → Option (List ℕ)) (honest : D → Type 0) (images : D → List ℕ → Type 0) (moment : D → ℕ)
    (left_since : D → ℕ → List ℕ → Type 0) (disk : D)
    → ((c : List ℕ) → honest disk → left_since disk (moment disk) c → images disk c) → Spares seen honest images moment left_since disk disk
spares_alone seen honest images moment left_since disk only = record {
  same = unless_empty (seen disk) (seen disk ≡ seen disk) refl;
  left = λ is. unless_empty (seen disk) (LeavesOnly moment left_since disk disk (images disk)) (stays moment left_since disk (images disk) (λ c. only c is));
  kept_honest = (λ h. h, λ h. h);
}
