-- What a panel at work by itself leaves of its journal's disk, step by step.
use Rattle.std.proofs.Common.{◌≡◌, ◌+◌, ◌-◌, ◌^◌, ◌<◌, ◌≤◌, min, ℕ, List, ◌∙◌, ap, arith, refl, subst, sym}
use Rattle.keep_turn.specs.Turns.{FailsByItsDisk, TriesAtMostOnce}
use Rattle.keep_turn.specs.declared.store.Store.{Store}
use Rattle.keep_turn.specs.declared.store.Store.TheVariants.{Idle, Kept, Failed}
use Rattle.retained_journal.specs.declared.journal.Journal.{Journal}
use Rattle.retained_journal.specs.Images.{IsEarly, Stands as StandsOn}
use Rattle.panel_core.specs.Keeping.{has_failed}
use Rattle.site_run.specs.Acting.{failures_with}
use Rattle.node_desk.specs.Running.{KeepsOn}
use Rattle.node_desk.specs.declared.node_run.NodeRun.{NodeRun}

module _ {D : Type 0} (honest : D → Type 0) (images : D → List ℕ → Type 0) (faults : D → ℕ) where
  -- a step that leaves the journal alone
  pub keeps_same : (disk : D) (before after : NodeRun) → after.journal ≡ before.journal → after.store_failures ≡ before.store_failures
      → StandsOn honest images disk before.journal → KeepsOn honest images faults disk disk before after
  keeps_same disk before after same failures stands =
      record {
        stands = subst (StandsOn honest images disk) (sym same) stands;
        digest = ap (λ (j : Journal). j.digest) same;
        early = subst IsEarly (sym same);
        later = omega arith;
        blames = λ few. omega (arith, failures);
      }

  -- one step after another
  pub keeps_more : (a b c : D) (x y z : NodeRun) → KeepsOn honest images faults a b x y → KeepsOn honest images faults b c y z
      → KeepsOn honest images faults a c x z
  keeps_more a b c x y z g h =
      let one = g.later in
      let other = h.later in
      record {
        stands = h.stands;
        digest = h.digest ∙ g.digest;
        early = λ before. h.early (g.early before);
        later = omega (arith, one, other);
        blames = λ few. let first = g.blames (omega (arith, few, other)) in let second = h.blames few in omega (arith, first, second);
      }

  -- the turns of a tick
  pub keeps_turns : (a b : D) (x y : NodeRun) (store : Store) → StandsOn honest images b y.journal → TriesAtMostOnce x.journal y.journal
      → (IsEarly x.journal → IsEarly y.journal) → FailsByItsDisk (faults a) (faults b) store
      → y.store_failures ≡ failures_with (has_failed store) x.store_failures → KeepsOn honest images faults a b x y
  keeps_turns a b x y store stands tries early cause failed =
      let later = cause.later in
      record { stands = stands; digest = tries.digest; early = early; later = later; blames = λ few. counts store failed cause.failed few }
    where
      counts : (store : Store) → y.store_failures ≡ failures_with (has_failed store) x.store_failures
          → (store ≡ Failed → min (faults a + 1) (2 ^ 64 - 1) ≤ faults b) → faults b < 2 ^ 64 - 1
          → y.store_failures + faults a ≤ x.store_failures + faults b
      counts Idle e rises few = let later = cause.later in omega (arith, e, later)
      counts Kept e rises few = let later = cause.later in omega (arith, e, later)
      counts Failed e rises few = let rose = rises refl in omega (arith, e, rose, few)
