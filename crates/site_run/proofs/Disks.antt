-- What a run leaves of its journal's disk, step by step.
use Rattle.std.proofs.Common.{◌≡◌, ◌+◌, ◌-◌, ◌^◌, ◌<◌, ◌≤◌, ℕ, List, ◌∙◌, ap, arith, refl, subst, sym}
use Rattle.keep_turn.specs.Turns.{FailsByItsDisk}
use Rattle.keep_turn.specs.declared.store.Store.{Store}
use Rattle.keep_turn.specs.declared.store.Store.TheVariants.{Idle, Kept, Failed}
use Rattle.retained_journal.specs.declared.journal.Journal.{Journal}
use Rattle.retained_journal.specs.Images.{IsEarly, Stands as StandsOn}
use Rattle.panel_core.specs.Keeping.{has_failed}
use Rattle.site_run.specs.declared.run.Run.{Run}
use Rattle.site_run.specs.Disks.{KeepsJournal, KeepsOn, TurnsOn}
use Rattle.site_run.specs.Acting.{failures_with}

module _ {D : Type 0} (honest : D → Type 0) (images : D → List ℕ → Type 0) (faults : D → ℕ) where
  -- a step that leaves the journal alone
  pub journal_same : (disk : D) (before after : Journal) (failed failed' : ℕ) → after ≡ before → failed' ≡ failed → StandsOn honest images disk before
      → KeepsJournal honest images faults disk disk before after failed failed'
  journal_same disk before after failed failed' same failures stands =
      record {
        stands = subst (StandsOn honest images disk) (sym same) stands;
        digest = ap (λ (j : Journal). j.digest) same;
        early = subst IsEarly (sym same);
        later = omega arith;
        blames = λ few. omega (arith, failures);
      }

  pub keeps_same : (disk : D) (before after : Run) → after.journal ≡ before.journal → after.store_failures ≡ before.store_failures
      → StandsOn honest images disk before.journal → KeepsOn honest images faults disk disk before after
  keeps_same disk before after = journal_same disk before.journal after.journal before.store_failures after.store_failures

  -- one step after another
  pub journal_more : (a b c : D) (x y z : Journal) (failed_x failed_y failed_z : ℕ) → KeepsJournal honest images faults a b x y failed_x failed_y
      → KeepsJournal honest images faults b c y z failed_y failed_z → KeepsJournal honest images faults a c x z failed_x failed_z
  journal_more a b c x y z failed_x failed_y failed_z g h =
      let one = g.later in
      let other = h.later in
      record {
        stands = h.stands;
        digest = h.digest ∙ g.digest;
        early = λ before. h.early (g.early before);
        later = omega (arith, one, other);
        blames = λ few. let first = g.blames (omega (arith, few, other)) in let second = h.blames few in omega (arith, first, second);
      }

  pub keeps_more : (a b c : D) (x y z : Run) → KeepsOn honest images faults a b x y → KeepsOn honest images faults b c y z
      → KeepsOn honest images faults a c x z
  keeps_more a b c x y z = journal_more a b c x.journal y.journal z.journal x.store_failures y.store_failures z.store_failures

  -- Keep's turn failed at most once
  pub blames_turns : (a b : D) (old new : ℕ) (store : Store) → FailsByItsDisk (faults a) (faults b) store → new ≡ failures_with (has_failed store) old
      → faults b < 2 ^ 64 - 1 → new + faults a ≤ old + faults b
  blames_turns a b old new Idle cause e few = let later = cause.later in omega (arith, e, later)
  blames_turns a b old new Kept cause e few = let later = cause.later in omega (arith, e, later)
  blames_turns a b old new Failed cause e few = let rose = cause.failed refl in omega (arith, e, rose, few)

  -- the turns of a tick
  pub keeps_turns : (a b : D) (x y : Run) (store : Store) (journal : Journal) → TurnsOn honest images faults a b x.journal journal store → y.journal ≡ journal
      → y.store_failures ≡ failures_with (has_failed store) x.store_failures → KeepsOn honest images faults a b x y
  keeps_turns a b x y store journal t same failed =
      let later = t.cause.later in
      record {
        stands = subst (StandsOn honest images b) (sym same) t.stands;
        digest = ap (λ (j : Journal). j.digest) same ∙ t.digest;
        early = λ before. subst IsEarly (sym same) (t.early before);
        later = later;
        blames = blames_turns a b x.store_failures y.store_failures store t.cause failed;
      }
