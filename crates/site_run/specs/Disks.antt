-- What a run leaves of its journal's disk.
use Rattle.std.specs.Prelude.{◌≡◌, ◌+◌, ◌-◌, ◌^◌, ◌<◌, ◌≤◌, ℕ, List}
use Rattle.keep_turn.specs.Turns.{FailsByItsDisk}
use Rattle.keep_turn.specs.declared.store.Store.{Store}
use Rattle.retained_journal.specs.declared.journal.Journal.{Journal}
use Rattle.retained_journal.specs.Images.{IsEarly, Stands as StandsOn}
use Rattle.site_run.specs.declared.run.Run.{Run}

module _ {D : Type 0} (honest : D → Type 0) (images : D → List ℕ → Type 0) (faults : D → ℕ) (old new : D) where
  -- after the turns of a tick, of which Keep's answered so, the journal stands on the disk, as that of the same site
  pub record TurnsOn (before journal : Journal) (store : Store) : Type 0 where
    pub stands : StandsOn honest images new journal
    pub digest : journal.digest ≡ before.digest
    pub early : IsEarly before → IsEarly journal
    pub cause : FailsByItsDisk (faults old) (faults new) store

  -- over some steps: the journal stands on the disk, as that of the same site, and the failed ticks rise at most with
  -- the disk's count of faults, unless that stands at its last value
  pub record KeepsJournal (before after : Journal) (failed failed' : ℕ) : Type 0 where
    pub stands : StandsOn honest images new after
    pub digest : after.digest ≡ before.digest
    pub early : IsEarly before → IsEarly after
    pub later : faults old ≤ faults new
    pub blames : faults new < 2 ^ 64 - 1 → failed' + faults old ≤ failed + faults new

  -- over some steps of a run
  abbrev pub KeepsOn : Run → Run → Type 0
  KeepsOn before after = KeepsJournal before.journal after.journal before.store_failures after.store_failures
