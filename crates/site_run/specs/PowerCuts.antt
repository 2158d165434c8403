-- What a power cut may leave of the journal of a run.
use Rattle.std.specs.Prelude.{◌≡◌, ◌⊎◌, ◌^◌, ◌≤◌, ℕ, List, [], ◌∷◌, Option, Some, None}
use Rattle.panel_edges.specs.Crashes.{LeavesOnly}
use Rattle.site_types.specs.declared.retained.Retained.{Retained}
use Rattle.site_types.specs.declared.site.Site.{Site}
use Rattle.retained_journal.specs.declared.journal.Journal.{Journal}
use Rattle.retained_journal.specs.Images.{IsEarly}
use Rattle.retained_journal.specs.Opening.{chosen_place}
use Rattle.retained_journal.specs.Slots.{slot_number}
use Rattle.panel_core.specs.PowerCuts.{HoldsAcknowledged, OpensTo}
use Rattle.panel_rules.specs.Moments.{TickBlock, moments}
use Rattle.site_run.specs.Outside.{DiskKind, disk_kind}

-- the disk of a journal: the bytes of its file before a call and after it, where it tells them, and what it is then
pub record JournalDisk : Type 1 where
  pub seen : Option (List ℕ)
  pub told : Option (List ℕ)
  pub kind : DiskKind
  pub now : kind.Of

-- the disk of a journal after a call, by what it told before the call
module _ {D : Type 0} where
  abbrev pub disk_after : (D → Option (List ℕ)) → (D → Type 0) → (D → List ℕ → Type 0) → (D → ℕ)
      → (D → ℕ → List ℕ → Type 0) → D → Option (List ℕ) → JournalDisk
  disk_after seen honest images moment left_since new before =
      record { seen = before; told = seen new; kind = disk_kind honest images moment left_since; now = new }

  abbrev pub disk_of : (D → Option (List ℕ)) → (D → Type 0) → (D → List ℕ → Type 0) → (D → ℕ)
      → (D → ℕ → List ℕ → Type 0) → D → D → JournalDisk
  disk_of seen honest images moment left_since old new =
      disk_after seen honest images moment left_since new (seen old)

-- the number that counts in a file is so small that no run uses up those behind it
abbrev pub HasNumbers : Option (List ℕ) → Type 0
HasNumbers None = ⊥
HasNumbers (Some file) = slot_number (chosen_place file) file ≤ 2 ^ 62

-- a file opens to a state that holds all that was acknowledged in these ticks
pub record OpensToAcknowledged (site : Site) (kept : Retained) (digest : List ℕ) (ticks : List TickBlock) (file :
    List ℕ) : Type 0 where
  pub state : Retained
  pub opens : OpensTo site digest state file
  pub holds : HoldsAcknowledged site kept (moments ticks) state

-- What power cuts leave of a disk, tick by tick. Each tick has the disk as it was when its text was written, which
-- comes after its turns and before those of the next one.
module _ (kind : DiskKind) (site : Site) (kept : Retained) (digest : List ℕ) where
  -- at each moment of the turns of a tick a power cut leaves a file that opens to all that was acknowledged in the
  -- ticks before it, or in it too; when its text is written, one that opens to all that was acknowledged in it too
  pub record LeavesTick (before : List TickBlock) (tick : TickBlock) (old new : kind.Of) : Type 0 where
    pub during : LeavesOnly kind.moment kind.left_since old new (λ file.
        OpensToAcknowledged site kept digest before file ⊎ OpensToAcknowledged site kept digest (tick ∷ before) file)
    pub after : (file : List ℕ) → kind.images new file → OpensToAcknowledged site kept digest (tick ∷ before) file

  -- in each tick behind some first ones, at each moment of its turns a power cut leaves a file that opens to all that
  -- was acknowledged before that tick, or in it too; when its text is written, to all that was acknowledged in it too
  pub data LeavesTicks (before : List TickBlock) (old : kind.Of) : List TickBlock → kind.Of → Type 0 where
    no_tick : LeavesTicks before old before old
    and_tick : (tick : TickBlock) (after : List TickBlock) (mid new : kind.Of) → LeavesTicks before old after mid
        → LeavesTick after tick mid new → LeavesTicks before old (tick ∷ after) new

-- from the opening of its journal on, whenever in these ticks the power is cut, a disk leaves only files that open to
-- all that was acknowledged by then
pub record LeavesAtEachMoment (kind : DiskKind) (site : Site) (kept : Retained) (digest : List ℕ) (now : kind.Of)
    (ticks : List TickBlock) : Type 0 where
  pub opened : kind.Of
  pub at_opening : (file : List ℕ) → kind.images opened file → OpensToAcknowledged site kept digest [] file
  pub since : LeavesTicks kind site kept digest [] opened ticks now

-- from the opening of its journal on, whenever in these ticks the power is cut, an honest disk, whose journal had
-- numbers enough, leaves only files that open to all that was acknowledged by then
abbrev pub LeavesAcknowledged : Site → Retained → List ℕ → JournalDisk → List TickBlock → Type 0
LeavesAcknowledged site kept digest disk ticks = HasNumbers disk.seen → disk.kind.honest disk.now
    → LeavesAtEachMoment disk.kind site kept digest disk.now ticks

-- a journal was opened from what a disk told, for a site with this digest
pub record IsJournalOf (digest : List ℕ) (seen : Option (List ℕ)) (journal : Journal) : Type 0 where
  pub same : journal.digest ≡ digest
  pub early : HasNumbers seen → IsEarly journal
