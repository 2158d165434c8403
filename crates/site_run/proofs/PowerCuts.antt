-- What a power cut leaves of a run holds all that was acknowledged in it.
use Rattle.std.proofs.Common.{◌≡◌, ◌∙◌, ◌<◌, ◌^◌, ℕ, List, [], Option, Some, None, IfSome, arith, ap, subst, sym}
use Rattle.site_types.specs.declared.retained.Retained.{Retained}
use Rattle.site_types.specs.declared.site.Site.{Site}
use Rattle.retained_journal.specs.declared.journal.Journal.{Journal}
use Rattle.retained_journal.specs.Images.{IsEarly, Stands as StandsOn}
use Rattle.retained_journal.specs.Outcomes.{IsEarlyFor}
use Rattle.retained_journal.proofs.Images.{may_leave}
use Rattle.panel_core.specs.Keeping.{KeepsRun}
use Rattle.panel_core.proofs.Fronts.{front_left}
use Rattle.panel_rules.specs.Moments.{TickBlock}
use Rattle.site_run.specs.Journals.{IsOpenFor}
use Rattle.site_run.specs.Outside.{DiskKind, Stored}
use Rattle.site_run.specs.PowerCuts.{HasNumbers, IsJournalOf, LeavesAcknowledged, LeavesTicks, OpensToAcknowledged}
use Rattle.site_run.specs.PowerCuts.{no_tick}
use Rattle.site_run.specs.Stands.{Stores}
use Rattle.site_run.proofs.Cuts.{acknowledged}

-- a journal is that of the file which its disk told
pub opened_of : (digest : List ℕ) (seen : Option (List ℕ)) (journal : Journal) → journal.digest ≡ digest → IfSome seen (IsEarlyFor journal)
    → IsJournalOf digest seen journal
opened_of digest seen journal same early = record { same = same; early = by_file seen early }
  where
    by_file : (o : Option (List ℕ)) → IfSome o (IsEarlyFor journal) → HasNumbers o → IsEarly journal
    by_file None h numbers = absurd numbers
    by_file (Some file) h numbers = h numbers

module _ (kind : DiskKind) (site : Site) (kept : Retained) (digest : List ℕ) (seen : Option (List ℕ)) where
  opens_so : (disk : kind.Of) (journal : Journal) → KeepsRun site kept [] journal → StandsOn kind.honest kind.images disk journal
      → journal.digest ≡ digest → journal.number < 2 ^ 63 → kind.honest disk → (file : List ℕ) → kind.images disk file
      → OpensToAcknowledged site kept digest [] file
  opens_so disk journal keeps stands same room sure file left =
      let image = stands.each sure file left in
      subst (λ d. OpensToAcknowledged site kept d [] file) same
      (acknowledged site kept journal.digest [] file
      (front_left site kept [] journal keeps file (may_leave journal file stands.sound image room)))

  module _ (disk : kind.Of) (journal : Journal) (open' : IsOpenFor site kept journal) (stands : StandsOn kind.honest kind.images disk journal) (is :
      IsJournalOf digest seen journal) where
    opens_at_first : HasNumbers seen → kind.honest disk → (file : List ℕ) → kind.images disk file → OpensToAcknowledged site kept digest [] file
    opens_at_first numbers sure file left =
        let low = is.early numbers in
        let tried = open'.tried in
        opens_so disk journal open'.keeps stands is.same (omega (arith, low, tried)) sure file left

    -- where no tick was run
    pub leaves_opened : (told : Option (List ℕ)) → LeavesAcknowledged site kept digest (record { seen = seen; told = told; kind = kind; now = disk }) []
    leaves_opened told numbers sure = record { opened = disk; at_opening = opens_at_first numbers sure; since = no_tick }

    -- after a run
    pub leaves_run : (told : Option (List ℕ)) (ticks : List TickBlock) (new : Stored kind) (first : Journal) → first ≡ journal
        → Stores site kept (record { disk = disk; journal = first }) new [] ticks
        → LeavesAcknowledged site kept digest (record { seen = seen; told = told; kind = kind; now = new.disk }) ticks
    leaves_run told ticks new first same stores numbers sure =
        let then = stores.honest.0 sure in
        let early = subst IsEarly (sym same) (is.early numbers) in
        record {
          opened = disk;
          at_opening = opens_at_first numbers then;
          since =
              subst (λ d. LeavesTicks kind site kept d [] disk ticks new.disk) (ap (λ (j : Journal). j.digest) same ∙ is.same)
              (stores.leaves then early);
        }
