-- How serving ended, and the whole of it.
use Rattle.std.proofs.Common.{◌≡◌, ◌∙◌, ◌⊎◌, ◌<◌, ℕ, Bool, true, false, List, [], length, Option, inl, inr, refl, sym, ap, subst}
use Rattle.panel_edges.specs.Contents.{Grows}
use Rattle.program_status.specs.Sayings.{Says}
use Rattle.program_status.specs.declared.outcome.Outcome.{Outcome}
use Rattle.program_status.specs.declared.status.Status.TheVariants.{Done, DoorFault}
use Rattle.desk_doors.specs.Passing.{DoorSides}
use Rattle.desk_register.specs.Replies.{KeeperSides}
use Rattle.retained_journal.specs.Images.{Stands as StandsOn}
use Rattle.retained_journal.specs.declared.journal.Journal.{Journal}
use Rattle.run_text.proofs.PromisesHold.{are_kept}
use Rattle.run_text.specs.SoFar.{opening_text}
use Rattle.serve_command.specs.Acting.{EndsSo, IsAt, ServesSome, World, between}
use Rattle.serve_command.specs.Doors.{ServedConn, has_stop}
use Rattle.serve_command.specs.Serving.{EndsAtDoor, EndsServing, ServesAll}
use Rattle.serve_command.specs.declared.counter.Counter.{Counter}
use Rattle.serve_command.proofs.Each.{stores_each}
use Rattle.serving_ends.specs.Ends.{SaysEnd, served_line}
use Rattle.serving_ends.specs.declared.serving_end.ServingEnd.{ServingEnd}
use Rattle.site_run.specs.Journals.{IsOpenFor}
use Rattle.site_run.specs.Outside.{DiskKind}
use Rattle.site_run.specs.PowerCuts.{IsJournalOf, JournalDisk}
use Rattle.site_run.proofs.PowerCuts.{leaves_run}
use Rattle.site_types.specs.declared.retained.Retained.{Retained}
use Rattle.site_types.specs.declared.site.Site.{Site}

module _ (count : ℕ) (conns : List ServedConn) (old new : Option (List ℕ)) (outcome : Outcome) (end : ServingEnd) (stopped : Bool) (ends :
    EndsSo count end stopped) (served : end.served ≡ length conns) (stops : has_stop conns ≡ stopped) (says : SaysEnd end old new outcome.status) where
  enough : (end.served ≡ count) ⊎ (stopped ≡ true) → (length conns ≡ count) ⊎ (has_stop conns ≡ true)
  enough (inl all) = inl (sym served ∙ all)
  enough (inr stop) = inr (stops ∙ stop)

  ends_by : (b : Bool) → end.failed ≡ b → EndsServing count conns old new outcome ⊎ EndsAtDoor count conns old new outcome
  ends_by false is =
      inl (record {
        enough = enough (ends.whole is);
        says = subst (λ n. Says Done (served_line n) old new outcome.status) served (says.whole is);
      })
  ends_by true is =
      let part = ends.part is in
      inr (record { fewer = subst (λ n. n < count) served part.0; no_stop = stops ∙ part.1; says = says.part is })

  pub serving_ends : EndsServing count conns old new outcome ⊎ EndsAtDoor count conns old new outcome
  serving_ends = ends_by end.failed refl

-- all connections were served
pub served_all : (kind : DiskKind) (site : Site) (kept : Retained) (digest : List ℕ) (seen told : Option (List ℕ)) (journal : Journal) (door : DoorSides)
    (first last : World kind) (count : ℕ) (before after : Counter) (old mid new : Option (List ℕ)) (outcome : Outcome) (end : ServingEnd)
    → IsOpenFor site kept journal → StandsOn kind.honest kind.images first.disk journal → IsJournalOf digest seen journal → before.run.journal ≡ journal
    → Grows old mid (opening_text site kept)
    → (stopped : Bool) × ServesSome site kept first last door before after end.served stopped × EndsSo count end stopped
    → SaysEnd end mid new outcome.status → outcome.ticks ≡ after.run.ticks → outcome.store_failures ≡ after.run.store_failures
    → ServesAll site kept digest (record { seen = seen; told = told; kind = kind; now = last.disk }) door
    (record { before = first.tables; after = last.tables; faults_before = first.faults; faults_after = last.faults }) count old new outcome
served_all kind site kept digest seen told journal door first last count before after old mid new outcome end open' stands is same opening (stopped, some, ends)
    says ticks failed =
    let at = some.is_at.stands in
    record {
      conns = some.conns;
      first = between [] first before;
      last = between some.ticks last after;
      begins = refl;
      keeper_at_first = (refl, refl);
      keeper_at_last = (refl, refl);
      disk_at_last = refl;
      each = some.each;
      gave = some.gave;
      promises = are_kept site kept some.ticks at.valid at.ordered;
      cut = leaves_run kind site kept digest seen first.disk journal open' stands is told some.ticks (between some.ticks last after).stored before.run.journal same
          (stores_each site kept (between [] first before) some.conns (between some.ticks last after) some.each);
      ticks = ticks ∙ at.count;
      failures_are = failed ∙ at.failed;
      mid = mid;
      told = opening;
      ends = serving_ends count some.conns mid new outcome end stopped ends some.count some.stops says;
    }
