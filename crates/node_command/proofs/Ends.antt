-- How serving ended, and the whole of it.
use Rattle.std.proofs.Common.{◌≡◌, ◌∙◌, ◌⊎◌, ◌<◌, ℕ, Bool, true, false, List, [], length, Option, inl, inr, refl, sym, ap, subst}
use Rattle.desk_doors.specs.Passing.{DoorSides}
use Rattle.node_answers.specs.Exchanges.{ExchangedConn, ExchangesEach}
use Rattle.node_command.specs.Acting.{EndsSo, ServesSome}
use Rattle.node_command.specs.Serving.{ServesEnough, ServesPanel, ServesTooFew}
use Rattle.node_desk.specs.Runs.{HasTicks}
use Rattle.node_desk.specs.Running.{node_stored_new}
use Rattle.node_desk.specs.declared.node_run.NodeRun.{NodeRun}
use Rattle.program_status.specs.Sayings.{Says}
use Rattle.program_status.specs.declared.outcome.Outcome.{Outcome}
use Rattle.program_status.specs.declared.status.Status.TheVariants.{Done}
use Rattle.retained_journal.specs.Images.{Stands as StandsOn}
use Rattle.retained_journal.specs.declared.journal.Journal.{Journal}
use Rattle.serving_ends.specs.Ends.{SaysEnd, served_line}
use Rattle.serving_ends.specs.declared.serving_end.ServingEnd.{ServingEnd}
use Rattle.site_run.specs.Journals.{IsOpenFor}
use Rattle.site_run.specs.Outside.{DiskKind, Disks}
use Rattle.site_run.specs.PowerCuts.{IsJournalOf}
use Rattle.site_run.proofs.PowerCuts.{leaves_run}
use Rattle.site_types.specs.declared.retained.Retained.{Retained}
use Rattle.site_types.specs.declared.site.Site.{Site}

module _ (count : ℕ) (conns : List ExchangedConn) (old new : Option (List ℕ)) (outcome : Outcome) (end : ServingEnd) (ends : EndsSo count end) (served :
    end.served ≡ length conns) (says : SaysEnd end old new outcome.status) where
  ends_by : (b : Bool) → end.failed ≡ b → ServesEnough count conns old new outcome ⊎ ServesTooFew count conns old new outcome
  ends_by false is =
      let all = ends.whole is in
      inl (record { enough = sym served ∙ all; says = subst (λ n. Says Done (served_line n) old new outcome.status) all (says.whole is) })
  ends_by true is = inr (record { fewer = subst (λ n. n < count) served (ends.part is); says = says.part is })

  pub serving_ends : ServesEnough count conns old new outcome ⊎ ServesTooFew count conns old new outcome
  serving_ends = ends_by end.failed refl

-- all connections were served
pub served_all : (kind : DiskKind) (site : Site) (panel : ℕ) (kept : Retained) (digest : List ℕ) (seen told : Option (List ℕ)) (journal : Journal) (door :
    DoorSides) (first last : kind.Of) (count : ℕ) (before after : NodeRun) (old new : Option (List ℕ)) (outcome : Outcome) (end : ServingEnd) (ticks failed : ℕ)
    → IsOpenFor site kept journal → StandsOn kind.honest kind.images first journal → IsJournalOf digest seen journal → before.journal ≡ journal
    → before.node.digest ≡ digest
    → ServesSome site panel kept (record { kind = kind; old = first; new = last }) door before after end.served × EndsSo count end
    → SaysEnd end old new outcome.status → HasTicks after ticks → failed ≡ after.store_failures → outcome.ticks ≡ ticks → outcome.store_failures ≡ failed
    → ServesPanel site digest panel kept (record { seen = seen; told = told; kind = kind; now = last }) door count old new outcome
served_all kind site panel kept digest seen told journal door first last count before after old new outcome end ticks failed open' stands is same digest_is
    (some, ends) says ticks_are failed_are ran fell =
    record {
      conns = some.conns;
      history = some.history;
      ticks = some.ticks;
      each = subst (λ d. ExchangesEach site d panel kept some.conns some.history) digest_is some.each;
      befell = some.runs.befell;
      gave = some.gave;
      cut = leaves_run kind site kept digest seen first journal open' stands is told some.ticks
          (node_stored_new (record { kind = kind; old = first; new = last }) after) before.journal same some.stores;
      ticks_are = ran ∙ ticks_are site panel kept some.history some.ticks some.runs;
      failures_are = fell ∙ failed_are ∙ some.runs.failed;
      ends = serving_ends count some.conns old new outcome end ends some.count says;
    }
