-- What a run came to.
use Rattle.std.proofs.Common.{◌≡◌, ◌∙◌, ℕ, List, [], Option, refl, sym, subst, inl, inr}
use Rattle.panel_edges.specs.Contents.{Grows, GrowsByFront}
use Rattle.panel_edges.specs.Faults.{Rose}
use Rattle.site_types.specs.declared.retained.Retained.{Retained}
use Rattle.site_types.specs.declared.site.Site.{Site}
use Rattle.program_status.specs.declared.outcome.Outcome.{Outcome}
use Rattle.panel_rules.specs.Moments.{TickBlock}
use Rattle.site_run.specs.declared.run.Run.{Run}
use Rattle.panel_program.specs.declared.run_end.RunEnd.{RunEnd}
use Rattle.panel_program.specs.declared.run_end.RunEnd.TheVariants.{ReadFault}
use Rattle.program_status.specs.declared.status.Status.TheVariants.{NoMemory, WriteFault}
use Rattle.program_status.specs.Statuses.{number_of}
use Rattle.panel_program.specs.Endings.{status_of, last_line}
use Rattle.panel_program.specs.Runs.{HasMade, Input, IsUnread, RanOn, ReadsTo, ReadsUntil}
use Rattle.site_run.specs.PowerCuts.{JournalDisk, LeavesAcknowledged}
use Rattle.site_run.specs.Outside.{DiskKind, Outside}
use Rattle.site_run.specs.Writings.{Breaks}
use Rattle.panel_program.specs.Ahead.{AreTicksOf}
use Rattle.site_run.specs.Stands.{HasRun, Stores}
use Rattle.run_text.proofs.PromisesHold.{are_kept}
use Rattle.run_text.proofs.WholeTexts.{of_run}
use Rattle.run_text.specs.SoFar.{opening_text, text_so_far}
use Rattle.program_status.specs.Sayings.{Says}
use Rattle.site_run.proofs.Written.{grows_then}

-- what a run has made is what its outcome tells
made_by : (site : Site) (kept : Retained) (consumed : List ℕ) (ticks : List TickBlock) (run : Run) (outcome : Outcome) → AreTicksOf site consumed ticks
    → HasRun site kept ticks run → outcome.ticks ≡ run.ticks → outcome.store_failures ≡ run.store_failures
    → HasMade site kept consumed ticks outcome
made_by site kept consumed ticks run outcome of ran count failed =
    let told = of_run site kept ticks ran.can in
    record {
      of = of;
      count = count ∙ ran.count;
      failed = failed ∙ ran.failed;
      promises = are_kept site kept ticks ran.can.valid ran.ordered;
      form = told.0;
      told = told.1;
    }

module _ (site : Site) (kept : Retained) (digest : List ℕ) (disk : JournalDisk) (input : Input) (bytes : List ℕ) (outcome : Outcome) where
  -- memory ran out
  pub ran_nothing : (old : Option (List ℕ)) → outcome.status ≡ number_of NoMemory → outcome.ticks ≡ 0 → outcome.store_failures ≡ 0
      → IsUnread input → LeavesAcknowledged site kept digest disk [] → RanOn site kept digest disk input bytes old old outcome
  ran_nothing old status ticks failed unread cut =
      inl (record { status = status; ticks = ticks; failures = failed; same = refl }, unread, cut)

  -- the first write failed
  pub ran_opening : (old new : Option (List ℕ)) → IsUnread input → outcome.status ≡ number_of WriteFault
      → outcome.ticks ≡ 0 → outcome.store_failures ≡ 0 → GrowsByFront old new (opening_text site kept)
      → LeavesAcknowledged site kept digest disk [] → RanOn site kept digest disk input bytes old new outcome
  ran_opening old new unread status ticks failed broke cut =
      inr (inl (record { unread = unread; cut = cut; status = status; ticks = ticks; failures = failed; broke = broke }))

  -- a later write failed
  pub ran_until : {kind : DiskKind} (old : Option (List ℕ)) (mid new : Outside kind) (run : Run) → outcome.status ≡ number_of WriteFault → outcome.ticks ≡ run.ticks
      → outcome.store_failures ≡ run.store_failures → Grows old mid.written (opening_text site kept) → ReadsUntil site kept bytes input.after mid new run
      → ((ticks : List TickBlock) → HasRun site kept ticks run → Stores site kept mid.stored new.stored [] ticks
      → LeavesAcknowledged site kept digest disk ticks)
      → RanOn site kept digest disk input bytes old new.written outcome
  ran_until old mid new run status ticks failed opened r cut =
      let part = r.broke in
      inr
      (inr
      (inr (record {
        consumed = r.consumed;
        rest = r.rest;
        last = part.last;
        before = part.whole;
        whole = r.whole;
        ahead = r.ahead;
        closed = r.closed;
        made =
            subst (λ ts. HasMade site kept r.consumed ts outcome) part.is
            (made_by site kept r.consumed r.ticks run outcome r.of r.ran ticks failed);
        cut = subst (LeavesAcknowledged site kept digest disk) part.is (cut r.ticks r.ran part.stores);
        status = status;
        mid = part.mid;
        told = grows_then old mid.written part.mid (text_so_far site kept []) (text_so_far site kept part.whole) opened part.grew;
        broke = subst (λ ts. Breaks part.mid new.written (text_so_far site kept part.whole) (text_so_far site kept ts)) part.is part.broke;
      })))

  -- the run ended
  pub ran_to : {kind : DiskKind} (old new : Option (List ℕ)) (mid last : Outside kind) (run : Run) (end : RunEnd) → outcome.ticks ≡ run.ticks → outcome.store_failures ≡ run.store_failures
      → (end ≡ ReadFault → Rose input.faults_before input.faults_after) → Grows old mid.written (opening_text site kept)
      → ReadsTo site kept bytes input.after mid last run end → Says (status_of end) (last_line run.ticks end) last.written new outcome.status
      → ((ticks : List TickBlock) → HasRun site kept ticks run → Stores site kept mid.stored last.stored [] ticks
      → LeavesAcknowledged site kept digest disk ticks)
      → RanOn site kept digest disk input bytes old new outcome
  ran_to old new mid last run end ticks failed rose opened r says cut =
      inr
      (inr
      (inl (
        end,
        record {
          consumed = r.consumed;
          rest = r.rest;
          run = r.ticks;
          whole = r.whole;
          ahead = r.ahead;
          ended = r.ended;
          fault = λ e. (rose e, r.unread e);
          made = made_by site kept r.consumed r.ticks run outcome r.of r.ran ticks failed;
          cut = cut r.ticks r.ran r.wrote.stores;
          mid = last.written;
          told = grows_then old mid.written last.written (text_so_far site kept []) (text_so_far site kept r.ticks) opened r.wrote.text;
          says = subst (λ n. Says (status_of end) (last_line n end) last.written new outcome.status) (sym ticks) says;
        },
      )))
