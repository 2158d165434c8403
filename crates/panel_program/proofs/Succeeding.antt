-- A well made run comes to its end where nothing fails.
use Rattle.std.proofs.Common.{◌≡◌, ◌∙◌, ◌⊎◌, ◌++◌, ℕ, List, [], ◌∷◌, Option, Some, Result, Ok, Err, IfSome, map, refl, subst, inl, inr}
use Rattle.std.specs.Prelude.{codes, String, string_bytes}
use Rattle.std.specs.declared.alloc.Global.{Global}
use Rattle.panel_edges.specs.Faults.{Rose}
use Rattle.panel_edges.specs.Shelves.{file_of}
use Rattle.site_types.specs.Digest.{digest_of}
use Rattle.site_types.specs.declared.site.Site.{Site}
use Rattle.site_config.specs.Sites.{IsSpelled}
use Rattle.cause_effect.specs.Cycles.{HasNoCycle, IsCycle, IsWalk, MeetsCycle}
use Rattle.keep_batch.specs.MakingLaws.{is_wide}
use Rattle.retained_journal.specs.declared.open_refusal.OpenRefusal.{OpenRefusal}
use Rattle.retained_journal.specs.declared.open_refusal.OpenRefusal.TheVariants.{Damaged, DiskFault, NotAJournal, OtherSite}
use Rattle.retained_journal.specs.Opening.{Refuses, opened}
use Rattle.retained_journal.specs.Outcomes.{IsRefusalOf}
use Rattle.program_status.specs.declared.outcome.Outcome.{Outcome}
use Rattle.program_status.specs.declared.status.Status.{Status}
use Rattle.program_status.specs.declared.status.Status.TheVariants as exit
use Rattle.program_status.specs.Sayings.{Says}
use Rattle.program_status.specs.Statuses.{number_of}
use Rattle.panel_program.specs.declared.run_end.RunEnd.{RunEnd}
use Rattle.panel_program.specs.declared.run_end.RunEnd.TheVariants.{Ended, Refused as RefusedEnd, TooManyBytes, ReadFault as ReadFaultEnd}
use Rattle.site_commands.specs.declared.stop.Stop.{Stop}
use Rattle.site_commands.specs.declared.stop.Stop.TheVariants.{Absent, Refused, Cycle, ReadFault, NoMemory}
use Rattle.panel_program.specs.Commands.{Answers, AnswersCommand, CallDisks, Runs, names_of, site_word}
use Rattle.site_commands.specs.Commands.{AnswersBy}
use Rattle.panel_program.specs.Endings.{last_line, status_of}
use Rattle.panel_program.specs.Runs.{EndsRun, Ran, RanOn, StopsAtJournal, Streams}
use Rattle.site_commands.specs.Files.{Files}
use Rattle.site_run.specs.PowerCuts.{JournalDisk}
use Rattle.journal_refusals.specs.JournalTexts.{journal_status, journal_text}
use Rattle.site_commands.specs.Refusals.{refusal_status, refusal_text}
use Rattle.site_commands.specs.Sites.{Loads, file_digest}
use Rattle.panel_program.specs.Successes.{IsWellMade, NothingFails, SucceedsWellMade}

-- ---- a site without a cycle has none to tell

-- a walk of a cycle begins at a marker from which one comes to a cycle
begins_walk : (site : Site) (markers : List ℕ) (last : ℕ) → IsWalk site (markers ++ last ∷ []) → (m : ℕ) × MeetsCycle site m
begins_walk site [] last h = (last, h.0.is)
begins_walk site (first ∷ rest) last h = (first, h.0.is)

cycle_free : {X : Type 0} (site : Site) (markers : List ℕ) → HasNoCycle site → IsCycle site markers → X
cycle_free site markers free cycle =
    let begins = begins_walk site (cycle.before ++ cycle.round) cycle.twice cycle.walk in
    absurd (free begins.1.met begins.1.round)

-- ---- what a well made run answers

module _ (words : List (String Global)) (files : Files) (disk : JournalDisk) (streams : Streams) (outcome : Outcome) (written written' stored stored' : ℕ)
    (made : IsWellMade words files disk streams) (fine : NothingFails files streams outcome written written' stored stored') where
  abbrev Succeeds : Type 0
  Succeeds = (outcome.status ≡ number_of exit.Done) ⊎ ((outcome.status ≡ number_of exit.NoMemory) × (streams.new ≡ streams.old))

  no_write_fault : {X : Type 0} → outcome.status ≡ number_of exit.WriteFault → X
  no_write_fault e = absurd (fine.output (fine.write e))

  no_disk_fault : {X : Type 0} → outcome.status ≡ number_of exit.DiskFault → X
  no_disk_fault e = absurd (fine.disk (fine.store e))

  said : (status : Status) (text : List ℕ) (old new : Option (List ℕ)) → Says status text old new outcome.status → outcome.status ≡ number_of status
  said status text old new (inl h) = h.0
  said status text old new (inr h) = no_write_fault h.0

  without_memory : outcome.status ≡ number_of exit.NoMemory → Succeeds
  without_memory e = inr (e, fine.silent e)

  module _ (site : Site) (spelled : IsSpelled made.file site) where
    at_journal : (refusal : OpenRefusal) → IsRefusalOf (is_wide site) (digest_of made.file) disk.seen refusal
        → (refusal ≡ DiskFault) ⊎ (opened (is_wide site) (digest_of made.file) made.journal ≡ Refuses refusal)
    at_journal DiskFault cause = inl refl
    at_journal (NotAJournal mark) cause = inr (subst (λ o. IfSome o (λ file. opened (is_wide site) (digest_of made.file) file ≡ Refuses (NotAJournal mark))) made.seen (cause (λ e. cc)))
    at_journal (OtherSite kept given) cause = inr (subst (λ o. IfSome o (λ file. opened (is_wide site) (digest_of made.file) file ≡ Refuses (OtherSite kept given))) made.seen (cause (λ e. cc)))
    at_journal (Damaged offset byte) cause = inr (subst (λ o. IfSome o (λ file. opened (is_wide site) (digest_of made.file) file ≡ Refuses (Damaged offset byte))) made.seen (cause (λ e. cc)))

    stops : StopsAtJournal site (digest_of made.file) disk streams.input streams.old streams.new outcome → Succeeds
    stops s = stopped s.refusal (at_journal s.refusal s.cause) s.says
      where
        stopped : (refusal : OpenRefusal) → ((refusal ≡ DiskFault) ⊎ (opened (is_wide site) (digest_of made.file) made.journal ≡ Refuses refusal))
            → Says (journal_status refusal) (journal_text refusal) streams.old streams.new outcome.status → Succeeds
        stopped refusal (inl e) says =
            no_disk_fault
            (said exit.DiskFault (journal_text DiskFault) streams.old streams.new
            (subst (λ r. Says (journal_status r) (journal_text r) streams.old streams.new outcome.status) e says))
        stopped refusal (inr e) says = absurd (made.usable site spelled refusal e)

    ends : (end : RunEnd) (consumed : List ℕ) → EndsRun site made.bytes consumed end → (end ≡ ReadFaultEnd → ⊥) → end ≡ Ended
    ends Ended consumed h fault = refl
    ends (RefusedEnd refusal) consumed h fault = h.0 ∙ made.accepted site spelled
    ends TooManyBytes consumed h fault = h.0 ∙ made.accepted site spelled
    ends ReadFaultEnd consumed h fault = absurd (fault refl)

    ran : Ran site (digest_of made.file) disk streams.input made.bytes streams.old streams.new outcome → Succeeds
    ran (inl s) = stops s
    ran (inr k) = on k.ran
      where
        on : RanOn site k.kept (digest_of made.file) disk streams.input made.bytes streams.old streams.new outcome → Succeeds
        on (inl nothing) = without_memory nothing.0.status
        on (inr (inl stops)) = no_write_fault stops.status
        on (inr (inr (inl (end, to)))) =
            let is = ends end to.consumed to.ended (λ e. fine.input (to.fault e).0) in
            let text = last_line outcome.ticks end in
            inl
            (said exit.Done text to.mid streams.new (subst (λ e. Says (status_of e) text to.mid streams.new outcome.status) is to.says))
        on (inr (inr (inr until))) = no_write_fault until.status

  by_result : (result : Result Site Stop) → Loads (Rose files.faults_before files.faults_after) (Some made.file) result
      → Runs (digest_of made.file) disk streams outcome result → Succeeds
  by_result (Err ReadFault) loads did = absurd (fine.shelf loads)
  by_result (Err NoMemory) loads did = without_memory (said exit.NoMemory _ streams.old streams.new did.says)
  by_result (Err Absent) loads did = absurd loads
  by_result (Err (Refused refusal)) loads did =
      let is = made.site.accepted refusal loads in
      without_memory
      (said exit.NoMemory _ streams.old streams.new
      (subst (λ r. Says (refusal_status r) (refusal_text (codes "refused site") r) streams.old streams.new outcome.status) is did.says))
  by_result (Err (Cycle line)) loads did = cycle_free loads.site loads.markers (made.site.free loads.site loads.spelled) loads.cycle
  by_result (Ok site) loads did =
      ran site loads.spelled
      (subst (λ o. IfSome o (λ bytes. Ran site (digest_of made.file) disk streams.input bytes streams.old streams.new outcome)) made.input did)

pub succeed : (words : List (String Global)) (files : Files) (disks : CallDisks) (streams : Streams) (outcome : Outcome)
    → Answers words files disks streams outcome → SucceedsWellMade words files disks.journal streams outcome
succeed words files disks streams outcome answers written written' stored stored' made fine =
    let name = site_word (map string_bytes words) in
    let disk = disks.journal in
    let by_command = subst (λ command. AnswersCommand command (names_of (map string_bytes words)) files disks streams outcome) made.runs answers in
    let by_shelf =
    subst
    (λ o. IfSome o (λ held. AnswersBy (Rose files.faults_before files.faults_after) (file_of name held)
    (Runs (file_digest (file_of name held)) disk streams outcome)))
    made.shelf by_command in
    let by =
    subst (λ o. AnswersBy (Rose files.faults_before files.faults_after) o (Runs (file_digest o) disk streams outcome)) made.there by_shelf in
    by_result words files disk streams outcome written written' stored stored' made fine by.result by.loads by.did
