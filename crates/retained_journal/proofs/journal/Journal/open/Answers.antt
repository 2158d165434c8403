use Rattle.std.proofs.Common.{◌≡◌, ◌∙◌, ℕ, Bool, List, subst}
use Rattle.std.specs.Prelude.{IfSome, None, Option, Some}
use Rattle.panel_edges.specs.Crashes.{Only, Stays}
use Rattle.panel_edges.specs.Disks.{Becomes}
use Rattle.retained_journal.specs.declared.journal.Journal.{Journal}
use Rattle.site_types.specs.Changes.{nothing_retained}
use Rattle.site_types.specs.declared.retained.Retained.{Retained}
use Rattle.retained_journal.specs.Journals.{IsReadFrom}
use Rattle.retained_journal.specs.NewFiles.{BecomesNew, IsNewFile}
use Rattle.retained_journal.specs.Opening.{refusal_of}
use Rattle.retained_journal.proofs.Calls.{only_so}
use Rattle.retained_journal.proofs.NewJournals.{keeps_nothing, new_image, new_opens_kept, opened_new, sound_new}
use Rattle.retained_journal.proofs.ReadImages.{read_image, read_opens}
use Rattle.retained_journal.proofs.journal.Journal.open.Goals as goal

pub returns-then-len-eq0-clause-stands : goal.returns-then-len-eq0-clause-stands
returns-then-len-eq0-clause-stands g c = record {
  sound = sound_new c.args.wide c.args.digest c.of_new.result c.of_new.ensures;
  each = λ honest file here.
      new_image c.args.wide c.args.digest file c.of_new.result c.of_new.ensures
      (subst (λ (s : Retained). IsNewFile c.args.digest s file) c.empty-kept.ensures
      (c.in_ok-write_new.ensures.ok (c.write_new.ensures.honest.0 honest) file here)) (keeps_nothing c.args.wide);
}

-- what was read of the file behind a sync and a question for its length is so of each file that a crash may leave then
read_so : {D : Type 0} (honest : D → Type 0) (images : D → List ℕ → Type 0) (seen : D → Option (List ℕ))
    (reads : (disk : D) → honest disk → (file : List ℕ) × (seen disk ≡ Some file) × images disk file) (first synced measured last : D) (wide : Bool)
    (digest : List ℕ) (j : Journal) → (honest synced → honest first) → (honest measured → honest synced) → (honest last → honest measured)
    → (honest first → IfSome (seen synced) (λ f. Only f (images synced))) → (honest synced → Stays (images synced) (images measured))
    → (honest measured → Stays (images measured) (images last)) → seen measured ≡ seen synced
    → IfSome (seen measured) (λ f. (refusal_of wide digest f ≡ None) × IsReadFrom wide digest f j) → honest last → (file : List ℕ) → images last file
    → (refusal_of wide digest file ≡ None) × IsReadFrom wide digest file j
read_so honest images seen reads first synced measured last wide digest j back back_len back_read durable len_stays read_stays same told h file here =
    let at_len = back_read h in
    let at_sync = back_len at_len in
    let read = reads synced at_sync in
    only_so (seen synced) read.0 (images synced) (λ f. (refusal_of wide digest f ≡ None) × IsReadFrom wide digest f j) read.1
    (subst (λ s. IfSome s (λ f. (refusal_of wide digest f ≡ None) × IsReadFrom wide digest f j)) same told) (durable (back at_sync)) file
    (len_stays at_sync file (read_stays at_len file here))

pub returns-clause-stands : goal.returns-clause-stands
returns-clause-stands g c =
    let so = read_so g.D.Disk.honest g.D.Disk.images g.D.Disk.seen g.met.D.Disk.reads_as_image c.args.disk.now c.sync.new.self c.len.new.self
    c.read_journal.new.disk c.args.wide c.args.digest c.in_ok-journal.journal c.sync.ensures.honest.0 c.len.ensures.honest.0
    c.read_journal.ensures.honest.0 c.in_ok-sync.ensures.durable c.len.ensures.crash c.read_journal.ensures.crash c.len.ensures.seen
    c.in_ok-journal.ensures.ok in
    record {
      sound = c.in_ok-journal.ensures.sound;
      each = λ honest file here. read_image c.args.wide c.args.digest file c.in_ok-journal.journal (so honest file here).1 (so honest file here).0;
    }

pub returns-then-len-eq0-clause-opens : goal.returns-then-len-eq0-clause-opens
returns-then-len-eq0-clause-opens g c honest file here =
    new_opens_kept c.args.wide c.args.digest file c.of_new.result c.of_new.ensures
    (subst (λ (s : Retained). IsNewFile c.args.digest s file) c.empty-kept.ensures
    (c.in_ok-write_new.ensures.ok (c.write_new.ensures.honest.0 honest) file here))

pub returns-clause-opens : goal.returns-clause-opens
returns-clause-opens g c honest file here =
    let so = read_so g.D.Disk.honest g.D.Disk.images g.D.Disk.seen g.met.D.Disk.reads_as_image c.args.disk.now c.sync.new.self c.len.new.self
    c.read_journal.new.disk c.args.wide c.args.digest c.in_ok-journal.journal c.sync.ensures.honest.0 c.len.ensures.honest.0
    c.read_journal.ensures.honest.0 c.in_ok-sync.ensures.durable c.len.ensures.crash c.read_journal.ensures.crash c.len.ensures.seen
    c.in_ok-journal.ensures.ok honest file here in
    read_opens c.args.wide c.args.digest file c.in_ok-journal.journal so.1 so.0

pub returns-then-len-eq0-clause-read : goal.returns-then-len-eq0-clause-read
returns-then-len-eq0-clause-read g c =
    opened_new c.args.wide c.args.digest c.of_new.result (g.D.Disk.seen c.args.disk.now) (g.D.Disk.seen c.write_new.new.disk) c.of_new.ensures
    (subst (λ s. Becomes (BecomesNew c.args.digest nothing_retained) s (g.D.Disk.seen c.write_new.new.disk))
    (c.len.ensures.seen ∙ c.sync.ensures.seen)
    (subst (λ (s : Retained). Becomes (BecomesNew c.args.digest s) (g.D.Disk.seen c.len.new.self) (g.D.Disk.seen c.write_new.new.disk))
    c.empty-kept.ensures c.in_ok-write_new.ensures.made))
