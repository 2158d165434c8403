use Rattle.std.proofs.Common.{◌∙◌, subst}
use Rattle.panel_parts.specs.Entries.{TellsEntries}
use Rattle.panel_core.proofs.KeepTurns.{answers_by, keeps_by, torn_by}
use Rattle.panel_core.specs.Keeping.{has_failed}
use Rattle.panel_core.proofs.Marked.{keep_marks, not_false, stands_raised}
use Rattle.panel_core.proofs.system.System.keep_left.Goals as goal

pub note_kept-requires : goal.note_kept-requires
note_kept-requires g c =
    let m = c.requires.may in
    record { site = m.site; kept = m.kept; before = m.before; stands = m.stands; run = m.run }

pub returns-clause-kept : goal.returns-clause-kept
returns-clause-kept g c site kept before h keeps run few =
    let store = c.commit_left-store.result in
    let old = c.args.journal.now in
    let new = c.commit_left-store.new.journal in
    let made = c.commit_left-store.ensures site kept before h run.0 few in
    let turned = made.answers in
    let now = keeps_by site kept before old new store keeps.keeps turned in
    record {
      stands = stands_raised c.mark_all.ensures.rest site kept _
          (c.note_kept.ensures.notes site kept before h (subst (λ panels. TellsEntries panels c.entries_of-entries.result) c.as_slice.ensures.value c.entries_of-entries.ensures.told)
          run now);
      keeps = record {
        keeps = now;
        wide = made.leaves.same.wide ∙ keeps.wide;
        torn = torn_by site kept before old new store keeps.torn turned;
      };
      answers = answers_by site kept before old new store turned;
    }

pub returns-clause-marks : goal.returns-clause-marks
returns-clause-marks g c site kept before h keeps run few marked =
    let store = c.commit_left-store.result in
    let old = c.args.journal.now in
    let turned = (c.commit_left-store.ensures site kept before h run.0 few).answers in
    let now = keeps_by site kept before old c.commit_left-store.new.journal store keeps.keeps turned in
    let noted =
    c.note_kept.ensures.notes site kept before h (subst (λ panels. TellsEntries panels c.entries_of-entries.result) c.as_slice.ensures.value c.entries_of-entries.ensures.told)
    run now in
    keep_marks site kept before (has_failed store) c.note_kept.ensures.same c.mark_all.ensures (λ alike. c.are_same.ensures (not_false _ alike)) h noted marked

pub returns-clause-moments : goal.returns-clause-moments
returns-clause-moments g c honest site kept before h keeps run few room =
    (c.commit_left-store.ensures site kept before h run few).moments honest room

pub returns-clause-leaves : goal.returns-clause-leaves
returns-clause-leaves g c =
    let m = c.requires.may in
    (c.commit_left-store.ensures m.site m.kept m.before m.stands m.run.0 m.few).leaves
