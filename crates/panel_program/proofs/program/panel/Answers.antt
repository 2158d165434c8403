use Rattle.std.proofs.Common.{◌≡◌, ◌∙◌, ap, sym, subst, List, ℕ}
use Rattle.std.specs.Prelude.{map, string_bytes}
use Rattle.panel_program.specs.declared.command.Command.TheVariants.{Usage, Check, Run, Matrix, Drill, Move, Audit, Import, Serve, Node}
use Rattle.journal_move.specs.Disks.{disks_of}
use Rattle.panel_program.specs.Commands.{AnswersCommand, CallNames, call_disks, file_word, names_of, new_site_word, site_word, text_word}
use Rattle.panel_program.specs.Runs.{streams_of}
use Rattle.site_commands.specs.Files.{files_of}
use Rattle.panel_program.specs.Words.{IsBounded, command_of}
use Rattle.desk_register.specs.Replies.{sides_of}
use Rattle.desk_doors.specs.Passing.{door_sides}
use Rattle.serve_command.specs.Serving.{AnswersServe}
use Rattle.site_run.specs.PowerCuts.{disk_of}
use Rattle.audit_command.specs.Audits.{AnswersAudit}
use Rattle.import_command.specs.Imports.{AnswersImport, kept_tables}
use Rattle.node_command.specs.Serving.{AnswersNode}
use Rattle.journal_move.specs.Moves.{AnswersMove}
use Rattle.journal_move.proofs.Sparing.{spares_alone}
use Rattle.panel_program.proofs.Naming.{file_word_is, lines_word_is, new_site_word_is, site_word_is, text_word_is}
use Rattle.panel_program.proofs.program.panel.Goals as goal

check_is : Check ≡ Usage → ⊥
check_is e = cc

run_is : Run ≡ Usage → ⊥
run_is e = cc

matrix_is : Matrix ≡ Usage → ⊥
matrix_is e = cc

move_is : Move ≡ Usage → ⊥
move_is e = cc

audit_is : Audit ≡ Usage → ⊥
audit_is e = cc

import_is : Import ≡ Usage → ⊥
import_is e = cc

serve_is : (port count : ℕ) → Serve port count ≡ Usage → ⊥
serve_is port count e = cc

count_is : (port count other_port other : ℕ) → Serve port count ≡ Serve other_port other → count ≡ other
count_is port count other_port other e = cc

node_is : (panel port count : ℕ) → Node panel port count ≡ Usage → ⊥
node_is panel port count e = cc

node_same : (panel port count other_panel other_port other : ℕ) → Node panel port count ≡ Node other_panel other_port other → (panel ≡ other_panel) × (count ≡ other)
node_same panel port count other_panel other_port other e = (first e, last e)
  where
    first : Node panel port count ≡ Node other_panel other_port other → panel ≡ other_panel
    first h = cc

    last : Node panel port count ≡ Node other_panel other_port other → count ≡ other
    last h = cc

-- the names of a call whose site has this one
abbrev named : List ℕ → List (List ℕ) → CallNames
named site words = record { site = site; new_site = new_site_word words; lines = file_word words; text = text_word words }

pub returns-in-Usage-clause-answers : goal.returns-in-Usage-clause-answers
returns-in-Usage-clause-answers g c =
    let words = map string_bytes c.args.words.now in
    let is : command_of words ≡ Usage = sym c.command_of.ensures.command ∙ c.in-Usage.is in
    let same = c.args.shelf.now in
    let streams =
    streams_of g.S.Stream.left g.S.Stream.read_faults g.K.Stream.written c.args.input.now c.args.input.now c.args.out.now c.tell_usage.new.out in
    let files = files_of g.F.Shelf.files g.F.Shelf.faults same same in
    let disks =
    call_disks g.D.Disk.seen g.D.Disk.honest g.D.Disk.images g.D.Disk.moment g.D.Disk.left_since c.args.disk.now c.args.disk.now c.args.target.now c.args.target.now in
    subst (λ command. AnswersCommand command (names_of words) files disks streams c.tell_usage.result) (sym is)
    (record { says = c.tell_usage.ensures.says; ticks = c.tell_usage.ensures.ticks.0; failures = c.tell_usage.ensures.ticks.1 })

pub returns-in-Check-clause-answers : goal.returns-in-Check-clause-answers
returns-in-Check-clause-answers g c =
    let words = map string_bytes c.args.words.now in
    let shelf = c.args.shelf.now in
    let files = files_of g.F.Shelf.files g.F.Shelf.faults shelf c.tell_counts.new.shelf in
    let streams =
    streams_of g.S.Stream.left g.S.Stream.read_faults g.K.Stream.written c.args.input.now c.args.input.now c.args.out.now c.tell_counts.new.out in
    let disks =
    call_disks g.D.Disk.seen g.D.Disk.honest g.D.Disk.images g.D.Disk.moment g.D.Disk.left_since c.args.disk.now c.args.disk.now c.args.target.now c.args.target.now in
    let is : command_of words ≡ Check = sym c.command_of.ensures.command ∙ c.in-Check.is in
    let name : c.as_str.result.now ≡ site_word words =
    c.as_str.ensures.value ∙ ap string_bytes c.index-words-1.is ∙ sym
    (site_word_is c.args.words.now c.index-words-1.result (λ e. check_is (sym is ∙ e)))
    in
    subst (λ command. AnswersCommand command (names_of words) files disks streams c.tell_counts.result) (sym is)
    (subst (λ text. AnswersCommand Check (named text words) files disks streams c.tell_counts.result) name c.tell_counts.ensures.answers)

pub returns-in-Run-clause-answers : goal.returns-in-Run-clause-answers
returns-in-Run-clause-answers g c =
    let words = map string_bytes c.args.words.now in
    let shelf = c.args.shelf.now in
    let files = files_of g.F.Shelf.files g.F.Shelf.faults shelf c.run.new.shelf in
    let streams =
    streams_of g.S.Stream.left g.S.Stream.read_faults g.K.Stream.written c.args.input.now c.run.new.input c.args.out.now c.run.new.out in
    let disks =
    call_disks g.D.Disk.seen g.D.Disk.honest g.D.Disk.images g.D.Disk.moment g.D.Disk.left_since c.args.disk.now c.run.new.disk c.args.target.now c.args.target.now in
    let is : command_of words ≡ Run = sym c.command_of.ensures.command ∙ c.in-Run.is in
    let name : c.as_str-in-Run.result.now ≡ site_word words =
    c.as_str-in-Run.ensures.value ∙ ap string_bytes c.index-words-1-in-Run.is ∙ sym
    (site_word_is c.args.words.now c.index-words-1-in-Run.result (λ e. run_is (sym is ∙ e)))
    in
    subst (λ command. AnswersCommand command (names_of words) files disks streams c.run.result) (sym is)
    (subst (λ text. AnswersCommand Run (named text words) files disks streams c.run.result) name c.run.ensures.answers)

pub returns-in-Matrix-clause-answers : goal.returns-in-Matrix-clause-answers
returns-in-Matrix-clause-answers g c =
    let words = map string_bytes c.args.words.now in
    let shelf = c.args.shelf.now in
    let files = files_of g.F.Shelf.files g.F.Shelf.faults shelf c.tell_matrix.new.shelf in
    let streams =
    streams_of g.S.Stream.left g.S.Stream.read_faults g.K.Stream.written c.args.input.now c.args.input.now c.args.out.now c.tell_matrix.new.out in
    let disks =
    call_disks g.D.Disk.seen g.D.Disk.honest g.D.Disk.images g.D.Disk.moment g.D.Disk.left_since c.args.disk.now c.args.disk.now c.args.target.now c.args.target.now in
    let is : command_of words ≡ Matrix = sym c.command_of.ensures.command ∙ c.in-Matrix.is in
    let name : c.as_str-in-Matrix.result.now ≡ site_word words =
    c.as_str-in-Matrix.ensures.value ∙ ap string_bytes c.index-words-1-in-Matrix.is ∙ sym
    (site_word_is c.args.words.now c.index-words-1-in-Matrix.result (λ e. matrix_is (sym is ∙ e)))
    in
    subst (λ command. AnswersCommand command (names_of words) files disks streams c.tell_matrix.result) (sym is)
    (subst (λ text. AnswersCommand Matrix (named text words) files disks streams c.tell_matrix.result) name c.tell_matrix.ensures.answers)

pub returns-in-Drill-clause-answers : goal.returns-in-Drill-clause-answers
returns-in-Drill-clause-answers g c =
    let words = map string_bytes c.args.words.now in
    let shelf = c.args.shelf.now in
    let seed = c.in-Drill.seed in
    let ticks = c.in-Drill.ticks in
    let files = files_of g.F.Shelf.files g.F.Shelf.faults shelf shelf in
    let streams =
    streams_of g.S.Stream.left g.S.Stream.read_faults g.K.Stream.written c.args.input.now c.args.input.now c.args.out.now c.run_drill.new.out in
    let disks =
    call_disks g.D.Disk.seen g.D.Disk.honest g.D.Disk.images g.D.Disk.moment g.D.Disk.left_since c.args.disk.now c.args.disk.now c.args.target.now c.args.target.now in
    let is : command_of words ≡ Drill seed ticks = sym c.command_of.ensures.command ∙ c.in-Drill.is in
    subst (λ command. AnswersCommand command (names_of words) files disks streams c.run_drill.result) (sym is) c.run_drill.ensures.drills

pub returns-in-Move-clause-answers : goal.returns-in-Move-clause-answers
returns-in-Move-clause-answers g c =
    let words = map string_bytes c.args.words.now in
    let shelf = c.args.shelf.now in
    let files = files_of g.F.Shelf.files g.F.Shelf.faults shelf c.move_journal.new.shelf in
    let streams =
    streams_of g.S.Stream.left g.S.Stream.read_faults g.K.Stream.written c.args.input.now c.args.input.now c.args.out.now c.move_journal.new.out in
    let both =
    disks_of g.D.Disk.seen g.D.Disk.honest g.D.Disk.images c.args.disk.now c.move_journal.new.disk c.args.target.now c.move_journal.new.target in
    let disks =
    call_disks g.D.Disk.seen g.D.Disk.honest g.D.Disk.images g.D.Disk.moment g.D.Disk.left_since c.args.disk.now c.move_journal.new.disk c.args.target.now c.move_journal.new.target in
    let is : command_of words ≡ Move = sym c.command_of.ensures.command ∙ c.in-Move.is in
    let old : c.as_str-in-Move.result.now ≡ site_word words =
    c.as_str-in-Move.ensures.value ∙ ap string_bytes c.index-words-1-in-Move.is ∙ sym
    (site_word_is c.args.words.now c.index-words-1-in-Move.result (λ e. move_is (sym is ∙ e)))
    in
    let new : c.as_str-in-Move-2.result.now ≡ new_site_word words =
    c.as_str-in-Move-2.ensures.value ∙ ap string_bytes c.index-words-2.is ∙ sym (new_site_word_is c.args.words.now c.index-words-2.result is)
    in
    subst (λ command. AnswersCommand command (names_of words) files disks streams c.move_journal.result) (sym is)
    (subst (λ text. AnswersMove text (new_site_word words) files both streams.old streams.new c.move_journal.result) old
    (subst (λ text. AnswersMove c.as_str-in-Move.result.now text files both streams.old streams.new c.move_journal.result) new
    c.move_journal.ensures.answers))

pub returns-in-Audit-clause-answers : goal.returns-in-Audit-clause-answers
returns-in-Audit-clause-answers g c =
    let words = map string_bytes c.args.words.now in
    let shelf = c.args.shelf.now in
    let files = files_of g.F.Shelf.files g.F.Shelf.faults shelf c.audit_files.new.shelf in
    let streams =
    streams_of g.S.Stream.left g.S.Stream.read_faults g.K.Stream.written c.args.input.now c.args.input.now c.args.out.now c.audit_files.new.out in
    let disks =
    call_disks g.D.Disk.seen g.D.Disk.honest g.D.Disk.images g.D.Disk.moment g.D.Disk.left_since c.args.disk.now c.args.disk.now c.args.target.now c.args.target.now in
    let is : command_of words ≡ Audit = sym c.command_of.ensures.command ∙ c.in-Audit.is in
    let site : c.as_str-in-Audit.result.now ≡ site_word words =
    c.as_str-in-Audit.ensures.value ∙ ap string_bytes c.index-words-1-in-Audit.is ∙ sym
    (site_word_is c.args.words.now c.index-words-1-in-Audit.result (λ e. audit_is (sym is ∙ e)))
    in
    let lines : c.as_str-in-Audit-2.result.now ≡ file_word words =
    c.as_str-in-Audit-2.ensures.value ∙ ap string_bytes c.index-words-2-in-Audit.is ∙ sym (lines_word_is c.args.words.now c.index-words-2-in-Audit.result is)
    in
    let text : c.as_str-in-Audit-3.result.now ≡ text_word words =
    c.as_str-in-Audit-3.ensures.value ∙ ap string_bytes c.index-words-3.is ∙ sym (text_word_is c.args.words.now c.index-words-3.result is)
    in
    subst (λ command. AnswersCommand command (names_of words) files disks streams c.audit_files.result) (sym is)
    (subst (λ name. AnswersAudit files name (file_word words) (text_word words) streams.old streams.new c.audit_files.result) site
    (subst (λ name. AnswersAudit files c.as_str-in-Audit.result.now name (text_word words) streams.old streams.new c.audit_files.result) lines
    (subst (λ name. AnswersAudit files c.as_str-in-Audit.result.now c.as_str-in-Audit-2.result.now name streams.old streams.new c.audit_files.result) text
    c.audit_files.ensures.answers)))

pub returns-in-Import-clause-answers : goal.returns-in-Import-clause-answers
returns-in-Import-clause-answers g c =
    let words = map string_bytes c.args.words.now in
    let shelf = c.args.shelf.now in
    let files = files_of g.F.Shelf.files g.F.Shelf.faults shelf c.import_file.new.shelf in
    let streams =
    streams_of g.S.Stream.left g.S.Stream.read_faults g.K.Stream.written c.args.input.now c.args.input.now c.args.out.now c.import_file.new.out in
    let disks =
    call_disks g.D.Disk.seen g.D.Disk.honest g.D.Disk.images g.D.Disk.moment g.D.Disk.left_since c.args.disk.now c.args.disk.now c.args.target.now c.args.target.now in
    let is : command_of words ≡ Import = sym c.command_of.ensures.command ∙ c.in-Import.is in
    subst (λ command. AnswersCommand command (names_of words) files disks streams c.import_file.result) (sym is) tt

pub returns-in-Import-clause-imports : goal.returns-in-Import-clause-imports
returns-in-Import-clause-imports g c is =
    let words = map string_bytes c.args.words.now in
    let files = files_of g.F.Shelf.files g.F.Shelf.faults c.args.shelf.now c.import_file.new.shelf in
    let register = kept_tables g.R.Keeper.tables c.args.keeper.now c.import_file.new.keeper in
    let written = g.K.Stream.written c.args.out.now in
    let written' = g.K.Stream.written c.import_file.new.out in
    let site : c.as_str-in-Import.result.now ≡ site_word words =
    c.as_str-in-Import.ensures.value ∙ ap string_bytes c.index-words-1-in-Import.is ∙ sym
    (site_word_is c.args.words.now c.index-words-1-in-Import.result (λ e. import_is (sym is ∙ e)))
    in
    let file : c.as_str-in-Import-2.result.now ≡ file_word words =
    c.as_str-in-Import-2.ensures.value ∙ ap string_bytes c.index-words-2-in-Import.is ∙ sym (file_word_is c.args.words.now c.index-words-2-in-Import.result is)
    in
    subst (λ text. AnswersImport files text (file_word words) register written written' c.import_file.result) site
    (subst (λ text. AnswersImport files c.as_str-in-Import.result.now text register written written' c.import_file.result) file
    c.import_file.ensures.answers)

pub run_drill-requires : goal.run_drill-requires
run_drill-requires g c = subst IsBounded c.in-Drill.is c.command_of.ensures.bounded

-- a disk that no call was made of is spared
pub returns-in-Usage-clause-disk_spared : goal.returns-in-Usage-clause-disk_spared
returns-in-Usage-clause-disk_spared g c nothing =
    spares_alone g.D.Disk.seen g.D.Disk.honest g.D.Disk.images g.D.Disk.moment g.D.Disk.left_since c.args.disk.now (g.met.D.Disk.only_now c.args.disk.now)

pub returns-in-Check-clause-disk_spared : goal.returns-in-Check-clause-disk_spared
returns-in-Check-clause-disk_spared g c nothing =
    spares_alone g.D.Disk.seen g.D.Disk.honest g.D.Disk.images g.D.Disk.moment g.D.Disk.left_since c.args.disk.now (g.met.D.Disk.only_now c.args.disk.now)

pub returns-in-Matrix-clause-disk_spared : goal.returns-in-Matrix-clause-disk_spared
returns-in-Matrix-clause-disk_spared g c nothing =
    spares_alone g.D.Disk.seen g.D.Disk.honest g.D.Disk.images g.D.Disk.moment g.D.Disk.left_since c.args.disk.now (g.met.D.Disk.only_now c.args.disk.now)

pub returns-in-Drill-clause-disk_spared : goal.returns-in-Drill-clause-disk_spared
returns-in-Drill-clause-disk_spared g c nothing =
    spares_alone g.D.Disk.seen g.D.Disk.honest g.D.Disk.images g.D.Disk.moment g.D.Disk.left_since c.args.disk.now (g.met.D.Disk.only_now c.args.disk.now)

pub returns-in-Audit-clause-disk_spared : goal.returns-in-Audit-clause-disk_spared
returns-in-Audit-clause-disk_spared g c nothing =
    spares_alone g.D.Disk.seen g.D.Disk.honest g.D.Disk.images g.D.Disk.moment g.D.Disk.left_since c.args.disk.now (g.met.D.Disk.only_now c.args.disk.now)

pub returns-in-Import-clause-disk_spared : goal.returns-in-Import-clause-disk_spared
returns-in-Import-clause-disk_spared g c nothing =
    spares_alone g.D.Disk.seen g.D.Disk.honest g.D.Disk.images g.D.Disk.moment g.D.Disk.left_since c.args.disk.now (g.met.D.Disk.only_now c.args.disk.now)

pub returns-in-Run-clause-disk_spared : goal.returns-in-Run-clause-disk_spared
returns-in-Run-clause-disk_spared g c nothing = absurd (nothing.0 (sym c.command_of.ensures.command ∙ c.in-Run.is))

pub returns-in-Usage-clause-target_spared : goal.returns-in-Usage-clause-target_spared
returns-in-Usage-clause-target_spared g c =
    spares_alone g.D.Disk.seen g.D.Disk.honest g.D.Disk.images g.D.Disk.moment g.D.Disk.left_since c.args.target.now (g.met.D.Disk.only_now c.args.target.now)

pub returns-in-Check-clause-target_spared : goal.returns-in-Check-clause-target_spared
returns-in-Check-clause-target_spared g c =
    spares_alone g.D.Disk.seen g.D.Disk.honest g.D.Disk.images g.D.Disk.moment g.D.Disk.left_since c.args.target.now (g.met.D.Disk.only_now c.args.target.now)

pub returns-in-Run-clause-target_spared : goal.returns-in-Run-clause-target_spared
returns-in-Run-clause-target_spared g c =
    spares_alone g.D.Disk.seen g.D.Disk.honest g.D.Disk.images g.D.Disk.moment g.D.Disk.left_since c.args.target.now (g.met.D.Disk.only_now c.args.target.now)

pub returns-in-Matrix-clause-target_spared : goal.returns-in-Matrix-clause-target_spared
returns-in-Matrix-clause-target_spared g c =
    spares_alone g.D.Disk.seen g.D.Disk.honest g.D.Disk.images g.D.Disk.moment g.D.Disk.left_since c.args.target.now (g.met.D.Disk.only_now c.args.target.now)

pub returns-in-Drill-clause-target_spared : goal.returns-in-Drill-clause-target_spared
returns-in-Drill-clause-target_spared g c =
    spares_alone g.D.Disk.seen g.D.Disk.honest g.D.Disk.images g.D.Disk.moment g.D.Disk.left_since c.args.target.now (g.met.D.Disk.only_now c.args.target.now)

pub returns-in-Audit-clause-target_spared : goal.returns-in-Audit-clause-target_spared
returns-in-Audit-clause-target_spared g c =
    spares_alone g.D.Disk.seen g.D.Disk.honest g.D.Disk.images g.D.Disk.moment g.D.Disk.left_since c.args.target.now (g.met.D.Disk.only_now c.args.target.now)

pub returns-in-Import-clause-target_spared : goal.returns-in-Import-clause-target_spared
returns-in-Import-clause-target_spared g c =
    spares_alone g.D.Disk.seen g.D.Disk.honest g.D.Disk.images g.D.Disk.moment g.D.Disk.left_since c.args.target.now (g.met.D.Disk.only_now c.args.target.now)

pub serve_site-requires-clause-count : goal.serve_site-requires-clause-count
serve_site-requires-clause-count g c = subst IsBounded c.in-Serve.is c.command_of.ensures.bounded

pub returns-in-Serve-clause-answers : goal.returns-in-Serve-clause-answers
returns-in-Serve-clause-answers g c =
    let words = map string_bytes c.args.words.now in
    let files = files_of g.F.Shelf.files g.F.Shelf.faults c.args.shelf.now c.serve_site.new.shelf in
    let streams =
    streams_of g.S.Stream.left g.S.Stream.read_faults g.K.Stream.written c.args.input.now c.args.input.now c.args.out.now c.serve_site.new.out in
    let disks =
    call_disks g.D.Disk.seen g.D.Disk.honest g.D.Disk.images g.D.Disk.moment g.D.Disk.left_since c.args.disk.now c.serve_site.new.disk c.args.target.now c.args.target.now in
    let is : command_of words ≡ Serve c.in-Serve.port c.in-Serve.count = sym c.command_of.ensures.command ∙ c.in-Serve.is in
    subst (λ command. AnswersCommand command (names_of words) files disks streams c.serve_site.result) (sym is) tt

pub returns-in-Serve-clause-serves : goal.returns-in-Serve-clause-serves
returns-in-Serve-clause-serves g c port count asked =
    let words = map string_bytes c.args.words.now in
    let files = files_of g.F.Shelf.files g.F.Shelf.faults c.args.shelf.now c.serve_site.new.shelf in
    let disk = disk_of g.D.Disk.seen g.D.Disk.honest g.D.Disk.images g.D.Disk.moment g.D.Disk.left_since c.args.disk.now c.serve_site.new.disk in
    let door = door_sides g.G.Door.waiting g.G.Door.handed c.args.door.now c.serve_site.new.door in
    let sides = sides_of g.R.Keeper.tables g.R.Keeper.faults c.args.keeper.now c.serve_site.new.keeper in
    let old = g.K.Stream.written c.args.out.now in
    let new = g.K.Stream.written c.serve_site.new.out in
    let is : command_of words ≡ Serve c.in-Serve.port c.in-Serve.count = sym c.command_of.ensures.command ∙ c.in-Serve.is in
    let name : c.as_str-name.result.now ≡ site_word words =
    c.as_str-name.ensures.value ∙ ap string_bytes c.index-words-1-in-Serve.is ∙ sym
    (site_word_is c.args.words.now c.index-words-1-in-Serve.result (λ e. serve_is c.in-Serve.port c.in-Serve.count (sym is ∙ e)))
    in
    subst (λ n. AnswersServe (site_word words) files disk door sides n old new c.serve_site.result)
    (count_is c.in-Serve.port c.in-Serve.count port count (sym is ∙ asked))
    (subst (λ text. AnswersServe text files disk door sides c.in-Serve.count old new c.serve_site.result) name c.serve_site.ensures.answers)

pub returns-in-Serve-clause-disk_spared : goal.returns-in-Serve-clause-disk_spared
returns-in-Serve-clause-disk_spared g c nothing =
    absurd (nothing.1.0 c.in-Serve.port c.in-Serve.count (sym c.command_of.ensures.command ∙ c.in-Serve.is))

pub returns-in-Serve-clause-target_spared : goal.returns-in-Serve-clause-target_spared
returns-in-Serve-clause-target_spared g c =
    spares_alone g.D.Disk.seen g.D.Disk.honest g.D.Disk.images g.D.Disk.moment g.D.Disk.left_since c.args.target.now (g.met.D.Disk.only_now c.args.target.now)

-- ---- serving a panel by itself

pub serve_node-requires-clause-panel : goal.serve_node-requires-clause-panel
serve_node-requires-clause-panel g c = (subst IsBounded c.in-Node.is c.command_of.ensures.bounded).0

pub serve_node-requires-clause-count : goal.serve_node-requires-clause-count
serve_node-requires-clause-count g c = let bounded = subst IsBounded c.in-Node.is c.command_of.ensures.bounded in (bounded.1, bounded.2)

pub returns-in-Node-clause-answers : goal.returns-in-Node-clause-answers
returns-in-Node-clause-answers g c =
    let words = map string_bytes c.args.words.now in
    let files = files_of g.F.Shelf.files g.F.Shelf.faults c.args.shelf.now c.serve_node.new.shelf in
    let streams =
    streams_of g.S.Stream.left g.S.Stream.read_faults g.K.Stream.written c.args.input.now c.args.input.now c.args.out.now c.serve_node.new.out in
    let disks =
    call_disks g.D.Disk.seen g.D.Disk.honest g.D.Disk.images g.D.Disk.moment g.D.Disk.left_since c.args.disk.now c.serve_node.new.disk c.args.target.now c.args.target.now in
    let is : command_of words ≡ Node c.in-Node.panel c.in-Node.port c.in-Node.count = sym c.command_of.ensures.command ∙ c.in-Node.is in
    subst (λ command. AnswersCommand command (names_of words) files disks streams c.serve_node.result) (sym is) tt

pub returns-in-Node-clause-nodes : goal.returns-in-Node-clause-nodes
returns-in-Node-clause-nodes g c panel port count asked =
    let words = map string_bytes c.args.words.now in
    let files = files_of g.F.Shelf.files g.F.Shelf.faults c.args.shelf.now c.serve_node.new.shelf in
    let disk = disk_of g.D.Disk.seen g.D.Disk.honest g.D.Disk.images g.D.Disk.moment g.D.Disk.left_since c.args.disk.now c.serve_node.new.disk in
    let door = door_sides g.G.Door.waiting g.G.Door.handed c.args.door.now c.serve_node.new.door in
    let old = g.K.Stream.written c.args.out.now in
    let new = g.K.Stream.written c.serve_node.new.out in
    let is : command_of words ≡ Node c.in-Node.panel c.in-Node.port c.in-Node.count = sym c.command_of.ensures.command ∙ c.in-Node.is in
    let same = node_same c.in-Node.panel c.in-Node.port c.in-Node.count panel port count (sym is ∙ asked) in
    let name : c.as_str-name-in-Node.result.now ≡ site_word words =
    c.as_str-name-in-Node.ensures.value ∙ ap string_bytes c.index-words-1-in-Node.is ∙ sym
    (site_word_is c.args.words.now c.index-words-1-in-Node.result (λ e. node_is c.in-Node.panel c.in-Node.port c.in-Node.count (sym is ∙ e)))
    in
    subst (λ n. AnswersNode (site_word words) n files disk door count old new c.serve_node.result) same.0
    (subst (λ n. AnswersNode (site_word words) c.in-Node.panel files disk door n old new c.serve_node.result) same.1
    (subst (λ text. AnswersNode text c.in-Node.panel files disk door c.in-Node.count old new c.serve_node.result) name c.serve_node.ensures.answers))

pub returns-in-Node-clause-disk_spared : goal.returns-in-Node-clause-disk_spared
returns-in-Node-clause-disk_spared g c nothing =
    absurd (nothing.1.1 c.in-Node.panel c.in-Node.port c.in-Node.count (sym c.command_of.ensures.command ∙ c.in-Node.is))

pub returns-in-Node-clause-target_spared : goal.returns-in-Node-clause-target_spared
returns-in-Node-clause-target_spared g c =
    spares_alone g.D.Disk.seen g.D.Disk.honest g.D.Disk.images g.D.Disk.moment g.D.Disk.left_since c.args.target.now (g.met.D.Disk.only_now c.args.target.now)
