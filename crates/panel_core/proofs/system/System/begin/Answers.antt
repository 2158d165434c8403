use Rattle.std.proofs.Common.{◌∙◌, ◌∷◌, length, ap, sym}
use Rattle.operation_desk.specs.Stands.{DesksFor}
use Rattle.panel_rules.specs.Moments.{Began}
use Rattle.panel_core.proofs.Begun.{begun}
use Rattle.panel_core.proofs.Marked.{begun_marks, begun_unmarked, did_none, stands_marked}
use Rattle.panel_laws.proofs.AnswerLaws.{eq_is}
use Rattle.panel_rules.proofs.AnswersTell.{eq_true}
use Rattle.panel_core.proofs.system.System.begin.Goals as goal

pub returns-clause-begins : goal.returns-clause-begins
returns-clause-begins c site kept before h tick run =
    let same = c.apply_done.ensures.same in
    let desk : DesksFor site kept before c.apply_done.new.self.desk = rw same.desk h.desk in
    stands_marked site kept (Began ∷ before) _ _
    (begun site kept before c.args.self.now h run c.begin_outputs.new.self c.begin.new.self c.args.tick tick
    (c.begin_outputs.ensures.begun site kept before (c.apply_done.ensures.applied site kept before h run) desk run)
    (c.begin.ensures site kept before (rw c.begin_outputs.ensures.same.desk desk) tick) (c.begin_outputs.ensures.same.counts ∙ same.counts)
    (c.begin_outputs.ensures.same.plan ∙ same.plan) (c.begin_outputs.ensures.same.ring ∙ same.ring))

pub returns-clause-marks : goal.returns-clause-marks
returns-clause-marks c site kept before h run p member unmarked =
    begun_marks site kept before c.args.self.now h c.is_empty-none_done.result p member
    (λ e. ap length (sym c.done.ensures) ∙ eq_is (length c.done.result.now) 0 (sym c.is_empty-none_done.ensures ∙ e)) unmarked

pub returns-clause-unmarked : goal.returns-clause-unmarked
returns-clause-unmarked c site kept before panel h member none =
    begun_unmarked site kept before c.args.self.now h c.is_empty-none_done.result panel member
    (c.is_empty-none_done.ensures ∙ eq_true (length c.done.result.now) 0 (ap length c.done.ensures ∙ did_none site kept before c.args.self.now h none))

pub begin_outputs-requires : goal.begin_outputs-requires
begin_outputs-requires c =
    let r = c.requires in
    record {
      site = r.site;
      kept = r.kept;
      before = r.before;
      has = c.apply_done.ensures.applied r.site r.kept r.before r.stands r.run;
      desk = rw c.apply_done.ensures.same.desk r.stands.desk;
      run = r.run;
    }
