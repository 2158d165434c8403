use Rattle.std.proofs.Common.{◌∙◌, ◌<◌, sym, subst, length}
use Rattle.std.proofs.lemmas.List.{length-set}
use Rattle.panel_audit.specs.Scans.{TellsBaseless}
use Rattle.panel_audit.proofs.WrittenMarks.{written_all, written_more}
use Rattle.panel_audit.proofs.baseless.mark_baseless.Goals as goal

pub loop-place-preserved : goal.loop-place-preserved
loop-place-preserved c =
    let before = c.loop-place.invariant in
    let marks = c.loop-place.marks in
    let place = c.loop-place.place in (
      length-set marks place c.is_baseless.result ∙ before.0,
      written_more (TellsBaseless c.args.site.now c.args.faces.now c.args.heard.now) marks place c.is_baseless.result
          (subst (λ n. place < n) (sym before.0) c.loop-place-test.true) c.is_baseless.ensures before.1,
    )

pub returns-clause-marks : goal.returns-clause-marks
returns-clause-marks c =
    written_all (TellsBaseless c.args.site.now c.args.faces.now c.args.heard.now) c.loop-place.marks c.loop-place.place
    (length c.args.marks.now) c.loop-place.invariant.0 c.loop-place-test.false c.loop-place.invariant.1
