use Rattle.std.proofs.Common.{◌∙◌}
use Rattle.panel_audit.proofs.ReadSteps.{reads_none}
use Rattle.panel_audit.proofs.judge.Judge.new.Goals as goal

pub returns : goal.returns
returns c =
    let site = c.requires.site in
    let kept = c.args.kept.now in
    let operations = c.args.case.now.done.now in
    record {
      stands = λ order rise. record {
        signals = c.in_ok-new.ensures operations site order;
        least = c.in_ok-new-2.ensures kept operations site order;
        joined = c.new-3.ensures;
        dues = c.in_ok-new-3.ensures kept _;
        excused = c.in_ok-new-4.ensures operations order;
        causes = c.in_ok-new-5.ensures kept operations order rise;
        shown = reads_none c.args.case.now.timeline.now.steps rise;
      };
      rows = c.in_ok-no_rows.ensures ∙ c.len.ensures;
    }
