use Rattle.std.proofs.Common.{[]}
use Rattle.panel_parts.proofs.parts.Parts.new.Goals as goal

pub returns : goal.returns
returns c told =
    let site = c.args.site.now in
    record {
      member = c.requires.member;
      polls = c.in_ok-poller.ensures;
      answers = c.in_ok-answers.ensures;
      decides = c.in_ok-decide.ensures;
      findings = c.in_ok-findings.ensures;
      holds = c.in_ok-hold.ensures c.requires.valid;
      supplies = c.new-6.ensures;
      effects = c.new-7.ensures site told.facts c.requires.plan.is;
      drives = c.new-8.ensures told.facts [];
    }
