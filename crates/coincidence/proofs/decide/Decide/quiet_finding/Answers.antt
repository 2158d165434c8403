use Rattle.std.proofs.Common.{◌∙◌, ap}
use Rattle.coincidence_rules.specs.declared.finding.Finding.{Finding}
use Rattle.coincidence.proofs.FindingIs.{quiet_is}
use Rattle.coincidence.proofs.decide.Decide.quiet_finding.Goals as goal

pub returns : goal.returns
returns c quiet site kept panel done taken stands fits =
    ap (λ (f : Finding). record f { missing = c.is_missing.result }) c.plain_finding.ensures
    ∙ quiet_is stands c.args.answer.now fits quiet c.at.result.now c.at.ensures c.is_missing.result c.is_missing.ensures
