use Rattle.audit_rules.proofs.SmallCases.{passes_one, fails_unshown, fails_uncaused}
use Rattle.audit_rules.proofs.examples.small_cases_are_judged.Goals as goal

pub returns-clause-passes : goal.returns-clause-passes
returns-clause-passes c = passes_one

pub returns-clause-unshown : goal.returns-clause-unshown
returns-clause-unshown c = fails_unshown

pub returns-clause-uncaused : goal.returns-clause-uncaused
returns-clause-uncaused c = fails_uncaused
