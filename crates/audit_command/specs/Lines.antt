-- The lines that tell a verdict.
use Rattle.std.specs.Prelude.{ℕ, List, ◌++◌, codes, decimal}
use Rattle.audit_rules.specs.declared.audit_rule.AuditRule.{AuditRule}
use Rattle.audit_rules.specs.declared.audit_rule.AuditRule.TheVariants as rule

-- no rule is broken in so many ticks
abbrev pub passed_line : ℕ → List ℕ
passed_line ticks = codes "passed ticks " ++ decimal ticks ++ codes "\n"

abbrev pub rule_word : AuditRule → List ℕ
rule_word rule.Length = codes "length"
rule_word rule.Answer = codes "answer"
rule_word rule.Indication = codes "indication"
rule_word rule.Output = codes "output"
rule_word rule.Zone = codes "zone"
rule_word rule.Cause = codes "cause"

-- the first rule that is broken, and where
abbrev pub failed_line : ℕ → AuditRule → ℕ → ℕ → List ℕ
failed_line tick broken panel number = codes "failed tick " ++ decimal tick ++ codes " rule " ++ rule_word broken
    ++ codes " panel " ++ decimal panel ++ codes " number " ++ decimal number ++ codes "\n"

-- the first line that no text has there
abbrev pub bad_line : ℕ → List ℕ
bad_line line = codes "refused text " ++ decimal line ++ codes "\n"
