-- The breach that is told of a tick.
use Rattle.std.specs.Prelude.{ℕ}
use Rattle.audit_rules.specs.declared.audit_rule.AuditRule.{AuditRule}
use Rattle.audit_rules.specs.Breaches.{Breach}
use Rattle.panel_audit.specs.declared.broken.Broken.{Broken}
use Rattle.panel_audit.specs.declared.numbered.Numbered.{Numbered}

-- a zone at a panel, and an output
abbrev pub broken_zone : AuditRule → ℕ → Numbered → Broken
broken_zone rule panel zone = record { rule = rule; panel = panel; owner = zone.panel; number = zone.number }

abbrev pub broken_output : AuditRule → Numbered → Broken
broken_output rule output =
    record { rule = rule; panel = output.panel; owner = output.panel; number = output.number }

-- after a tick
abbrev pub breach_in : ℕ → Broken → Breach
breach_in tick broken =
    record {
      tick = tick;
      rule = broken.rule;
      panel = broken.panel;
      owner = broken.owner;
      number = broken.number;
    }
