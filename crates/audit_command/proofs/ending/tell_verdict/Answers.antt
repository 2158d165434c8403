use Rattle.std.proofs.Common.{◌≡◌, ◌∙◌, ℕ, List, subst, sym}
use Rattle.audit_rules.specs.declared.verdict.Verdict.{Verdict}
use Rattle.program_status.specs.Sayings.{Says}
use Rattle.program_status.specs.declared.status.Status.TheVariants.{AuditFailed}
use Rattle.site_commands.specs.Commands.{Tells}
use Rattle.audit_command.specs.Lines.{failed_line}
use Rattle.audit_command.specs.Endings.{verdict_status, verdict_text}
use Rattle.audit_command.proofs.ending.tell_verdict.Goals as goal

pub returns-in-Failed-clause-tells : goal.returns-in-Failed-clause-tells
returns-in-Failed-clause-tells g c =
    let old = g.K.Stream.written c.args.out.now in
    let new = g.K.Stream.written c.say-in-Failed.new.out in
    let said : List ℕ = failed_line c.in-Failed.tick c.in-Failed.rule c.in-Failed.panel c.in-Failed.number in
    let text : c.as_bytes-in-Failed.result.now ≡ said =
    ◌∙◌ {c = said} c.as_bytes-in-Failed.ensures.value (◌∙◌ {c = said} c.as_str-in-Failed.ensures.value c.failed_line-line.ensures) in
    subst (λ (verdict : Verdict). Tells (verdict_status verdict) (verdict_text verdict) old new c.say-in-Failed.result) (sym c.in-Failed.is)
    (record {
      says = subst (λ line. Says AuditFailed line old new c.say-in-Failed.result.status) text c.say-in-Failed.ensures.says;
      ticks = c.say-in-Failed.ensures.ticks.0;
      failures = c.say-in-Failed.ensures.ticks.1;
    })
