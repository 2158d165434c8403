use Rattle.std.proofs.Common.{◌∙◌, inr, subst}
use Rattle.program_status.specs.declared.status.Status.TheVariants.{Done}
use Rattle.program_status.specs.Sayings.{Says}
use Rattle.panel_program.proofs.drilling.run_drill.Goals as goal

pub returns-in-Ok-clause-drills : goal.returns-in-Ok-clause-drills
returns-in-Ok-clause-drills g c =
    let old = g.K.Stream.written c.args.out.now in
    let new = g.K.Stream.written c.say.new.out in
    let line = c.in-Ok.ensures in
    inr (
      line.0,
      line.1,
      record {
        says = subst (λ text. Says Done text old new c.say.result.status) (c.as_bytes.ensures.value ∙ c.as_str.ensures.value ∙ line.2) c.say.ensures.says;
        ticks_run = c.say.ensures.ticks.0;
        failures = c.say.ensures.ticks.1;
      },
    )
