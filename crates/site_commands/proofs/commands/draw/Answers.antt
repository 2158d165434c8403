use Rattle.std.proofs.Common.{subst, inr}
use Rattle.program_status.specs.declared.status.Status.TheVariants.{Done}
use Rattle.program_status.specs.Sayings.{Says}
use Rattle.site_commands.proofs.commands.draw.Goals as goal

pub returns-in-Ok-clause-drawn : goal.returns-in-Ok-clause-drawn
returns-in-Ok-clause-drawn g c = inr (
  c.in-Ok.text,
  c.in-Ok.ensures,
  record {
    says = subst (λ text. Says Done text (g.K.Stream.written c.args.out.now) (g.K.Stream.written c.say.new.out) c.say.result.status) c.as_slice.ensures
        c.say.ensures.says;
    ticks = c.say.ensures.ticks.0;
    failures = c.say.ensures.ticks.1;
  },
)
