use Rattle.std.proofs.Common.{◌∙◌, Result, subst, sym}
use Rattle.program_status.specs.Sayings.{Says}
use Rattle.program_status.specs.declared.status.Status.TheVariants.{Done}
use Rattle.register_import.specs.declared.imported.Imported.{Imported}
use Rattle.site_commands.specs.Commands.{Tells}
use Rattle.import_command.specs.Endings.{import_status, import_text}
use Rattle.import_command.specs.declared.import_stop.ImportStop.{ImportStop}
use Rattle.import_command.proofs.ending.tell.Goals as goal

pub returns-in-Ok-clause-tells : goal.returns-in-Ok-clause-tells
returns-in-Ok-clause-tells g c =
    let old = g.K.Stream.written c.args.out.now in
    let new = g.K.Stream.written c.say.new.out in
    let text = c.as_bytes.ensures.value ∙ c.as_str.ensures.value ∙ c.imported_line-line.ensures in
    subst (λ (taken : Result Imported ImportStop). Tells (import_status taken) (import_text c.args.name.now taken) old new c.say.result) (sym c.in-Ok.is)
    (record {
      says = subst (λ said. Says Done said old new c.say.result.status) text c.say.ensures.says;
      ticks = c.say.ensures.ticks.0;
      failures = c.say.ensures.ticks.1;
    })
