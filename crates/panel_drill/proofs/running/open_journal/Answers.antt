use Rattle.std.proofs.Common.{◌∙◌}
use Rattle.panel_drill.proofs.Opened.{keeps_nothing}
use Rattle.panel_drill.proofs.running.open_journal.Goals as goal

pub returns-in-Ok-clause-journal : goal.returns-in-Ok-clause-journal
returns-in-Ok-clause-journal c = record {
  kept = c.in-Ok.ensures.kept ∙ keeps_nothing c.args.wide c.args.digest c.in-Ok.field-0-1 c.args.disk.now.bytes.items c.requires c.in-Ok.ensures.ok;
  same_wide = c.in-Ok.ensures.fresh.same_wide;
  attempt = c.in-Ok.ensures.fresh.attempt;
  untried = c.in-Ok.ensures.fresh.tried;
  stands = c.in-Ok.ensures.stands;
}
