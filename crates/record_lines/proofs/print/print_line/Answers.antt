use Rattle.std.proofs.Common.{sym, subst}
use Rattle.record_lines.specs.ReadBack.{ReadsBack}
use Rattle.record_lines.proofs.ReadBack.{printed_back}
use Rattle.record_lines.proofs.print.print_line.Goals as goal

pub returns-clause-read_back : goal.returns-clause-read_back
returns-clause-read_back c valid =
    subst (ReadsBack c.args.site.now c.args.line.now) (sym c.write_line.ensures) (printed_back c.args.site.now valid c.args.line.now)
