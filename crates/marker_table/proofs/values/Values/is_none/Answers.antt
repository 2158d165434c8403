use Rattle.std.proofs.Common.{rules}
use Rattle.marker_table.proofs.NoneTrue.{is_none_exact}
use Rattle.marker_table.proofs.values.Values.is_none.Goals as goal

pub returns : goal.returns
returns c = is_none_exact c.args.self.now (search rules) (search rules)
