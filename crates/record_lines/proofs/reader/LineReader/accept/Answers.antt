use Rattle.std.proofs.Common.{sym, subst}
use Rattle.record_lines.specs.Stands.{Accepts}
use Rattle.record_lines.proofs.reader.LineReader.accept.Goals as goal

pub returns-in-Order : goal.returns-in-Order
returns-in-Order c = subst (λ line. Accepts c.args.self.now line c.accept_order.new.self) (sym c.in-Order.is) (c.accept_order.ensures _)
