use Rattle.std.proofs.Common.{◌≡◌, length, arith}
use Rattle.operation_desk.proofs.Turned.{desk_passed}
use Rattle.operation_desk.proofs.desk.Desk.turn.Goals as goal

pub returns-then-is_empty : goal.returns-then-is_empty
returns-then-is_empty c kept before h m =
    let none : length c.args.self.now.asked.items ≡ 0 = grind (arith, c.is_empty.ensures, c.if-is_empty.true) in
    desk_passed c.args.site.now kept c.args.settings.now c.args.panel before c.args.self.now h m none
