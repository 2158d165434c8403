use Rattle.std.proofs.Common.{refl}
use Rattle.operation_desk.proofs.Begun.{desk_begun}
use Rattle.operation_desk.proofs.desk.Desk.begin.Goals as goal

pub returns : goal.returns
returns c site kept before h now =
    desk_begun site kept before c.args.self.now _ h
    (record {
      now = now;
      number = refl;
      counts = refl;
      asked = c.clear.ensures;
      waiting = refl;
      done = c.clear-2.ensures;
      ops = c.clear-3.ensures;
      busy = refl;
      failed = refl;
    })
