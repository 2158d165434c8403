use Rattle.std.proofs.Common.{refl}
use Rattle.operation_desk.proofs.Keeping.{desk_kept}
use Rattle.operation_desk.proofs.desk.Desk.keep.Goals as goal

pub returns : goal.returns
returns c site kept before h m =
    desk_kept site kept c.args.failed before c.args.self.now h m c.answer_waiting.new.self _ (c.answer_waiting.ensures.told site kept before h m)
    c.answer_waiting.ensures.rest refl refl refl refl c.clear.ensures refl refl refl refl
