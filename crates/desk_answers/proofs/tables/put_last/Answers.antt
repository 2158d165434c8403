use Rattle.std.proofs.Common.{codes, refl}
use Rattle.desk_answers.proofs.TableRows.{row_put}
use Rattle.desk_answers.proofs.tables.put_last.Goals as goal

pub returns-clause-text : goal.returns-clause-text
returns-clause-text c =
    let one = row_put (codes ",\"signal\":") c.signal.result _ c.args.text.now.bytes _ _ refl c.put.ensures.text c.signal.ensures in
    let two = row_put (codes ",\"silent\":") c.silent.result _ _ _ _ one c.put-2.ensures.text c.silent.ensures in
    let three = row_put (codes ",\"standby\":") c.greatest_standby_wait.result _ _ _ _ two c.put-3.ensures.text c.greatest_standby_wait.ensures in
    let four = row_put (codes ",\"verify\":") c.verify.result _ _ _ _ three c.put-4.ensures.text c.verify.ensures in
    row_put (codes ",\"voltage\":") c.greatest_voltage_wait.result _ _ _ _ four c.put-5.ensures.text c.greatest_voltage_wait.ensures
