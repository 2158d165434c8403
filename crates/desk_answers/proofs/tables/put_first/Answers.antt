use Rattle.std.proofs.Common.{codes, refl}
use Rattle.desk_answers.proofs.TableRows.{row_put}
use Rattle.desk_answers.proofs.tables.put_first.Goals as goal

pub returns-clause-text : goal.returns-clause-text
returns-clause-text c =
    let one = row_put (codes "{\"charger\":") c.greatest_charger_wait.result _ c.args.text.now.bytes _ _ refl c.put.ensures.text c.greatest_charger_wait.ensures in
    let two = row_put (codes ",\"disablement\":") c.disablement.result _ _ _ _ one c.put-2.ensures.text c.disablement.ensures in
    let three = row_put (codes ",\"fault\":") c.fault.result _ _ _ _ two c.put-3.ensures.text c.fault.ensures in
    let four = row_put (codes ",\"indication\":") c.signal.result _ _ _ _ three c.put-4.ensures.text c.signal.ensures in
    row_put (codes ",\"mains\":") c.greatest_mains_wait.result _ _ _ _ four c.put-5.ensures.text c.greatest_mains_wait.ensures
