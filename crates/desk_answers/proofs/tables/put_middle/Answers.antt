use Rattle.std.proofs.Common.{codes, refl}
use Rattle.desk_answers.proofs.TableRows.{row_put}
use Rattle.desk_answers.proofs.tables.put_middle.Goals as goal

pub returns-clause-text : goal.returns-clause-text
returns-clause-text c =
    let one = row_put (codes ",\"missing\":") c.missing.result _ c.args.text.now.bytes _ _ refl c.put.ensures.text c.missing.ensures in
    let two = row_put (codes ",\"network\":") c.network.result _ _ _ _ one c.put-2.ensures.text c.network.ensures in
    let three = row_put (codes ",\"output\":") c.output.result _ _ _ _ two c.put-3.ensures.text c.output.ensures in
    let four = row_put (codes ",\"reset\":") c.reset.result _ _ _ _ three c.put-4.ensures.text c.reset.ensures in
    row_put (codes ",\"routing\":") c.routing.result _ _ _ _ four c.put-5.ensures.text c.routing.ensures
