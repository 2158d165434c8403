use Rattle.std.proofs.Common.{refl}
use Rattle.panel_audit.proofs.OutputCauses.{all_solved}
use Rattle.panel_audit.proofs.baseless.nothing_heard.Goals as goal

pub returns : goal.returns
returns c site plan =
    let goes = c.new.ensures site plan in
    all_solved site _ (record { facts = refl; solution = goes.solution })
