use Rattle.std.proofs.Common.{arith}
use Rattle.panel_core.proofs.system.System.keep.Goals as goal

pub has_kept_all-requires : goal.has_kept_all-requires
has_kept_all-requires g c =
    let h = c.requires.may.stands in
    let count = h.count in
    let few = h.valid.forms.panels.1 in
    omega (arith, count, few)

pub keep_nothing-requires-clause-all : goal.keep_nothing-requires-clause-all
keep_nothing-requires-clause-all g c = c.has_kept_all.ensures c.if-has_kept_all.true
