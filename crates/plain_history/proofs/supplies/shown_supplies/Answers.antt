use Rattle.std.proofs.Common.{◌∙◌}
use Rattle.supply_monitor.specs.Supply.{is_shown, kind_at}
use Rattle.supply_monitor.proofs.Four.{mask_of_four}
use Rattle.panel_rules.specs.Faults.{supply_calls}
use Rattle.plain_history.specs.Histories.{history}
use Rattle.plain_history.proofs.supplies.shown_supplies.Goals as goal

pub returns : goal.returns
returns c =
    c.mask_from_8.ensures
    ∙ mask_of_four _ _ _ _ (λ k. is_shown c.args.waits.now (kind_at k) (supply_calls c.args.panel (history c.args.moments.now))) c.is_shown.ensures
    c.is_shown-2.ensures c.is_shown-3.ensures c.is_shown-4.ensures
