use Rattle.std.proofs.Common.{sym, ◌∙◌}
use Rattle.cause_effect.proofs.Left.{leaves_cycles}
use Rattle.cause_effect.proofs.Orders.{order_is_free}
use Rattle.cause_effect.proofs.compiled.compile.Goals as goal

pub cycle_from-requires-clause-left : goal.cycle_from-requires-clause-left
cycle_from-requires-clause-left c = let e = c.in_ok-arranged.ensures in leaves_cycles c.args.site.now c.in_ok-arranged.arranged c.requires e

pub returns-in_ok-outputs_by_panel-in-None-clause-free : goal.returns-in_ok-outputs_by_panel-in-None-clause-free
returns-in_ok-outputs_by_panel-in-None-clause-free c =
    let e = c.in_ok-arranged.ensures in
    order_is_free c.args.site.now c.in_ok-arranged.arranged.order (record {
      whole = λ m within. sym (e.same m) ∙ c.in-None.ensures m within;
      once =
          e.once;
      rising = e.rising;
    })
