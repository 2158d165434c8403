use Rattle.std.proofs.Common.{List, sym, subst}
use Rattle.loop_poller.specs.declared.poller.Poller.{Poller}
use Rattle.loop_poller.specs.Calls.{Call}
use Rattle.loop_poller.specs.Stands.{StandsFor}
use Rattle.part_trials.proofs.polling.poll.Goals.{else-step-tick, then-step-tick+in_ok-next}
use Rattle.part_trials.proofs.polling.poll.Goals as goal

pub loop-step-preserved : goal.loop-step-preserved
loop-step-preserved c = elim c.if-step-tick.branch [
  | then-step-tick+in_ok-next w ↦
      subst (λ (poller : Poller). (calls : List Call) × StandsFor c.args.site.now 1 calls poller) (sym w.poller-is) w.take_step.ensures
  | else-step-tick w ↦
      subst (λ (poller : Poller). (calls : List Call) × StandsFor c.args.site.now 1 calls poller) (sym w.poller-is) c.loop-step.invariant
]
