use Rattle.std.proofs.Common.{◌≡◌, ◌+◌, ◌∙◌, ap, sym, subst, ◌<◌, length, slice_index, slice_index_or}
use Rattle.site_types.specs.declared.point_state.PointState.TheVariants.{Quiet}
use Rattle.loop_poller.specs.PointSets.{tells_alarm, tells_nothing}
use Rattle.loop_poller.proofs.point_states.PointStates.alarms_in.Goals as goal

pub returns : goal.returns
returns c number k less small within =
    let place = slice_index c.args.firsts.now number + k in
    c.eights_from.ensures number k less small ∙ c.self.invariant.alarm.is place (subst (λ xs. place < length xs) (sym c.self.view_is) within)
    ∙ ap (λ xs. tells_alarm (slice_index_or xs place Quiet)) c.self.view_is
