use Rattle.std.proofs.Common.{◌≡◌, ◌+◌, ◌*◌, ◌%◌, ℕ, ◌-◌}
use Rattle.std.specs.List.{filter_map, range_with_len}
use Rattle.tick_units.specs.Lane.{with_put}
use Rattle.site_types.specs.declared.point_state.PointState.{PointState as State}
use Rattle.site_types.specs.declared.site.Site.{Site as SiteOf}
use Rattle.site_types.specs.Profile.{round_of}
use Rattle.site_types.specs.Valid.{IsValid}
use Rattle.isolators.specs.Reach.{Cable}
use Rattle.loop_poller.specs.Asked.{answer_from}
use Rattle.loop_poller.specs.Stands.{AreStates, LineStands}
use Rattle.loop_poller.proofs.Lanes.{GotFew}
use Rattle.loop_poller.proofs.polled_line.PolledLine.ask.Given as goal

abbrev pub invariant-loop-address : goal.invariant-loop-address
invariant-loop-address l = record {
  few : GotFew l.fn.answers l.answers (l.address - l.first);
  put : (site : SiteOf) (panel line : ℕ) (points : ℕ → State) (cables : ℕ → Cable) → IsValid site → LineStands site panel line (cables line) l.self
      → AreStates site points l.states → l.first ≡ 8 * (l.now.0 % round_of site.format) + 1
      → l.answers
      ≡ with_put l.fn.answers (filter_map (answer_from site panel points cables l.now.0 line) (range_with_len l.first (l.address - l.first)));
}
