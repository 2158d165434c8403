use Rattle.std.proofs.Common.{◌≡◌, ◌+◌, ◌-◌, ◌≤◌, ◌<◌, not, subst}
use Rattle.std.specs.Prelude.{◌↔◌, IsTrue, nat_le}
use Rattle.panel_rules.specs.Moments.{moments, tick_of}
use Rattle.panel_rules.specs.Ring.{AreJoined}
use Rattle.panel_rules.proofs.Floors.{le_to}
use Rattle.shown_causes.proofs.HeardCauses.{heard_is, late_le, or_else_is, recent_is}
use Rattle.shown_causes.proofs.shown_causes.ShownCauses.may_be_heard.Goals as goal

pub returns-then-oldest-stamp : goal.returns-then-oldest-stamp
returns-then-oldest-stamp c site kept operations timeline ticks stands joined by =
    let oldest : c.saturating_sub-oldest.result ≡ c.args.self.now.latest.0 - c.args.self.now.network = c.saturating_sub-oldest.ensures in
    recent_is site ticks c.args.panel c.args.source c.args.self.now.latest.0 c.args.self.now.network c.args.stamp _ stands.now stands.network by
    (subst (λ n. n ≤ c.args.stamp) oldest c.if-oldest-stamp.true) (le_to c.saturating_sub-oldest.result c.args.stamp c.if-oldest-stamp.true)

pub returns-else-oldest-stamp : goal.returns-else-oldest-stamp
returns-else-oldest-stamp c site kept operations timeline ticks stands joined by =
    let latest = c.args.self.now.latest.0 in
    let network = c.args.self.now.network in
    let oldest : c.saturating_sub-oldest.result ≡ latest - network = c.saturating_sub-oldest.ensures in
    or_else_is (nat_le (latest - network) c.args.stamp) (not c.are_joined_since.result) _
    (late_le (latest - network) c.args.stamp (subst (λ n. c.args.stamp < n) oldest c.if-oldest-stamp.false))
    (heard_is site ticks c.args.panel c.args.source latest network c.args.stamp c.are_joined_since.result stands.now stands.network by
    (subst (λ n. IsTrue c.are_joined_since.result
    ↔ AreJoined site.panels (moments ticks) c.args.source c.args.panel (n + 1) (tick_of (moments ticks))) oldest
    (c.are_joined_since.ensures site ticks joined)))
