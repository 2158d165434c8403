use Rattle.std.proofs.Common.{◌==◌, length, subst, sym}
use Rattle.std.specs.Prelude.{◌↔◌, ◌&&◌, IsTrue, nat_lt}
use Rattle.panel_rules.specs.Caused.{IsCausedAt}
use Rattle.panel_rules.specs.Moments.{moments, tick_of}
use Rattle.site_types.proofs.Done.{lt_false}
use Rattle.panel_rules.proofs.Floors.{lt_to}
use Rattle.blocked_points.specs.Operations.{done_newest_first}
use Rattle.shown_causes.proofs.HeardCauses.{caused_now, else_is, no_cause, then_is}
use Rattle.shown_causes.proofs.shown_causes.ShownCauses.is_caused_now.Goals as goal

pub returns-then-last-gt0 : goal.returns-then-last-gt0
returns-then-last-gt0 c site kept operations timeline ticks stands less =
    let last = c.last_alarm-last.result in
    let told = c.last_alarm-last.ensures site kept operations ticks stands.caused less in
    then_is (nat_lt 0 last) (last == c.args.self.now.latest.0) _ (lt_to 0 last c.if-last-gt0.true)
    (subst (λ n. IsTrue (nat_lt 0 last && (last == n))
    ↔ IsCausedAt site kept (done_newest_first operations) (moments ticks) c.args.zone (tick_of (moments ticks))) (sym stands.now)
    (caused_now site timeline kept operations ticks 0 c.args.zone last told))

pub returns-else-last-gt0 : goal.returns-else-last-gt0
returns-else-last-gt0 c site kept operations timeline ticks stands less =
    let last = c.last_alarm-last.result in
    let told = c.last_alarm-last.ensures site kept operations ticks stands.caused less in
    let none = lt_false 0 last c.if-last-gt0.false in
    else_is (nat_lt 0 last) _ none
    (no_cause (nat_lt 0 last) (last == length ticks) _ none (caused_now site timeline kept operations ticks 0 c.args.zone last told))
