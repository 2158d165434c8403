use Rattle.std.proofs.Common.{◌≡◌, ap, arith, false, subst, sym}
use Rattle.std.specs.Prelude.{◌↔◌, IsTrue, nat_lt}
use Rattle.std.proofs.lemmas.Option.{slice_get_within}
use Rattle.panel_rules.specs.Moments.{moments}
use Rattle.panel_rules.specs.Zones.{panel_of, panel_of_zone}
use Rattle.site_types.proofs.Done.{lt_false}
use Rattle.panel_rules.proofs.Floors.{lt_to}
use Rattle.audit_rules.specs.Hearing.{MayBeHeard}
use Rattle.shown_causes.proofs.HeardCauses.{else_is, then_is, call_heard}
use Rattle.shown_causes.proofs.shown_causes.ShownCauses.is_call_heard.Goals as goal

pub returns-then-last-gt0 : goal.returns-then-last-gt0
returns-then-last-gt0 c site kept operations timeline ticks stands joined at =
    let last = c.last_call-last.result in
    let told = c.last_call-last.ensures site kept operations ticks stands.caused (slice_get_within site.zones c.args.zone c.args.plan.now at) in
    let own : panel_of_zone site c.args.zone ≡ c.args.plan.now.panel = ap panel_of at in
    then_is (nat_lt 0 last) c.may_be_heard.result _ (lt_to 0 last c.if-last-gt0.true)
    (call_heard site timeline kept operations ticks c.args.panel c.args.zone last c.may_be_heard.result told
    (λ one. subst (λ p. IsTrue c.may_be_heard.result ↔ MayBeHeard site (moments ticks) c.args.panel p last) (sym own)
    (c.may_be_heard.ensures site kept operations timeline ticks stands joined told.past)))

pub returns-else-last-gt0 : goal.returns-else-last-gt0
returns-else-last-gt0 c site kept operations timeline ticks stands joined at =
    let last = c.last_call-last.result in
    let told = c.last_call-last.ensures site kept operations ticks stands.caused (slice_get_within site.zones c.args.zone c.args.plan.now at) in
    else_is (nat_lt 0 last) _ (lt_false 0 last c.if-last-gt0.false)
    (call_heard site timeline kept operations ticks c.args.panel c.args.zone last false told (λ one. absurd (let none = c.if-last-gt0.false in omega (arith, one, none))))
