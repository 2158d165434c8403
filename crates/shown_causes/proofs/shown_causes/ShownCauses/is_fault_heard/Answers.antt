use Rattle.std.proofs.Common.{None, Some, subst, sym}
use Rattle.audit_rules.specs.Shown.{text_tells_fault}
use Rattle.shown_causes.specs.Faults.{FaultsStand, IsLastTold}
use Rattle.shown_causes.proofs.HeardCauses.{fault_heard, no_fault}
use Rattle.shown_causes.proofs.shown_causes.ShownCauses.is_fault_heard.Goals as goal

pub returns-in-None : goal.returns-in-None
returns-in-None c site kept operations timeline ticks stands joined =
    let told = c.last_of.ensures timeline (subst (λ n. FaultsStand timeline n c.args.self.now.faults) (sym stands.now) stands.faults) in
    no_fault site timeline kept operations ticks c.args.panel c.args.source
    (subst (λ n. IsLastTold (text_tells_fault timeline c.args.source) n None) stands.now
    (subst (IsLastTold (text_tells_fault timeline c.args.source) c.args.self.now.latest.0) c.in-None.is told))

pub returns-in-Some : goal.returns-in-Some
returns-in-Some c site kept operations timeline ticks stands joined =
    let told = c.last_of.ensures timeline (subst (λ n. FaultsStand timeline n c.args.self.now.faults) (sym stands.now) stands.faults) in
    let last = subst (λ n. IsLastTold (text_tells_fault timeline c.args.source) n (Some c.in-Some.last)) stands.now
    (subst (IsLastTold (text_tells_fault timeline c.args.source) c.args.self.now.latest.0) c.in-Some.is told) in
    fault_heard site timeline kept operations ticks c.args.panel c.args.source c.in-Some.last c.may_be_heard.result last
    (c.may_be_heard.ensures site kept operations timeline ticks stands joined last.0.0)
