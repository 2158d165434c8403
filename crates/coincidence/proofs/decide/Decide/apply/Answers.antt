use Rattle.std.proofs.Common.{◌<◌, ◌∷◌, refl, sym, subst}
use Rattle.std.proofs.lemmas.Bool.{eq-eqb}
use Rattle.site_types.specs.declared.operation.Operation.TheVariants.{Disable, Enable, Test, Untest}
use Rattle.coincidence.specs.Stands.{CanApply, DecidesFor}
use Rattle.coincidence.specs.Premises.{MayApply}
use Rattle.coincidence.proofs.AppliedOperation.{done_now, zone_since}
use Rattle.coincidence.proofs.OperationKinds.{can_forget, forgotten, own_zone, own_small, reset_stands, cancel_stands, test_stands, untest_stands, idle_is, idle_stands}
use Rattle.coincidence.proofs.decide.Decide.apply.Goals as goal

pub set_test-requires : goal.set_test-requires
set_test-requires c =
    let zone = c.in-Test.zone in
    let q : CanApply c.args.self.now (Test zone) c.args.at.0 = subst (λ o. CanApply c.args.self.now o c.args.at.0) c.in-Test.is c.requires in
    (zone_since q.stands (Test zone) c.args.at q.may zone (own_zone q.site q.panel zone q.may.own) c.index_mut-in-Test.result.now
    c.index_mut-in-Test.ensures.value).1 (eq-eqb zone zone refl)

pub index_mut-requires-in-Untest : goal.index_mut-requires-in-Untest
index_mut-requires-in-Untest c =
    let zone = c.in-Untest.zone in
    let q : CanApply c.args.self.now (Untest zone) c.args.at.0 = subst (λ o. CanApply c.args.self.now o c.args.at.0) c.in-Untest.is c.requires in
    subst (λ n. zone < n) (sym c.args.self.now.zones.ok.0) (own_small q.stands c.args.at zone (own_zone q.site q.panel zone q.may.own))

pub set_test-requires-in-Untest : goal.set_test-requires-in-Untest
set_test-requires-in-Untest c =
    let zone = c.in-Untest.zone in
    let q : CanApply c.args.self.now (Untest zone) c.args.at.0 = subst (λ o. CanApply c.args.self.now o c.args.at.0) c.in-Untest.is c.requires in
    (zone_since q.stands (Untest zone) c.args.at q.may zone (own_zone q.site q.panel zone q.may.own) c.index_mut-in-Untest.result.now
    c.index_mut-in-Untest.ensures.value).1 (eq-eqb zone zone refl)

pub returns-in-Reset : goal.returns-in-Reset
returns-in-Reset c site kept panel done taken stands may =
    reset_stands (forgotten stands c.clear.new.self c.clear.ensures) c.args.at c.clear.ensures.none c.args.operation.now may
    c.raise.new.self c.in-Reset.is c.raise.ensures

pub returns-in-Cancel : goal.returns-in-Cancel
returns-in-Cancel c site kept panel done taken stands may =
    cancel_stands (forgotten stands c.clear.new.self c.clear.ensures) c.args.at c.clear.ensures.none c.args.operation.now may
    c.in-Cancel.zone c.index_mut.result.now c.cancel.new.self c.index_mut.ensures.value
    c.in-Cancel.is c.cancel.ensures

pub returns-in-Test : goal.returns-in-Test
returns-in-Test c site kept panel done taken stands may =
    test_stands (forgotten stands c.clear.new.self c.clear.ensures) c.args.at c.clear.ensures.none c.args.operation.now may
    c.in-Test.zone c.index_mut-in-Test.result.now c.set_test.new.self
    c.index_mut-in-Test.ensures.value c.in-Test.is c.set_test.ensures

pub returns-in-Untest : goal.returns-in-Untest
returns-in-Untest c site kept panel done taken stands may =
    untest_stands (forgotten stands c.clear.new.self c.clear.ensures) c.args.at c.clear.ensures.none c.args.operation.now may
    c.in-Untest.zone c.index_mut-in-Untest.result.now c.set_test-in-Untest.new.self
    c.index_mut-in-Untest.ensures.value c.in-Untest.is c.set_test-in-Untest.ensures

pub returns-in-Disable : goal.returns-in-Disable
returns-in-Disable c site kept panel done taken stands may =
    subst (λ o. DecidesFor site kept panel (done_now c.args.at panel o ∷ done) taken c.set_off.new.self) (sym c.in-Disable.is)
    (c.set_off.ensures site kept panel done taken (forgotten stands c.clear.new.self c.clear.ensures) (subst (λ o. MayApply site panel done taken o c.args.at.0) c.in-Disable.is may))

pub returns-in-Enable : goal.returns-in-Enable
returns-in-Enable c site kept panel done taken stands may =
    subst (λ o. DecidesFor site kept panel (done_now c.args.at panel o ∷ done) taken c.set_off-in-Enable.new.self) (sym c.in-Enable.is)
    (c.set_off-in-Enable.ensures site kept panel done taken (forgotten stands c.clear.new.self c.clear.ensures) (subst (λ o. MayApply site panel done taken o c.args.at.0) c.in-Enable.is may))

pub returns-in-Mute : goal.returns-in-Mute
returns-in-Mute c site kept panel done taken stands may =
    idle_stands (forgotten stands c.clear.new.self c.clear.ensures) c.args.at c.clear.ensures.none c.args.operation.now may
    (idle_is c.args.at panel c.args.operation.now c.in-Mute.is)

pub set_off-requires-clause-can : goal.set_off-requires-clause-can
set_off-requires-clause-can c =
    can_forget c.args.self.now (Disable c.in-Disable.item) c.args.at.0 c.clear.new.self c.clear.ensures
    (subst (λ o. CanApply c.args.self.now o c.args.at.0) c.in-Disable.is c.requires)

pub set_off-requires-in-Enable-clause-can : goal.set_off-requires-in-Enable-clause-can
set_off-requires-in-Enable-clause-can c =
    can_forget c.args.self.now (Enable c.in-Enable.item) c.args.at.0 c.clear.new.self c.clear.ensures
    (subst (λ o. CanApply c.args.self.now o c.args.at.0) c.in-Enable.is c.requires)
