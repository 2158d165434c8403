use Rattle.std.proofs.Common.{ap, arith, subst, take}
use Rattle.std.proofs.lemmas.List.{take_all}
use Rattle.panel_rules.specs.Moments.{tick_of}
use Rattle.panel_rules.specs.Operations.{after_desk, operations, requests}
use Rattle.operation_desk.specs.Changes.{firsts_of}
use Rattle.operation_desk.specs.Stands.{TellsOutcomes}
use Rattle.operation_desk.proofs.Turns.{may_take, read_at, rest_then, took_more}
use Rattle.operation_desk.proofs.desk.Desk.take_own.Goals as goal

pub take_of-requires : goal.take_of-requires
take_of-requires c own =
    let r = c.requires in
    let rest = c.loop-place.invariant.rest in
    let within = c.loop-place-test.true in
    let count = c.len-place-end.ensures.value in
    let is =
    read_at c.args.self.now.asked.items _ _ c.loop-place.place _ c.as_slice.ensures.value (ap (λ a. a.items) rest.asked) (omega (arith, within, count))
    in
    record {
      kept = r.kept;
      asked = requests c.args.site.now r.before;
      tick = tick_of r.before;
      so_far =
          after_desk c.args.site.now r.kept (firsts_of c.args.panel (take c.loop-place.place c.args.self.now.asked.items))
          (operations c.args.site.now r.kept r.before);
      stands = c.loop-place.invariant.took r.kept r.before r.stands r.may;
      may = may_take c.args.site.now r.kept c.args.settings.now c.args.panel r.before c.args.self.now r.stands r.may c.loop-place.place _ is own;
    }

pub loop-place-preserved : goal.loop-place-preserved
loop-place-preserved c =
    let rest = c.loop-place.invariant.rest in
    let within = c.loop-place-test.true in
    let count = c.len-place-end.ensures.value in
    record {
      rest = rest_then c.args.self.now c.loop-place.self c.take_of.new.self rest c.take_of.ensures.rest;
      took =
          λ kept before h m. took_more c.args.site.now kept c.args.settings.now c.args.panel before c.args.self.now h m c.loop-place.place _
          (read_at c.args.self.now.asked.items _ _ c.loop-place.place _ c.as_slice.ensures.value (ap (λ a. a.items) rest.asked)
          (omega (arith, within, count))) c.loop-place.self c.take_of.new.self c.take_of.ensures.own c.take_of.ensures.other
          (c.loop-place.invariant.took kept before h m);
    }

pub returns-clause-took : goal.returns-clause-took
returns-clause-took c kept before h m =
    let past = c.loop-place-test.false in
    let count = c.len-place-end.ensures.value in
    subst
    (λ xs. TellsOutcomes c.args.site.now kept (requests c.args.site.now before) (tick_of before)
    (after_desk c.args.site.now kept (firsts_of c.args.panel xs) (operations c.args.site.now kept before)) c.loop-place.self)
    (take_all c.loop-place.place c.args.self.now.asked.items (omega (arith, past, count))) (c.loop-place.invariant.took kept before h m)
