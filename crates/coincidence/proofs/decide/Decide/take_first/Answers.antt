use Rattle.std.proofs.Common.{◌<◌, ◌∷◌, [], sym, subst, arith}
use Rattle.coincidence.specs.ChangedBlocks.{TakesFirst, TakesPlainly}
use Rattle.coincidence.specs.PlainZones.{KnowsZone}
use Rattle.coincidence.specs.Stands.{CanTake}
use Rattle.coincidence.proofs.ChangedBlocks.{can_item, none_first, passed_to, taken_on}
use Rattle.coincidence.proofs.decide.Decide.take_first.Goals as goal

pub loop-found-init : goal.loop-found-init
loop-found-init c =
    let found = c.heard_in-found in
    record {
      first = none_first c.args.self.now c.args.block.now found.result found.ensures.none;
      ahead = λ k from small. found.ensures.heard k (omega arith) small;
      known = tt;
    }

pub take_plainly-requires-clause-can : goal.take_plainly-requires-clause-can
take_plainly-requires-clause-can c =
    let l = c.loop-found in
    let pass = c.next_changing.ensures in
    let next = c.next_changing.result in
    let most = pass.most in
    let small : next < 32 = let other = c.if-found-eq32.false in omega (arith, most, other) in
    subst (λ a. CanTake l.self (a ∷ [])) (sym c.item_at-answer.ensures)
    (can_item c.args.self.now c.args.block.now l.self (record l.found { count = next })
    (passed_to c.args.self.now c.args.block.now c.requires.numbers l.self l.found next l.invariant.first l.invariant.ahead pass) small c.requires.can)

pub take_plainly-requires-clause-known : goal.take_plainly-requires-clause-known
take_plainly-requires-clause-known c =
    let l = c.loop-found in
    subst (λ a. KnowsZone a.stamp.0 l.self l.known) (sym c.item_at-answer.ensures) l.invariant.known

pub loop-found-preserved : goal.loop-found-preserved
loop-found-preserved c =
    let l = c.loop-found in
    let telling = c.with_bit_32 in
    let missing = c.with_bit_32-in-loop-found in
    let pass = c.next_changing.ensures in
    let next = c.next_changing.result in
    let least = pass.least in
    let most = pass.most in
    let small : next < 32 = let other = c.if-found-eq32.false in omega (arith, most, other) in
    let after = c.take_plainly.new.self in
    let both = taken_on c.args.self.now c.args.block.now c.requires.numbers l.self after (record l.found { count = next }) c.in-Some.one
    telling.result missing.result
    (passed_to c.args.self.now c.args.block.now c.requires.numbers l.self l.found next l.invariant.first l.invariant.ahead pass)
    (λ k from within. l.invariant.ahead k (omega (arith, least, from)) within) small
    (subst (λ a. TakesPlainly l.self a c.in-Some.one after) c.item_at-answer.ensures c.in-Some.ensures.some)
    telling.ensures.this telling.ensures.others missing.ensures.this missing.ensures.others in
    record {
      first = both.0;
      ahead = both.1;
      known = subst (λ a. KnowsZone a.stamp.0 after c.take_plainly.new.known) c.item_at-answer.ensures c.take_plainly.ensures.known;
    }

pub returns-then-found-eq32 : goal.returns-then-found-eq32
returns-then-found-eq32 c =
    passed_to c.args.self.now c.args.block.now c.requires.numbers c.loop-found.self c.loop-found.found c.next_changing.result
    c.loop-found.invariant.first c.loop-found.invariant.ahead c.next_changing.ensures

pub returns-in_default : goal.returns-in_default
returns-in_default c =
    let none = c.take_plainly.ensures.none in
    let l = c.loop-found in
    subst (λ d. TakesFirst c.args.self.now c.args.block.now (record l.found { count = c.next_changing.result }) d) (sym (none c.in_default.is))
    (passed_to c.args.self.now c.args.block.now c.requires.numbers l.self l.found c.next_changing.result l.invariant.first l.invariant.ahead
    c.next_changing.ensures)
