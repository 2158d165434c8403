use Rattle.std.proofs.Common.{◌≡◌, ◌+◌, ◌∙◌, ℕ, ap, arith, length-set, rules}
use Rattle.std.specs.Prelude.{slice_index_or, slice_set}
use Rattle.std.proofs.lemmas.List.{get_or-set_same, get_or-set_other}
use Rattle.marker_table.proofs.Reading.{read_more, read_none, value_there}
use Rattle.marker_table.proofs.readings.Readings.of.Goals as goal

pub loop-place-init : goal.loop-place-init
loop-place-init c = read_none c.args.facts.now.zones c.args.facts.now.manual c.args.values.now.words _ (search rules)

pub loop-place-preserved : goal.loop-place-preserved
loop-place-preserved c =
    read_more c.loop-place.place c.args.facts.now.zones c.args.facts.now.manual c.args.values.now.words c.loop-place.words c.loop-place-test.true
    c.loop-place.invariant

pub returns-clause-facts : goal.returns-clause-facts
returns-clause-facts c =
    let faults = c.args.facts.now.faults in
    let last = c.loop-place-test.false in
    let most = c.loop-place.auto.place-end in
    let words = c.loop-place.words in
    let held = c.loop-place.invariant in
    let size = held.size in
    record {
      size = length-set words 16 faults ∙ size;
      zones = λ k less. get_or-set_other words 16 k faults 0 (λ e. omega (arith, e, less)) ∙
          (ap (λ n. slice_index_or words n 0) (from_none k) ∙ held.first k (omega (arith, less, last)));
      manual = λ k less. get_or-set_other words 16 (8 + k) faults 0 (λ e. omega (arith, e, less)) ∙ held.next k (omega (arith, less, last));
      faults = get_or-set_same words 16 faults 0 (omega (arith, size));
    }
  where
    from_none : (n : ℕ) → n ≡ 0 + n
    from_none n = omega arith

pub returns-clause-values : goal.returns-clause-values
returns-clause-values c marker =
    let last = c.loop-place-test.false in
    let words = c.loop-place.words in
    value_there c.args.values.now.words (slice_set words 16 c.args.facts.now.faults) (search rules)
    (λ k less. get_or-set_other words 16 (17 + k) c.args.facts.now.faults 0 (λ e. omega (arith, e, less))
    ∙ c.loop-place.invariant.last k (omega (arith, less, last))) marker
