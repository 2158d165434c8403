use Rattle.std.proofs.Common.{◌≡◌, ◌+◌, ◌*◌, ◌<◌, ◌≤◌, ℕ, true, false, List, refl, sym, arith, subst}
use Rattle.std.proofs.lemmas.Bool.Decides.{nat_tests}
use Rattle.std.specs.Prelude.{Some, None, nat_lt}
use Rattle.site_types.specs.Limits.{greatest_count}
use Rattle.retained_journal.specs.Fields.{number_at}
use Rattle.retained_journal.specs.Opening.{great_counter}
use Rattle.retained_journal.proofs.Finding.{found-first, found-none, nothing_more}
use Rattle.retained_journal.specs.Places.{counters_place}
use Rattle.retained_journal.proofs.front.great_counter.Goals as goal

too_great : (at : ℕ) (file : List ℕ) (panel n : ℕ) → n ≡ number_at 4 (at + counters_place + 4 * panel) file → greatest_count < n
    → great_counter at file panel ≡ Some (at + counters_place + 4 * panel)
too_great at file panel n e more =
    let test : nat_lt greatest_count (number_at 4 (at + counters_place + 4 * panel) file) ≡ true =
    subst (λ (k : ℕ). nat_lt greatest_count k ≡ true) e (grind (arith, nat_tests)) in
    rw test refl

not_great : (at : ℕ) (file : List ℕ) (panel n : ℕ) → n ≡ number_at 4 (at + counters_place + 4 * panel) file → n ≤ greatest_count
    → great_counter at file panel ≡ None
not_great at file panel n e le =
    let test : nat_lt greatest_count (number_at 4 (at + counters_place + 4 * panel) file) ≡ false =
    subst (λ (k : ℕ). nat_lt greatest_count k ≡ false) e (grind (arith, nat_tests)) in
    rw test refl

pub loop-panel-init : goal.loop-panel-init
loop-panel-init c = found-none (great_counter c.args.at c.args.front.now)

pub loop-panel-preserved : goal.loop-panel-preserved
loop-panel-preserved c =
    nothing_more (great_counter c.args.at c.args.front.now) c.loop-panel.panel c.loop-panel.invariant
    (not_great c.args.at c.args.front.now c.loop-panel.panel _ c.short_number_at.ensures c.if-short_number_at-gt-GREATEST_COUNT.false)

pub returns-then-short_number_at-gt-GREATEST_COUNT-clause-value : goal.returns-then-short_number_at-gt-GREATEST_COUNT-clause-value
returns-then-short_number_at-gt-GREATEST_COUNT-clause-value c =
    sym (found-first (great_counter c.args.at c.args.front.now) c.loop-panel.panel _ 8 c.loop-panel.invariant
    (too_great c.args.at c.args.front.now c.loop-panel.panel _ c.short_number_at.ensures c.if-short_number_at-gt-GREATEST_COUNT.true)
    c.loop-panel-test.true)
