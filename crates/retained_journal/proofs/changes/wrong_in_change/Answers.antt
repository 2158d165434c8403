use Rattle.std.proofs.Common.{◌≡◌, ◌+◌, ◌∙◌, ℕ, Bool, true, false, List, refl, sym, slice_index}
use Rattle.std.specs.Prelude.{Some, None}
use Rattle.retained_journal.specs.Cells.{is_in_form, wrong_byte}
use Rattle.retained_journal.proofs.Finding.{found-first, found-none, nothing_more}
use Rattle.retained_journal.proofs.changes.wrong_in_change.Goals as goal

wrong : (wide : Bool) (at : ℕ) (file : List ℕ) (place : ℕ) → is_in_form wide (slice_index file at) place (slice_index file (at + place)) ≡ false
    → wrong_byte wide at file place ≡ Some (at + place)
wrong wide at file place out = rw out refl

right : (wide : Bool) (at : ℕ) (file : List ℕ) (place : ℕ) → is_in_form wide (slice_index file at) place (slice_index file (at + place)) ≡ true
    → wrong_byte wide at file place ≡ None
right wide at file place within = rw within refl

pub loop-place-init : goal.loop-place-init
loop-place-init c = found-none (wrong_byte c.args.wide c.args.at c.args.bytes.now)

pub loop-place-preserved : goal.loop-place-preserved
loop-place-preserved c =
    let place = c.loop-place.place in
    nothing_more (wrong_byte c.args.wide c.args.at c.args.bytes.now) place c.loop-place.invariant
    (right c.args.wide c.args.at c.args.bytes.now place (sym c.is_in_form.ensures ∙ c.if-not-is_in_form.false))

pub returns-then-not-is_in_form-clause-value : goal.returns-then-not-is_in_form-clause-value
returns-then-not-is_in_form-clause-value c =
    let place = c.loop-place.place in
    sym (found-first (wrong_byte c.args.wide c.args.at c.args.bytes.now) place (c.args.at + place) 8 c.loop-place.invariant
    (wrong c.args.wide c.args.at c.args.bytes.now place (sym c.is_in_form.ensures ∙ c.if-not-is_in_form.true)) c.loop-place-test.true)
