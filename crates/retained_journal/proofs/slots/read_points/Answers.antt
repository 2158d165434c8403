use Rattle.std.proofs.Common.{◌≡◌, ◌<◌, ◌+◌, ℕ, get_or, set, length-set, sym, subst, arith, ◌∙◌}
use Rattle.std.proofs.lemmas.List.Edits.{fill_by_more}
use Rattle.retained_journal.specs.Slots.{panel_points}
use Rattle.retained_journal.proofs.Reading.{points_read}
use Rattle.retained_journal.proofs.slots.read_points.Goals as goal

pub loop-panel-preserved : goal.loop-panel-preserved
loop-panel-preserved c =
    let f = λ (k : ℕ). panel_points c.args.wide c.args.at k c.args.bytes.now in
    let size = c.loop-panel.invariant.0 in (
      length-set c.loop-panel.points c.loop-panel.panel _ ∙ size,
      λ d. subst (λ x. (k : ℕ) → k < c.loop-panel.panel + 1 → get_or (set c.loop-panel.points c.loop-panel.panel x) k d ≡ f k)
          (sym c.panel_points.ensures)
          (fill_by_more f c.loop-panel.points c.loop-panel.panel d (let h = c.loop-panel-test.true in
          omega (arith, size, h)) (c.loop-panel.invariant.1 d)),
    )

pub returns : goal.returns
returns c =
    points_read c.args.wide c.args.at c.args.bytes.now c.loop-panel.points c.loop-panel.invariant.0
    (λ d k less. c.loop-panel.invariant.1 d k (omega arith))
