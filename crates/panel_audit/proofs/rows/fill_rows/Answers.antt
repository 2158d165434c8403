use Rattle.std.proofs.Common.{◌∙◌, ◌<◌, ◌≢◌, ◌+◌, ℕ, sym, subst, arith, length, inl, inr}
use Rattle.std.proofs.lemmas.List.{length-set}
use Rattle.blocked_points.specs.Operations.{done_newest_first}
use Rattle.due_zones.specs.Deciding.{AreDecisive}
use Rattle.due_zones.specs.declared.least_signals.LeastSignals.{LeastSignals}
use Rattle.panel_audit.proofs.TicksJudged.{decisive_by, row_is, row_within}
use Rattle.panel_audit.proofs.rows.fill_rows.Goals as goal

pub loop-place-preserved : goal.loop-place-preserved
loop-place-preserved c =
    let site = c.args.site.now in
    let rows = c.loop-place.rows in
    let place = c.loop-place.place in (
      length-set rows place _ ∙ c.loop-place.invariant.0,
      λ kept operations moments zone row stands low within is. elim (row_is rows place _ zone row is) [
        | inl h ↦ (
            let in_site = subst (λ n. n < length site.zones) h.0 within in
            let more : LeastSignals = record { shown = c.settled.result; out = c.settled_out.result; by_hand = c.settled_by_hand.result } in
            subst (λ r. AreDecisive site kept (done_newest_first operations) moments zone r) h.1
            (subst (λ n. AreDecisive site kept (done_newest_first operations) moments n more) (sym h.0)
            (decisive_by site kept (done_newest_first operations) moments place c.settled.result c.settled_out.result c.settled_by_hand.result
            (λ panel. c.settled.ensures.due site kept operations moments panel stands in_site)
            (λ panel. c.settled_out.ensures.due kept operations moments panel stands in_site)
            (λ panel. c.settled_by_hand.ensures.due site kept operations moments panel stands in_site))))
        | inr h ↦ c.loop-place.invariant.1 kept operations moments zone row stands (before zone place h.0 low) within h.1
      ],
    )
  where
    before : (zone place : ℕ) → zone ≢ place → zone < place + 1 → zone < place
    before zone place apart low = omega (arith, apart, low)

pub returns-clause-tells : goal.returns-clause-tells
returns-clause-tells c size kept operations moments stands zone row is =
    let rows = c.loop-place.rows in
    let low = row_within rows zone row is in
    let long = c.loop-place.invariant.0 in
    let end = c.loop-place-test.false in
    c.loop-place.invariant.1 kept operations moments zone row stands (omega (arith, low, long, end)) (omega (arith, low, long, size)) is
