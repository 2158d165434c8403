use Rattle.std.proofs.Common.{◌≡◌, ◌∙◌, ◌+◌, subst, arith, inl, inr, Some, None}
use Rattle.std.proofs.lemmas.Bool.Decides.{leb_tells}
use Rattle.std.proofs.lemmas.Option.{slice_get-get_or}
use Rattle.panel_audit.specs.Broken.{IsHidden}
use Rattle.panel_audit.specs.Lowest.{MarkedLowest}
use Rattle.panel_audit.specs.Places.{FirstPlace}
use Rattle.panel_audit.proofs.HiddenZones.{place_scanned}
use Rattle.panel_audit.proofs.hidden.hidden_zone.Goals as goal

pub loop-place-preserved : goal.loop-place-preserved
loop-place-preserved c =
    let site = c.args.site.now in
    let place = c.loop-place.place in
    let low = c.loop-place-test.true in (
      c.mark_hidden.ensures.size ∙ c.loop-place.invariant.0,
      λ kept done timeline moments numbers long due are panel from to. elim (leb_tells panel place) [
        | inl h ↦ c.loop-place.invariant.1 kept done timeline moments numbers long due are panel from h.1
        | inr h ↦ (
            let far = h.1 in
            let is : place + 1 ≡ panel = omega (arith, far, to) in
            subst (λ p. FirstPlace c.args.zones.now (IsHidden site kept done timeline moments p) None) is
            (place_scanned site c.args.zones.now c.args.due.now c.args.faces.now place _ c.mark_hidden.new.marks None c.zones_of-shown.result
            (slice_get-get_or c.args.due.now place _ (omega (arith, low, c.requires.panels, c.told-due))) low c.zones_of-shown.ensures
            (c.mark_hidden.ensures.size ∙ c.loop-place.invariant.0) c.mark_hidden.ensures.marks
            (subst (MarkedLowest c.args.zones.now c.mark_hidden.new.marks) c.in_default.is c.lowest_marked.ensures) kept done timeline moments numbers due are))
      ],
    )

pub returns-in-Some-clause-scans : goal.returns-in-Some-clause-scans
returns-in-Some-clause-scans c kept done timeline moments numbers long due are =
    let low = c.loop-place-test.true in
    record {
      begins = omega arith;
      within = omega (arith, low);
      first =
          place_scanned c.args.site.now c.args.zones.now c.args.due.now c.args.faces.now c.loop-place.place _ c.mark_hidden.new.marks (Some c.in-Some.first)
          c.zones_of-shown.result (slice_get-get_or c.args.due.now c.loop-place.place _ (omega (arith, low, c.requires.panels, c.told-due))) low
          c.zones_of-shown.ensures (c.mark_hidden.ensures.size ∙ c.loop-place.invariant.0) c.mark_hidden.ensures.marks
          (subst (MarkedLowest c.args.zones.now c.mark_hidden.new.marks) c.in-Some.is c.lowest_marked.ensures) kept done timeline moments numbers due are;
      before = λ panel from early. c.loop-place.invariant.1 kept done timeline moments numbers long due are panel from (omega (arith, early));
    }

pub returns-clause-scans : goal.returns-clause-scans
returns-clause-scans c kept done timeline moments numbers long due are panel from to =
    (let end = c.loop-place-test.false in
    c.loop-place.invariant.1 kept done timeline moments numbers long due are panel from (omega (arith, end, to)))
