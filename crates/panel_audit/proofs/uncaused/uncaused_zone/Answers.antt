use Rattle.std.proofs.Common.{◌≡◌, ◌∙◌, ◌+◌, subst, arith, inl, inr, Some, None}
use Rattle.std.proofs.lemmas.Bool.Decides.{leb_tells}
use Rattle.blocked_points.specs.Operations.{done_newest_first}
use Rattle.panel_rules.specs.Moments.{moments as moments_of}
use Rattle.panel_audit.specs.Broken.{IsUncaused}
use Rattle.panel_audit.specs.Lowest.{MarkedLowest}
use Rattle.panel_audit.specs.Places.{FirstPlace}
use Rattle.panel_audit.proofs.ZoneCauses.{shown_scanned}
use Rattle.panel_audit.proofs.uncaused.uncaused_zone.Goals as goal

pub loop-place-preserved : goal.loop-place-preserved
loop-place-preserved c =
    let site = c.args.site.now in
    let zones = c.args.zones.now in
    let place = c.loop-place.place in
    let before = c.loop-place.invariant in
    let marks = c.mark_uncaused.new.marks in
    let size = c.mark_uncaused.ensures.size ∙ before.0 in (
      size,
      λ kept operations timeline ticks numbers stand joins are panel from to. elim (leb_tells panel place) [
        | inl h ↦ before.1 kept operations timeline ticks numbers stand joins are panel from h.1
        | inr h ↦ (
            let far = h.1 in
            let is : place + 1 ≡ panel = omega (arith, far, to) in
            subst (λ p. FirstPlace zones (IsUncaused site kept (done_newest_first operations) timeline (moments_of ticks) p) None) is
            (shown_scanned site zones c.args.causes.now c.args.joined.now c.args.faces.now place marks None c.zones_of-shown.result c.zones_of-shown.ensures
            size c.mark_uncaused.ensures.marks (subst (MarkedLowest zones marks) c.in_default.is c.lowest_marked.ensures) kept operations timeline ticks
            numbers stand joins are))
      ],
    )

pub returns-in-Some-clause-scans : goal.returns-in-Some-clause-scans
returns-in-Some-clause-scans c kept operations timeline ticks numbers stand joins are =
    let site = c.args.site.now in
    let zones = c.args.zones.now in
    let place = c.loop-place.place in
    let before = c.loop-place.invariant in
    let marks = c.mark_uncaused.new.marks in
    let size = c.mark_uncaused.ensures.size ∙ before.0 in
    let low = c.loop-place-test.true in
    record {
      begins = omega arith;
      within = omega (arith, low);
      first =
          shown_scanned site zones c.args.causes.now c.args.joined.now c.args.faces.now place marks (Some c.in-Some.first) c.zones_of-shown.result
          c.zones_of-shown.ensures size c.mark_uncaused.ensures.marks (subst (MarkedLowest zones marks) c.in-Some.is c.lowest_marked.ensures) kept operations
          timeline ticks numbers stand joins are;
      before = λ panel from early. before.1 kept operations timeline ticks numbers stand joins are panel from (omega (arith, early));
    }

pub returns-clause-scans : goal.returns-clause-scans
returns-clause-scans c kept operations timeline ticks numbers stand joins are panel from to =
    (let end = c.loop-place-test.false in
    c.loop-place.invariant.1 kept operations timeline ticks numbers stand joins are panel from (omega (arith, end, to)))
