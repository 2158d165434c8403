use Rattle.std.proofs.Common.{option_map, subst, sym}
use Rattle.panel_audit.specs.Breaking.{breach_in}
use Rattle.panel_audit.specs.Firsts.{FirstInTick}
use Rattle.panel_audit.proofs.FirstOfScan.{finds_baseless, finds_dark, finds_hidden, finds_none, finds_uncaused}
use Rattle.panel_audit.proofs.scan.Scan.first_broken.Goals as goal

pub returns-in-Some-clause-finds : goal.returns-in-Some-clause-finds
returns-in-Some-clause-finds c ticks tick acyclic scan after =
    finds_hidden c.args.case.now.site.now c.args.case.now.timeline.now c.args.case.now.done.now ticks tick c.args.judge.now c.args.due.now
    c.args.is_unfounded after c.args.self.now scan c.faces-faces.result.now c.faces-faces.ensures c.if-is_unfounded.false c.told-due
    c.deref.result.now c.deref-in-Some.result.now c.in-Some.found c.zone.result c.deref.ensures.value c.deref-in-Some.ensures.value
    c.in-Some.ensures.scans c.zone.ensures

pub returns-in-Some-dark_output-clause-finds : goal.returns-in-Some-dark_output-clause-finds
returns-in-Some-dark_output-clause-finds c ticks tick acyclic scan after =
    finds_dark c.args.case.now.site.now c.args.case.now.timeline.now c.args.case.now.done.now ticks tick c.args.judge.now c.args.due.now
    c.args.is_unfounded after c.args.self.now scan c.faces-faces.result.now c.faces-faces.ensures c.if-is_unfounded.false c.told-due
    (c.deref.result.now, c.deref.ensures.value, c.in_default.ensures.scans)
    c.deref-2.result.now c.deref-in-Some-dark_output.result.now c.in-Some-dark_output.place c.output.result c.deref-2.ensures.value
    c.deref-in-Some-dark_output.ensures.value c.in-Some-dark_output.ensures.scans c.output.ensures

pub returns-in-Some-uncaused_zone-clause-finds : goal.returns-in-Some-uncaused_zone-clause-finds
returns-in-Some-uncaused_zone-clause-finds c ticks tick acyclic scan after =
    finds_uncaused c.args.case.now.site.now c.args.case.now.timeline.now c.args.case.now.done.now ticks tick c.args.judge.now c.args.due.now
    c.args.is_unfounded after c.args.self.now scan c.faces-faces.result.now c.faces-faces.ensures c.if-is_unfounded.false c.told-due
    (c.deref.result.now, c.deref.ensures.value, c.in_default.ensures.scans)
    (c.deref-2.result.now, c.deref-2.ensures.value, c.in_default-dark_output.ensures.scans)
    c.deref-3.result.now c.deref-in-Some-uncaused_zone.result.now c.in-Some-uncaused_zone.found c.zone-in-Some-uncaused_zone.result c.deref-3.ensures.value
    c.deref-in-Some-uncaused_zone.ensures.value c.in-Some-uncaused_zone.ensures.scans c.zone-in-Some-uncaused_zone.ensures

pub returns-clause-finds : goal.returns-clause-finds
returns-clause-finds c ticks tick acyclic scan after =
    finds_baseless c.args.case.now.site.now c.args.case.now.timeline.now c.args.case.now.done.now ticks tick c.args.judge.now c.args.due.now
    c.args.is_unfounded after c.args.self.now scan c.faces-faces.result.now c.faces-faces.ensures c.if-is_unfounded.false c.told-due
    (c.deref.result.now, c.deref.ensures.value, c.in_default.ensures.scans)
    (c.deref-2.result.now, c.deref-2.ensures.value, c.in_default-dark_output.ensures.scans)
    (c.deref-3.result.now, c.deref-3.ensures.value, c.in_default-uncaused_zone.ensures.scans) acyclic
    c.deref-4.result.now c.deref-5.result.now c.in_ok-place.place c.output-2.result c.deref-4.ensures.value c.deref-5.ensures.value
    c.in_ok-place.ensures.scans c.output-2.ensures

pub returns-in_err-place-clause-finds : goal.returns-in_err-place-clause-finds
returns-in_err-place-clause-finds c ticks tick acyclic scan after =
    subst (λ r. FirstInTick c.args.case.now.site.now ticks c.args.case.now.timeline.now tick (option_map (breach_in tick) r)) (sym c.from_residual.ensures)
    (finds_none c.args.case.now.site.now c.args.case.now.timeline.now c.args.case.now.done.now ticks tick c.args.judge.now c.args.due.now
    c.args.is_unfounded after c.args.self.now scan c.faces-faces.result.now c.faces-faces.ensures c.if-is_unfounded.false c.told-due
    (c.deref.result.now, c.deref.ensures.value, c.in_default.ensures.scans)
    (c.deref-2.result.now, c.deref-2.ensures.value, c.in_default-dark_output.ensures.scans)
    (c.deref-3.result.now, c.deref-3.ensures.value, c.in_default-uncaused_zone.ensures.scans) acyclic
    c.deref-4.result.now c.deref-4.ensures.value c.in_err-place.ensures.scans)
