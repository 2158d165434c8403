use Rattle.std.proofs.Common.{◌∙◌, ap}
use Rattle.marker_table.specs.Equations.{values_of}
use Rattle.cause_effect.specs.Requests.{asked_among}
use Rattle.cause_effect.proofs.Asking.{asked_own, requests_same}
use Rattle.cause_effect.proofs.plan.Plan.requests.Goals as goal

pub returns : goal.returns
returns c site is =
    let own = c.outputs_of.ensures ∙ is.outputs c.args.panel in
    let normal = values_of c.args.normal.now in
    let manual = values_of c.args.manual.now in
    requests_same c.requests_among.result.asked _ c.requests_among.result.manual _
    (c.requests_among.ensures.asked ∙ ap (asked_among normal) own ∙ asked_own normal c.args.panel site.outputs)
    (c.requests_among.ensures.manual ∙ ap (asked_among manual) own ∙ asked_own manual c.args.panel site.outputs)
