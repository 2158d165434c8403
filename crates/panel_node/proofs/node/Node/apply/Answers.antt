use Rattle.std.proofs.Common.{◌∙◌, ◌+◌, ◌∷◌, refl, sym, ap, subst}
use Rattle.site_types.specs.Changes.{IsSized, operation_change}
use Rattle.node_rules.specs.Histories.{befallen}
use Rattle.operation_desk.specs.Requests.{done_from}
use Rattle.panel_parts.proofs.Settings.{can_change, own_changed, settings_changed, settings_left, sized_changed}
use Rattle.settings_shown.specs.Shown.{HasNoStrangeBits}
use Rattle.operation_desk.specs.Replies.{AreInForce}
use Rattle.panel_rules.specs.Moments.{tick_of}
use Rattle.panel_node.proofs.Begun.{applied_one}
use Rattle.panel_node.proofs.node.Node.apply.Goals as goal

pub apply-requires-in-Some : goal.apply-requires-in-Some
apply-requires-in-Some c =
    let r = c.requires in
    can_change r.site r.kept (befallen r.history) r.done (done_from c.args.self.now.tick.0 c.args.done.now) r.has.valid c.args.self.now.settings r.has.sized r.may
    r.has.settings c.in-Some.change
    (ap (λ s. operation_change s c.args.done.now.panel c.args.done.now.operation) (sym r.has.same) ∙ sym c.change_of.ensures ∙ c.in-Some.is)

pub returns-in-Some-clause-applied : goal.returns-in-Some-clause-applied
returns-in-Some-clause-applied c site panel kept history done h may =
    let d = done_from c.args.self.now.tick.0 c.args.done.now in
    let before = befallen history in
    let is = ap (λ s. operation_change s c.args.done.now.panel c.args.done.now.operation) (sym h.same) ∙ sym c.change_of.ensures ∙ c.in-Some.is in
    applied_one site panel kept history done d c.args.self.now h may _ refl refl refl c.apply.ensures
    (subst (λ s. AreInForce site kept (tick_of before + 1) (d ∷ done) s) (sym c.apply-in-Some.ensures)
    (settings_changed site kept before done d h.valid c.args.self.now.settings h.sized may h.settings c.in-Some.change is))
    (subst IsSized (sym c.apply-in-Some.ensures)
    (sized_changed site kept before done d h.valid c.args.self.now.settings h.sized may h.settings c.in-Some.change is))
    (subst (HasNoStrangeBits site) (sym c.apply-in-Some.ensures)
    (own_changed site kept before done d h.valid c.args.self.now.settings h.sized may h.settings c.in-Some.change is h.things))

pub returns-in_default-clause-applied : goal.returns-in_default-clause-applied
returns-in_default-clause-applied c site panel kept history done h may =
    let d = done_from c.args.self.now.tick.0 c.args.done.now in
    let none = ap (λ s. operation_change s c.args.done.now.panel c.args.done.now.operation) (sym h.same) ∙ sym c.change_of.ensures ∙ c.in_default.is in
    applied_one site panel kept history done d c.args.self.now h may _ refl refl refl c.apply.ensures
    (settings_left site kept (befallen history) done d h.valid c.args.self.now.settings h.sized may h.settings none) h.sized h.things
