use Rattle.std.proofs.Common.{◌≡◌, ◌∙◌, ◌∷◌, List, ap, subst}
use Rattle.site_types.specs.Done.{Done}
use Rattle.panel_rules.specs.Moments.{Moment as MomentOf}
use Rattle.panel_rules.specs.Operations.{Operations, operations}
use Rattle.plain_operations.specs.declared.outcomes.Outcomes.{Outcomes}
use Rattle.plain_history.specs.Histories.{all_done, history, moment_of}
use Rattle.plain_panel.specs.SiteStates.{StandsForSite}
use Rattle.plain_history.proofs.Histories.{history_more}
use Rattle.plain_panel.proofs.keeping.Keeping.go_on.Goals as goal

pub returns-in_ok-self-clause-state : goal.returns-in_ok-self-clause-state
returns-in_ok-self-clause-state c =
    let site = c.args.coming.now.site.now in
    let kept = c.args.coming.now.kept.now in
    let before = history c.args.coming.now.before.now in
    let moment = moment_of c.args.coming.now.moment.now in
    let desk = c.in_ok-changed.ensures.stands before c.requires.ticks c.requires.desk in
    let done : all_done c.as_slice.result.now ≡ (operations site kept (moment ∷ before)).done =
    ap all_done (c.as_slice.ensures.value ∙ ap (λ (o : Outcomes). o.done.items) c.outcomes.ensures) ∙ ap (λ (o : Operations). o.done) desk.became
    in
    let with_it : history c.args.coming.now.with_it.now ≡ moment ∷ before = ap history c.requires.all ∙ history_more c.args.coming.now.before.now c.args.coming.now.moment.now in
    subst (λ (h : List MomentOf). StandsForSite site kept (operations site kept (moment ∷ before)).done h c.in_ok-self.field-0) with_it
    (subst (λ (d : List Done). StandsForSite site kept d (history c.args.coming.now.with_it.now) c.in_ok-self.field-0) done c.in_ok-self.ensures)
