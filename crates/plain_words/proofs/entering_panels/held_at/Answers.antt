use Rattle.std.proofs.Common.{◌≡◌, ◌∙◌, ◌+◌, Some, ap, arith, subst, sym}
use Rattle.std.proofs.lemmas.Option.{slice_get-get_or}
use Rattle.plain_words.specs.Enterings.{StandsForEntering}
use Rattle.plain_words.proofs.EnteringPanels.{enter_at}
use Rattle.plain_words.proofs.entering_panels.held_at.Goals as goal

pub returns-in-Some : goal.returns-in-Some
returns-in-Some c =
    λ site kept done history all among.
    let lookup = c.in-Some.ensures.lookup in
    let k = c.saturating_sub.result in
    let panel : 1 + k ≡ c.args.panel = omega (arith, c.saturating_sub.ensures, among.0) in
    c.held.ensures site kept done c.args.panel history
    (subst (λ n. StandsForEntering site kept done n history c.in-Some.entering.now) panel
    (enter_at site kept done history 1 k c.args.panels.now c.in-Some.entering.now
    (slice_get-get_or c.args.panels.now k c.in-Some.entering.now (lookup.3.0) ∙ ap Some (sym (lookup.1))) all))
