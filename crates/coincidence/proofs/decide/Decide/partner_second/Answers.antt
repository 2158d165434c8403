use Rattle.std.proofs.Common.{◌∙◌, ap, sym, subst}
use Rattle.coincidence.specs.Observations.{partner_second_of, second_by}
use Rattle.coincidence.specs.Stands.{IsOwnPartner, IsOwnZone}
use Rattle.coincidence.proofs.decide.Decide.partner_second.Goals as goal

pub returns-in-Some : goal.returns-in-Some
returns-in-Some c site kept panel done taken stands by' partner =
    let answer = c.args.answer.now in
    let other = c.in-Some.other in
    let own : IsOwnZone site panel other = subst (IsOwnPartner site panel) c.in-Some.is partner in
    c.second.ensures site kept panel done taken stands by' own.zone own.is own.at
    (c.floor_at-floor.ensures site kept panel done taken stands by' own.zone own.is own.at)
    ∙ sym (ap (λ o. partner_second_of site kept done taken o answer) c.in-Some.is ∙ ap (λ o. second_by site kept done taken other o answer) own.is)
