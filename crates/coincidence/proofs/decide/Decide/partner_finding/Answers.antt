use Rattle.coincidence.proofs.Observations.{partner_finding_is}
use Rattle.coincidence.proofs.decide.Decide.partner_finding.Goals as goal

pub returns-in-Some : goal.returns-in-Some
returns-in-Some c site kept panel done taken stands place plan is at watches =
    partner_finding_is stands place c.in-Some.other plan c.args.zone.now c.index-partner.result.now c.args.observation.now c.confirms_partner.result
    c.releases_partner.result is at watches c.in-Some.is c.index-partner.ensures
    c.confirms_partner.ensures c.releases_partner.ensures
