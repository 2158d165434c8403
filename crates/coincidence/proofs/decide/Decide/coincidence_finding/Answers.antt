use Rattle.std.proofs.Common.{◌<◌, ◌+◌, ◌==◌, ◌&&◌, false, if◌then◌else◌, ◌++◌, ◌∷◌, [], ◌∙◌, ap, sym, subst}
use Rattle.coincidence.proofs.Watched.{watched, zone_watched, zone_small, partner_small, number_fits, numbers_fit}
use Rattle.coincidence.proofs.FindingIs.{finding_is}
use Rattle.coincidence.proofs.decide.Decide.coincidence_finding.Goals as goal

pub index-zone-requires : goal.index-zone-requires
index-zone-requires c =
    subst (λ n. c.at-point.result.now.zone < n) (sym c.args.self.now.zones.ok.0)
    (zone_small c.requires.stands c.args.answer.now.point c.requires.may.own c.at-point.result.now c.at-point.ensures)

pub partner_finding-partner_finding-requires : goal.partner_finding-partner_finding-requires
partner_finding-partner_finding-requires c =
    partner_small c.requires.stands c.args.answer.now.point c.requires.may.own c.at-point.result.now c.index-zone.result.now c.at-point.ensures
    c.index-zone.ensures

pub one_bit-counted-requires : goal.one_bit-counted-requires
one_bit-counted-requires c =
    number_fits c.requires.stands c.args.answer.now.point c.requires.may.own c.at-point.result.now c.index-zone.result.now c.at-point.ensures
    c.index-zone.ensures

pub one_bit-manual-requires : goal.one_bit-manual-requires
one_bit-manual-requires c =
    number_fits c.requires.stands c.args.answer.now.point c.requires.may.own c.at-point.result.now c.index-zone.result.now c.at-point.ensures
    c.index-zone.ensures

pub two_bits-requires : goal.two_bits-requires
two_bits-requires c =
    numbers_fit c.requires.stands c.args.answer.now c.requires.may c.at-point.result.now c.index-zone.result.now c.at-point.ensures
    c.index-zone.ensures c.observe-observation.result c.partner_finding-partner_finding.result
    (c.partner_finding-partner_finding.ensures c.requires.site c.requires.kept c.requires.panel c.requires.done c.requires.taken c.requires.stands)

pub two_bits-requires-2 : goal.two_bits-requires-2
two_bits-requires-2 c =
    numbers_fit c.requires.stands c.args.answer.now c.requires.may c.at-point.result.now c.index-zone.result.now c.at-point.ensures
    c.index-zone.ensures c.observe-observation.result c.partner_finding-partner_finding.result
    (c.partner_finding-partner_finding.ensures c.requires.site c.requires.kept c.requires.panel c.requires.done c.requires.taken c.requires.stands)

pub returns : goal.returns
returns c site kept panel done taken stands fits judges =
    let answer = c.args.answer.now in
    let all = taken ++ answer ∷ [] in
    let r = c.at-point.result.now in
    let z = c.index-zone.result.now in
    let w = watched stands answer.point fits.own in
    finding_is stands answer fits r z c.at-point.ensures c.index-zone.ensures c.observe-observation.result c.partner_finding-partner_finding.result
    (c.observe-observation.ensures site kept panel done all stands fits judges w.point w.zone w.is_point w.is_zone)
    (c.partner_finding-partner_finding.ensures site kept panel done all stands w.point.zone w.zone w.is_zone w.zone_at
    (zone_watched stands answer.point fits.own r z c.at-point.ensures c.index-zone.ensures))
    c.one_bit-counted.result c.two_bits.result c.one_bit-manual.result c.two_bits-2.result c.is_missing.result c.one_bit-counted.type_inv
    c.two_bits.type_inv c.one_bit-manual.type_inv c.two_bits-2.type_inv
    c.one_bit-counted.ensures
    (λ k small.
    c.two_bits.ensures k small ∙ ap
    (λ b. if (k + 1) == z.number then b else (((k + 1) == c.partner_finding-partner_finding.result.number) && c.partner_finding-partner_finding.result.confirmed))
    c.confirms_own.ensures)
    (λ k small. c.one_bit-manual.ensures k small ∙ ap (λ b. if (k + 1) == z.number then b else false) c.calls.ensures)
    (λ k small.
    c.two_bits-2.ensures k small ∙ ap
    (λ b. if (k + 1) == z.number then b else (((k + 1) == c.partner_finding-partner_finding.result.number) && c.partner_finding-partner_finding.result.released))
    c.releases_own.ensures)
    c.is_missing.ensures
