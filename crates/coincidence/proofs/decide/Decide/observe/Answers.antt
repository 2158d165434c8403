use Rattle.std.proofs.Common.{◌<◌, sym, subst}
use Rattle.coincidence.proofs.Watched.{zone_small, partner_small}
use Rattle.coincidence.proofs.Observations.{zone_at, zone_there, own_partner_read, observes_read, floor_judged}
use Rattle.coincidence.proofs.decide.Decide.observe.Goals as goal

pub index-requires : goal.index-requires
index-requires c =
    subst (λ n. c.at-point.result.now.zone < n) (sym c.args.self.now.zones.ok.0)
    (zone_small c.requires.stands c.args.answer.now.point c.requires.may.own c.at-point.result.now c.at-point.ensures)

pub second-own_second-requires : goal.second-own_second-requires
second-own_second-requires c = zone_small c.requires.stands c.args.answer.now.point c.requires.may.own c.at-point.result.now c.at-point.ensures

pub partner_second-partner_second-requires : goal.partner_second-partner_second-requires
partner_second-partner_second-requires c =
    partner_small c.requires.stands c.args.answer.now.point c.requires.may.own c.at-point.result.now c.index.result.now c.at-point.ensures
    c.index.ensures

pub returns : goal.returns
returns c site kept panel done taken stands fits judges point zone is_point is_zone =
    let answer = c.args.answer.now in
    let judgement = c.args.judgement.now in
    let r = c.at-point.result.now in
    let z = c.index.result.now in
    let at = zone_at stands answer fits point zone is_point is_zone in
    let there = zone_there stands answer fits point zone is_point is_zone r c.at-point.ensures in
    observes_read stands answer fits point zone is_point is_zone r z c.at-point.ensures c.index.ensures judgement c.second-own_second.result
    c.partner_second-partner_second.result judges
    (c.second-own_second.ensures site kept panel done taken stands fits.since zone there at
    (floor_judged stands answer fits r c.at-point.ensures judgement judges))
    (c.partner_second-partner_second.ensures site kept panel done taken stands fits.since
    (own_partner_read stands answer fits point zone is_point is_zone r z c.at-point.ensures c.index.ensures))
