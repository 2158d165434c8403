use Rattle.std.proofs.Common.{slice_get, ◌∙◌, ap}
use Rattle.coincidence.proofs.Watched.{watched, zone_read}
use Rattle.coincidence.proofs.Observations.{judges_read}
use Rattle.coincidence.proofs.decide.Decide.judge.Goals as goal

pub returns : goal.returns
returns c site kept panel done taken stands fits =
    let answer = c.args.answer.now in
    let r = c.args.point.now in
    let w = watched stands answer.point fits.own in
    judges_read stands answer fits r c.requires.read.point_is c.counts.result c.floor_of.result
    (c.counts.ensures site kept panel done taken stands fits)
    (c.floor_of.ensures r.zone c.requires.read.zone_is site kept panel done taken stands fits.since w.zone
    (ap (slice_get site.zones) (zone_read stands answer.point fits.own r c.requires.read.point_is) ∙ w.is_zone) w.zone_at)
