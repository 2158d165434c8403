use Rattle.std.proofs.Common.{◌<◌, ◌∷◌, sym, subst}
use Rattle.site_types.specs.declared.item.Item.TheVariants.{Point, Zone}
use Rattle.coincidence.specs.Stands.{CanApply, DecidesFor, off_operation}
use Rattle.coincidence.specs.Premises.{MayApply}
use Rattle.coincidence.proofs.Watched.{point_read, point_small}
use Rattle.coincidence.proofs.AppliedOperation.{done_now, zone_since, point_since}
use Rattle.coincidence.proofs.OperationKinds.{own_zone_off, own_point_off, on_zone_off, on_point_off, own_small, zone_off_stands, point_off_stands, output_off_stands}
use Rattle.coincidence.proofs.decide.Decide.set_off.Goals as goal

pub set_off-requires-clause-place : goal.set_off-requires-clause-place
set_off-requires-clause-place c =
    let off = c.args.off in
    let point = c.in-Point.point in
    let q : CanApply c.args.self.now (off_operation off (Point point)) c.args.at.0 =
    subst (λ i. CanApply c.args.self.now (off_operation off i) c.args.at.0) c.in-Point.is c.requires.can in
    point_small q.stands point (own_point_off q.site q.panel off point q.may.own)

pub set_off-requires-clause-since : goal.set_off-requires-clause-since
set_off-requires-clause-since c watch read =
    let off = c.args.off in
    let point = c.in-Point.point in
    let q : CanApply c.args.self.now (off_operation off (Point point)) c.args.at.0 =
    subst (λ i. CanApply c.args.self.now (off_operation off i) c.args.at.0) c.in-Point.is c.requires.can in
    point_since q.stands (off_operation off (Point point)) c.args.at q.may point (own_point_off q.site q.panel off point q.may.own)
    watch read (on_point_off c.args.at q.panel off point)

pub index_mut-requires : goal.index_mut-requires
index_mut-requires c =
    let off = c.args.off in
    let zone = c.in-Zone.zone in
    let q : CanApply c.args.self.now (off_operation off (Zone zone)) c.args.at.0 =
    subst (λ i. CanApply c.args.self.now (off_operation off i) c.args.at.0) c.in-Zone.is c.requires.can in
    subst (λ n. zone < n) (sym c.args.self.now.zones.ok.0) (own_small q.stands c.args.at zone (own_zone_off q.site q.panel off zone q.may.own))

pub set_off-requires-in-Zone : goal.set_off-requires-in-Zone
set_off-requires-in-Zone c =
    let off = c.args.off in
    let zone = c.in-Zone.zone in
    let q : CanApply c.args.self.now (off_operation off (Zone zone)) c.args.at.0 =
    subst (λ i. CanApply c.args.self.now (off_operation off i) c.args.at.0) c.in-Zone.is c.requires.can in
    (zone_since q.stands (off_operation off (Zone zone)) c.args.at q.may zone (own_zone_off q.site q.panel off zone q.may.own)
    c.index_mut.result.now c.index_mut.ensures.value).0 (on_zone_off c.args.at q.panel off zone)

pub returns-in-Point : goal.returns-in-Point
returns-in-Point c site kept panel done taken stands may =
    let point = c.in-Point.point in
    let own = own_point_off site panel c.args.off point (subst (λ i. MayApply site panel done taken (off_operation c.args.off i) c.args.at.0) c.in-Point.is may).own in
    let read = point_read stands point own in
    subst (λ ps. DecidesFor site kept panel (done_now c.args.at panel (off_operation c.args.off c.args.item.now) ∷ done) taken
    (record c.args.self.now { points = ps })) (sym (c.set_off.ensures read.0 read.1))
    (point_off_stands stands c.args.at c.requires.none c.args.off c.args.item.now may point read.0 c.in-Point.is read.1)

pub returns-in-Zone : goal.returns-in-Zone
returns-in-Zone c site kept panel done taken stands may =
    zone_off_stands stands c.args.at c.requires.none c.args.off c.args.item.now may c.in-Zone.zone c.index_mut.result.now c.set_off-in-Zone.new.self
    c.in-Zone.is c.index_mut.ensures.value c.set_off-in-Zone.ensures

pub returns-in-Output : goal.returns-in-Output
returns-in-Output c site kept panel done taken stands may =
    output_off_stands stands c.args.at c.requires.none c.args.off c.args.item.now may c.in-Output.field-0 c.in-Output.is
