use Rattle.std.proofs.Common.{◌∙◌, refl, sym, ap, arith}
use Rattle.site_types.specs.Events.{has_event}
use Rattle.panel_core.proofs.Events.{can_hear, confirmation_done, desk_after, link_within, other_done, output_panel}
use Rattle.panel_core.proofs.Events.{panel_read, piece_done, piece_read, piece_within, point_done, point_panel, report_done, supply_panel}
use Rattle.panel_core.proofs.Marked.{confirmation_marks, stands_raised, unseen_event_marks}
use Rattle.panel_core.proofs.system.System.event.Goals as goal

pub event-requires : goal.event-requires
event-requires c =
    let r = c.requires in
    can_hear r.site c.args.self.now.site r.kept r.before c.args.self.now c.args.event.now r.stands r.stands.same r.has r.few

pub set_point-requires : goal.set_point-requires
set_point-requires c =
    let r = c.requires in
    (point_panel r.site r.kept r.before c.args.self.now c.args.event.now c.in-Point.point c.in-Point.state c.as_slice.result.now
    c.index-as_slice-point.result c.index_mut-parts.result.now r.stands r.has c.in-Point.is c.as_slice.ensures c.index-as_slice-point.is
    c.index_mut-parts.ensures.value).within

pub overflow_sub-panel-in-Cable : goal.overflow_sub-panel-in-Cable
overflow_sub-panel-in-Cable c = let r = c.requires in let i = c.in-Cable in
    (piece_read r.site c.args.event.now i.panel i.line i.piece i.state r.stands.valid r.has i.is).member.0

pub index_mut-parts-requires-in-Cable : goal.index_mut-parts-requires-in-Cable
index_mut-parts-requires-in-Cable c =
    let r = c.requires in
    let i = c.in-Cable in
    let line = piece_read r.site c.args.event.now i.panel i.line i.piece i.state r.stands.valid r.has i.is in
    let count = r.stands.count in
    omega (arith, line.member.0, line.member.1, count)

pub set_piece-requires : goal.set_piece-requires
set_piece-requires c =
    let i = c.in-Cable in
    piece_within c.requires.site c.args.event.now i.panel i.line i.piece i.state c.requires.stands.valid c.requires.has i.is

pub returns-in-Point-clause-takes : goal.returns-in-Point-clause-takes
returns-in-Point-clause-takes c site kept before h =
    let r = c.requires in
    let system = c.args.self.now in
    let same = sym h.same ∙ r.stands.same in
    let has = ap (λ s. has_event s c.args.event.now) same ∙ r.has in
    let p = point_panel site kept before system c.args.event.now c.in-Point.point c.in-Point.state c.as_slice.result.now c.index-as_slice-point.result
    c.index_mut-parts.result.now h has c.in-Point.is c.as_slice.ensures c.index-as_slice-point.is c.index_mut-parts.ensures.value in
    let after = desk_after site system.site kept before system c.args.event.now c.event.new.self h h.same has (c.event.ensures kept before) in
    point_done site kept before system c.event.new.self c.args.event.now c.in-Point.point c.in-Point.state c.as_slice.result.now c.index-as_slice-point.result
    c.index_mut-parts.result.now c.set_point.new.self h after c.in-Point.is c.index-as_slice-point.is p
    (c.set_point.ensures site kept _ _ _ before p.stands p.read.there)

pub returns-in-Cable-clause-takes : goal.returns-in-Cable-clause-takes
returns-in-Cable-clause-takes c site kept before h =
    let r = c.requires in
    let i = c.in-Cable in
    let system = c.args.self.now in
    let same = sym h.same ∙ r.stands.same in
    let has = ap (λ s. has_event s c.args.event.now) same ∙ r.has in
    let line = piece_read site c.args.event.now i.panel i.line i.piece i.state h.valid has i.is in
    let after = desk_after site system.site kept before system c.args.event.now c.event.new.self h h.same has (c.event.ensures kept before) in
    piece_done site kept before system c.event.new.self c.args.event.now i.panel i.line i.piece i.state c.set_piece.new.self h after i.is line.member
    (c.set_piece.ensures site kept _ _ i.panel before (panel_read site kept before system i.panel c.index_mut-parts-in-Cable.result.now h line.member
    c.index_mut-parts-in-Cable.ensures.value))

pub overflow_sub-panel-in-Supply : goal.overflow_sub-panel-in-Supply
overflow_sub-panel-in-Supply c = let r = c.requires in let i = c.in-Supply in (supply_panel r.site c.args.event.now i.panel i.kind i.bad r.has i.is).0

pub index_mut-parts-requires-in-Supply : goal.index_mut-parts-requires-in-Supply
index_mut-parts-requires-in-Supply c =
    let r = c.requires in
    let i = c.in-Supply in
    let member = supply_panel r.site c.args.event.now i.panel i.kind i.bad r.has i.is in
    let count = r.stands.count in
    omega (arith, member.0, member.1, count)

pub returns-in-Supply-clause-takes : goal.returns-in-Supply-clause-takes
returns-in-Supply-clause-takes c site kept before h =
    let r = c.requires in
    let i = c.in-Supply in
    let system = c.args.self.now in
    let event = c.args.event.now in
    let has = ap (λ s. has_event s event) (sym h.same ∙ r.stands.same) ∙ r.has in
    let member = supply_panel site event i.panel i.kind i.bad has i.is in
    let after = desk_after site system.site kept before system event c.event.new.self h h.same has (c.event.ensures kept before) in
    report_done site kept before system c.event.new.self event i.panel i.kind i.bad c.set_supply.new.self h after i.is member
    (c.set_supply.ensures site kept _ _ i.panel before (panel_read site kept before system i.panel c.index_mut-parts-in-Supply.result.now h member
    c.index_mut-parts-in-Supply.ensures.value))

pub set_link-requires : goal.set_link-requires
set_link-requires c = let r = c.requires in let i = c.in-Link in link_within r.site c.args.event.now i.link i.up r.stands.valid r.has i.is

pub returns-in-Link-clause-takes : goal.returns-in-Link-clause-takes
returns-in-Link-clause-takes c site kept before h =
    let system = c.args.self.now in
    let event = c.args.event.now in
    let i = c.in-Link in
    let has = ap (λ s. has_event s event) (sym h.same ∙ c.requires.stands.same) ∙ c.requires.has in
    let after = desk_after site system.site kept before system event c.event.new.self h h.same has (c.event.ensures kept before) in
    other_done site kept before system c.event.new.self c.set_link.new.self event _ h after i.is (c.set_link.ensures.stands site.panels _ h.ring) tt

pub returns-in-Confirmed-clause-takes : goal.returns-in-Confirmed-clause-takes
returns-in-Confirmed-clause-takes c site kept before h =
    let system = c.args.self.now in
    let event = c.args.event.now in
    let i = c.in-Confirmed in
    let has = ap (λ s. has_event s event) (sym h.same ∙ c.requires.stands.same) ∙ c.requires.has in
    let after = desk_after site system.site kept before system event c.event.new.self h h.same has (c.event.ensures kept before) in
    let p = output_panel site kept before system event i.output c.as_slice-in-Confirmed.result.now c.index-as_slice-output.result c.index_mut-parts-in-Confirmed.result.now
    h has i.is c.as_slice-in-Confirmed.ensures c.index-as_slice-output.is c.index_mut-parts-in-Confirmed.ensures.value in
    stands_raised c.mark.ensures.rest site kept _
    (confirmation_done site kept before system c.event.new.self event i.output c.index-as_slice-output.result c.index_mut-parts-in-Confirmed.result.now
    c.confirm.new.self h after i.is p (c.confirm.ensures site kept _ _ _ i.output c.index-as_slice-output.result before p.stands p.is refl refl))

pub returns-in-Op-clause-takes : goal.returns-in-Op-clause-takes
returns-in-Op-clause-takes c site kept before h =
    let system = c.args.self.now in
    let event = c.args.event.now in
    let has = ap (λ s. has_event s event) (sym h.same ∙ c.requires.stands.same) ∙ c.requires.has in
    let after = desk_after site system.site kept before system event c.event.new.self h h.same has (c.event.ensures kept before) in
    other_done site kept before system c.event.new.self system.ring event _ h after c.in-Op.is h.ring tt

pub returns-in-Point-clause-marks : goal.returns-in-Point-clause-marks
returns-in-Point-clause-marks c = unseen_event_marks c.args.self.now c.args.self.now.changed c.args.event.now (rw c.in-Point.is tt) refl

pub returns-in-Cable-clause-marks : goal.returns-in-Cable-clause-marks
returns-in-Cable-clause-marks c = unseen_event_marks c.args.self.now c.args.self.now.changed c.args.event.now (rw c.in-Cable.is tt) refl

pub returns-in-Supply-clause-marks : goal.returns-in-Supply-clause-marks
returns-in-Supply-clause-marks c = unseen_event_marks c.args.self.now c.args.self.now.changed c.args.event.now (rw c.in-Supply.is tt) refl

pub returns-in-Link-clause-marks : goal.returns-in-Link-clause-marks
returns-in-Link-clause-marks c = unseen_event_marks c.args.self.now c.args.self.now.changed c.args.event.now (rw c.in-Link.is tt) refl

pub returns-in-Op-clause-marks : goal.returns-in-Op-clause-marks
returns-in-Op-clause-marks c = unseen_event_marks c.args.self.now c.args.self.now.changed c.args.event.now (rw c.in-Op.is tt) refl

pub returns-in-Confirmed-clause-marks : goal.returns-in-Confirmed-clause-marks
returns-in-Confirmed-clause-marks c site kept before h =
    let system = c.args.self.now in
    let event = c.args.event.now in
    let i = c.in-Confirmed in
    let has = ap (λ s. has_event s event) (sym h.same ∙ c.requires.stands.same) ∙ c.requires.has in
    let p = output_panel site kept before system event i.output c.as_slice-in-Confirmed.result.now c.index-as_slice-output.result c.index_mut-parts-in-Confirmed.result.now
    h has i.is c.as_slice-in-Confirmed.ensures c.index-as_slice-output.is c.index_mut-parts-in-Confirmed.ensures.value in
    confirmation_marks system.changed event i.output c.index-as_slice-output.result refl c.mark.ensures i.is site kept before p.is

pub mark-requires : goal.mark-requires
mark-requires c =
    let r = c.requires in
    let system = c.args.self.now in
    let i = c.in-Confirmed in
    let p = output_panel r.site r.kept r.before system c.args.event.now i.output c.as_slice-in-Confirmed.result.now c.index-as_slice-output.result
    c.index_mut-parts-in-Confirmed.result.now r.stands r.has i.is c.as_slice-in-Confirmed.ensures c.index-as_slice-output.is
    c.index_mut-parts-in-Confirmed.ensures.value in
    let few = r.stands.valid.forms.panels.1 in
    let last = p.member.1 in
    (p.member.0, omega (arith, few, last))
