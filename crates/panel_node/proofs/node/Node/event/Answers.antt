use Rattle.std.proofs.Common.{◌∙◌, length, sym, ap}
use Rattle.site_types.specs.declared.site.Site.{Site}
use Rattle.node_inputs.specs.OwnEvents.{is_event_of}
use Rattle.panel_core.proofs.Events.{piece_within}
use Rattle.panel_node.proofs.Events.{desk_heard, desk_may_hear, may_here, output_inside, read_output, stands_confirmed, stands_other, stands_piece, stands_point}
use Rattle.panel_node.proofs.Events.{stands_supply}
use Rattle.panel_node.proofs.node.Node.event.Goals as goal

pub event-requires : goal.event-requires
event-requires c = desk_may_hear c.args.event.now c.args.self.now c.requires

pub set_piece-requires : goal.set_piece-requires
set_piece-requires c =
    let i = c.in-Cable in
    piece_within c.requires.site c.args.event.now i.panel i.line i.piece i.state c.requires.stands.valid c.requires.has i.is

pub bounds-as_slice-output : goal.bounds-as_slice-output
bounds-as_slice-output c =
    let r = c.requires in
    rw (ap length (c.as_slice.ensures ∙ ap (λ (s : Site). s.outputs) r.stands.same))
    (output_inside r.site r.panel c.in-Confirmed.output (ap (is_event_of r.site r.panel) (sym c.in-Confirmed.is) ∙ r.own))

pub confirm-requires : goal.confirm-requires
confirm-requires c =
    let r = c.requires in
    (read_output r.site r.panel r.kept r.history c.args.self.now r.stands c.args.event.now c.in-Confirmed.output c.as_slice.result.now
    c.index-as_slice-output.result r.own c.in-Confirmed.is c.as_slice.ensures c.index-as_slice-output.is).number

pub returns-in-Point-clause-takes : goal.returns-in-Point-clause-takes
returns-in-Point-clause-takes c site panel kept history h =
    let event = c.args.event.now in
    let node = c.args.self.now in
    let may = may_here site panel kept history event node c.requires h in
    stands_point site panel kept history node h event may.has may.own c.event.new.self
    (desk_heard site panel kept history event node c.requires h c.event.new.self (c.event.ensures kept _)) c.in-Point.point c.in-Point.state c.set_point.new.self
    c.in-Point.is c.set_point.ensures

pub returns-in-Cable-clause-takes : goal.returns-in-Cable-clause-takes
returns-in-Cable-clause-takes c site panel kept history h =
    let event = c.args.event.now in
    let node = c.args.self.now in
    let i = c.in-Cable in
    let may = may_here site panel kept history event node c.requires h in
    stands_piece site panel kept history node h event may.has may.own c.event.new.self
    (desk_heard site panel kept history event node c.requires h c.event.new.self (c.event.ensures kept _)) i.panel i.line i.piece i.state c.set_piece.new.self
    i.is c.set_piece.ensures

pub returns-in-Supply-clause-takes : goal.returns-in-Supply-clause-takes
returns-in-Supply-clause-takes c site panel kept history h =
    let event = c.args.event.now in
    let node = c.args.self.now in
    let i = c.in-Supply in
    let may = may_here site panel kept history event node c.requires h in
    stands_supply site panel kept history node h event may.has may.own c.event.new.self
    (desk_heard site panel kept history event node c.requires h c.event.new.self (c.event.ensures kept _)) i.panel i.kind i.bad c.set_supply.new.self i.is
    c.set_supply.ensures

pub returns-in-Confirmed-clause-takes : goal.returns-in-Confirmed-clause-takes
returns-in-Confirmed-clause-takes c site panel kept history h =
    let event = c.args.event.now in
    let node = c.args.self.now in
    let i = c.in-Confirmed in
    let may = may_here site panel kept history event node c.requires h in
    stands_confirmed site panel kept history node h event may.has may.own c.event.new.self
    (desk_heard site panel kept history event node c.requires h c.event.new.self (c.event.ensures kept _)) i.output c.index-as_slice-output.result
    c.confirm.new.self i.is
    (read_output site panel kept history node h event i.output c.as_slice.result.now c.index-as_slice-output.result may.own i.is c.as_slice.ensures
    c.index-as_slice-output.is) c.confirm.ensures

pub returns-in-Op-clause-takes : goal.returns-in-Op-clause-takes
returns-in-Op-clause-takes c site panel kept history h =
    let event = c.args.event.now in
    let node = c.args.self.now in
    let may = may_here site panel kept history event node c.requires h in
    stands_other site panel kept history node h event may.has may.own c.event.new.self
    (desk_heard site panel kept history event node c.requires h c.event.new.self (c.event.ensures kept _)) _ c.in-Op.is tt

pub returns-in-Link-clause-takes : goal.returns-in-Link-clause-takes
returns-in-Link-clause-takes c site panel kept history h =
    absurd (let no_way = ap (is_event_of c.requires.site c.requires.panel) (sym c.in-Link.is) ∙ c.requires.own in cc)
