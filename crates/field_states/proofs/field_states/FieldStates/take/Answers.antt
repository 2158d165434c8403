use Rattle.std.proofs.Common.{◌∙◌, ap, set}
use Rattle.std.specs.Vec.{with_items}
use Rattle.field_states.specs.declared.field_states.FieldStates.{FieldStates}
use Rattle.field_states.proofs.Events.{confirmed_told, event_is, lines_put, lines_stay, link_told, op_told, state_told, states_put, states_stay, supply_told}
use Rattle.field_states.proofs.LineLists.{lines_told}
use Rattle.field_states.proofs.field_states.FieldStates.take.Goals as goal

pub returns-in-Point : goal.returns-in-Point
returns-in-Point c before stands =
    let field : FieldStates = record { states = with_items c.args.self.now.states c.set_state.new.states; lines = c.args.self.now.lines } in
    event_is c.args.site.now before field c.args.event.now _ c.in-Point.is
    (record {
      states =
          states_put _ before _ c.args.self.now.states c.set_state.new.states stands.states
          (state_told _ before c.args.self.now.states.items c.set_state.new.states c.in-Point.point c.in-Point.state
          (c.set_state.ensures ∙ ap (λ xs. set xs c.in-Point.point c.in-Point.state) c.deref_mut.ensures.value) stands.states);
      lines = lines_stay c.args.site.now.loops before c.args.self.now.lines.items c.in-Point.point c.in-Point.state stands.lines;
    })

pub returns-in-Cable : goal.returns-in-Cable
returns-in-Cable c before stands =
    let field : FieldStates = record { states = c.args.self.now.states; lines = with_items c.args.self.now.lines c.report.new.lines } in
    event_is c.args.site.now before field c.args.event.now _ c.in-Cable.is
    (record {
      states =
          states_stay _ before c.args.self.now.states.items c.in-Cable.panel c.in-Cable.line c.in-Cable.piece c.in-Cable.state stands.states;
      lines =
          lines_put c.args.site.now.loops before _ c.args.self.now.lines c.report.new.lines stands.lines
          (lines_told c.as_slice.result.now c.args.site.now.loops before _ c.deref_mut-in-Cable.result.now c.args.self.now.lines.items
          c.report.new.lines c.as_slice.ensures c.deref_mut-in-Cable.ensures.value (c.report.ensures before) stands.lines);
    })

pub returns-in-Supply : goal.returns-in-Supply
returns-in-Supply c before stands =
    event_is c.args.site.now before c.args.self.now c.args.event.now _ c.in-Supply.is
    (supply_told c.args.site.now before c.args.self.now stands c.in-Supply.panel c.in-Supply.kind c.in-Supply.bad)

pub returns-in-Link : goal.returns-in-Link
returns-in-Link c before stands =
    event_is c.args.site.now before c.args.self.now c.args.event.now _ c.in-Link.is
    (link_told c.args.site.now before c.args.self.now stands c.in-Link.link c.in-Link.up)

pub returns-in-Confirmed : goal.returns-in-Confirmed
returns-in-Confirmed c before stands =
    event_is c.args.site.now before c.args.self.now c.args.event.now _ c.in-Confirmed.is
    (confirmed_told c.args.site.now before c.args.self.now stands c.in-Confirmed.output)

pub returns-in-Op : goal.returns-in-Op
returns-in-Op c before stands =
    event_is c.args.site.now before c.args.self.now c.args.event.now _ c.in-Op.is
    (op_told c.args.site.now before c.args.self.now stands c.in-Op.panel c.in-Op.code c.in-Op.operation)
