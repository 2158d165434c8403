use Rattle.std.proofs.Common.{refl}
use Rattle.operation_desk.specs.Requests.{done_from}
use Rattle.panel_parts.proofs.Operations.{decide_may, hold_may, hold_notes, stands_own, stands_noted}
use Rattle.hold_calls.specs.Lanes.{decided}
use Rattle.hold_calls.specs.Turns.{hold_turns}
use Rattle.panel_parts.proofs.parts.Parts.apply.Goals as goal

pub apply-requires : goal.apply-requires
apply-requires c =
    let r = c.requires in
    record {
      site = r.site;
      kept = r.kept;
      panel = c.args.panel;
      done = r.done;
      taken = decided r.site c.args.panel r.before;
      stands = r.stands.decides;
      may = decide_may r.site r.kept r.done (done_from c.args.at.0 c.args.done.now) c.args.panel r.told r.before c.args.self.now r.stands r.may c.if-done-panel.true;
    }

pub returns-then-done-panel : goal.returns-then-done-panel
returns-then-done-panel c site kept done told later before h may agree =
    let d = done_from c.args.at.0 c.args.done.now in
    let own = c.if-done-panel.true in
    stands_own site kept done d c.args.panel told before c.args.self.now h may later agree own c.apply.new.self c.apply-then-done-panel.new.self
    (c.apply.ensures site kept c.args.panel done (decided site c.args.panel before) h.decides
    (decide_may site kept done d c.args.panel told before c.args.self.now h may own))
    (c.apply-then-done-panel.ensures site kept c.args.panel done (hold_turns site kept done told c.args.panel before) h.holds
    (hold_may site kept done d c.args.panel told before c.args.self.now h may own))

pub returns-else-done-panel : goal.returns-else-done-panel
returns-else-done-panel c site kept done told later before h may agree =
    let d = done_from c.args.at.0 c.args.done.now in
    let apart = c.if-done-panel.false in
    stands_noted site kept done d c.args.panel told before c.args.self.now h may later agree c.apply_elsewhere.new.self apart
    (c.apply_elsewhere.ensures site kept c.args.panel done (hold_turns site kept done told c.args.panel before) d h.holds
    (hold_notes site kept done d c.args.panel told before c.args.self.now h may apart) refl)
