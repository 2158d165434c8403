use Rattle.std.proofs.Common.{◌≡◌, ◌∙◌, ◌≤◌, ◌++◌, take, ap, subst, arith}
use Rattle.tick_units.specs.Lane.{turn_count}
use Rattle.panel_conditions.specs.Changes.{ShowsAgain}
use Rattle.panel_conditions.specs.Turns.{findings_taken, latest_tick}
use Rattle.panel_conditions.proofs.Unchanged.{shown_in, stays_taken}
use Rattle.panel_conditions.proofs.Turned.{holds_turn}
use Rattle.panel_conditions.proofs.hold.Hold.turn_and_compare.Goals as goal

pub returns-clause-stands : goal.returns-clause-stands
returns-clause-stands c site kept panel done turns h may =
    let found = take (turn_count c.args.findings.now) c.args.findings.now.items in
    let before : latest_tick turns ≤ c.args.now.0 = (let later = may.later in omega (arith, later)) in
    let watches = c.take_turn.ensures.watches site kept panel done (findings_taken turns) h.watches in
    let settled = c.take_turn.ensures.settled site kept panel done (findings_taken turns) (latest_tick turns) h.watches h.settled in
    let stamp : c.take_turn.new.self.shown.word.stamp.0 ≡ latest_tick turns =
    ap (λ s. s.word.stamp.0) c.take_turn.ensures.kept.shown ∙ shown_in site kept panel done turns c.args.self.now h in
    holds_turn site kept panel done (record { tick = c.args.now.0; found = found; outside = c.args.outside.now }) turns c.args.self.now
    c.take_turn.new.self c.show.new.self
    c.show.ensures.fits h may c.take_turn.ensures.kept.shown (c.show.ensures.settled (latest_tick turns) settled before)
    (c.show.ensures.shows site kept panel done (findings_taken turns ++ found) (latest_tick turns) watches settled before may.since
    (stays_taken done c.args.self.now c.take_turn.new.self c.take_turn.ensures.kept h.stays) (omega (arith, stamp, before)))

pub returns-clause-same : goal.returns-clause-same
returns-clause-same c holds =
    subst (λ shown. ShowsAgain shown c.show.new.self.shown) c.take_turn.ensures.kept.shown (c.show.ensures.same holds)
