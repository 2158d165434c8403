use Rattle.std.proofs.Common.{◌≡◌, true}
use Rattle.joined_panels.specs.Links.{are_up, is_link_up}
use Rattle.joined_panels.proofs.links.Links.has_way_up.Given as goal

abbrev pub invariant-loop-step : goal.invariant-loop-step
invariant-loop-step l = are_up (is_link_up l.self) l.self.panels l.from l.step ≡ true
