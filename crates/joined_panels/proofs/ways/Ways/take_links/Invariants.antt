use Rattle.std.proofs.Common.{◌/◌, ◌%◌, ◌+◌}
use Rattle.joined_panels.specs.Links.{has_way_up, is_link_up}
use Rattle.joined_panels.proofs.WaysTaken.{AreTaken}
use Rattle.joined_panels.proofs.ways.Ways.take_links.Given as goal

abbrev pub invariant-loop-place : goal.invariant-loop-place
invariant-loop-place l =
    AreTaken (λ place. has_way_up (is_link_up l.links) l.links.panels (place / 8 + 1) (place % 8 + 1)) l.now l.spread l.initial.self.ways l.self.ways
    l.place
