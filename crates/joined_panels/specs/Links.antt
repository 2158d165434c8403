-- Which links a ring keeps as up, and over them which ways.
use Rattle.std.specs.Prelude.{◌≡◌, ◌≤◌, ℕ, zero, suc, ◌-◌, ◌&&◌, Bool, true, false, List, slice_index_or}
use Rattle.panel_rules.specs.Moments.{Moment}
use Rattle.panel_rules.specs.States.{is_up}
use Rattle.panel_rules.specs.Ring.{link_on, links_between}
use Rattle.joined_panels.specs.declared.links.Links.{Links}

-- whether a link is up
abbrev pub is_link_up : Links → ℕ → Bool
is_link_up links link = slice_index_or links.up (link - 1) false

-- each link is kept as up, unless the last event that spoke of it said that it is down
abbrev pub HasLinks : List Moment → Links → Type 0
HasLinks moments links = (link : ℕ) → 1 ≤ link → link ≤ 8 → is_link_up links link ≡ is_up link moments

-- so many links on the way up from a panel are up
abbrev pub are_up : (ℕ → Bool) → ℕ → ℕ → ℕ → Bool
are_up up panels from zero = true
are_up up panels from (suc step) = are_up up panels from step && up (link_on panels from step)

-- each link on the way up from one panel to another is up
abbrev pub has_way_up : (ℕ → Bool) → ℕ → ℕ → ℕ → Bool
has_way_up up panels from to = are_up up panels from (links_between panels from to)
