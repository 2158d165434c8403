-- At which ticks a way round the ring was up, and what is kept of it.
use Rattle.std.specs.Prelude.{◌≡◌, ℕ, ◌+◌, ◌/◌, ◌%◌, ◌≤◌, ◌<◌, not, Bool, true, slice_index_or}
use Rattle.joined_panels.specs.declared.links.Links.{Links}
use Rattle.joined_panels.specs.declared.ways.Ways.{Ways}
use Rattle.joined_panels.specs.Links.{has_way_up, is_link_up}
use Rattle.joined_panels.specs.declared.way.Way.{Way}
use Rattle.joined_panels.specs.Latest.{IsLatestTick}

-- a way round the ring was up at each tick of a span, both ends included
abbrev pub IsUpThroughout : (ℕ → Bool) → ℕ → ℕ → Type 0
IsUpThroughout was_up first last = (tick : ℕ) → first ≤ tick → tick ≤ last → was_up tick ≡ true

-- a way round the ring was up from a tick on for so many ticks, all before the end
pub record IsUpFor (was_up : ℕ → Bool) (spread end first : ℕ) : Type 0 where
  pub past : first + spread ≤ end
  pub through : (tick : ℕ) → first ≤ tick → tick < first + spread → was_up tick ≡ true

-- what is kept of a way that is known up to a tick
pub record KnowsWay (was_up : ℕ → Bool) (spread known : ℕ) (way : Way) : Type 0 where
  pub past : way.since ≤ known
  pub unchanged : (tick : ℕ) → way.since ≤ tick → tick ≤ known → was_up tick ≡ way.up
  pub changed : (before : ℕ) → before + 1 ≡ way.since → was_up before ≡ not way.up
  pub latest : IsLatestTick (IsUpFor was_up spread way.since) way.window

-- what is kept of the way up from each of 8 panels to each, by both panels and the tick
abbrev pub KnowsWays : (ℕ → ℕ → ℕ → Bool) → ℕ → ℕ → Ways → Type 0
KnowsWays was_up spread known ways = (place : ℕ) (other : Way) → place < 64
    → KnowsWay (was_up (place / 8 + 1) (place % 8 + 1)) spread known (slice_index_or ways.ways place other)

-- a way that is up at a tick, or isn't, is taken over that tick
abbrev pub TakesWay : Bool → ℕ → ℕ → Way → Way → Type 0
TakesWay up now spread old new = (was_up : ℕ → Bool) (before : ℕ) → KnowsWay was_up spread before old
    → now ≡ before + 1 → was_up now ≡ up → KnowsWay was_up spread now new

-- the way up from each of 8 panels to each, which is up at a tick by the links that are up, or isn't, is taken over
-- that tick
abbrev pub TakesWays : Links → ℕ → ℕ → Ways → Ways → Type 0
TakesWays links now spread old new = (place : ℕ) (other : Way) → place < 64
    → TakesWay (has_way_up (is_link_up links) links.panels (place / 8 + 1) (place % 8 + 1)) now spread
    (slice_index_or old.ways place other) (slice_index_or new.ways place other)
