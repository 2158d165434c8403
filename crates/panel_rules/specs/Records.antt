-- Records whose ticks have an order of the site's seats each.
use Rattle.std.specs.Prelude.{ℕ, ◌+◌, ◌≤◌, ◌<◌, ◌≡◌, true, List, [], ◌∷◌}
use Rattle.tick_units.specs.Orders.{IsOrder}
use Rattle.site_types.specs.Profile.{round_of, last_address_of}
use Rattle.panel_rules.specs.Moments.{TickBlock, moments, IsRun, HaveAllTurned}
use Rattle.loop_poller.specs.Asked.{is_asked}

abbrev pub AreOrdered : ℕ → List TickBlock → Type 0
AreOrdered panels [] = Unit {0}
AreOrdered panels (tick ∷ ticks) = AreOrdered panels ticks × IsOrder panels tick.order

-- a record whose ticks have an order of the site's seats each is a run, and each seat has had its turn in its last
-- tick
abbrev pub RecordsAreRuns : Type 0
RecordsAreRuns = (panels : ℕ) (ticks : List TickBlock) → AreOrdered panels ticks
    → IsRun panels (moments ticks) × HaveAllTurned panels (moments ticks)

-- in a round there is one tick, and no other, in which an address is asked
pub record IsAskedOnce (format address first : ℕ) : Type 0 where
  pub tick : ℕ
  pub from : first ≤ tick
  pub by : tick < first + round_of format
  pub asked : is_asked format address tick ≡ true
  pub only : (other : ℕ) → first ≤ other → other < first + round_of format
      → is_asked format address other ≡ true → other ≡ tick

abbrev pub AskedOnceInARound : Type 0
AskedOnceInARound = (format address first : ℕ) → 1 ≤ format → format ≤ 2 → 1 ≤ address
    → address ≤ last_address_of format → IsAskedOnce format address first
