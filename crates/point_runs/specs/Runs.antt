-- Runs of ticks in which a test holds.
use Rattle.std.specs.Prelude.{◌≡◌, ℕ, ◌+◌, ◌-◌, ◌≤◌, ◌<◌, ◌==◌, ◌&&◌, nat_le, nat_lt, Bool, true, false, if◌then◌else◌}
use Rattle.point_runs.specs.declared.point_run.PointRun.{PointRun}

-- the last tick from which on the test held for a whole round by a tick, 0 where there is none
abbrev pub held_at : ℕ → ℕ → PointRun → ℕ
held_at round now run =
    if nat_lt 0 run.since && nat_le (round - 1) (now - run.since) then now - (round - 1) else run.held

-- the run after one more tick
abbrev pub run_after : ℕ → ℕ → Bool → PointRun → PointRun
run_after round now false run = record { since = 0; held = held_at round (now - 1) run }
run_after round now true run = if run.since == 0 then record { since = now; held = run.held } else run

-- the test holds in each tick of a round
abbrev pub HoldsForRound : (ℕ → Bool) → ℕ → ℕ → Type 0
HoldsForRound test round first = (tick : ℕ) → first ≤ tick → tick < first + round → test tick ≡ true

-- of the rounds that end before a tick, the last one in which the test holds begins here; 0 where there is none
pub record IsLastRound (test : ℕ → Bool) (round last first : ℕ) : Type 0 where
  pub holds : 1 ≤ first → HoldsForRound test round first
  pub ended : 1 ≤ first → first + round ≤ last
  pub latest : (other : ℕ) → 1 ≤ other → other + round ≤ last → HoldsForRound test round other → other ≤ first

-- the tick before which the runs that have ended lie
abbrev pub runs_end : ℕ → PointRun → ℕ
runs_end now run = if run.since == 0 then now + 1 else run.since

-- what is kept after a tick of the ticks, from 1 on, in which the test holds
pub record RunStands (test : ℕ → Bool) (round now : ℕ) (run : PointRun) : Type 0 where
  pub lasts : test now ≡ nat_lt 0 run.since
  pub by : run.since ≤ now
  pub through : (tick : ℕ) → 1 ≤ run.since → run.since ≤ tick → tick ≤ now → test tick ≡ true
  pub begins : 1 ≤ run.since → test (run.since - 1) ≡ false
  pub held : IsLastRound test round (runs_end now run) run.held
