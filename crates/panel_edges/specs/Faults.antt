-- When a call of an outside object may fail: only where its count of faults rose in that call.
use Rattle.std.specs.Prelude.{◌≡◌, ℕ, ◌+◌, ◌-◌, ◌^◌, ◌≤◌, min, List, Contains, Result, Err, OnErr}
use Rattle.panel_edges.specs.declared.fetching.FetchFault.{FetchFault}
use Rattle.panel_edges.specs.declared.fetching.FetchFault.TheVariants.{Failed}

-- a count after one more, which stands at its type's last value
abbrev pub counted : ℕ → ℕ
counted n = min (n + 1) (2 ^ 64 - 1)

-- a count has risen, or stands at its last value
abbrev pub Rose : ℕ → ℕ → Type 0
Rose before after = counted before ≤ after

-- The count of faults never falls, and a call that failed has raised it.
pub record HasCause {T E : Type 0} (before after : ℕ) (result : Result T E) : Type 0 where
  pub later : before ≤ after
  pub failed : OnErr result (Rose before after)

-- The count of faults never falls, and a fetch that answered Failed has raised it. A file that is too long
-- and want of memory are no faults.
pub record HasFetchCause {T : Type 0} (before after : ℕ) (result : Result T FetchFault) : Type 0 where
  pub later : before ≤ after
  pub failed : result ≡ Err Failed → Rose before after

-- the number of the call after so many is listed
abbrev pub IsListed : List ℕ → ℕ → Type 0
IsListed fails calls = Contains fails (counted calls)
