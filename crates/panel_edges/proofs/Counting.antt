-- Laws of counts of faults.
use Rattle.std.proofs.Common.{ℕ, ◌≤◌, arith}
use Rattle.panel_edges.specs.Faults.{Rose}

-- a count that rose has also risen since an earlier moment
pub rose_since : (a b c : ℕ) → a ≤ b → Rose b c → Rose a c
rose_since a b c earlier rose = omega (arith, earlier, rose)

-- a count that rose stays risen
pub rose_till : (a b c : ℕ) → Rose a b → b ≤ c → Rose a c
rose_till a b c rose later = omega (arith, rose, later)
