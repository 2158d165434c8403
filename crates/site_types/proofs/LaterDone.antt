-- Operations that were done from a tick on.
use Rattle.std.specs.Prelude.{List, ℕ, ◌∷◌, ◌≤◌, []}
use Rattle.site_types.specs.Done.{Done}

-- each was done at x or later
abbrev pub AreFrom : ℕ → List Done → Type 0
AreFrom x [] = Unit {0}
AreFrom x (d ∷ ds) = (x ≤ d.tick) × AreFrom x ds
