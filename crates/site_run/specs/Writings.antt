-- What a run has written on its way.
use Rattle.std.specs.Prelude.{◌≡◌, ℕ, List, ◌++◌, Option}
use Rattle.panel_edges.specs.Contents.{Grows, GrowsByFront}

-- a text that was written grew to this one: what it has more was written
abbrev pub Advances : Option (List ℕ) → Option (List ℕ) → List ℕ → List ℕ → Type 0
Advances old new before after = (more : List ℕ) × (after ≡ before ++ more) × Grows old new more

-- a write failed on the way: of what it has more a front was written
abbrev pub Breaks : Option (List ℕ) → Option (List ℕ) → List ℕ → List ℕ → Type 0
Breaks old new before after = (more : List ℕ) × (after ≡ before ++ more) × GrowsByFront old new more
