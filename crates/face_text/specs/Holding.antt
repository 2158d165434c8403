-- What was written, and what is still held back to be written with it.
use Rattle.std.specs.Prelude.{◌≡◌, ℕ, List, ◌++◌, Option, Result, OnErr, OnOk}
use Rattle.panel_edges.specs.Contents.{Grows, GrowsByFront}

-- a text came behind what was held: the front of both was written, and the rest is held now
abbrev pub Moves : List ℕ → List ℕ → Option (List ℕ) → Option (List ℕ) → List ℕ → Type 0
Moves held holds before after text = (front : List ℕ) × (held ++ text ≡ front ++ holds)
    × Grows before after front

-- a text was put behind what was held, or a write failed and only a front of both was written
pub record Puts {T E : Type 0} (held holds : List ℕ) (before after : Option (List ℕ)) (text : List ℕ)
    (result : Result T E) : Type 0 where
  pub ok : OnOk result (Moves held holds before after text)
  pub err : OnErr result (GrowsByFront before after (held ++ text))
