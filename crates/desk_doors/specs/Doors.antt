-- What is known of the connections of a door, which may tell them (Some) or not (None).
use Rattle.std.specs.Prelude.{◌≡◌, ℕ, List, [], ◌∷◌, ◌++◌, Option, Some, None}

-- a connection as a door tells it: what is left to read of it, and what was written to it
pub record ToldConn : Type 0 where
  pub unread : Option (List ℕ)
  pub answer : Option (List ℕ)

abbrev pub conn_told : Option (List ℕ) → Option (List ℕ) → ToldConn
conn_told unread answer = record { unread = unread; answer = answer }

-- the connection was the first of those that waited; nothing is said where nothing is told any more
abbrev pub Gives : Option (List ToldConn) → Option (List ToldConn) → ToldConn → Type 0
Gives old None conn = Unit {0}
Gives old (Some waiting) conn = old ≡ Some (conn ∷ waiting)

-- the connection came behind those that were handed back before; nothing is said where nothing is told any
-- more
abbrev pub HandsBack : Option (List ToldConn) → Option (List ToldConn) → ToldConn → Type 0
HandsBack old None conn = Unit {0}
HandsBack old (Some handed) conn = (before : List ToldConn) × (old ≡ Some before) × (handed ≡ before ++ conn ∷ [])

-- what is told is what was told; nothing is said where nothing is told any more
abbrev pub StillTells : Option (List ToldConn) → Option (List ToldConn) → Type 0
StillTells old None = Unit {0}
StillTells old (Some handed) = old ≡ Some handed
