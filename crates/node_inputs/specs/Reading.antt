-- What is read of a connection.
use Rattle.std.specs.Prelude.{◌≡◌, ◌+◌, ℕ, List, take, Option, IfSome}
use Rattle.desk_ticks.specs.Blocks.{most_block_bytes}
use Rattle.panel_edges.specs.Contents.{Consumes}

-- the most bytes that are read: one more than a block may have
abbrev pub most_input_bytes : ℕ
most_input_bytes = most_block_bytes + 1

-- these bytes were read of a connection: where it is told what there was, the first of it, as many as are looked at, or
-- all
pub record ReadsInput (left rest : Option (List ℕ)) (bytes : List ℕ) : Type 0 where
  pub consumed : Consumes left rest bytes
  pub first : IfSome left (λ all. bytes ≡ take most_input_bytes all)
