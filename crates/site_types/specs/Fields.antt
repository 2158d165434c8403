-- The fields of a line: what stands before, between and behind its spaces.
use Rattle.std.specs.Prelude.{◌==◌, ℕ, zero, suc, List, [], ◌∷◌, if◌then◌else◌}

-- the bytes before the first space
abbrev pub before_space : List ℕ → List ℕ
before_space [] = []
before_space (byte ∷ rest) = if byte == 32 then [] else byte ∷ before_space rest

-- the bytes behind it
abbrev pub after_space : List ℕ → List ℕ
after_space [] = []
after_space (byte ∷ rest) = if byte == 32 then rest else after_space rest

-- the field at a place, counted from 0; empty where there is none
abbrev pub field : ℕ → List ℕ → List ℕ
field zero text = before_space text
field (suc place) text = field place (after_space text)
