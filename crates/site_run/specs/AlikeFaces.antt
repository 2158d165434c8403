-- Which panels show the same before and after a tick.
use Rattle.std.specs.Prelude.{◌≡◌, ◌<◌, ℕ, Bool, true, false, List, slice_get, slice_index_or}
use Rattle.face_text.specs.declared.face.Face.{Face}

-- a panel that is marked shows the same in both lists; the first mark is that of panel 1
abbrev pub ShowAlike : List Bool → List Face → List Face → Type 0
ShowAlike alike before after =
    (place : ℕ) → slice_index_or alike place false ≡ true → slice_get before place ≡ slice_get after place

-- each of so many panels is marked
abbrev pub AllAlike : List Bool → ℕ → Type 0
AllAlike alike panels = (place : ℕ) → place < panels → slice_index_or alike place false ≡ true
