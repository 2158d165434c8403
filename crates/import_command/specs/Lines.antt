-- The lines that tell what came of an import.
use Rattle.std.specs.Prelude.{ℕ, List, ◌++◌, codes, decimal}
use Rattle.register_import.specs.declared.imported.Imported.{Imported}

-- how many visits and tests the file has
abbrev pub imported_line : Imported → List ℕ
imported_line imported = codes "imported visits " ++ decimal imported.visits
    ++ codes " tests " ++ decimal imported.tests ++ codes "\n"

-- the row that is refused, and why
abbrev pub row_line : ℕ → ℕ → List ℕ
row_line row why = codes "refused row " ++ decimal row ++ codes " " ++ decimal why ++ codes "\n"
