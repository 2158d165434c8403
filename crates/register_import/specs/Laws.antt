-- A file that is imported again is accepted and changes nothing, and one that was put in part is completed.
use Rattle.std.specs.Prelude.{◌≡◌, List, ℕ}
use Rattle.register_import.specs.Answers.{Imports, ImportsFront}
use Rattle.register_import.specs.Judged.{file_judged}
use Rattle.register_import.specs.declared.imported.Imported.{Imported}
use Rattle.service_keepers.specs.Tables.{Tables}
use Rattle.site_types.specs.declared.site.Site.{Site}

-- a file that was imported is judged again as before, leaves the tables as they are, and is told by the same numbers
pub record ImportsActOnce : Type 0 where
  pub judged : (site : Site) (records : List (List (List ℕ))) (imported : Imported) (a b : Tables)
      → Imports site records imported a b → file_judged site b records ≡ file_judged site a records
  pub changes : (site : Site) (records : List (List (List ℕ))) (first again : Imported) (a b c : Tables)
      → Imports site records first a b → Imports site records again b c → c ≡ b
  pub counts : (site : Site) (records : List (List (List ℕ))) (first again : Imported) (a b c : Tables)
      → Imports site records first a b → Imports site records again b c → again ≡ first

-- a file of which some first rows were put is judged again as before, and imported again it is as if at once
pub record ImportsAreCompleted : Type 0 where
  pub judged : (site : Site) (records : List (List (List ℕ))) (a b : Tables)
      → ImportsFront site records a b → file_judged site b records ≡ file_judged site a records
  pub completed : (site : Site) (records : List (List (List ℕ))) (imported : Imported) (a b c : Tables)
      → ImportsFront site records a b → Imports site records imported b c → Imports site records imported a c
