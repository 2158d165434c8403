use Rattle.std.proofs.Common.{◌≡◌, ◌∙◌, ℕ, List, ap, length, sym}
use Rattle.register_import.specs.Judged.{tables_of_rows}
use Rattle.register_import.specs.Rows.{ImportedTest}
use Rattle.register_import.specs.declared.imported.Imported.{Imported}
use Rattle.register_import.proofs.Again.{again_changes_nothing, file_again, rows_again}
use Rattle.register_import.proofs.laws.imports_act_once.Goals as goal

made_alike : (v t w u : ℕ) → v ≡ w → t ≡ u → ◌≡◌ {A = Imported} (record { visits = v; tests = t }) (record { visits = w; tests = u })
made_alike v t w u p q = cc

pub returns : goal.returns
returns c = record {
  judged = λ site records imported a b first. file_again site records first.rows a b first.accepted first.puts;
  changes = λ site records one two a b d first again.
      again_changes_nothing site records first.rows again.rows a b d first.accepted first.puts again.accepted again.puts;
  counts = λ site records one two a b d first again.
      let same = rows_again site records first.rows again.rows a b first.accepted first.puts again.accepted in
      made_alike two.visits two.tests one.visits one.tests
      (again.counts.visits ∙ ap (λ (rows : List ImportedTest). length (tables_of_rows rows).visits) (sym same) ∙ sym first.counts.visits)
      (again.counts.tests ∙ ap (λ (rows : List ImportedTest). length (tables_of_rows rows).tests) (sym same) ∙ sym first.counts.tests);
}
