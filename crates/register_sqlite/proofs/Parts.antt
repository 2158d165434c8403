-- What a text made of the database, part by part.
use Rattle.std.proofs.Common.{◌≡◌, ◌⊎◌, inl, inr, true, List, [], ◌∷◌, Some, None, Ok, Err, Result, refl, sym, ap, subst}
use Rattle.sqlite_value.specs.Order.{Row}
use Rattle.sqlite_schema.specs.declared.command.Conflict.TheVariants.{Abort}
use Rattle.sqlite_schema.specs.declared.command.Upsert.{Upsert}
use Rattle.sqlite_rules.specs.declared.error.Rowids.TheVariants.{Given}
use Rattle.sqlite_rules.specs.Action.{works}
use Rattle.sqlite_rules.specs.Edit.{Applies, edit_of}
use Rattle.sqlite_rules.specs.Keys.{conflicts}
use Rattle.sqlite_rules.specs.Lists.{Has}
use Rattle.sqlite.specs.Tree.{Trees}
use Rattle.sqlite.specs.Rows.{Task, Tries, Written, nothing}
use Rattle.sqlite.proofs.Callers.{one_step}

-- a part that gave a value did not stop on the way
pub went : {B E R : Type 0} {b : B} {Stops : E → Type 0} → ((stop : E) × Stops stop × (Ok b ≡ Err stop)) ⊎ R → R
went (inl stopped) = absurd (let e = stopped.2 in cc)
went (inr on) = on

pub same_value : {B E : Type 0} {a b : B} → ◌≡◌ {A = Result B E} (Ok a) (Ok b) → a ≡ b
same_value e = cc

abbrev pub do_nothing : List Upsert
do_nothing = record { target = None; update = None } ∷ []

-- a row with the same key is there, and nothing changes
pub record PassesOver (task : Task) (new : Row) (db : Trees) (one : Written) : Type 0 where
  pub there : Row
  pub has : Has (db task.table.tree) there
  pub conflicts_it : conflicts None task.schema.indexes task.table new there ≡ true
  pub same : one ≡ nothing db

-- no row has the same key, and this one is put among them
pub record PutsRow (task : Task) (new : Row) (db : Trees) (one : Written) : Type 0 where
  pub free : (r : Row) → Has (db task.table.tree) r → conflicts None task.schema.indexes task.table new r ≡ true → ⊥
  pub applies : Applies task.schema task.keys db (edit_of db task.table [] Given 0 (new ∷ [])) one.trees

module _ (task : Task) (new : Row) (db : Trees) (one : Written)
    (none : (news : List Row) → works task.schema task.keys 0 task.table.tree [] news ≡ []) where
  puts : ((r : Row) → Has (db task.table.tree) r → conflicts None task.schema.indexes task.table new r ≡ true → ⊥)
      → Rattle.sqlite.specs.Rows.Puts task new db (Ok one) → PutsRow task new db one
  puts free h =
      let done = went h in
      let edit = edit_of db task.table [] Given 0 (new ∷ []) in
      let step = one_step task.schema task.keys db done.0 edit (none edit.news) done.1 in
      record { free = free; applies = subst (λ trees. Applies task.schema task.keys db edit trees) (ap (λ (w : Written). w.trees) (sym (same_value done.2))) step }

  pub tried : Tries task Abort do_nothing new db (Ok one) → PassesOver task new db one ⊎ PutsRow task new db one
  tried (inl big) = absurd (let e = big.1 in cc)
  tried (inr (None, judged, (there ∷ more, are, meets))) =
      let found = are.sound there (inl refl) in
      inl (record { there = found.0; has = found.1; conflicts_it = found.2; same = same_value meets })
  tried (inr (None, judged, ([], are, ([], more, clears)))) = inr (puts (λ r has conflict. are.complete r has conflict) clears)
  tried (inr (None, judged, ([], are, (x ∷ xs, more, clears)))) = inr (puts (λ r has conflict. are.complete r has conflict) clears)
  tried (inr (Some why, judged, refused)) = absurd (let e = refused in cc)
