-- A row that the rules of its table pass is put, unless no number is left for it.
use Rattle.std.proofs.Common.{◌≡◌, inl, inr, ℕ, zero, suc, ◌&&◌, Bool, true, false, not, List, [], ◌∷◌, ◌++◌, length, length-append, None, Some, Err}
use Rattle.std.proofs.Common.{Option, Result, refl, sym, ap, subst, ◌∙◌, arith}
use Rattle.std.specs.List.{list_all}
use Rattle.sqlite_value.specs.Order.{Row}
use Rattle.sqlite_trees.specs.Tree.{Trees, put_row, rowid, with_tree}
use Rattle.sqlite_trees.specs.View.{is_int}
use Rattle.sqlite_sql.specs.Ops.{fits_i64}
use Rattle.sqlite_schema.specs.Rules.{Keeps, passes as passes_rule, passes_checks}
use Rattle.sqlite_schema.specs.declared.command.Conflict.TheVariants.{Abort}
use Rattle.sqlite_schema.specs.declared.schema.Constraint.TheVariants.{Datatype, NotNull, Check, PrimaryKey, Unique, ForeignKey}
use Rattle.sqlite_rules.specs.Action.{Leads, Writes, works}
use Rattle.sqlite_rules.specs.Cast.{cast_row}
use Rattle.sqlite_rules.specs.Edit.{IsOversized, IsRefused, edit_of, id_in, is_referred, is_taken}
use Rattle.sqlite_rules.specs.Keys.{conflicts}
use Rattle.sqlite_rules.specs.Lists.{Has}
use Rattle.sqlite_rules.specs.Steps.{IsJudged, is_present, is_typed}
use Rattle.sqlite_rules.specs.declared.error.Refusal.{Refusal}
use Rattle.sqlite_rules.specs.declared.error.Refusal.TheVariants.{Violates, Mismatch, NoRowid, BadReference, TooDeep}
use Rattle.sqlite_rules.specs.declared.error.Rowids.TheVariants.{Given}
use Rattle.sqlite.specs.Rows.{Puts, Task, Tries}
use Rattle.sqlite.specs.declared.error.Error.{Error}
use Rattle.sqlite.specs.declared.error.Error.TheVariants.{SqliteFailure}
use Rattle.sqlite.specs.declared.error.ErrorCode.TheVariants as code
use Rattle.register_sqlite.proofs.Parts.{do_nothing}

pub clash : {b : Bool} → b ≡ true → b ≡ false → ⊥
clash is isnt = absurd (let e : true ≡ false = sym is ∙ isnt in cc)

-- a part stops with an error, and only where this is so of it
abbrev pub StopsAt : (Error → Type 0) → Option Error → Type 0
StopsAt Refuses stop = (e : Error) × (stop ≡ Some e) × Refuses e

pub stopped_so : (Refuses : Error → Type 0) {A : Type 0} {stop cause : Option Error} → ◌≡◌ {A = Result A (Option Error)} (Err stop) (Err cause) → StopsAt Refuses cause → StopsAt Refuses stop
stopped_so Refuses is at = subst (StopsAt Refuses) (let e = sym is in cc) at

-- what the rules ask of a row that is new
pub record PassesRules (task : Task) (new : Row) (db : Trees) : Type 0 where
  pub cast : cast_row task.table new ≡ new
  pub int : is_int (rowid new) ≡ true
  pub typed : is_typed task.table new ≡ true
  pub present : is_present task.table new ≡ true
  pub checked : passes_checks task.table new ≡ true
  pub fresh : ((r : Row) → Has (db task.table.tree) r → conflicts None task.schema.indexes task.table new r ≡ true → ⊥) → is_taken (db task.table.tree) new ≡ false
  pub unique : ((r : Row) → Has (db task.table.tree) r → conflicts None task.schema.indexes task.table new r ≡ true → ⊥)
      → Keeps Unique task.schema (with_tree db task.table.tree (put_row new (db task.table.tree)))
  pub referred : is_referred task.schema task.keys (edit_of db task.table [] Given 0 (new ∷ [])) ≡ true
  pub small : IsOversized task.schema task.table new → ⊥
  pub alone : (news : List Row) → works task.schema task.keys 0 task.table.tree [] news ≡ []

and_true : (b : Bool) → (b && true) ≡ b
and_true true = refl
and_true false = refl

module _ (task : Task) (new : Row) (db : Trees) (passes : PassesRules task new db) (Refuses : Error → Type 0)
    (beyond : fits_i64 (id_in (rowid new)) ≡ false → Refuses (SqliteFailure code.NoRowid)) where
  abbrev edit : Rattle.sqlite_rules.specs.Edit.Edit
  edit = edit_of db task.table [] Given 0 (new ∷ [])

  -- the row is the only one that is put
  sole : (test : Row → Bool) → test new ≡ true → list_all test edit.news ≡ true
  sole test is = and_true (test (cast_row task.table new)) ∙ ap test passes.cast ∙ is

  sole_not : (test : Row → Bool) → list_all test edit.news ≡ false → test new ≡ false
  sole_not test isnt = sym (and_true (test (cast_row task.table new)) ∙ ap test passes.cast) ∙ isnt

  misjudged : (why : Refusal) → IsJudged task.table new (Some why) → ⊥
  misjudged Mismatch h = clash passes.int h
  misjudged NoRowid h = h
  misjudged BadReference h = h
  misjudged TooDeep h = h
  misjudged (Violates Datatype) h = clash passes.typed h
  misjudged (Violates NotNull) h = clash passes.present h
  misjudged (Violates Check) h = clash passes.checked h
  misjudged (Violates PrimaryKey) h = h
  misjudged (Violates Unique) h = h
  misjudged (Violates ForeignKey) h = h

  module _ (free : (r : Row) → Has (db task.table.tree) r → conflicts None task.schema.indexes task.table new r ≡ true → ⊥) where
    refused : (why : Refusal) → IsRefused task.schema task.keys db edit why → StopsAt Refuses (Some (Rattle.sqlite.specs.Effect.edit_error why))
    refused Mismatch h = absurd (clash (sole (λ r. is_int (rowid r)) passes.int) h)
    refused NoRowid h = (SqliteFailure code.NoRowid, refl, beyond (sole_not (λ r. fits_i64 (id_in (rowid r))) h))
    refused BadReference h = absurd (clash passes.referred h)
    refused TooDeep h = absurd h
    refused (Violates Datatype) h = absurd (clash (sole (passes_rule Datatype task.schema db task.table) passes.typed) h)
    refused (Violates NotNull) h = absurd (clash (sole (passes_rule NotNull task.schema db task.table) passes.present) h)
    refused (Violates Check) h = absurd (clash (sole (passes_rule Check task.schema db task.table) passes.checked) h)
    refused (Violates PrimaryKey) h =
        absurd (clash (subst (λ row. (not (is_taken (db task.table.tree) row) && true) ≡ true) (sym passes.cast) (rw (passes.fresh free) refl)) h)
    refused (Violates Unique) h =
        absurd (h (subst (λ row. Keeps Unique task.schema (with_tree db task.table.tree (put_row row (db task.table.tree)))) (sym passes.cast) (passes.unique free)))
    refused (Violates ForeignKey) h = absurd h

    unsettled : (next : Trees) (stack : List Rattle.sqlite_rules.specs.Action.Work) → stack ≡ [] → (why : Option Refusal) (n : ℕ) → Leads task.schema task.keys n next stack (Err why) → ⊥
    unsettled next stack none why zero h = absurd (let e = h.1 in cc)
    unsettled next stack none why (suc n) h =
        let same : [] ≡ h.0 ++ h.1 ∷ [] = sym none ∙ h.2 in absurd (omega (arith, ap length same, length-append h.0 (h.1 ∷ [])))

    written : (why : Option Refusal) → Writes task.schema task.keys db edit (Err why) → StopsAt Refuses (Rattle.std.specs.Prelude.option_map Rattle.sqlite.specs.Effect.edit_error why)
    written why (inl (reason, h, is)) =
        let same : why ≡ Some reason = (let e = is in cc) in
        subst (λ w. StopsAt Refuses (Rattle.std.specs.Prelude.option_map Rattle.sqlite.specs.Effect.edit_error w)) (sym same) (refused reason h)
    written why (inr (inl (row, inl is, big, same))) =
        absurd (passes.small (subst (IsOversized task.schema task.table) (is ∙ passes.cast) big))
    written why (inr (inl (row, inr none, big, same))) = absurd none
    written why (inr (inr (next, applies, settles))) = absurd (unsettled next _ (passes.alone edit.news) why settles.0 settles.1)

    puts : (stop : Option Error) → Puts task new db (Err stop) → StopsAt Refuses stop
    puts stop (inr (next, done, gives)) = absurd (let e = gives in cc)
    puts stop (inl (cause, (why, writes, is), same)) = stopped_so Refuses same (subst (StopsAt Refuses) (sym is) (written why writes))

  pub tries : (stop : Option Error) → Tries task Abort do_nothing new db (Err stop) → StopsAt Refuses stop
  tries stop (inl (wide, is)) = stopped_so Refuses is (SqliteFailure code.NoRowid, refl, beyond wide)
  tries stop (inr (None, judged, (there ∷ more, are, meets))) = absurd (let e = meets in cc)
  tries stop (inr (None, judged, ([], are, ([], more, clears)))) = puts (λ r has conflict. are.complete r has conflict) stop clears
  tries stop (inr (None, judged, ([], are, (x ∷ xs, more, clears)))) = puts (λ r has conflict. are.complete r has conflict) stop clears
  tries stop (inr (Some why, judged, refusing)) = absurd (misjudged why judged)
