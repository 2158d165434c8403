-- Over an empty database in a store that never fails, a text that makes a table is refused for want of memory alone.
use Rattle.std.proofs.Common.{◌≡◌, inl, inr, ℕ, ◌+◌, ◌*◌, ◌^◌, ◌≤◌, ◌<◌, Bool, true, false, List, [], length, codes, None, Some, Ok, Err, Option, refl, sym, ap, subst, ◌∙◌, arith, IsUtf8}
use Rattle.std.proofs.lemmas.Bool.{ltb-true}
use Rattle.sqlite_value.specs.Order.{Row, value_cmp}
use Rattle.sqlite_value.specs.declared.value.Value.TheVariants.{Text as TextValue}
use Rattle.sqlite_trees.specs.Sound.{begins, fits_kind, is_free_name}
use Rattle.sqlite_trees.specs.Sound as sound
use Rattle.sqlite_schema.specs.Names as names
use Rattle.sqlite_schema.specs.Rules.{index_reals, table_reals}
use Rattle.sqlite_schema.specs.declared.command.Command.TheVariants.{CreateTable}
use Rattle.sqlite_schema.specs.declared.schema.Index.{Index}
use Rattle.sqlite_schema.specs.declared.schema.Schema.{Schema}
use Rattle.sqlite_schema.specs.declared.schema.Table.{Table}
use Rattle.sqlite_rules.specs.Lists.{Has}
use Rattle.sqlite_catalog.specs.Calls.{RefusesTable}
use Rattle.sqlite_catalog.specs.Change.{automatics, created, is_reserved, is_used, next_tree}
use Rattle.sqlite_catalog.specs.Listing.{is_fit, is_formed}
use Rattle.sqlite_catalog.specs.declared.error.Refusal.{Refusal}
use Rattle.sqlite_catalog.specs.declared.error.Refusal.TheVariants.{Invalid, NameTaken, BadName, TooBig, BadKey, BadText, Violates}
use Rattle.sqlite.specs.Compile.{table_defined_by}
use Rattle.sqlite.specs.Does.{Does, MakesTable, lacks_sequence}
use Rattle.sqlite.specs.Effect.{Database}
use Rattle.sqlite.specs.State.{Executes, IsMisplaced, State, mode_of}
use Rattle.sqlite.specs.declared.error.Error.{Error}
use Rattle.sqlite.specs.declared.error.Error.TheVariants.{SqliteFailure}
use Rattle.sqlite.specs.declared.error.ErrorCode.TheVariants.{OutOfMemory}
use Rattle.sqlite.specs.declared.run.Mode.{Mode}
use Rattle.sqlite.specs.Listing.{understood}
use Rattle.sqlite.proofs.Callers.{statement_of}
use Rattle.sqlite_tied.specs.Compute.{everything}
use Rattle.register_sqlite.specs.Schema.{no_schema, tests_table, visits_table}
use Rattle.register_sqlite.specs.Texts.{create_tests_text, create_visits_text}
use Rattle.register_sqlite.proofs.Parts.{same_value}
use Rattle.register_sqlite.proofs.Understood.{tests_command, tests_defined, tests_plain, tests_whole, visits_command, visits_defined, visits_plain, visits_schema, visits_whole}
use Rattle.register_sqlite.proofs.Wanting.{IsSteadily, executes}

-- nothing speaks against the table that a text defines
pub record CanMake (schema : Schema) (text : List ℕ) (table : Table) : Type 0 where
  pub defined : table_defined_by text ≡ Ok table
  pub free : is_used schema table.name ≡ false
  pub free_too : (index : Index) → Has (automatics table 0 0 table.uniques) index → is_used schema index.name ≡ false
  pub named : IsUtf8 table.name
  pub unreserved : is_reserved table.name ≡ false
  pub few : next_tree schema + length table.uniques < 65536
  pub no_reals : table_reals table ≡ 0
  pub no_key_reals : (key : List ℕ) → Has table.uniques key → index_reals (table_reals table) key ≡ 0
  pub formed : is_formed table ≡ true
  pub fit : is_fit (TextValue (codes "table")) (TextValue table.name) (TextValue table.name) (TextValue text) ≡ true
  pub short : 2 * length table.name + length text + 200 < 10 ^ 9
  pub utf8 : IsUtf8 text
  pub uncounted : lacks_sequence (created schema table) ≡ false

clash : {b : Bool} → b ≡ true → b ≡ false → ⊥
clash is isnt = absurd (let e : true ≡ false = sym is ∙ isnt in cc)

module _ (schema : Schema) (text : List ℕ) (table : Table) (can : CanMake schema text table) where
  this : (found : Table) → table_defined_by text ≡ Ok found → table ≡ found
  this found is = same_value (sym can.defined ∙ is)

  refuses : (reason : Refusal) → RefusesTable schema text reason → ⊥
  refuses (Invalid e) h = absurd (let both = sym can.defined ∙ h in cc)
  refuses NameTaken (found, is, inl used) = clash (subst (λ t. is_used schema t.name ≡ true) (sym (this found is)) used) can.free
  refuses NameTaken (found, is, inr (index, has, used)) =
      clash used (can.free_too index (subst (λ (t : Table). Has (automatics t 0 0 t.uniques) index) (sym (this found is)) has))
  refuses BadName (found, is, inl bytes) = bytes (subst (λ (t : Table). IsUtf8 t.name) (this found is) can.named)
  refuses BadName (found, is, inr (taken, own)) = clash (subst (λ (t : Table). is_reserved t.name ≡ true) (sym (this found is)) taken) can.unreserved
  refuses TooBig (found, is, inl many) =
      let some : 65536 ≤ next_tree schema + length table.uniques = subst (λ (t : Table). 65536 ≤ next_tree schema + length t.uniques) (sym (this found is)) many in
      omega (arith, some, can.few)
  refuses TooBig (found, is, inr (inl bits)) =
      let some : 2 ^ 64 ≤ table_reals table = subst (λ (t : Table). 2 ^ 64 ≤ table_reals t) (sym (this found is)) bits in omega (arith, some, can.no_reals)
  refuses TooBig (found, is, inr (inr (key, has, bits))) =
      let here : Has table.uniques key = subst (λ (t : Table). Has t.uniques key) (sym (this found is)) has in
      let some : 2 ^ 64 ≤ index_reals (table_reals table) key = subst (λ (t : Table). 2 ^ 64 ≤ index_reals (table_reals t) key) (sym (this found is)) bits in
      let none = can.no_key_reals key here in
      omega (arith, some, none)
  refuses BadKey (found, is, unformed) = clash can.formed (subst (λ t. is_formed t ≡ false) (sym (this found is)) unformed)
  refuses BadText (found, is, unfit) =
      clash can.fit (subst (λ (t : Table). is_fit (TextValue (codes "table")) (TextValue t.name) (TextValue t.name) (TextValue text) ≡ false) (sym (this found is)) unfit)
  refuses (Violates rule) h = h

  module _ (db : Database) (has : db.schema ≡ schema) where
    makes : (stop : Option Error) → MakesTable text db (Err stop) → ⊥
    makes None (found, is, long) =
        let some : 10 ^ 9 ≤ 2 * length table.name + length text + 200 =
        subst (λ (t : Table). 10 ^ 9 ≤ 2 * length t.name + length text + 200) (sym (this found is)) long in
        omega (arith, some, can.short)
    makes (Some e) (inl (bytes, named)) = bytes can.utf8
    makes (Some e) (inr (reason, h, named)) = refuses reason (subst (λ s. RefusesTable s text reason) has h)

    pub made : (limit : Option ℕ) (mode : Mode) (params : Row) (stop : Option Error) → Does limit mode params db text None CreateTable (Err stop) → ⊥
    made limit mode params stop (inr (after, done, gives)) = absurd (let e = gives in cc)
    made limit mode params stop (inl (why, inl (cause, h, same), is)) = makes cause h
    made limit mode params stop (inl (why, inr (after, h, rest), is)) =
        let plain : lacks_sequence after.schema ≡ false =
        ap lacks_sequence (h.is ∙ ap (λ s. created s h.table) has ∙ ap (created schema) (sym (this h.table h.defined))) ∙ can.uncounted in
        absurd (let e = rw plain at rest in cc)

pub visits_can : CanMake no_schema (statement_of create_visits_text (understood no_schema create_visits_text)) visits_table
unfolding understood everything fits_kind is_free_name begins value_cmp sound.same_name names.same_name lib.Utf8.encode lib.Ieee.is_nan lib.Ieee.lt
visits_can = record {
  defined = visits_defined;
  free = refl;
  free_too = λ index has. absurd has;
  named = (visits_table.name, (refl, refl));
  unreserved = refl;
  few = omega arith;
  no_reals = refl;
  no_key_reals = λ key has. absurd has;
  formed = refl;
  fit = refl;
  short = ltb-true _ _ refl;
  utf8 = (create_visits_text, (refl, refl));
  uncounted = refl;
}

pub tests_can : CanMake visits_schema (statement_of create_tests_text (understood visits_schema create_tests_text)) (record tests_table { tree = 0 })
unfolding understood everything fits_kind is_free_name begins value_cmp sound.same_name names.same_name lib.Utf8.encode lib.Ieee.is_nan lib.Ieee.lt
tests_can = record {
  defined = tests_defined;
  free = refl;
  free_too = free_too;
  named = (tests_table.name, (refl, refl));
  unreserved = refl;
  few = omega arith;
  no_reals = refl;
  no_key_reals = no_key_reals;
  formed = refl;
  fit = refl;
  short = ltb-true _ _ refl;
  utf8 = (create_tests_text, (refl, refl));
  uncounted = refl;
}
  where
    free_too : (index : Index) → Has (automatics (record tests_table { tree = 0 }) 0 0 tests_table.uniques) index → is_used visits_schema index.name ≡ false
    free_too index (inl is) = rw is refl
    free_too index (inr none) = absurd none

    no_key_reals : (key : List ℕ) → Has tests_table.uniques key → index_reals (table_reals (record tests_table { tree = 0 })) key ≡ 0
    no_key_reals key (inl is) = rw is refl
    no_key_reals key (inr none) = absurd none

placed : (old : State) (e : Error) → IsMisplaced old CreateTable e → ⊥
placed old e (inl (named, inl (is, on))) = absurd (let k = is in cc)
placed old e (inl (named, inr (inl is, off))) = absurd (let k = is in cc)
placed old e (inl (named, inr (inr is, off))) = absurd (let k = is in cc)
placed old e (inr (named, name, inl is, none)) = absurd (let k = is in cc)
placed old e (inr (named, name, inr is, none)) = absurd (let k = is in cc)

module _ (old new : State) (it : IsSteadily old new) where
  abbrev IsWant : Error → Type 0
  IsWant e = e ≡ SqliteFailure OutOfMemory

  pub create_visits_wants : old.now.schema ≡ no_schema → (e : Error) → Executes create_visits_text [] old new (Err e) → IsWant e
  create_visits_wants has e h =
      executes old new it create_visits_text [] no_schema has CreateTable visits_command visits_plain visits_whole IsWant refl refl (placed old)
      (λ e done. absurd (made no_schema _ visits_table visits_can old.now has old.step_limit (mode_of old) [] (Some e) done))
      (made no_schema _ visits_table visits_can old.now has old.step_limit (mode_of old) [] None) e h

  pub create_tests_wants : old.now.schema ≡ visits_schema → (e : Error) → Executes create_tests_text [] old new (Err e) → IsWant e
  create_tests_wants has e h =
      executes old new it create_tests_text [] visits_schema has CreateTable tests_command tests_plain tests_whole IsWant refl refl (placed old)
      (λ e done. absurd (made visits_schema _ (record tests_table { tree = 0 }) tests_can old.now has old.step_limit (mode_of old) [] (Some e) done))
      (made visits_schema _ (record tests_table { tree = 0 }) tests_can old.now has old.step_limit (mode_of old) [] None) e h
