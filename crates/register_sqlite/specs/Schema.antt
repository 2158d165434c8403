-- The two tables of the register, as the database reads the texts that make them.
use Rattle.std.specs.Prelude.{true, false, List, [], ◌∷◌, Some, None, codes, ℕ, Bool}
use Rattle.sqlite_value.specs.Keys.{plain}
use Rattle.sqlite_value.specs.declared.keys.Collation.TheVariants.{Binary}
use Rattle.sqlite_value.specs.declared.value.Value.TheVariants.{Null}
use Rattle.sqlite_schema.specs.declared.schema.Column.{Column}
use Rattle.sqlite_schema.specs.declared.schema.Index.{Index}
use Rattle.sqlite_schema.specs.declared.schema.Kind.{Kind}
use Rattle.sqlite_schema.specs.declared.schema.Kind.TheVariants.{Integer, Text}
use Rattle.sqlite_schema.specs.declared.schema.Schema.{Schema}
use Rattle.sqlite_schema.specs.declared.schema.Table.{Table}

abbrev pub column_of : List ℕ → Kind → Bool → Column
column_of name kind not_null =
    record { name = name; kind = kind; is_strict = true; not_null = not_null; default = Null; collation = Binary }

-- the number of a visit is its row's own
abbrev pub visits_table : Table
visits_table = record {
  name = codes "visits";
  tree = 0;
  columns = column_of (codes "number") Integer false ∷ column_of (codes "day") Integer true
      ∷ column_of (codes "engineer") Text true ∷ [];
  key = Some 0;
  primary = 0 ∷ [];
  uniques = [];
  orders = [];
  checks = [];
  references = [];
  computed = [];
  stamps = record { places = []; terms = []; formats = [] };
  is_counted = false;
}

abbrev pub tests_table : Table
tests_table = record {
  name = codes "tests";
  tree = 1;
  columns = column_of (codes "visit") Integer true ∷ column_of (codes "point") Text true ∷ [];
  key = None;
  primary = 1 ∷ 2 ∷ [];
  uniques = (1 ∷ 2 ∷ []) ∷ [];
  orders = plain ∷ [];
  checks = [];
  references = [];
  computed = [];
  stamps = record { places = []; terms = []; formats = [] };
  is_counted = false;
}

-- what keeps a test from being there twice
abbrev pub tests_index : Index
tests_index = record {
  name = codes "sqlite_autoindex_tests_1";
  tree = 2;
  table = 1;
  columns = 1 ∷ 2 ∷ [];
  order = plain;
  is_unique = true;
}

abbrev pub no_schema : Schema
no_schema = record { tables = []; indexes = []; views = [] }

abbrev pub register_schema : Schema
register_schema = record { tables = visits_table ∷ tests_table ∷ []; indexes = tests_index ∷ []; views = [] }
