-- What a text means under the schema, and the queries of one table or two that texts mean.
use Rattle.std.proofs.Common.{◌≡◌, ℕ, pos, negsuc, List, [], ◌∷◌, codes, false, None, refl}
use Rattle.sqlite_value.specs.declared.keys.Collation.TheVariants.{Binary}
use Rattle.sqlite_value.specs.Keys.{ascending}
use Rattle.sqlite_value.specs.declared.value.Value.TheVariants.{Int}
use Rattle.sqlite_schema.specs.declared.command.Command.TheVariants.{Select}
use Rattle.sqlite_resolve.specs.Compile.{first}
use Rattle.sqlite_tied.specs.Compute.{everything}
use Rattle.sqlite.specs.Listing.{understood, reads_listing}
use Rattle.sqlite.proofs.Callers.{IsPlain, command_of}
use Rattle.sqlite_sql.specs.Query.{Query, inner, end}
use Rattle.sqlite_sql.specs.Term.{Term, lit, col, op2}
use Rattle.sqlite_sql.specs.declared.ops.BinaryOp.TheVariants.{Compare}
use Rattle.sqlite_sql.specs.declared.ops.CompareOp.TheVariants.{Eq, Ge, Le}
use Rattle.lab_store_tables.specs.Schema.{lab_schema}
use Rattle.lab_store_read.proofs.Queries.{IsRead}

-- a text that is a query, under any schema, and means this one under ours, whose columns have these names
pub record Means (sql : List ℕ) (query : Query) (names : List (List ℕ)) : Type 0 where
  pub read : IsRead (first sql)
  pub command : command_of (understood lab_schema sql) ≡ Select (record { lets = []; body = query }) names
  pub unlisted : reads_listing lab_schema sql ≡ false
  pub plain : IsPlain (understood lab_schema sql)

-- the column of the innermost table that equals a parameter
abbrev pub is_param : ℕ → ℕ → Term
is_param at param = op2 (Compare Eq Binary) (col 1 at) (col 0 param)

-- ---- the rows of one parent, each with the code of a person, in the order of a column of numbers

abbrev pub children_query : ℕ → List Term → List Term → ℕ → Query
children_query tree tests shown at = record {
  from = inner tree (inner 3 end);
  filter = tests;
  group = None;
  project = shown;
  distinct = false;
  collations = [];
  order = (col 1 at, ascending Binary) ∷ [];
  limit = lit (Int (negsuc 0));
  offset = lit (Int (pos 0));
}

-- ---- a record by its number: other queries of one table are told by what they have in its place

abbrev pub record_query : Query
record_query = record {
  from = inner 15 end;
  filter = is_param 2 0 ∷ is_param 3 1 ∷ [];
  group = None;
  project = col 1 0 ∷ col 1 3 ∷ col 1 4 ∷ col 1 5 ∷ col 1 6 ∷ col 1 7 ∷ [];
  distinct = false;
  collations = [];
  order = [];
  limit = lit (Int (negsuc 0));
  offset = lit (Int (pos 0));
}

-- ---- rows of one table, in the order of a column

abbrev pub own_query : ℕ → List Term → List Term → ℕ → Query
own_query tree tests shown at = record {
  from = inner tree end;
  filter = tests;
  group = None;
  project = shown;
  distinct = false;
  collations = [];
  order = (col 1 at, ascending Binary) ∷ [];
  limit = lit (Int (negsuc 0));
  offset = lit (Int (pos 0));
}

-- the column lies from the second parameter to the third
abbrev pub range_tests : ℕ → List Term
range_tests at = op2 (Compare Ge Binary) (col 1 at) (col 0 1) ∷ op2 (Compare Le Binary) (col 1 at) (col 0 2) ∷ []

-- ---- the code of a person by the id

abbrev pub code_text : List ℕ
code_text = codes "SELECT code FROM persons WHERE id = ?1"

abbrev pub code_query : Query
code_query = record record_query { from = inner 3 end; filter = is_param 0 0 ∷ []; project = col 1 3 ∷ [] }

pub code_means : Means code_text code_query (codes "code" ∷ [])
unfolding understood everything
code_means = record { read = (_, refl); command = refl; unlisted = refl; plain = (refl, refl) }
