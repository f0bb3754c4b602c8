-- What the statements mean, each under the schema that the ones before it have made.
use Rattle.std.proofs.Common.{◌≡◌, ℕ, pos, negsuc, List, [], ◌∷◌, ◌++◌, codes, false, None, Ok, Err, refl}
use Rattle.sqlite_value.specs.declared.value.Value.TheVariants.{Int}
use Rattle.sqlite_schema.specs.declared.schema.Schema.{Schema}
use Rattle.sqlite_schema.specs.declared.schema.Table.{Table}
use Rattle.sqlite_schema.specs.declared.command.Command.TheVariants.{Select, CreateTable, CreateIndex}
use Rattle.sqlite_sql.specs.Query.{Query, inner, end}
use Rattle.sqlite_sql.specs.Term.{lit, col}
use Rattle.sqlite_resolve.specs.declared.error.CompileError.TheVariants.{NoSuchTable}
use Rattle.sqlite_resolve.specs.Compile.{table_defined_by, index_defined_by}
use Rattle.sqlite_catalog.specs.Change.{created, indexed}
use Rattle.sqlite_tied.specs.Compute.{everything}
use Rattle.sqlite.specs.Does.{lacks_sequence}
use Rattle.sqlite.specs.Listing.{understood, reads_listing, listing_schema}
use Rattle.sqlite.proofs.Callers.{IsPlain, command_of, statement_of}
use Rattle.lab_store_tables.specs.Schema.{sessions, sessions_of_person, lab_schema}
use Rattle.lab_store_tables.proofs.SchemaWords.{sessions_of_person_text}
use Rattle.lab_store_tables.proofs.SchemaValues.{desk_is, labs_is, persons_is, sessions_is, forms_is, fields_is, choices_is, records_is, versions_is, entries_is, signatures_is, trail_is, sessions_of_person_is, schema_is}
use Rattle.lab_store_files.specs.NewFiles.{no_schema}
use Rattle.lab_store_files.specs.Verdicts.{number_query}
use Rattle.lab_move_write.specs.Tables.{own_tables, schema_of}

-- the statement of a table, under the schema that the ones before it have made, makes it, and nothing beside it
pub record MakesTable (schema : Schema) (one : Table × List ℕ) : Type 0 where
  pub command : command_of (understood schema one.1) ≡ CreateTable
  pub text : statement_of one.1 (understood schema one.1) ≡ one.1
  pub plain : IsPlain (understood schema one.1)
  pub uncounted : lacks_sequence (created schema one.0) ≡ false
  pub defined : table_defined_by one.1 ≡ Ok (record one.0 { tree = 0 })

-- each of them does, behind those that were made before
abbrev pub AreMadeFrom : List (Table × List ℕ) → List (Table × List ℕ) → Type 0
AreMadeFrom before [] = Unit {0}
AreMadeFrom before (one ∷ others) = MakesTable (schema_of before) one × AreMadeFrom (before ++ one ∷ []) others

pub all_made : AreMadeFrom [] own_tables
unfolding understood everything
all_made = (
  record { command = refl; text = refl; plain = (refl, refl); uncounted = refl; defined = desk_is },
  (
    record { command = refl; text = refl; plain = (refl, refl); uncounted = refl; defined = labs_is },
    (
      record { command = refl; text = refl; plain = (refl, refl); uncounted = refl; defined = persons_is },
      (
        record { command = refl; text = refl; plain = (refl, refl); uncounted = refl; defined = sessions_is },
        (
          record { command = refl; text = refl; plain = (refl, refl); uncounted = refl; defined = forms_is },
          (
            record { command = refl; text = refl; plain = (refl, refl); uncounted = refl; defined = fields_is },
            (
              record { command = refl; text = refl; plain = (refl, refl); uncounted = refl; defined = choices_is },
              (
                record { command = refl; text = refl; plain = (refl, refl); uncounted = refl; defined = records_is },
                (
                  record { command = refl; text = refl; plain = (refl, refl); uncounted = refl; defined = versions_is },
                  (
                    record { command = refl; text = refl; plain = (refl, refl); uncounted = refl; defined = entries_is },
                    (
                      record { command = refl; text = refl; plain = (refl, refl); uncounted = refl; defined = signatures_is },
                      (
                        record { command = refl; text = refl; plain = (refl, refl); uncounted = refl; defined = trail_is },
                        tt,
                      ),
                    ),
                  ),
                ),
              ),
            ),
          ),
        ),
      ),
    ),
  ),
)

-- ---- the index

pub index_makes : command_of (understood (schema_of own_tables) sessions_of_person_text) ≡ CreateIndex 3
unfolding understood everything
index_makes = refl

pub index_text : statement_of sessions_of_person_text (understood (schema_of own_tables) sessions_of_person_text) ≡ sessions_of_person_text
unfolding understood everything
index_text = refl

pub index_plain : IsPlain (understood (schema_of own_tables) sessions_of_person_text)
unfolding understood everything
index_plain = (refl, refl)

pub index_is : index_defined_by sessions sessions_of_person_text ≡ Ok (record sessions_of_person { tree = 0 })
index_is = sessions_of_person_is

pub whole_is : indexed (schema_of own_tables) sessions sessions_of_person ≡ lab_schema
whole_is = schema_is

-- ---- the question for the number, of the tables and of an empty file

abbrev pub desk_query : Query
desk_query = record {
  from = inner 0 end;
  filter = [];
  group = None;
  project = col 1 2 ∷ [];
  distinct = false;
  collations = [];
  order = [];
  limit = lit (Int (negsuc 0));
  offset = lit (Int (pos 0));
}

pub query_is : command_of (understood lab_schema number_query) ≡ Select (record { lets = []; body = desk_query }) (codes "schema" ∷ [])
unfolding understood everything
query_is = refl

pub query_unlisted : reads_listing lab_schema number_query ≡ false
unfolding understood everything
query_unlisted = refl

pub query_plain : IsPlain (understood lab_schema number_query)
unfolding understood everything
query_plain = (refl, refl)

pub query_refused : understood no_schema number_query ≡ Err NoSuchTable
unfolding understood everything listing_schema
query_refused = refl
