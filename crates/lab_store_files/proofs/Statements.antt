-- What the statements mean, each under the schema that the ones before it have made.
use Rattle.std.proofs.Common.{◌≡◌, ℕ, pos, negsuc, List, [], ◌∷◌, codes, false, None, Ok, refl, ap, sym, ◌∙◌}
use Rattle.sqlite_value.specs.declared.value.Value.TheVariants.{Null, Int}
use Rattle.sqlite_schema.specs.declared.schema.Schema.{Schema}
use Rattle.sqlite_schema.specs.declared.command.Command.TheVariants.{Select, Insert, CreateTable, CreateIndex}
use Rattle.sqlite_schema.specs.declared.command.Source.TheVariants.{Values}
use Rattle.sqlite_sql.specs.Query.{Query, inner, end}
use Rattle.sqlite_sql.specs.Term.{Term, lit, col}
use Rattle.sqlite_resolve.specs.Compile.{table_defined_by, index_defined_by}
use Rattle.sqlite_catalog.specs.Change.{created, indexed}
use Rattle.sqlite_tied.specs.Compute.{everything}
use Rattle.sqlite.specs.Does.{lacks_sequence}
use Rattle.sqlite.specs.Listing.{understood, reads_listing}
use Rattle.sqlite.proofs.Callers.{IsPlain, command_of, statement_of}
use Rattle.lab_store_tables.specs.Schema.{sessions, sessions_of_person, lab_schema}
use Rattle.lab_store_tables.proofs.SchemaWords.{sessions_of_person_text}
use Rattle.lab_store_tables.proofs.SchemaValues.{desk_is, labs_is, persons_is, sessions_is, forms_is, fields_is, choices_is, records_is, versions_is, entries_is, signatures_is, trail_is, sessions_of_person_is, schema_is}
use Rattle.lab_store_files.specs.declared.tables.LabTable.{LabTable}
use Rattle.lab_store_files.specs.declared.tables.LabTable.TheVariants.{Desk, Labs, Persons, Sessions, Forms, Fields, Choices, Records, Versions, Entries, Signatures, Trail}
use Rattle.lab_store_files.specs.Tables.{own_table, all_tables}
use Rattle.lab_store_files.specs.Private.Tables.{table_text}
use Rattle.lab_store_files.specs.Private.NewFiles.{schema_of, schema_before, schema_with}
use Rattle.lab_store_files.specs.Verdicts.{number_query}

-- the statement of a table makes it, and nothing beside it
pub record MakesTable (one : LabTable) : Type 0 where
  pub command : command_of (understood (schema_before one) (table_text one)) ≡ CreateTable
  pub text : statement_of (table_text one) (understood (schema_before one) (table_text one)) ≡ table_text one
  pub plain : IsPlain (understood (schema_before one) (table_text one))
  pub uncounted : lacks_sequence (schema_with one) ≡ false

makes_desk : MakesTable Desk
unfolding understood everything
makes_desk = record { command = refl; text = refl; plain = (refl, refl); uncounted = refl }

makes_labs : MakesTable Labs
unfolding understood everything
makes_labs = record { command = refl; text = refl; plain = (refl, refl); uncounted = refl }

makes_persons : MakesTable Persons
unfolding understood everything
makes_persons = record { command = refl; text = refl; plain = (refl, refl); uncounted = refl }

makes_sessions : MakesTable Sessions
unfolding understood everything
makes_sessions = record { command = refl; text = refl; plain = (refl, refl); uncounted = refl }

makes_forms : MakesTable Forms
unfolding understood everything
makes_forms = record { command = refl; text = refl; plain = (refl, refl); uncounted = refl }

makes_fields : MakesTable Fields
unfolding understood everything
makes_fields = record { command = refl; text = refl; plain = (refl, refl); uncounted = refl }

makes_choices : MakesTable Choices
unfolding understood everything
makes_choices = record { command = refl; text = refl; plain = (refl, refl); uncounted = refl }

makes_records : MakesTable Records
unfolding understood everything
makes_records = record { command = refl; text = refl; plain = (refl, refl); uncounted = refl }

makes_versions : MakesTable Versions
unfolding understood everything
makes_versions = record { command = refl; text = refl; plain = (refl, refl); uncounted = refl }

makes_entries : MakesTable Entries
unfolding understood everything
makes_entries = record { command = refl; text = refl; plain = (refl, refl); uncounted = refl }

makes_signatures : MakesTable Signatures
unfolding understood everything
makes_signatures = record { command = refl; text = refl; plain = (refl, refl); uncounted = refl }

makes_trail : MakesTable Trail
unfolding understood everything
makes_trail = record { command = refl; text = refl; plain = (refl, refl); uncounted = refl }

pub makes_table : (one : LabTable) → MakesTable one
makes_table Desk = makes_desk
makes_table Labs = makes_labs
makes_table Persons = makes_persons
makes_table Sessions = makes_sessions
makes_table Forms = makes_forms
makes_table Fields = makes_fields
makes_table Choices = makes_choices
makes_table Records = makes_records
makes_table Versions = makes_versions
makes_table Entries = makes_entries
makes_table Signatures = makes_signatures
makes_table Trail = makes_trail

-- what it makes
pub table_is : (one : LabTable) → table_defined_by (table_text one) ≡ Ok (record (own_table one) { tree = 0 })
table_is Desk = desk_is
table_is Labs = labs_is
table_is Persons = persons_is
table_is Sessions = sessions_is
table_is Forms = forms_is
table_is Fields = fields_is
table_is Choices = choices_is
table_is Records = records_is
table_is Versions = versions_is
table_is Entries = entries_is
table_is Signatures = signatures_is
table_is Trail = trail_is

-- ---- the index

pub index_makes : command_of (understood (schema_of all_tables) sessions_of_person_text) ≡ CreateIndex 3
unfolding understood everything
index_makes = refl

pub index_text : statement_of sessions_of_person_text (understood (schema_of all_tables) sessions_of_person_text) ≡ sessions_of_person_text
unfolding understood everything
index_text = refl

pub index_plain : IsPlain (understood (schema_of all_tables) sessions_of_person_text)
unfolding understood everything
index_plain = (refl, refl)

pub index_is : index_defined_by sessions sessions_of_person_text ≡ Ok (record sessions_of_person { tree = 0 })
index_is = sessions_of_person_is

pub whole_is : indexed (schema_of all_tables) sessions sessions_of_person ≡ lab_schema
whole_is = schema_is

-- ---- the row that names the schema

abbrev pub row_text : List ℕ
row_text = codes "INSERT INTO desk (schema) VALUES (3)"

abbrev pub row_terms : List Term
row_terms = lit Null ∷ lit Null ∷ lit (Int (pos 3)) ∷ []

pub row_makes : command_of (understood lab_schema row_text) ≡ Insert 0 (Values row_terms 3)
unfolding understood everything
row_makes = refl

pub row_plain : IsPlain (understood lab_schema row_text)
unfolding understood everything
row_plain = (refl, refl)

-- ---- the question for the number

abbrev pub desk_query : Query
desk_query = record {
  from = inner 0 end;
  filter = [];
  group = None;
  project = col 1 2 ∷ [];
  distinct = false;
  collations = [];
  order = [];
  limit = lit (Int (negsuc 0));
  offset = lit (Int (pos 0));
}

pub query_is : command_of (understood lab_schema number_query) ≡ Select (record { lets = []; body = desk_query }) (codes "schema" ∷ [])
unfolding understood everything
query_is = refl

pub query_unlisted : reads_listing lab_schema number_query ≡ false
unfolding understood everything
query_unlisted = refl

pub query_plain : IsPlain (understood lab_schema number_query)
unfolding understood everything
query_plain = (refl, refl)
