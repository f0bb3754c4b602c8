-- What the texts of schema 2 come to, by the rules of SQL.
use Rattle.std.proofs.Common.{◌≡◌, [], Ok, refl}
use Rattle.sqlite_resolve.specs.Compile.{table_defined_by}
use Rattle.sqlite_catalog.specs.Change.{created}
use Rattle.sqlite_schema.specs.declared.schema.Schema.{Schema}
use Rattle.sqlite_tied.specs.Compute.{everything}
use Rattle.sqlite.specs.Listing.{understood}
use Rattle.lab_store_tables.specs.Schema.{desk, labs, sessions, fields, choices, records, entries, signatures, trail}
use Rattle.lab_store_tables.proofs.SheetWords.{create_text}
use Rattle.lab_store_tables.specs.Family.{Persons, Forms, Versions}
use Rattle.lab_move_tables.specs.OldSheets.{before}
use Rattle.lab_move_tables.specs.OldSchema.{persons, forms, versions, old_schema}
use Rattle.lab_move_tables.proofs.OldSchemaWords.{persons_text, forms_text, versions_text}

abbrev no_schema : Schema
no_schema = record { tables = []; indexes = []; views = [] }

pub persons_is : table_defined_by persons_text ≡ Ok (record persons { tree = 0 })
unfolding understood everything
persons_is = refl

pub forms_is : table_defined_by forms_text ≡ Ok (record forms { tree = 0 })
unfolding understood everything
forms_is = refl

pub versions_is : table_defined_by versions_text ≡ Ok (record versions { tree = 0 })
unfolding understood everything
versions_is = refl

-- one made after the other, they are the schema
pub schema_is : created (created (created (created (created (created (created (created (created
    (created (created (created no_schema desk) labs) persons) sessions) forms) fields) choices)
    records) versions) entries) signatures) trail ≡ old_schema
unfolding understood everything
schema_is = refl

-- and the texts are those of the descriptions, word for word
pub texts_are : (create_text (before Persons).sheet ≡ persons_text) × (create_text (before Forms).sheet ≡ forms_text) × (create_text (before Versions).sheet ≡ versions_text)
texts_are = (refl, refl, refl)
