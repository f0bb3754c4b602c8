-- What the texts of the tables come to, by the rules of SQL.
use Rattle.std.proofs.Common.{◌≡◌, [], Ok, refl}
use Rattle.sqlite_resolve.specs.Compile.{table_defined_by, index_defined_by}
use Rattle.sqlite_catalog.specs.Change.{created, indexed}
use Rattle.sqlite_schema.specs.declared.schema.Schema.{Schema}
use Rattle.sqlite_tied.specs.Compute.{everything}
use Rattle.sqlite.specs.Listing.{understood}
use Rattle.lab_store_tables.specs.Schema.{desk, labs, persons, sessions, forms, fields, choices, records, versions, entries, signatures, trail, desk_text, labs_text, persons_text, sessions_text, forms_text, fields_text, choices_text, records_text, versions_text, entries_text, signatures_text, trail_text, sessions_of_person, lab_schema}
use Rattle.lab_store_tables.proofs.SchemaWords.{sessions_of_person_text}

abbrev no_schema : Schema
no_schema = record { tables = []; indexes = []; views = [] }

pub desk_is : table_defined_by desk_text ≡ Ok desk
unfolding understood everything
desk_is = refl

pub labs_is : table_defined_by labs_text ≡ Ok (record labs { tree = 0 })
unfolding understood everything
labs_is = refl

pub persons_is : table_defined_by persons_text ≡ Ok (record persons { tree = 0 })
unfolding understood everything
persons_is = refl

pub sessions_is : table_defined_by sessions_text ≡ Ok (record sessions { tree = 0 })
unfolding understood everything
sessions_is = refl

pub forms_is : table_defined_by forms_text ≡ Ok (record forms { tree = 0 })
unfolding understood everything
forms_is = refl

pub fields_is : table_defined_by fields_text ≡ Ok (record fields { tree = 0 })
unfolding understood everything
fields_is = refl

pub choices_is : table_defined_by choices_text ≡ Ok (record choices { tree = 0 })
unfolding understood everything
choices_is = refl

pub records_is : table_defined_by records_text ≡ Ok (record records { tree = 0 })
unfolding understood everything
records_is = refl

pub versions_is : table_defined_by versions_text ≡ Ok (record versions { tree = 0 })
unfolding understood everything
versions_is = refl

pub entries_is : table_defined_by entries_text ≡ Ok (record entries { tree = 0 })
unfolding understood everything
entries_is = refl

pub signatures_is : table_defined_by signatures_text ≡ Ok (record signatures { tree = 0 })
unfolding understood everything
signatures_is = refl

pub trail_is : table_defined_by trail_text ≡ Ok (record trail { tree = 0 })
unfolding understood everything
trail_is = refl

pub sessions_of_person_is : index_defined_by sessions sessions_of_person_text
    ≡ Ok (record sessions_of_person { tree = 0 })
unfolding understood everything
sessions_of_person_is = refl

-- one made after the other, they are the schema
pub schema_is : indexed (created (created (created (created (created (created (created (created (created
    (created (created (created no_schema desk) labs) persons) sessions) forms) fields) choices)
    records) versions) entries) signatures) trail) sessions sessions_of_person ≡ lab_schema
unfolding understood everything
schema_is = refl
