-- The text that makes each table is the one of its description, word for word.
use Rattle.std.proofs.Common.{◌≡◌, ℕ, List, refl}
use Rattle.lab_store_tables.specs.Schema as schema
use Rattle.lab_store_tables.proofs.SheetWords.{create_text}
use Rattle.lab_store_tables.specs.Family.{Name, Desk, Labs, Persons, Sessions, Forms, Fields, Choices, Records, Versions, Entries, Signatures, Trail, kept}

abbrev text_of : Name → List ℕ
text_of Desk = schema.desk_text
text_of Labs = schema.labs_text
text_of Persons = schema.persons_text
text_of Sessions = schema.sessions_text
text_of Forms = schema.forms_text
text_of Fields = schema.fields_text
text_of Choices = schema.choices_text
text_of Records = schema.records_text
text_of Versions = schema.versions_text
text_of Entries = schema.entries_text
text_of Signatures = schema.signatures_text
text_of Trail = schema.trail_text

pub texts_are : (k : Name) → create_text (kept k).sheet ≡ text_of k
texts_are Desk = refl
texts_are _ = refl
