-- Definitions for proofs only, which belong to specs/Schema.antt: no clause names them.
use Rattle.std.specs.Prelude.{[], ◌∷◌, codes, List, ℕ}
use Rattle.lab_store_tables.specs.Schema.{desk_text, labs_text, persons_text, sessions_text, forms_text, fields_text, choices_text, records_text, versions_text, entries_text, signatures_text, trail_text, sessions, sessions_of_person}

-- Sessions are closed person by person, at a lock and at a retirement (21 CFR 11.300(d)), and no
-- key of the table leads to a person's; `closed` is in the index as a person has many closed ones.
abbrev pub sessions_of_person_text : List ℕ
sessions_of_person_text = codes "CREATE INDEX sessions_of_person ON sessions (person, closed)"

-- all of them: one a table, and the index
abbrev pub texts : List (List ℕ)
texts =
    desk_text ∷ labs_text ∷ persons_text ∷ sessions_text ∷ forms_text ∷ fields_text ∷ choices_text
    ∷ records_text ∷ versions_text ∷ entries_text ∷ signatures_text ∷ trail_text
    ∷ sessions_of_person_text ∷ []
