-- What the columns of a person's password and asked one-time word are made of.
use Rattle.std.specs.Prelude.{ℕ, ℤ, List, Option, Some, None}
use Rattle.sqlite_keyed.specs.Keyed.{next_key}
use Rattle.lab_seal_hashes.specs.declared.verifiers.VerifierParts.{VerifierParts}
use Rattle.lab_people_access.specs.declared.passwords.Password.{Password}
use Rattle.lab_people_access.specs.declared.passwords.Password.TheVariants.{Unset, Chosen, OneTime}
use Rattle.lab_people_access.specs.declared.persons.Ask.{Ask}
use Rattle.lab_people_access.specs.declared.persons.Person.{Person}
use Rattle.lab_store_tables.specs.Rows.{Tables, person_id}
use Rattle.lab_store_tables.specs.Changes.{put_person, person_row_of}
use Rattle.lab_store_write.specs.declared.statements.RowId.{RowId}
use Rattle.lab_store_write.specs.declared.passwords.PasswordCells.{PasswordCells}
use Rattle.lab_store_write.specs.declared.passwords.AskCells.{AskCells}

abbrev pub salt_in : VerifierParts → List ℕ
salt_in parts = parts.salt

abbrev pub rounds_in : VerifierParts → ℕ
rounds_in parts = parts.rounds

abbrev pub made_in : VerifierParts → List ℕ
made_in parts = parts.bytes

abbrev pub password_cells : Password → PasswordCells
password_cells Unset = record { kind = 0; first = None; second = None; changed = None }
password_cells (Chosen verifier changed) = record {
  kind = 1;
  first = Some verifier;
  second = None;
  changed = Some changed;
}
password_cells (OneTime first second confirmed) = record {
  kind = 2;
  first = Some first;
  second = Some second;
  changed = Some confirmed;
}

abbrev pub ask_cells : Option RowId → Option Ask → AskCells
ask_cells asker None = record { asker = None; asked = None; first = None }
ask_cells asker (Some ask) = record {
  asker = asker;
  asked = Some ask.asked;
  first = Some ask.first;
}

-- who asked, where somebody did
abbrev pub asker_in : Ask → List ℕ
asker_in ask = ask.asker

-- tables with a person more, under the next id
abbrev pub with_person : ℤ → Option ℤ → Person → Tables → Tables
with_person lab asker person t =
    put_person (person_row_of lab (next_key person_id t.persons) asker person) t
