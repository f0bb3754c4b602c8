-- Definitions for proofs only, which belong to specs/Persons.antt: no clause names them.
use Rattle.std.specs.Prelude.{ℕ, ℤ, [], ◌∷◌, option_map}
use Rattle.sqlite_value.specs.declared.value.Value.TheVariants.{Int, Text, Blob}
use Rattle.sqlite_value.specs.Order.{Row}
use Rattle.lab_people_access.specs.declared.persons.Person.{Person}
use Rattle.lab_store_tables.specs.Rows.{number, flag, optional}
use Rattle.lab_store_write.specs.Ids.{row_id}
use Rattle.lab_store_write.specs.declared.passwords.PasswordCells.{PasswordCells}
use Rattle.lab_store_write.specs.declared.passwords.AskCells.{AskCells}
use Rattle.lab_store_write.specs.Private.Persons.{salt_in, rounds_in, made_in}

-- the columns of a person's row but its ids, of what they are made of
abbrev pub person_given : ℤ → Person → ℕ → PasswordCells → AskCells → Row
person_given lab person roles password ask =
    Int lab ∷ Text person.code ∷ Text person.name ∷ number roles ∷ flag person.retired
    ∷ number person.failures ∷ optional number person.locked ∷ number password.kind
    ∷ optional Blob (option_map salt_in password.first)
    ∷ optional number (option_map rounds_in password.first)
    ∷ optional Blob (option_map made_in password.first)
    ∷ optional Blob (option_map salt_in password.second)
    ∷ optional number (option_map rounds_in password.second)
    ∷ optional Blob (option_map made_in password.second) ∷ optional number password.changed
    ∷ optional Int (option_map row_id ask.asker) ∷ optional number ask.asked
    ∷ optional Blob (option_map salt_in ask.first)
    ∷ optional number (option_map rounds_in ask.first)
    ∷ optional Blob (option_map made_in ask.first) ∷ []
