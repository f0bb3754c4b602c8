-- Values from outside, so that a wrong rule in the definitions does not check: who gives a command, what it did, and
-- which rows a failed password has (docs/RECORDS.md, "The trail"; docs/PERSONS.md has the lock).
use Rattle.std.proofs.Common.{◌≡◌, true, false, [], ◌∷◌, Some, None, refl}
use Rattle.std.specs.Prelude.{codes}
use Rattle.lab_people_access.specs.declared.passwords.Password.TheVariants.{Unset, Chosen}
use Rattle.lab_people_access.specs.declared.persons.Person.{Person}
use Rattle.lab_people_access.specs.Roles.{no_roles}
use Rattle.lab_people_access.specs.Persons.{newcomer}
use Rattle.lab_records_kept.specs.declared.trails.Deed.TheVariants.{Refuse, Lock, Entry, Sign as SignDeed}
use Rattle.lab_records_kept.specs.declared.trails.Occasion.TheVariants.{Opening, Signing}
use Rattle.lab_records_kept.specs.Trails.{trail_row_of}
use Rattle.lab_records_rules.specs.declared.outcomes.Signing.TheVariants.{Review}
use Rattle.lab_seal_versions.specs.declared.seals.Meaning.TheVariants.{Review as AsReviewer}
use Rattle.lab_records_machine.specs.declared.commands.Command.TheVariants.{Card, Open, In}
use Rattle.lab_records_machine.specs.declared.commands.SessionCommand.TheVariants.{OnAccount, OnRecord, Reading}
use Rattle.lab_records_machine.specs.declared.commands.AccountCommand.TheVariants.{Close}
use Rattle.lab_records_machine.specs.declared.commands.RecordCommand.TheVariants.{Enter, Sign}
use Rattle.lab_records_machine.specs.declared.commands.ReadingCommand.TheVariants.{ReadPersons}
use Rattle.lab_records_machine.specs.declared.replies.Reply.TheVariants.{Entered, PersonDone}
use Rattle.lab_records_laws.specs.Telling.{giver, deed_of, is_told, failure_deeds, rows_in_room}

-- ---- who gives a command

abbrev person : Person
person = record (newcomer (codes "dan") (codes "Dan Day") no_roles) {
  failures = 3;
  password = Chosen (record { salt = []; rounds = 100000; bytes = [] }) 0;
}

given_by : (giver None Card ≡ None)
    × (giver None (Open (codes "dan") (codes "a guess")) ≡ Some (codes "dan"))
    × (giver (Some person) (In (OnAccount Close)) ≡ Some (codes "dan"))
    × (giver None (In (OnAccount Close)) ≡ None)
given_by = (refl, refl, refl, refl)

-- ---- what it did

told : (is_told Card ≡ false) × (is_told (In (Reading ReadPersons)) ≡ false)
    × (is_told (In (OnAccount Close)) ≡ true)
told = (refl, refl, refl)

entered : deed_of (codes "dan")
    (In (OnRecord (Enter 3 (record { key = codes "lead"; value = codes "12.5"; unit = codes "mg/L" }) None)))
    (Entered 3 2 7 []) ≡ Some (Entry 3 2 (codes "lead"))
entered = refl

signed : deed_of (codes "eve") (In (OnRecord (Sign 3 1 [] Review (codes "a password") None)))
    (PersonDone (codes "eve")) ≡ Some (SignDeed 3 1 AsReviewer)
signed = refl

read : deed_of (codes "eve") (In (Reading ReadPersons)) (PersonDone (codes "eve")) ≡ None
read = refl

-- ---- failed passwords

-- the fourth doesn't lock, and the fifth does; a lock isn't told twice; nobody signs in as a person who is retired, or
-- who has no password yet
fourth : failure_deeds (Some person) 1000 Opening ≡ Refuse Opening ∷ []
fourth = refl

fifth : failure_deeds (Some (record person { failures = 4 })) 1000 Signing
    ≡ Refuse Signing ∷ Lock (codes "dan") ∷ []
fifth = refl

while_locked : failure_deeds (Some (record person { failures = 5; locked = Some 1000 })) 1001 Opening
    ≡ Refuse Opening ∷ []
while_locked = refl

nobodys : (failure_deeds None 1000 Opening ≡ [])
    × (failure_deeds (Some (record person { retired = true })) 1000 Opening ≡ [])
    × (failure_deeds (Some (record person { password = Unset })) 1000 Opening ≡ [])
nobodys = (refl, refl, refl)

-- ---- as many rows as there is room for

both : rows_in_room 41 1000 (codes "dan") (Refuse Opening ∷ Lock (codes "dan") ∷ [])
    ≡ trail_row_of 42 1000 (Some (codes "dan")) (Refuse Opening)
    ∷ trail_row_of 43 1000 (Some (codes "dan")) (Lock (codes "dan")) ∷ []
both = refl

one_left : rows_in_room 999999999 1000 (codes "dan") (Refuse Opening ∷ Lock (codes "dan") ∷ [])
    ≡ trail_row_of 1000000000 1000 (Some (codes "dan")) (Refuse Opening) ∷ []
one_left = refl

none_left : rows_in_room 1000000000 1000 (codes "dan") (Refuse Opening ∷ []) ≡ []
none_left = refl
