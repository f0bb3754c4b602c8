-- Values from outside, computed on the definitions over the small file of lab_store_tables: in which order a
-- person's columns are (docs/TABLES.md).
use Rattle.std.proofs.Common.{◌≡◌, pos, [], ◌∷◌, Some, None, refl}
use Rattle.std.specs.Prelude.{codes}
use Rattle.sqlite_value.specs.declared.value.Value.TheVariants.{Null, Int, Text, Blob}
use Rattle.lab_store_tables.proofs.KnownFile.{filled}
use Rattle.lab_store_tables.proofs.KnownValues.{eve}
use Rattle.lab_store_write.specs.Private.Persons.{password_cells, ask_cells}
use Rattle.lab_store_write.proofs.PersonWords.{person_given}

-- eve, for whom the person of the row 4 asked: the second verifier of a one-time password is NULL
pub known_columns :
    person_given (pos 7) eve 2 (password_cells eve.password) (ask_cells (Some (record { id = pos 4 })) eve.ask)
    ≡ Int (pos 7) ∷ Text (codes "eve") ∷ Text (codes "Eve Eden") ∷ Int (pos 2) ∷ Int (pos 0) ∷ Int (pos 0) ∷ Null
    ∷ Int (pos 1) ∷ Blob (filled 16 5) ∷ Int (pos 10000) ∷ Blob (filled 32 6) ∷ Null ∷ Null ∷ Null ∷ Int (pos 500)
    ∷ Int (pos 4) ∷ Int (pos 1590) ∷ Blob (filled 16 9) ∷ Int (pos 10000) ∷ Blob (filled 32 10) ∷ []
known_columns = refl

-- where nothing was asked for, whoever is named as the asker leaves no trace
pub known_unasked : (ask_cells (Some (record { id = pos 4 })) None).asker ≡ None
known_unasked = refl
