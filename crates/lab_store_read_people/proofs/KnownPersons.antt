-- Values from outside, computed on the definitions over the small file of lab_store_tables: what each query shows of aqua, whose dan
-- the laboratory brick has too.
use Rattle.std.proofs.Common.{◌≡◌, refl, pos, [], ◌∷◌, Some, option_map, map}
use Rattle.std.specs.Prelude.{codes, length}
use Rattle.lab_people_access.specs.declared.persons.Ask.{Ask}
use Rattle.sqlite_value.specs.declared.value.Value.TheVariants.{Int}
use Rattle.lab_store_tables.specs.Meaning.{persons_of}
use Rattle.lab_store_tables.proofs.KnownFile.{file}
use Rattle.lab_store_read_people.specs.declared.heads.PersonHead.{PersonHead}
use Rattle.lab_store_read_people.specs.Private.CountsShown.{count_shown}
use Rattle.lab_store_read_people.specs.Private.Heads.{person_by, person_heads_of}
use Rattle.lab_store_read_people.specs.PersonsShown.{person_read, person_shown_by, persons_shown}

-- aqua's four in the order of their codes, none of brick's three
pub known_persons :
    (map (λ (one : PersonHead). one.name) (person_heads_of file (pos 7))
    ≡ codes "Ann Ames" ∷ codes "Dan Dale" ∷ codes "Eve Eden" ∷ codes "Hal Hunt" ∷ [])
    × (count_shown (length (persons_of file (pos 3))) ≡ (Int (pos 3) ∷ []) ∷ [])
known_persons = (refl, refl)

-- what is read of the rows that are shown is what the tables say; dan is aqua's
pub known_person_rows :
    (map person_read (persons_shown file (pos 7)) ≡ person_heads_of file (pos 7))
    × (map (λ (one : PersonHead). one.name) (map person_read (person_shown_by file (pos 7) (codes "dan"))) ≡ codes "Dan Dale" ∷ [])
    × (person_shown_by file (pos 3) (codes "hal") ≡ [])
known_person_rows = (refl, refl, refl)

-- who asked for eve's one-time word is told by the code, and not by the id of the row
pub known_asker :
    map (λ (one : PersonHead). option_map (λ (ask : Ask). ask.asker) (person_by file one).ask)
    (map person_read (person_shown_by file (pos 7) (codes "eve")))
    ≡ Some (codes "ann") ∷ []
known_asker = refl
