-- Values from outside, so that a wrong rule in the definitions does not check: what a file is by its
-- schema and by the number that it shows.
use Rattle.std.proofs.Common.{◌≡◌, inl, inr, pos, true, false, [], ◌∷◌, Some, None, Ok, Err, refl, ap, arith}
use Rattle.std.specs.Prelude.{codes}
use Rattle.sqlite_value.specs.declared.value.Value.TheVariants.{Int, Text}
use Rattle.sqlite.specs.Effect.{Database}
use Rattle.lab_store_files.specs.declared.faults.FileFault.TheVariants.{NotADeskFile, SchemaOld, SchemaNew, Storage}
use Rattle.lab_store_files.specs.Faults.{file_fault_entry, file_fault_value}
use Rattle.lab_store_files.specs.NewFiles.{no_schema}
use Rattle.lab_store_files.specs.Schemas.{is_taken, is_whole, has_number}
use Rattle.lab_store_files.specs.Verdicts.{number_shown, number_verdict, file_verdict}
use Rattle.lab_store_files.specs.Owed.{Names, IsOwed, OpensBy}

-- the schema of this program is 3; there is none before the first
pub known_verdicts : (number_verdict (pos 3) ≡ Ok tt) × (number_verdict (pos 2) ≡ Err (SchemaOld 2))
    × (number_verdict (pos 4) ≡ Err (SchemaNew 4)) × (number_verdict (pos 1) ≡ Err (SchemaOld 1))
    × (number_verdict (pos 0) ≡ Err NotADeskFile)
known_verdicts = (refl, refl, refl, refl, refl)

-- one row alone shows a number, and a text is none
pub known_shown : (number_shown ((Int (pos 3) ∷ []) ∷ []) ≡ Some (pos 3)) × (number_shown [] ≡ None)
    × (number_shown ((Int (pos 3) ∷ []) ∷ (Int (pos 3) ∷ []) ∷ []) ≡ None)
    × (number_shown ((Text (codes "3") ∷ []) ∷ []) ≡ None)
known_shown = (refl, refl, refl, refl)

-- an empty file has none of the tables; one that says 3 is no file of laboratories then, and one that
-- says 4 is newer, whatever it has
pub known_empty : (is_taken no_schema ≡ false) × (has_number no_schema ≡ false)
    × (file_verdict no_schema ((Int (pos 3) ∷ []) ∷ []) ≡ Err NotADeskFile)
    × (file_verdict no_schema ((Int (pos 4) ∷ []) ∷ []) ≡ Err (SchemaNew 4))
known_empty = (refl, refl, refl, refl)

-- numbers and words of faults, as the interface tells them
pub known_faults : (file_fault_entry NotADeskFile ≡ record { number = 60; word = codes "not_a_desk_file" })
    × (file_fault_value (SchemaOld 2) ≡ Some 2) × (file_fault_value Storage ≡ None)
known_faults = (refl, refl, refl)

-- a whole file that names 3 owes that it opens; one that lacks a table is no file of laboratories; 2
-- and 4 are told as they are, whole or not; no number, a text and 0 are no file of laboratories
pub known_owed : IsOwed 3 true (Some (pos 3)) (Ok tt) × IsOwed 3 false (Some (pos 3)) (Err NotADeskFile)
    × IsOwed 3 true (Some (pos 2)) (Err (SchemaOld 2)) × IsOwed 3 false (Some (pos 4)) (Err (SchemaNew 4))
    × IsOwed 3 true None (Err NotADeskFile) × IsOwed 3 true (Some (pos 0)) (Err NotADeskFile)
known_owed = (
  (refl, refl),
  inr (refl, refl),
  (refl, omega arith, omega arith),
  (refl, omega arith),
  inl (λ n least is. cc),
  inl (λ n least is. let same : n ≡ 0 = cc in absurd (omega (arith, least, same))),
)

-- and no other: a newer one isn't told as an older one, nor an older one as none
pub known_unowed : ¬ IsOwed 3 true (Some (pos 4)) (Err (SchemaOld 4)) × ¬ IsOwed 3 true (Some (pos 2)) (Err NotADeskFile)
    × ¬ IsOwed 3 false (Some (pos 3)) (Ok tt) × ¬ IsOwed 3 true (Some (pos 3)) (Err Storage)
known_unowed = (
  λ h. absurd (omega (arith, h.2)),
  λ h. elim h [ inl none ↦ none 2 (omega arith) refl | inr it ↦ absurd (let is = it.0 in cc) ],
  λ h. absurd (let is = h.1 in cc),
  λ h. h,
)

-- an empty file names no schema, and owes that it is none
pub known_blank : (db : Database) → db.schema ≡ no_schema → Names db None × OpensBy 3 is_whole db (Err NotADeskFile)
known_blank db is = (inl (ap has_number is, refl), owes)
  where
    owes : OpensBy 3 is_whole db (Err NotADeskFile)
    owes number (inl h) = inl (λ n least named. absurd (let none = h.1 in cc))
    owes number (inr h) = absurd (let none : has_number db.schema ≡ false = ap has_number is in let some = h.0 in cc)
