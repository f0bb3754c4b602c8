-- Values from outside, so that a wrong rule in the definitions does not check: the numbers of docs/REFUSALS.md, and what
-- answers a copy.
use Rattle.std.proofs.Common.{◌≡◌, refl, Some, None, Ok, Err}
use Rattle.std.specs.Prelude.{codes}
use Rattle.lab_forms_texts.specs.declared.faults.OutOfMemory.{OutOfMemory}
use Rattle.lab_copy_rows.specs.declared.flaws.Flaw.{Flaw}
use Rattle.lab_copy_rows.specs.declared.flaws.Flaw.TheVariants.{Digest, OnePerson}
use Rattle.lab_copy_rows.specs.declared.lines.Counts.{Counts}
use Rattle.lab_copy.specs.Faults.{IsAnswer, fault_number, fault_word}
use Rattle.lab_copy.specs.declared.faults.CopyFault.TheVariants.{Flawed, Read, Memory}

-- a reader's fault has a word and no number
pub known_faults : (fault : OutOfMemory)
    → (fault_number (Flawed (OnePerson 4)) ≡ Some 75) × (fault_word (Flawed (OnePerson 4)) ≡ codes "one_person")
    × (fault_number Read ≡ None) × (fault_word Read ≡ codes "read_fault")
    × (fault_number (Memory fault) ≡ Some 90) × (fault_word (Memory fault) ≡ codes "memory")
known_faults fault = (refl, refl, refl, refl, refl, refl)

flawed_is : (flaw : Flaw) (counts : Counts) → Err flaw ≡ Ok counts → ⊥
flawed_is flaw counts wrong = absurd cc

-- yes is no answer to a copy that has a flaw; a fault of the reader is one to any copy
pub known_answers : (counts : Counts) → (IsAnswer (Err (Digest 4)) (Ok counts) → ⊥) × IsAnswer (Err (Digest 4)) (Err Read)
known_answers counts = (λ same. flawed_is (Digest 4) counts same, tt)
