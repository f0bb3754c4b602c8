-- The numbers and words by which the interface of the laboratories tells what was wrong with a name
-- or a moment, and when a name is at fault. Every part of the system has such a table for its own
-- faults.
use Rattle.std.specs.Prelude.{ℕ, Bool, List, IsTrue, IsFalse, codes}
use Rattle.lab_forms_texts.specs.declared.faults.BadName.{BadName}
use Rattle.lab_forms_texts.specs.declared.refusals.Fault.{Fault}
use Rattle.lab_forms_texts.specs.declared.refusals.Fault.TheVariants.{Refused, Memory}
use Rattle.lab_forms_texts.specs.declared.faults.MomentFault.{MomentFault}
use Rattle.lab_forms_texts.specs.declared.faults.MomentFault.TheVariants.{BadMoment}

-- a row of a table of faults
pub record Entry : Type 0 where
  pub number : ℕ
  pub word : List ℕ

-- out of memory, in every part of the system
abbrev pub memory_entry : Entry
memory_entry = record { number = 90; word = codes "memory" }

-- the row of a fault, by the rows of its kind of refusals
abbrev pub fault_entry : {R : Type 0} → (R → Entry) → Fault R → Entry
fault_entry row (Refused refusal) = row refusal
fault_entry row Memory = memory_entry

-- a text that is no name of its kind
abbrev pub name_entry : Entry
name_entry = record { number = 1; word = codes "bad_name" }

abbrev pub name_fault_entry : Fault BadName → Entry
name_fault_entry = fault_entry (λ _. name_entry)

abbrev pub moment_fault_entry : MomentFault → Entry
moment_fault_entry BadMoment = record { number = 2; word = codes "bad_moment" }

-- the fault of a text that is tried as a name: a bad name where it is not admitted, else out of
-- memory
abbrev pub NameFaultFits : Bool → Fault BadName → Type 0
NameFaultFits admitted (Refused _) = IsFalse admitted
NameFaultFits admitted Memory = IsTrue admitted
