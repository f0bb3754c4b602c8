-- Why a founding founded nothing.
use Rattle.std.specs.Prelude.{◌≡◌, ℕ, List, Bool, true, false, Result, Ok, Err}
use Rattle.lab_forms_texts.specs.Faults.{Entry}
use Rattle.lab_forms_texts.specs.declared.tick.Tick.{Tick}
use Rattle.lab_forms_texts.specs.declared.refusals.Fault.{Fault}
use Rattle.lab_wire_members.specs.declared.refusals.BodyRefusal.{BodyRefusal}
use Rattle.lab_forms_texts.specs.declared.refusals.Fault.TheVariants.{Refused, Memory as NotRead}
use Rattle.lab_wire_members.specs.Refusals.{body_entry}
use Rattle.lab_records_keeper.specs.declared.faults.PlacingFault.TheVariants.{LabExists, Storage, Memory as NoMemory}
use Rattle.lab_records_keeper.specs.Faults.{placing_fault_entry}
use Rattle.lab_records_machine.specs.Births.{birth_entry}
use Rattle.lab_desk_foundings.specs.declared.faults.FoundFault.{FoundFault}
use Rattle.lab_desk_foundings.specs.declared.faults.FoundFault.TheVariants.{Body as OfBody, Birth as OfBirth, Placing}
use Rattle.lab_desk_foundings.specs.Foundings.{Body, Bears, BearsNever, BearsNone}

-- the number and the word of a founding's fault
abbrev pub found_fault_entry : FoundFault → Entry
found_fault_entry (OfBody refusal) = body_entry refusal
found_fault_entry (OfBirth refusal) = birth_entry refusal
found_fault_entry (Placing fault) = placing_fault_entry fault

-- the fault of a founding whose body was not read
abbrev pub fault_of_body : Fault BodyRefusal → FoundFault
fault_of_body (Refused refusal) = OfBody refusal
fault_of_body NotRead = Placing NoMemory

-- whether a founding with this fault was taken all the same
abbrev pub is_taken : FoundFault → Bool
is_taken (OfBody refusal) = true
is_taken (OfBirth refusal) = true
is_taken (Placing LabExists) = true
is_taken (Placing Storage) = false
is_taken (Placing NoMemory) = false

-- which fault the reading of a founding's body may give: first the body's refusal; where the body
-- reads, why no laboratory is born from it, whichever there are; or that memory ran out
abbrev pub FoundingFaultFits : Body → FoundFault → Type 0
FoundingFaultFits body (OfBody refusal) = body ≡ Err refusal
FoundingFaultFits body (OfBirth refusal) = BearsNever body refusal
FoundingFaultFits body (Placing fault) = fault ≡ NoMemory

-- which fault a founding may give: first the body's refusal; where the body reads, why no
-- laboratory is born from it; where one is, that it was there already, or that the store refused
abbrev pub FoundFaultFits : Type 0 → Type 0 → List ℕ → Tick → Body → FoundFault → Type 0
FoundFaultFits may_refuse exists code tick body (OfBody refusal) = body ≡ Err refusal
FoundFaultFits may_refuse exists code tick body (OfBirth refusal) =
    BearsNone code tick body refusal
FoundFaultFits may_refuse exists code tick body (Placing LabExists) =
    Bears code tick body × exists
FoundFaultFits may_refuse exists code tick body (Placing Storage) =
    Bears code tick body × may_refuse
FoundFaultFits may_refuse exists code tick body (Placing NoMemory) = Unit {0}

-- a fact on a founding whose body was at fault, or from which none is born, so that the keeper
-- wasn't asked
abbrev pub OnBody : Result (Unit {0}) FoundFault → Type 0 → Type 0
OnBody (Ok _) P = Unit {0}
OnBody (Err (OfBody refusal)) P = P
OnBody (Err (OfBirth refusal)) P = P
OnBody (Err (Placing fault)) P = Unit {0}

-- a fact on a founding that the keeper answered by what it keeps: it founded, or the laboratory
-- exists
abbrev pub OnKept : Result (Unit {0}) FoundFault → Type 0 → Type 0
OnKept (Ok _) P = P
OnKept (Err (OfBody refusal)) P = Unit {0}
OnKept (Err (OfBirth refusal)) P = Unit {0}
OnKept (Err (Placing LabExists)) P = P
OnKept (Err (Placing Storage)) P = Unit {0}
OnKept (Err (Placing NoMemory)) P = Unit {0}

-- a founding that asked for no commit: its body was at fault, none was born, or the laboratory
-- exists
abbrev pub OnUncommitted : Result (Unit {0}) FoundFault → Type 0 → Type 0
OnUncommitted (Ok _) P = Unit {0}
OnUncommitted (Err (OfBody refusal)) P = P
OnUncommitted (Err (OfBirth refusal)) P = P
OnUncommitted (Err (Placing LabExists)) P = P
OnUncommitted (Err (Placing Storage)) P = Unit {0}
OnUncommitted (Err (Placing NoMemory)) P = Unit {0}
