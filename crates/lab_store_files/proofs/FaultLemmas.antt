-- An error of the store is told as the store's refusal or as out of memory.
use Rattle.std.proofs.Common.{◌≡◌, ◌⊎◌, inl, inr, Bool, true, false, Ok, Err, Result, refl, ap, sym, ◌∙◌}
use Rattle.std.specs.Prelude.{if◌then◌else◌}
use Rattle.sqlite.specs.declared.error.Error.{Error}
use Rattle.lab_store_files.specs.declared.faults.FileFault.{FileFault}
use Rattle.lab_store_files.specs.declared.faults.FileFault.TheVariants.{Storage, Memory, NotEmpty}
use Rattle.lab_store_files.specs.Faults.{is_out_of_memory, store_fault, FailedInStore}

told : (b : Bool) → let fault : FileFault = if b then Memory else Storage in (fault ≡ Storage) ⊎ (fault ≡ Memory)
told true = inr refl
told false = inl refl

pub store_fault_is : (error : Error) → (store_fault error ≡ Storage) ⊎ (store_fault error ≡ Memory)
store_fault_is error = told (is_out_of_memory error)

pub fault_is : (error : Error) (fault : FileFault) → fault ≡ store_fault error → (fault ≡ Storage) ⊎ (fault ≡ Memory)
fault_is error fault is = rw is (store_fault_is error)

never : (b : Bool) → ◌≡◌ {A = FileFault} (if b then Memory else Storage) NotEmpty → ⊥
never true e = cc
never false e = cc

pub store_fault_not_empty : (error : Error) → store_fault error ≡ NotEmpty → ⊥
store_fault_not_empty error e = never (is_out_of_memory error) e

-- the store refused, or memory ran out
pub failed : (error : Error) (fault : FileFault) → fault ≡ store_fault error → FailedInStore {A = Unit {0}} (Err fault)
failed error fault is = elim (fault_is error fault is) [ inl storage ↦ inl (ap Err storage) | inr memory ↦ inr (ap Err memory) ]

pub never_not_empty : (error : Error) (fault : FileFault) → fault ≡ store_fault error → ◌≡◌ {A = Result (Unit {0}) FileFault} (Err fault) (Err NotEmpty) → ⊥
never_not_empty error fault is e = let same : fault ≡ NotEmpty = cc in store_fault_not_empty error (sym is ∙ same)
