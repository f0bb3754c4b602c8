-- An error of the store is told as the store's refusal or as out of memory, and never as a table that is there.
use Rattle.std.proofs.Common.{◌≡◌, ◌⊎◌, inl, inr, Bool, true, false, Err, Result, refl, sym, ◌∙◌}
use Rattle.std.specs.Prelude.{if◌then◌else◌}
use Rattle.sqlite.specs.declared.error.Error.{Error}
use Rattle.lab_store_files.specs.declared.faults.FileFault.{FileFault}
use Rattle.lab_store_files.specs.declared.faults.FileFault.TheVariants.{Storage, Memory, NotEmpty}
use Rattle.lab_store_files.specs.Faults.{is_out_of_memory, store_fault}

told : (b : Bool) → let fault : FileFault = if b then Memory else Storage in (fault ≡ NotEmpty) ⊎ ((fault ≡ Storage) ⊎ (fault ≡ Memory))
told true = inr (inr refl)
told false = inr (inl refl)

pub fault_is : (error : Error) (fault : FileFault) → fault ≡ store_fault error → (fault ≡ NotEmpty) ⊎ ((fault ≡ Storage) ⊎ (fault ≡ Memory))
fault_is error fault is = rw is (told (is_out_of_memory error))

never : (b : Bool) → ◌≡◌ {A = FileFault} (if b then Memory else Storage) NotEmpty → ⊥
never true e = cc
never false e = cc

pub never_not_empty : (error : Error) (fault : FileFault) → fault ≡ store_fault error → ◌≡◌ {A = Result (Unit {0}) FileFault} (Err fault) (Err NotEmpty) → ⊥
never_not_empty error fault is e = let same : fault ≡ NotEmpty = cc in never (is_out_of_memory error) (sym is ∙ same)
