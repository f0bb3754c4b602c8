-- The numbers, words and values of the faults of a file, and which of them an error of the store
-- is.
use Rattle.std.specs.Prelude.{◌≡◌, ◌⊎◌, ℕ, Bool, true, false, if◌then◌else◌, codes, Option, Some, None, Result, Err}
use Rattle.lab_forms_texts.specs.Faults.{Entry, memory_entry}
use Rattle.lab_records_keeper.specs.Faults.{storage_entry}
use Rattle.sqlite.specs.declared.error.Error.{Error}
use Rattle.sqlite.specs.declared.error.Error.TheVariants.{SqliteFailure, SqlInputError}
use Rattle.sqlite.specs.declared.error.ErrorCode.TheVariants as code
use Rattle.sqlite_resolve.specs.declared.error.CompileError.TheVariants as compile
use Rattle.lab_store_files.specs.declared.faults.FileFault.{FileFault}
use Rattle.lab_store_files.specs.declared.faults.FileFault.TheVariants.{NotADeskFile, SchemaOld, SchemaNew, Storage, NotEmpty, Memory}

abbrev pub file_fault_entry : FileFault → Entry
file_fault_entry NotADeskFile = record { number = 60; word = codes "not_a_desk_file" }
file_fault_entry (SchemaOld _) = record { number = 61; word = codes "schema_old" }
file_fault_entry (SchemaNew _) = record { number = 62; word = codes "schema_new" }
file_fault_entry Storage = storage_entry
file_fault_entry NotEmpty = record { number = 65; word = codes "not_empty" }
file_fault_entry Memory = memory_entry

-- the number of the schema that the file has
abbrev pub file_fault_value : FileFault → Option ℕ
file_fault_value (SchemaOld number) = Some number
file_fault_value (SchemaNew number) = Some number
file_fault_value NotADeskFile = None
file_fault_value Storage = None
file_fault_value NotEmpty = None
file_fault_value Memory = None

-- whether an error of the store is that memory ran out
abbrev pub is_out_of_memory : Error → Bool
is_out_of_memory (SqliteFailure code.OutOfMemory) = true
is_out_of_memory (SqlInputError compile.OutOfMemory) = true
is_out_of_memory _ = false

-- what an error of the store is told as
abbrev pub store_fault : Error → FileFault
store_fault error = if is_out_of_memory error then Memory else Storage

-- the store refused or memory ran out, which says nothing of the file
abbrev pub FailedInStore : {A : Type 0} → Result A FileFault → Type 0
FailedInStore result = (result ≡ Err Storage) ⊎ (result ≡ Err Memory)
