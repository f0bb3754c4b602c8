-- What an error of the store, and a text that is none, are told as.
use Rattle.std.specs.Prelude.{Bool, true, false, if◌then◌else◌}
use Rattle.lab_forms_texts.specs.declared.refusals.Fault.{Fault}
use Rattle.lab_forms_texts.specs.declared.refusals.Fault.TheVariants.{Refused, Memory}
use Rattle.lab_records_keeper.specs.declared.faults.BadStore.{BadStore}
use Rattle.sqlite.specs.declared.error.Error.{Error}
use Rattle.sqlite.specs.declared.error.Error.TheVariants.{SqliteFailure, SqlInputError}
use Rattle.sqlite.specs.declared.error.ErrorCode.TheVariants as code
use Rattle.sqlite_resolve.specs.declared.error.CompileError.TheVariants as compile

-- whether an error of the store is that memory ran out
abbrev pub is_out_of_memory : Error → Bool
is_out_of_memory (SqliteFailure code.OutOfMemory) = true
is_out_of_memory (SqlInputError compile.OutOfMemory) = true
is_out_of_memory _ = false

abbrev pub store_fault : Error → Fault BadStore
store_fault error = if is_out_of_memory error then Memory else Refused (record {})
