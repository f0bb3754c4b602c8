-- What clauses of private functions say beside Causes.antt.
use Rattle.std.specs.Prelude.{◌⊎◌, IsTrue}
use Rattle.sqlite.specs.declared.error.Error.{Error}
use Rattle.sqlite.specs.Effect.{Database}
use Rattle.sqlite.specs.Held.{state}
use Rattle.sqlite.specs.State.{State}
use Rattle.lab_store_read.specs.Faults.{is_out_of_memory}
use Rattle.lab_move_write.specs.Causes.{EndsMaking}

abbrev pub FailsMaking : (Database → Type 0) → {T : Type 0} → (T → State) → T → T → Error → Type 0
FailsMaking Was state old new e = IsTrue (is_out_of_memory e) ⊎ EndsMaking Was state old new e
