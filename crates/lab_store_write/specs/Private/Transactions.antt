-- What clauses of private functions say beside Transactions.antt.
use Rattle.std.specs.Prelude.{Result, IsFalse}
use Rattle.sqlite_trees.specs.declared.store.Store.{Ghosts}
use Rattle.sqlite.specs.declared.error.Error.{Error}
use Rattle.sqlite.specs.Held.{Held}
use Rattle.lab_store_read.specs.Faults.{is_out_of_memory}
use Rattle.lab_store_write.specs.Causes.{Tries, Anything}
use Rattle.lab_store_write.specs.Transactions.{EndsForCauseTrying}

-- so does one that tells its error, which isn't want of memory
abbrev pub TransactionEndsForCauseTrying : Tries → {S T : Type 0} → Ghosts S → Type 0 → Held S
    → Held S → Result T Error → Type 0
TransactionEndsForCauseTrying tries g Beside old new result =
    EndsForCauseTrying tries g (λ e. IsFalse (is_out_of_memory e)) Beside old new result

abbrev pub TransactionEndsForCause : {S T : Type 0} → Ghosts S → Type 0 → Held S → Held S
    → Result T Error → Type 0
TransactionEndsForCause g Beside old new result =
    TransactionEndsForCauseTrying Anything g Beside old new result
