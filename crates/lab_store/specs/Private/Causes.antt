-- What clauses of private functions say beside Causes.antt.
use Rattle.std.specs.Prelude.{Result, IsFalse}
use Rattle.sqlite_trees.specs.declared.store.Store.{Ghosts}
use Rattle.sqlite.specs.declared.error.Error.{Error}
use Rattle.sqlite.specs.Held.{Held}
use Rattle.lab_store_read.specs.Faults.{is_out_of_memory}
use Rattle.lab_store_write.specs.Causes.{Tries, Anything}
use Rattle.lab_store_write.specs.Transactions.{FailsInside, FailsInsideTrying}
use Rattle.lab_store.specs.Causes.{CommitHasItsCauseTrying}

-- a call that reads nothing before its transaction: it returns an error, which isn't want of memory,
-- for no other cause
abbrev pub TransactionHasItsCauseTrying : Tries → {S T : Type 0} → Ghosts S → Type 0 → Held S
    → Held S → Result T Error → Type 0
TransactionHasItsCauseTrying tries g Beside old new result =
    CommitHasItsCauseTrying tries g (λ e. IsFalse (is_out_of_memory e)) (λ t. Unit {0})
    (λ t. Beside) old new result

abbrev pub TransactionHasItsCause : {S T : Type 0} → Ghosts S → Type 0 → Held S → Held S
    → Result T Error → Type 0
TransactionHasItsCause g Beside old new result =
    TransactionHasItsCauseTrying Anything g Beside old new result
