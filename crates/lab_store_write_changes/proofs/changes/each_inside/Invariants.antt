use Rattle.std.proofs.Common.{IsTrue, take}
use Rattle.sqlite.specs.Effect.{IsDatabase}
use Rattle.sqlite.specs.State.{HasCleanDisk}
use Rattle.lab_store_write.specs.Calls.{Stays, Steps}
use Rattle.lab_store_write_changes.specs.Private.Framed.{keeps_giver, StepsKnowing}
use Rattle.lab_store_write_changes.proofs.changes.each_inside.Given as goal

-- the changes so far were made
abbrev pub invariant-loop-change : goal.invariant-loop-change
invariant-loop-change g l =
    let old = g.W.Writable.state l.fn.tx in
    let now = g.W.Writable.state l.tx in
    Stays g.W.Writable.lender g.W.Writable.state l.fn.tx l.tx
    × (IsTrue old.in_transaction → HasCleanDisk now → IsTrue now.in_transaction)
    × (IsTrue (keeps_giver l.fn.giver l.changes) → IsTrue old.in_transaction → HasCleanDisk now → IsDatabase old.now
    → Steps (StepsKnowing l.fn.lab.id l.fn.giver (take l.change-index l.changes)) old now)
