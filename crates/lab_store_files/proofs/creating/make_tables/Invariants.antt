use Rattle.std.proofs.Common.{◌≡◌, IsTrue, take}
use Rattle.sqlite.specs.State.{HasCleanDisk, KeepsCommit, Survives}
use Rattle.sqlite.specs.Held.{state}
use Rattle.lab_store_files.specs.Tables.{all_tables}
use Rattle.lab_store_files.specs.NewFiles.{IsBlank, IsEmptyUnder}
use Rattle.lab_store_files.specs.Private.NewFiles.{schema_of}
use Rattle.lab_store_files.proofs.creating.make_tables.Given as goal

-- the tables so far were made
abbrev pub invariant-loop-one : goal.invariant-loop-one
invariant-loop-one g l =
    let old = state g.S.Store l.fn.tx.conn.now in
    let now = state g.S.Store l.tx.conn.now in
    (l.one-items ≡ all_tables) × (l.tx.conn.ghost_name ≡ l.fn.tx.conn.ghost_name) × Survives old now (λ _. ⊥) × (HasCleanDisk now → KeepsCommit old now)
    × (HasCleanDisk now → IsTrue now.in_transaction) × (HasCleanDisk now → IsBlank old.now → IsEmptyUnder (schema_of (take l.one-index all_tables)) now.now)
