use Rattle.std.proofs.Common.{◌-◌, arith, sym, ◌∙◌}
use Rattle.lab_seal.specs.Parts.{entry_row_from}
use Rattle.lab_seal.proofs.RowLemmas.{rows_more, rows_none, rows_end}
use Rattle.lab_seal.proofs.WholeLemmas.{left_fault, no_rows, longer_rows, whole_rows}
use Rattle.lab_seal.proofs.VersionLemmas.{row_sound}
use Rattle.lab_seal.proofs.reading.all_rows.Goals as goal

pub returns-in_default-first_row-clause-fault : goal.returns-in_default-first_row-clause-fault
returns-in_default-first_row-clause-fault c =
    no_rows c.args.count c.args.text.now
    (rows_none c.args.count c.args.text.now c.loop-at.at c.loop-at.rows.items c.loop-at.rest.now (omega arith) c.loop-at.invariant
    (rw c.in_default-first_row.is at (sym c.first_row.ensures)))

pub push_row-requires : goal.push_row-requires
push_row-requires c = (row_sound c.loop-at.rest.now _ c.in-Some.after.now (sym c.in-Some.ensures)).row_is

pub returns-in-Err-clause-fault : goal.returns-in-Err-clause-fault
returns-in-Err-clause-fault c =
    left_fault c.args.count c.args.text.now (c.args.count - c.loop-at.at) c.loop-at.rows.items c.loop-at.rest.now _ c.loop-at.invariant
    c.fault_of_memory-in-Err.ensures

pub loop-at-preserved : goal.loop-at-preserved
loop-at-preserved c =
    rw c.in_default-push_row.ensures (rows_more c.args.count c.args.text.now c.loop-at.at
    c.loop-at.rows.items c.loop-at.rest.now c.in-Some.after.now (entry_row_from c.in-Some.row) (omega arith) c.loop-at.invariant
    (sym c.in-Some.ensures))

pub returns-then-not-is_empty-clause-fault : goal.returns-then-not-is_empty-clause-fault
returns-then-not-is_empty-clause-fault c =
    longer_rows c.args.count c.args.text.now c.loop-at.rows.items c.loop-at.rest.now
    (rows_end c.args.count c.args.text.now c.loop-at.at c.loop-at.rows.items c.loop-at.rest.now (omega arith) c.loop-at.invariant)
    (sym c.is_empty.ensures ∙ c.if-not-is_empty.true)

pub returns-clause-rows : goal.returns-clause-rows
returns-clause-rows c =
    rw c.new.ensures (whole_rows c.args.count c.args.text.now c.loop-at.rows.items c.loop-at.rest.now
    (rows_end c.args.count c.args.text.now c.loop-at.at c.loop-at.rows.items c.loop-at.rest.now (omega arith) c.loop-at.invariant)
    (sym c.is_empty.ensures ∙ c.if-not-is_empty.false))
