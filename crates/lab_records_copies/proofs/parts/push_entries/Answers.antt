use Rattle.std.proofs.Common.{◌∙◌, ap, ◌++◌, ◌∷◌, [], sym}
use Rattle.lab_records_copies.specs.CopyLines.{entry_line}
use Rattle.lab_copy_rows.specs.Rows.{fields_in, entry_row}
use Rattle.lab_records_copies.proofs.RowLemmas.{row_more}
use Rattle.lab_records_copies.proofs.parts.push_entries.Goals as goal

pub loop-row-preserved : goal.loop-row-preserved
loop-row-preserved c =
    c.in_ok-push.ensures.items
    ∙ ap (λ row. c.loop-row.rows.items ++ row ∷ []) c.in_ok-entry_row.ensures
    ∙ row_more _ _ _ c.args.version.now.rows _ c.loop-row.row-index _ c.rows-row-items.ensures c.loop-row-test.true c.row-item.is c.loop-row.invariant
