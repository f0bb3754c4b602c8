use Rattle.std.proofs.Common.{◌∙◌, ap, ◌++◌, ◌∷◌, [], sym}
use Rattle.lab_records_copies.specs.CopyLines.{signature_line}
use Rattle.lab_copy_rows.specs.Rows.{fields_in, signature_row}
use Rattle.lab_records_copies.proofs.RowLemmas.{row_more}
use Rattle.lab_records_copies.proofs.parts.push_signatures.Goals as goal

pub loop-signature-preserved : goal.loop-signature-preserved
loop-signature-preserved c =
    c.in_ok-push.ensures.items
    ∙ ap (λ row. c.loop-signature.rows.items ++ row ∷ []) c.in_ok-signature_row.ensures
    ∙ row_more _ _ _ c.args.version.now.signatures _ c.loop-signature.signature-index _ c.as_slice-signature-items.ensures c.loop-signature-test.true c.signature-item.is c.loop-signature.invariant
