use Rattle.std.proofs.Common.{◌∙◌, ap}
use Rattle.lab_copy_rows.specs.Rows.{fields_in, end_row}
use Rattle.lab_records_copies.specs.Private.CopyLines.{counts_in}
use Rattle.lab_records_copies.specs.CopyLines.{end_line}
use Rattle.lab_records_copies.proofs.RowLemmas.{whole_put}
use Rattle.lab_records_copies.proofs.wholes.copy_rows.Goals as goal

pub returns : goal.returns
returns c =
    let counted =
    c.in_ok-end.ensures
    ∙ ap (λ rows. fields_in (end_row (end_line c.args.lab.now (counts_in rows)))) c.deref.ensures.value in
    whole_put c.args.lab.now c.args.name.now c.args.order c.args.records.now _ _ _ _ _ c.in_ok-body.body.items _ _ _
    c.new-rows.ensures.items c.in_ok-header.ensures c.in_ok-order_row.ensures c.in_ok-body.ensures counted
    c.in_ok-push.ensures.items c.in_ok-push-2.ensures.items c.in_ok-append.ensures.items c.in_ok-push-3.ensures.items
