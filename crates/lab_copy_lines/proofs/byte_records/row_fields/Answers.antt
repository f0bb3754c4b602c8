use Rattle.std.proofs.Common.{sym, ◌∙◌}
use Rattle.csv.specs.Records.{fields_of}
use Rattle.lab_copy_lines.proofs.RowLemmas.{thirteen}
use Rattle.lab_copy_lines.proofs.byte_records.row_fields.Goals as goal

pub returns : goal.returns
returns c =
    let made = thirteen (fields_of c.args.row.now) (sym c.len.ensures ∙ c.if-len-ne-COLUMN_COUNT.false) in
    cc
