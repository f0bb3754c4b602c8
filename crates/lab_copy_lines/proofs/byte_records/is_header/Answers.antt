use Rattle.std.proofs.Common.{◌∙◌}
use Rattle.csv.specs.Records.{fields_of}
use Rattle.lab_copy_lines.specs.Fields.{columns_in}
use Rattle.lab_copy_lines.proofs.RowLemmas.{header_found, header_missing}
use Rattle.lab_copy_lines.proofs.byte_records.is_header.Goals as goal

pub returns-in-Some : goal.returns-in-Some
returns-in-Some c =
    c.has_header_names.ensures
    ∙ header_found (fields_of c.args.row.now) (columns_in c.in-Some.row) c.in-Some.ensures

pub returns-in-None : goal.returns-in-None
returns-in-None c = header_missing (fields_of c.args.row.now) c.in-None.ensures
