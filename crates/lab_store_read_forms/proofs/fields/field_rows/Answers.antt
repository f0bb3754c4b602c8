use Rattle.std.proofs.Common.{w64}
use Rattle.std.proofs.lemmas.Int.{to_z-of_z}
use Rattle.lab_store_read.proofs.Readers.{rows_read}
use Rattle.lab_store_read_forms.proofs.Texts.{field_means}
use Rattle.lab_store_read_forms.proofs.Exact.{fields_read}
use Rattle.lab_store_read.proofs.Causes.{asks_so}
use Rattle.lab_store_read_forms.proofs.Causes.{field_fits}
use Rattle.lab_store_read_forms.proofs.fields.field_rows.Goals as goal

pub returns-clause-reads : goal.returns-clause-reads
returns-clause-reads g c =
    rows_read field_means.read (rw (to_z-of_z w64 c.args.form c.ranges.form) at c.rows_by_one.ensures)
    (λ rows. fields_read _ _ c.args.form rows.items)

pub returns-clause-cause : goal.returns-clause-cause
returns-clause-cause g c =
    asks_so field_means (field_fits c.args.form) _ _ (rw (to_z-of_z w64 c.args.form c.ranges.form) at c.rows_by_one.ensures)
