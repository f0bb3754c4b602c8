use Rattle.std.proofs.Common.{w64}
use Rattle.std.proofs.lemmas.Int.{to_z-of_z}
use Rattle.lab_store_read.proofs.Readers.{rows_read}
use Rattle.lab_store_read_forms.proofs.Texts.{form_means}
use Rattle.lab_store_read_forms.proofs.Exact.{forms_read}
use Rattle.lab_store_read.proofs.Causes.{asks_so}
use Rattle.lab_store_read_forms.proofs.Causes.{form_fits}
use Rattle.lab_store_read_forms.proofs.forms.form_rows.Goals as goal

pub returns-clause-reads : goal.returns-clause-reads
returns-clause-reads g c = rows_read form_means.read (rw (to_z-of_z w64 c.args.id c.ranges.id) at c.rows_by_one.ensures) (λ rows. forms_read _ _ c.args.id rows.items)

pub returns-clause-cause : goal.returns-clause-cause
returns-clause-cause g c =
    asks_so form_means (form_fits c.args.id) _ _ (rw (to_z-of_z w64 c.args.id c.ranges.id) at c.rows_by_one.ensures)
