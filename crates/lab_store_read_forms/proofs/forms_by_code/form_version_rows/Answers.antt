use Rattle.std.proofs.Common.{w64}
use Rattle.std.proofs.lemmas.Int.{to_z-of_z}
use Rattle.lab_store_read.proofs.Readers.{rows_read}
use Rattle.lab_store_read_forms.proofs.ByCodeTexts.{form_versions_means}
use Rattle.lab_store_read_forms.proofs.ByCodeExact.{form_versions_read}
use Rattle.lab_store_read.proofs.Causes.{asks_so}
use Rattle.lab_store_read_forms.proofs.Causes.{form_versions_fits}
use Rattle.lab_store_read_forms.proofs.forms_by_code.form_version_rows.Goals as goal

pub returns-clause-reads : goal.returns-clause-reads
returns-clause-reads g c =
    rows_read form_versions_means.read (rw (to_z-of_z w64 c.args.lab c.ranges.lab) at c.rows_by_code.ensures)
    (λ rows. form_versions_read _ _ c.args.lab c.args.code.now rows.items)

pub returns-clause-cause : goal.returns-clause-cause
returns-clause-cause g c =
    asks_so form_versions_means (form_versions_fits c.args.lab c.args.code.now) _ _ (rw (to_z-of_z w64 c.args.lab c.ranges.lab) at c.rows_by_code.ensures)
