-- What of a laboratory is meant: a version of a form, and a record.
use Rattle.std.specs.Prelude.{option_and_then}
use Rattle.lab_records_kept.specs.declared.labs.Lab.{Lab}
use Rattle.lab_records_kept.specs.declared.needs.Need.{Need}
use Rattle.lab_records_kept.specs.Parts.{form_meant, record_meant}
use Rattle.lab_store_load.specs.declared.things.Things.{Things}

abbrev pub things_by : Lab → Need → Things
things_by lab need = record {
  form = option_and_then (form_meant lab) need.form;
  filed = option_and_then (record_meant lab) need.filed;
}
