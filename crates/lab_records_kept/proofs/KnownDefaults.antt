-- A value of each record that a laboratory holds, with nothing in it. Known values are updates of these, here and in the
-- crates above, so that a further member of a record stands in one of them. For a person there is `newcomer` of
-- lab_people_access.
use Rattle.std.proofs.Common.{false, [], None}
use Rattle.lab_people_access.specs.declared.sessions.Session.{Session}
use Rattle.lab_forms.specs.declared.kinds.Kind.TheVariants.{YesNo}
use Rattle.lab_forms.specs.declared.forms.Field.{Field}
use Rattle.lab_seal_versions.specs.declared.rows.EntryRow.{EntryRow}
use Rattle.lab_seal_versions.specs.declared.versions.Format.TheVariants.{One}
use Rattle.lab_seal_versions.specs.declared.seals.Meaning.TheVariants.{Authorship}
use Rattle.lab_records_kept.specs.declared.records.FormVersion.{FormVersion}
use Rattle.lab_records_kept.specs.declared.records.Record.{Record}
use Rattle.lab_records_kept.specs.declared.records.Version.{Version}
use Rattle.lab_records_kept.specs.declared.records.Signature.{Signature}
use Rattle.lab_records_kept.specs.declared.trails.Action.TheVariants.{Found}
use Rattle.lab_records_kept.specs.declared.trails.TrailRow.{TrailRow}
use Rattle.lab_records_kept.specs.declared.labs.Lab.{Lab}

abbrev pub bare_session : Session
bare_session = record {
  number = 0;
  person = [];
  token = [];
  opened = 0;
  last = 0;
  closed = false;
  signed = false;
}

abbrev pub bare_field : Field
bare_field = record { key = []; label = []; required = false; kind = YesNo }

abbrev pub bare_form : FormVersion
bare_form = record { code = []; version = 0; form = record { fields = []; approval = false } }

abbrev pub bare_entry : EntryRow
bare_entry = record { key = []; value = []; unit = []; person = []; moment = 0; reason = None }

abbrev pub bare_signature : Signature
bare_signature = record { person = []; name = []; meaning = Authorship; moment = 0; digest = []; seal = [] }

abbrev pub bare_version : Version
bare_version = record {
  format = One;
  origin = record { number = 1; amendment = None };
  opener = [];
  opened = 0;
  rows = [];
  signatures = [];
}

abbrev pub bare_record : Record
bare_record = record { number = 0; form = bare_form; sample = []; versions = [] }

abbrev pub bare_told : TrailRow
bare_told = record { number = 0; moment = 0; person = None; action = Found; subject = [] }

abbrev pub bare_lab : Lab
bare_lab = record {
  code = [];
  name = [];
  last = 0;
  strays = 0;
  persons = [];
  sessions = [];
  forms = [];
  records = [];
  trail = [];
}
