-- Forms that are made, and records that are opened: over what was looked up, the first refusal in
-- order, or what is made.
use Rattle.std.specs.Prelude.{ℕ, ◌+◌, Bool, nat_le, List, [], ◌∷◌, Option, Some, None, Result, Ok, Err, if◌then◌else◌}
use Rattle.lab_forms.specs.Forms.{FormSheet, form_eq}
use Rattle.lab_people_access.specs.declared.refusals.PeopleRefusal.TheVariants.{LabFull}
use Rattle.lab_seal_versions.specs.declared.versions.Format.TheVariants.{Two}
use Rattle.lab_records_kept.specs.declared.records.FormVersion.{FormVersion}
use Rattle.lab_records_kept.specs.declared.records.Record.{Record}
use Rattle.lab_records_kept.specs.declared.records.Version.{Version}
use Rattle.lab_records_kept.specs.Limits.{form_version_limit, record_limit}
use Rattle.lab_records_rules.specs.declared.refusals.Refusal.{Refusal}
use Rattle.lab_records_rules.specs.declared.refusals.Refusal.TheVariants.{People, NoSuchForm, RecordExists, NothingAltered}

-- the version of a number
abbrev pub form_version : List ℕ → ℕ → FormSheet → FormVersion
form_version code version form = record { code = code; version = version; form = form }

-- the first version of a form, or its next one, which differs from the present one
abbrev pub making : List ℕ → FormSheet → Option FormVersion → Result FormVersion Refusal
making code form None = Ok (form_version code 1 form)
making code form (Some last) =
    if form_eq last.form form then Err NothingAltered
    else (if nat_le form_version_limit last.version then Err (People LabFull)
    else Ok (form_version code (last.version + 1) form))

-- the first version of a record, as it is opened
abbrev pub first_version : Bool → List ℕ → ℕ → Version
first_version approval caller moment = record {
  format = Two approval;
  origin = record { number = 1; amendment = None };
  opener = caller;
  opened = moment;
  rows = [];
  signatures = [];
}

-- a record as it is opened, under the number after those that there are
abbrev pub new_record : FormVersion → List ℕ → List ℕ → ℕ → ℕ → Record
new_record form sample caller moment records = record {
  number = records + 1;
  form = form;
  sample = sample;
  versions = first_version form.form.approval caller moment ∷ [];
}

-- a record is opened by the last version of its form, once for a form and a sample
abbrev pub opening_new : FormVersion → Option Record → List ℕ → List ℕ → ℕ → ℕ
    → Result Record Refusal
opening_new form (Some kept) sample caller moment records = Err (RecordExists kept.number)
opening_new form None sample caller moment records =
    if nat_le record_limit records then Err (People LabFull)
    else Ok (new_record form sample caller moment records)

abbrev pub opening_record : Option FormVersion → Option Record → List ℕ → List ℕ → ℕ → ℕ
    → Result Record Refusal
opening_record None found sample caller moment records = Err NoSuchForm
opening_record (Some form) found sample caller moment records =
    opening_new form found sample caller moment records
