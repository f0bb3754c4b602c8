-- What is read of a laboratory (21 CFR 11.10(c), "accurate and ready retrieval"): over what was
-- looked up, the refusal, or what is read.
use Rattle.std.specs.Prelude.{ℕ, List, map, Option, Some, None, option_map, Result, Ok, Err}
use Rattle.lab_people_access.specs.declared.persons.Person.{Person}
use Rattle.lab_people_access.specs.Persons.{is_locked}
use Rattle.lab_records_kept.specs.declared.records.FormVersion.{FormVersion}
use Rattle.lab_records_kept.specs.declared.records.Record.{Record}
use Rattle.lab_records_kept.specs.declared.records.Version.{Version}
use Rattle.lab_records_kept.specs.Lookups.{last_of, version_of}
use Rattle.lab_records_kept.specs.Values.{values_at, altered_at, version_state}
use Rattle.lab_records_kept.specs.Digests.{digest_of}
use Rattle.lab_seal_versions.specs.declared.states.State.{State}
use Rattle.lab_records_rules.specs.declared.refusals.Refusal.{Refusal}
use Rattle.lab_records_rules.specs.declared.refusals.Refusal.TheVariants.{NoSuchForm, NoSuchRecord, NoSuchVersion}
use Rattle.lab_records_rules.specs.declared.readings.VersionState.{VersionState}
use Rattle.lab_records_rules.specs.declared.readings.RecordRead.{RecordRead}
use Rattle.lab_records_rules.specs.declared.readings.RecordState.{RecordState}
use Rattle.lab_records_rules.specs.declared.readings.PersonLine.{PersonLine}
use Rattle.lab_records_rules.specs.declared.readings.VersionRead.{VersionRead}

-- a version of a form
abbrev pub reading_form : Option FormVersion → Result FormVersion Refusal
reading_form None = Err NoSuchForm
reading_form (Some form) = Ok form

-- the state and the digest of a version
abbrev pub version_line : List ℕ → Record → Version → VersionState
version_line lab kept version = record {
  version = version.origin.number;
  state = version_state kept version;
  digest = digest_of lab kept version;
}

-- a record
abbrev pub record_read : List ℕ → Record → RecordRead
record_read lab kept = record {
  number = kept.number;
  form = kept.form;
  sample = kept.sample;
  versions = map (version_line lab kept) kept.versions;
}

abbrev pub reading_record : List ℕ → Option Record → Result RecordRead Refusal
reading_record lab None = Err NoSuchRecord
reading_record lab (Some kept) = Ok (record_read lab kept)

-- a version of a record
abbrev pub version_read : List ℕ → Record → Version → VersionRead
version_read lab kept version = record {
  number = kept.number;
  form = kept.form;
  sample = kept.sample;
  version = version;
  state = version_state kept version;
  digest = digest_of lab kept version;
  altered = altered_at kept version.origin.number;
  values = values_at kept version.origin.number;
}

abbrev pub reading_found : List ℕ → Record → Option Version → Result VersionRead Refusal
reading_found lab kept None = Err NoSuchVersion
reading_found lab kept (Some version) = Ok (version_read lab kept version)

abbrev pub reading_version : List ℕ → Option Record → ℕ → Result VersionRead Refusal
reading_version lab None number = Err NoSuchRecord
reading_version lab (Some kept) number =
    reading_found lab kept (version_of kept.versions number)

-- a record, with the number and the state of its last version
abbrev pub number_of_version : Version → ℕ
number_of_version version = version.origin.number

abbrev pub current_state : Record → Option Version → Option State
current_state kept None = None
current_state kept (Some version) = version_state kept version

abbrev pub record_line : Record → RecordState
record_line kept = record {
  number = kept.number;
  form = kept.form.code;
  sample = kept.sample;
  current = option_map number_of_version (last_of kept.versions);
  state = current_state kept (last_of kept.versions);
}

-- a person, as persons are read
abbrev pub person_line : ℕ → Person → PersonLine
person_line moment person = record {
  code = person.code;
  name = person.name;
  roles = person.roles;
  retired = person.retired;
  locked = is_locked person.locked moment;
}
