-- Where a change of a laboratory in memory makes something, as a copy, so that memory may run out:
-- not where a moment or a number is set, nor where what is to be changed isn't there.
use Rattle.std.specs.Prelude.{Bool, true, false, is_some}
use Rattle.lab_people_access.specs.Persons.{has_code}
use Rattle.lab_people_access.specs.Sessions.{has_token}
use Rattle.lab_records_kept.specs.declared.labs.Lab.{Lab}
use Rattle.lab_records_kept.specs.declared.changes.Change.{Change}
use Rattle.lab_records_kept.specs.declared.changes.Change.TheVariants.{Last, Strays, PersonAdded, PersonSet, SessionAdded, SessionSet, SessionsClosed, FormAdded, RecordAdded, RowAdded, VersionOpened, SignatureAdded, TrailAdded}
use Rattle.lab_records_kept.specs.Lookups.{record_of, last_version, numbered_version}

abbrev pub makes : Lab → Change → Bool
makes lab (Last moment) = false
makes lab (Strays count) = false
makes lab (PersonAdded person) = true
makes lab (PersonSet person) = has_code lab.persons person.code
makes lab (SessionAdded session) = true
makes lab (SessionSet session) = has_token lab.sessions session.token
makes lab (SessionsClosed person closing) = false
makes lab (FormAdded form) = true
makes lab (RecordAdded kept) = true
makes lab (RowAdded number row) = is_some (last_version lab number)
makes lab (VersionOpened number version) = is_some (record_of lab.records number)
makes lab (SignatureAdded number version signature) = is_some (numbered_version lab number version)
makes lab (TrailAdded row) = true
