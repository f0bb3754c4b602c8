-- What clauses of private functions say beside Makings.antt.
use Rattle.std.specs.Prelude.{◌⊎◌, IsTrue}
use Rattle.lab_forms_texts.specs.declared.tick.Tick.{Tick}
use Rattle.lab_people_access.specs.declared.persons.Person.{Person}
use Rattle.lab_people_access.specs.declared.sessions.Session.{Session}
use Rattle.lab_records_kept.specs.declared.needs.Slice.{Slice}
use Rattle.lab_records_machine.specs.declared.commands.SessionCommand.{SessionCommand}
use Rattle.lab_records_machine.specs.Makings.{makes}
use Rattle.lab_records_machine.specs.Done.{done_of}
use Rattle.lab_records_laws.specs.Deciding.{IsWritten}

-- a command in a session, but for its note: it makes something itself, or something is written of
-- what it comes to
abbrev pub MakesInSession : Slice → Tick → Session → Person → SessionCommand → Type 0
MakesInSession slice tick session caller command =
    IsTrue (makes slice tick session caller command)
    ⊎ IsWritten slice.counts.trail (done_of slice tick session caller command)
