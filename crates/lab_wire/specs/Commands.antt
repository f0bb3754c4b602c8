-- What an accepted request asks of which laboratory: where it goes first, then the query or the body
-- that its command has. A query elsewhere is passed over, and so is the body of what is read.
use Rattle.std.specs.Prelude.{◌≡◌, ◌<◌, ◌⊎◌, ℕ, List, length, IsOk, Option, Some, None, Result, Ok, Err}
use Rattle.lab_records_machine.specs.declared.commands.Command.{Command}
use Rattle.lab_records_machine.specs.declared.commands.Command.TheVariants as command
use Rattle.lab_records_machine.specs.declared.commands.SessionCommand.TheVariants as given
use Rattle.lab_records_machine.specs.declared.commands.ReadingCommand.{ReadingCommand}
use Rattle.lab_records_machine.specs.declared.commands.ReadingCommand.TheVariants as reading
use Rattle.lab_records_machine.specs.declared.commands.Instruction.{Instruction}
use Rattle.lab_wire_members.specs.declared.refusals.BodyRefusal.TheVariants.{BadBody}
use Rattle.lab_wire_members.specs.Readings.{Reading}
use Rattle.lab_wire_bodies.specs.Bodies.{post_named, body_named}
use Rattle.lab_wire.specs.declared.route_refusals.RouteRefusal.{RouteRefusal}
use Rattle.lab_wire.specs.declared.route_refusals.RouteRefusal.TheVariants.{Body}
use Rattle.lab_forms_texts.specs.declared.refusals.Fault.{Fault}
use Rattle.lab_forms_texts.specs.declared.refusals.Fault.TheVariants.{Refused, Memory}
use Rattle.lab_wire.specs.declared.aims.Aim.{Aim}
use Rattle.lab_wire.specs.declared.aims.Aim.TheVariants.{Card, Persons, Form, Record, Version, Records, Trail, Copy, Posted}
use Rattle.lab_wire.specs.declared.queries.Range.{Range}
use Rattle.lab_wire_heads.specs.Requests.{RequestParts}
use Rattle.lab_wire.specs.declared.commands.Asked.{Asked}
use Rattle.lab_wire.specs.Queries.{range_in}
use Rattle.lab_wire.specs.Routes.{Destination, destination_of}

-- ---- the command of what is asked

-- a command that reads, as one that is given in a session
abbrev pub reads_in : ReadingCommand → Command
reads_in asked = command.In (given.Reading asked)

-- what is read of a range
abbrev pub ranged : (ℕ → ℕ → ReadingCommand) → Option Range → Result Command RouteRefusal
ranged reads None = Err (Body BadBody)
ranged reads (Some range) = Ok (reads_in (reads range.from range.to))

-- what a body names, or its refusal
abbrev pub by_body : Reading Command → Result Command RouteRefusal
by_body (Err refusal) = Err (Body refusal)
by_body (Ok named) = Ok named

-- the command of what is asked, with its query and its body
unfoldable pub command_at : Aim → List ℕ → List ℕ → Result Command RouteRefusal
command_at Card query body = Ok command.Card
command_at Persons query body = Ok (reads_in reading.ReadPersons)
command_at (Form code version) query body = Ok (reads_in (reading.ReadForm code version))
command_at (Record number) query body = Ok (reads_in (reading.ReadRecord number))
command_at (Version number version) query body =
    Ok (reads_in (reading.ReadVersion number version))
command_at Records query body = ranged reading.ReadRecords (range_in query)
command_at Trail query body = ranged reading.ReadTrail (range_in query)
command_at Copy query body = ranged reading.TakeCopy (range_in query)
command_at (Posted post) query body = by_body (body_named (post_named post) body)

-- ---- why none is found

-- a body with a byte is posted: JSON is read into memory before it is known to be bad
abbrev pub PostsBytes : Aim → List ℕ → Type 0
PostsBytes (Posted post) body = 0 < length body
PostsBytes _ body = ⊥

-- ---- what is asked

-- a command, in the session of the token
abbrev pub instruction_of : Option (List ℕ) → Command → Instruction
instruction_of token given = record { token = token; command = given }

-- of the laboratory
abbrev pub asked_of : List ℕ → Option (List ℕ) → Result Command RouteRefusal →
    Result Asked RouteRefusal
asked_of lab token (Err refusal) = Err refusal
asked_of lab token (Ok given) =
    Ok (record { lab = lab; instruction = instruction_of token given })

abbrev pub asked_at : RequestParts → Result Destination RouteRefusal → Result Asked RouteRefusal
asked_at request (Err refusal) = Err refusal
asked_at request (Ok to) =
    asked_of to.lab request.token (command_at to.aim to.query request.body)

-- where a request goes
unfoldable pub destination_in : RequestParts → Result Destination RouteRefusal
destination_in request = destination_of request.method request.target

-- what a request asks
unfoldable pub command_asked : RequestParts → Result Asked RouteRefusal
command_asked request = asked_at request (destination_in request)

-- a body with a byte is posted where the request goes
abbrev pub PostsBytesTo : Result Destination RouteRefusal → List ℕ → Type 0
PostsBytesTo (Err refusal) body = ⊥
PostsBytesTo (Ok to) body = PostsBytes to.aim body

-- something is made of a request: it is known what it asks, whose laboratory and text are copied;
-- or a body with a byte is posted, which is read into memory
abbrev pub MakesSomething : RequestParts → Type 0
MakesSomething request =
    IsOk (command_asked request) ⊎ PostsBytesTo (destination_in request) request.body

-- The faults of reading it: the refusal that comes of it; out of memory only where something is
-- made, so that it never hides that there is no such place, no such method at it, that the query is
-- bad, or that an empty body is.
abbrev pub RouteFaultFits : RequestParts → Fault RouteRefusal → Type 0
RouteFaultFits request (Refused refusal) = command_asked request ≡ Err refusal
RouteFaultFits request Memory = MakesSomething request
