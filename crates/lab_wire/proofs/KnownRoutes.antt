-- Paths, queries and requests as the documents of the interface write them, so that a wrong rule in the definitions does
-- not check.
use Rattle.std.proofs.Common.{◌≡◌, refl, [], ◌∷◌, codes, Some, None, Ok, Err}
use Rattle.std.specs.Fmt.{digits}
use Rattle.lab_forms_texts.specs.Names.{is_key, is_lab_code}
use Rattle.lab_records_machine.specs.declared.commands.Command.TheVariants as command
use Rattle.lab_records_machine.specs.declared.commands.ReadingCommand.TheVariants as reading
use Rattle.lab_wire_members.specs.declared.refusals.BodyRefusal.TheVariants.{BadBody}
use Rattle.lab_wire_bodies.specs.declared.bodies.Post.TheVariants.{Open, Close, ChangePassword, Enrol, AskIssue, ConfirmIssue, SetRoles, Retire, Unlock, MakeForm, OpenRecord, Enter, Amend, Sign}
use Rattle.lab_wire.specs.declared.route_refusals.RouteRefusal.TheVariants.{NoRoute, Method, Body}
use Rattle.lab_wire.specs.declared.route_refusals.Allowed.TheVariants.{Get as GetAlone, Post as PostAlone, GetOrPost}
use Rattle.lab_wire.specs.declared.aims.Aim.TheVariants as aim
use Rattle.lab_wire.specs.declared.routes.Route.TheVariants.{Card, Persons, Form, Record, Version, Records, Trail, Copy, Posted}
use Rattle.lab_wire.specs.Numbers.{ordinal_in}
use Rattle.lab_wire.specs.Paths.{path_of, query_of, behind, segments}
use Rattle.lab_wire.specs.Queries.{range_in}
use Rattle.lab_wire.specs.Routes.{admits, is_place, route_row, route_of, destination_of}
use Rattle.lab_wire.specs.Commands.{reads_in, command_at}

-- a path ends before the first question mark
pub known_paths : (path_of (codes "/where?q=now") ≡ codes "/where")
    × (path_of (codes "/labs/aqua#a") ≡ codes "/labs/aqua#a")
    × (query_of (codes "/where?q=now?") ≡ codes "q=now?")
    × (query_of (codes "/where") ≡ [])
known_paths = (refl, refl, refl, refl)

-- a slash at the end begins an empty segment
pub known_segments : (segments [] ≡ [])
    × (segments (codes "/") ≡ [] ∷ [])
    × (segments (codes "/records/5") ≡ codes "records" ∷ codes "5" ∷ [])
    × (segments (codes "/records/") ≡ codes "records" ∷ [] ∷ [])
unfolding segments
known_segments = (refl, refl, refl, refl)

-- numbers are written as they are printed
pub known_numbers : (ordinal_in (codes "1") ≡ Some 1)
    × (ordinal_in (codes "100") ≡ Some 100)
    × (ordinal_in (codes "1000000000") ≡ Some 1000000000)
    × (ordinal_in ([]) ≡ None)
    × (ordinal_in (codes "0") ≡ None)
    × (ordinal_in (codes "01") ≡ None)
    × (ordinal_in (codes "+1") ≡ None)
    × (ordinal_in (codes "-1") ≡ None)
    × (ordinal_in (codes " 1") ≡ None)
    × (ordinal_in (codes "1 ") ≡ None)
    × (ordinal_in (codes "1000000001") ≡ None)
    × (ordinal_in (codes "4294967297") ≡ None)
    × (ordinal_in (codes "99999999999999999999999999999999") ≡ None)
unfolding ordinal_in digits
known_numbers = (refl, refl, refl, refl, refl, refl, refl, refl, refl, refl, refl, refl, refl)

-- each row of the table
pub known_commands : (route_of (codes "GET") ([]) ≡ Ok Card)
    × (route_of (codes "POST") (codes "/open") ≡ Ok (Posted Open))
    × (route_of (codes "POST") (codes "/close") ≡ Ok (Posted Close))
    × (route_of (codes "POST") (codes "/password") ≡ Ok (Posted ChangePassword))
    × (route_of (codes "POST") (codes "/persons") ≡ Ok (Posted Enrol))
    × (route_of (codes "GET") (codes "/persons") ≡ Ok Persons)
    × (route_of (codes "POST") (codes "/issue") ≡ Ok (Posted AskIssue))
    × (route_of (codes "POST") (codes "/confirm") ≡ Ok (Posted ConfirmIssue))
    × (route_of (codes "POST") (codes "/roles") ≡ Ok (Posted SetRoles))
    × (route_of (codes "POST") (codes "/retire") ≡ Ok (Posted Retire))
    × (route_of (codes "POST") (codes "/unlock") ≡ Ok (Posted Unlock))
    × (route_of (codes "POST") (codes "/forms") ≡ Ok (Posted MakeForm))
unfolding route_of is_place route_row admits is_key ordinal_in digits segments
known_commands = (refl, refl, refl, refl, refl, refl, refl, refl, refl, refl, refl, refl)

-- and the rows of forms, records, the trail and copies
pub known_commands_of_records : (route_of (codes "GET") (codes "/forms/water_2/3") ≡ Ok Form)
    × (route_of (codes "POST") (codes "/records") ≡ Ok (Posted OpenRecord))
    × (route_of (codes "POST") (codes "/entries") ≡ Ok (Posted Enter))
    × (route_of (codes "POST") (codes "/amendments") ≡ Ok (Posted Amend))
    × (route_of (codes "POST") (codes "/signatures") ≡ Ok (Posted Sign))
    × (route_of (codes "GET") (codes "/records/5") ≡ Ok Record)
    × (route_of (codes "GET") (codes "/records/5/versions/1000000000") ≡ Ok Version)
    × (route_of (codes "GET") (codes "/records") ≡ Ok Records)
    × (route_of (codes "GET") (codes "/trail") ≡ Ok Trail)
    × (route_of (codes "GET") (codes "/copy") ≡ Ok Copy)
unfolding route_of is_place route_row admits is_key ordinal_in digits segments
known_commands_of_records = (refl, refl, refl, refl, refl, refl, refl, refl, refl, refl)

-- what is no place
pub known_elsewhere : (route_of (codes "GET") (codes "/") ≡ Err NoRoute)
    × (route_of (codes "GET") (codes "/open/") ≡ Err NoRoute)
    × (route_of (codes "GET") (codes "/records/0") ≡ Err NoRoute)
    × (route_of (codes "GET") (codes "/records/01") ≡ Err NoRoute)
    × (route_of (codes "GET") (codes "/records/+1") ≡ Err NoRoute)
    × (route_of (codes "GET") (codes "/records/1000000001") ≡ Err NoRoute)
    × (route_of (codes "GET") (codes "/records/5/") ≡ Err NoRoute)
    × (route_of (codes "GET") (codes "/records/5/versions") ≡ Err NoRoute)
    × (route_of (codes "GET") (codes "/records/5/versions/0") ≡ Err NoRoute)
    × (route_of (codes "GET") (codes "/records/5/version/1") ≡ Err NoRoute)
    × (route_of (codes "GET") (codes "/forms/Water/1") ≡ Err NoRoute)
    × (route_of (codes "GET") (codes "/forms/water") ≡ Err NoRoute)
    × (route_of (codes "GET") (codes "/forms/water/01") ≡ Err NoRoute)
    × (route_of (codes "GET") (codes "/Persons") ≡ Err NoRoute)
    × (route_of (codes "GET") (codes "/copies") ≡ Err NoRoute)
    × (route_of (codes "GET") (codes "/copy/1") ≡ Err NoRoute)
unfolding route_of is_place route_row admits is_key ordinal_in digits segments
known_elsewhere = (refl, refl, refl, refl, refl, refl, refl, refl, refl, refl, refl, refl, refl, refl, refl, refl)

-- the methods of a place, which is looked at first
pub known_methods : (route_of (codes "PUT") (codes "/persons") ≡ Err (Method GetOrPost))
    × (route_of (codes "PUT") (codes "/records") ≡ Err (Method GetOrPost))
    × (route_of (codes "HEAD") ([]) ≡ Err (Method GetAlone))
    × (route_of (codes "get") (codes "/trail") ≡ Err (Method GetAlone))
    × (route_of (codes "POST") (codes "/records/5") ≡ Err (Method GetAlone))
    × (route_of (codes "GET") (codes "/open") ≡ Err (Method PostAlone))
    × (route_of (codes "PUT") (codes "/records/0") ≡ Err NoRoute)
    × (route_of (codes "PUT") (codes "/copy") ≡ Err (Method GetAlone))
    × (route_of (codes "PUT") (codes "/copies") ≡ Err NoRoute)
unfolding route_of is_place route_row admits is_key ordinal_in digits segments
known_methods = (refl, refl, refl, refl, refl, refl, refl, refl, refl)

-- where a target goes
pub known_destinations : (destination_of (codes "GET") (codes "/labs/aqua") ≡ Ok (record { lab = codes "aqua"; query = []; aim = aim.Card }))
    × (destination_of (codes "GET") (codes "/labs/aqua?a=/b") ≡ Ok (record { lab = codes "aqua"; query = codes "a=/b"; aim = aim.Card }))
    × (destination_of (codes "GET") (codes "/labs/aqua-2/trail?from=1&to=2") ≡ Ok (record { lab = codes "aqua-2"; query = codes "from=1&to=2"; aim = aim.Trail }))
    × (destination_of (codes "POST") (codes "/labs/aqua/open?from=1") ≡ Ok (record { lab = codes "aqua"; query = codes "from=1"; aim = aim.Posted Open }))
    × (destination_of (codes "GET") (codes "/labs/AQUA") ≡ Err NoRoute)
    × (destination_of (codes "PUT") (codes "/labs/AQUA/persons") ≡ Err NoRoute)
    × (destination_of (codes "GET") (codes "/labs//trail") ≡ Err NoRoute)
    × (destination_of (codes "GET") (codes "/labs/aqua/") ≡ Err NoRoute)
    × (destination_of (codes "GET") (codes "/lab/aqua") ≡ Err NoRoute)
    × (destination_of (codes "PUT") (codes "/labs/aqua/trail#a") ≡ Err NoRoute)
unfolding destination_of behind is_lab_code route_of is_place route_row admits is_key ordinal_in digits segments
known_destinations = (refl, refl, refl, refl, refl, refl, refl, refl, refl, refl)

-- with the parameters of its path
pub known_parameters : (destination_of (codes "GET") (codes "/labs/aqua/forms/water_2/3")
    ≡ Ok (record { lab = codes "aqua"; query = []; aim = aim.Form (codes "water_2") 3 }))
    × (destination_of (codes "GET") (codes "/labs/aqua/records/5?from=1") ≡ Ok (record { lab = codes "aqua"; query = codes "from=1"; aim = aim.Record 5 }))
    × (destination_of (codes "GET") (codes "/labs/aqua/records/5/versions/2") ≡ Ok (record { lab = codes "aqua"; query = []; aim = aim.Version 5 2 }))
unfolding destination_of behind is_lab_code route_of is_place route_row admits is_key ordinal_in digits segments
known_parameters = (refl, refl, refl)

-- exactly from=A&to=B, at most a hundred numbers
pub known_ranges : (range_in (codes "from=1&to=100") ≡ Some (record { from = 1; to = 100 }))
    × (range_in (codes "from=7&to=7") ≡ Some (record { from = 7; to = 7 }))
    × (range_in (codes "from=999999999&to=1000000000") ≡ Some (record { from = 999999999; to = 1000000000 }))
    × (range_in (codes "from=1&to=101") ≡ None)
    × (range_in (codes "from=2&to=1") ≡ None)
    × (range_in (codes "from=0&to=1") ≡ None)
    × (range_in (codes "from=01&to=2") ≡ None)
    × (range_in (codes "to=2&from=1") ≡ None)
    × (range_in (codes "from=1&to=2&") ≡ None)
    × (range_in (codes "from=1&to=2&to=3") ≡ None)
    × (range_in (codes "from=1") ≡ None)
    × (range_in ([]) ≡ None)
    × (range_in (codes "From=1&to=2") ≡ None)
    × (range_in (codes "from=1&to=1000000001") ≡ None)
    × (range_in (codes "from=1&&to=2") ≡ None)
unfolding range_in behind ordinal_in digits
known_ranges = (refl, refl, refl, refl, refl, refl, refl, refl, refl, refl, refl, refl, refl, refl, refl)

-- the command of what is asked, with its query
pub known_at : (command_at (aim.Form (codes "water") 3) ([]) ([]) ≡ Ok (reads_in (reading.ReadForm (codes "water") 3)))
    × (command_at (aim.Record 5) (codes "from=1") (codes "x") ≡ Ok (reads_in (reading.ReadRecord 5)))
    × (command_at (aim.Version 5 2) ([]) ([]) ≡ Ok (reads_in (reading.ReadVersion 5 2)))
    × (command_at aim.Records (codes "from=1&to=100") ([]) ≡ Ok (reads_in (reading.ReadRecords 1 100)))
    × (command_at aim.Trail (codes "from=3&to=4") ([]) ≡ Ok (reads_in (reading.ReadTrail 3 4)))
    × (command_at aim.Copy (codes "from=3&to=5") ([]) ≡ Ok (reads_in (reading.TakeCopy 3 5)))
    × (command_at aim.Trail ([]) ([]) ≡ Err (Body BadBody))
    × (command_at aim.Copy (codes "from=5&to=3") ([]) ≡ Err (Body BadBody))
    × (command_at aim.Card (codes "a") ([]) ≡ Ok command.Card)
unfolding command_at range_in behind ordinal_in digits
known_at = (refl, refl, refl, refl, refl, refl, refl, refl, refl)
