-- Where a request goes, by its method and its path: a table with a row for each command
-- (docs/HTTP.md has the same table; RFC 9110, sections 9 and 15.5.6; RFC 3986, section 3.3).
use Rattle.std.specs.Prelude.{ℕ, Bool, true, false, List, [], ◌∷◌, ◌&&◌, ◌||◌, bytes_eq, find, if◌then◌else◌, is_some, Option, Some, None, Result, Ok, Err, codes}
use Rattle.std.specs.List.{list_any}
use Rattle.std.specs.Str.Parse.{digits_value}
use Rattle.lab_forms_texts.specs.Names.{is_lab_code, is_key}
use Rattle.lab_wire_bodies.specs.declared.bodies.Post.{Post}
use Rattle.lab_wire_bodies.specs.declared.bodies.Post.TheVariants.{Open, Close, ChangePassword, Enrol, AskIssue, ConfirmIssue, SetRoles, Retire, Unlock, MakeForm, OpenRecord, Enter, Amend, Sign}
use Rattle.lab_wire.specs.declared.route_refusals.RouteRefusal.{RouteRefusal}
use Rattle.lab_wire.specs.declared.route_refusals.RouteRefusal.TheVariants.{NoRoute, Method}
use Rattle.lab_wire.specs.declared.route_refusals.Allowed.{Allowed}
use Rattle.lab_wire.specs.declared.route_refusals.Allowed.TheVariants.{Get as GetAlone, Post as PostAlone, GetOrPost}
use Rattle.lab_wire.specs.declared.routes.Route.{Route}
use Rattle.lab_wire.specs.declared.routes.Route.TheVariants.{Card, Persons, Form, Record, Version, Records, Trail, Copy, Posted}
use Rattle.lab_wire.specs.declared.routes.Destination.{Destination as Found}
use Rattle.lab_wire.specs.declared.aims.Aim.{Aim}
use Rattle.lab_wire.specs.declared.aims.Aim.TheVariants as aim
use Rattle.lab_wire.specs.Numbers.{ordinal_in}
use Rattle.lab_wire.specs.Paths.{path_of, query_of, behind, labs_prefix, lab_in, place_in, segments, segment_at}

-- ---- the table

-- a command is given by a method and a place in its laboratory. In the table's places `{form}`
-- stands for a key, `{record}` and `{version}` for a number; all else stands for itself.
pub record Row : Type 0 where
  pub method : List ℕ
  pub place : List ℕ
  pub route : Route

abbrev pub get_method : List ℕ
get_method = codes "GET"

abbrev pub post_method : List ℕ
post_method = codes "POST"

-- what is read
abbrev pub gets : List ℕ → Route → Row
gets place route = record { method = get_method; place = place; route = route }

-- what is posted with a body
abbrev pub posts : List ℕ → Post → Row
posts place post = record { method = post_method; place = place; route = Posted post }

-- a row for each command
abbrev pub routes : List Row
routes =
    gets (codes "") Card
    ∷ posts (codes "/open") Open
    ∷ posts (codes "/close") Close
    ∷ posts (codes "/password") ChangePassword
    ∷ posts (codes "/persons") Enrol
    ∷ gets (codes "/persons") Persons
    ∷ posts (codes "/issue") AskIssue
    ∷ posts (codes "/confirm") ConfirmIssue
    ∷ posts (codes "/roles") SetRoles
    ∷ posts (codes "/retire") Retire
    ∷ posts (codes "/unlock") Unlock
    ∷ posts (codes "/forms") MakeForm
    ∷ gets (codes "/forms/{form}/{version}") Form
    ∷ posts (codes "/records") OpenRecord
    ∷ posts (codes "/entries") Enter
    ∷ posts (codes "/amendments") Amend
    ∷ posts (codes "/signatures") Sign
    ∷ gets (codes "/records/{record}") Record
    ∷ gets (codes "/records/{record}/versions/{version}") Version
    ∷ gets (codes "/records") Records
    ∷ gets (codes "/trail") Trail
    ∷ gets (codes "/copy") Copy
    ∷ []

-- ---- which rows a place has

-- the segments of a row's places that stand for a number
abbrev pub is_number_mark : List ℕ → Bool
is_number_mark mark = bytes_eq mark (codes "{record}") || bytes_eq mark (codes "{version}")

-- the segment of a row that stands for the key of a form
abbrev pub is_key_mark : List ℕ → Bool
is_key_mark mark = bytes_eq mark (codes "{form}")

-- what a segment of a row admits in its place
unfoldable pub admits : List ℕ → List ℕ → Bool
admits mark segment =
    if is_key_mark mark then is_key segment
    else (if is_number_mark mark then is_some (ordinal_in segment) else bytes_eq mark segment)

-- as many segments, each admitted
abbrev pub all_admitted : List (List ℕ) → List (List ℕ) → Bool
all_admitted [] [] = true
all_admitted [] (segment ∷ more) = false
all_admitted (mark ∷ marks) [] = false
all_admitted (mark ∷ marks) (segment ∷ more) = admits mark segment && all_admitted marks more

abbrev pub is_row_to : List ℕ → Row → Bool
is_row_to place row = all_admitted (segments row.place) (segments place)

-- a row of the table is to the place
unfoldable pub is_place : List ℕ → Bool
is_place place = list_any (is_row_to place) routes

-- ---- the method

-- a row is by the method, in these letters, to the place
abbrev pub is_row : List ℕ → List ℕ → Row → Bool
is_row method place row = bytes_eq row.method method && is_row_to place row

-- the row by a method to a place
unfoldable pub route_row : List ℕ → List ℕ → Option Row
route_row method place = find (is_row method place) routes

abbrev pub has_row : List ℕ → List ℕ → Bool
has_row method place = is_some (route_row method place)

-- the methods that a place has rows for
abbrev pub allowed : List ℕ → Allowed
allowed place =
    if has_row get_method place
    then (if has_row post_method place then GetOrPost else GetAlone)
    else PostAlone

abbrev pub route_or_allowed : Option Row → Allowed → Result Route RouteRefusal
route_or_allowed None methods = Err (Method methods)
route_or_allowed (Some row) methods = Ok row.route

-- the route by a method to a place in a laboratory: first the place has to be one, then the method
-- one of its own
unfoldable pub route_of : List ℕ → List ℕ → Result Route RouteRefusal
route_of method place =
    if is_place place then route_or_allowed (route_row method place) (allowed place) else Err NoRoute

-- ---- what a request asks

-- the number in a segment that the route's row has admitted
abbrev pub number_at : ℕ → List ℕ → ℕ
number_at i place = digits_value 10 (segment_at i place)

-- what a route asks at a place, with the parameters in the segments that its row has admitted
abbrev pub aim_at : List ℕ → Route → Aim
aim_at place Card = aim.Card
aim_at place Persons = aim.Persons
aim_at place Form = aim.Form (segment_at 1 place) (number_at 2 place)
aim_at place Record = aim.Record (number_at 1 place)
aim_at place Version = aim.Version (number_at 1 place) (number_at 3 place)
aim_at place Records = aim.Records
aim_at place Trail = aim.Trail
aim_at place Copy = aim.Copy
aim_at place (Posted post) = aim.Posted post

abbrev pub aim_by : List ℕ → Result Route RouteRefusal → Result Aim RouteRefusal
aim_by place (Err refusal) = Err refusal
aim_by place (Ok route) = Ok (aim_at place route)

-- ---- where a request goes

-- the laboratory and the query, as written, and what is asked
pub record Destination : Type 0 where
  pub lab : List ℕ
  pub query : List ℕ
  pub aim : Aim

-- as the code has it
abbrev pub destination_shown : Found → Destination
destination_shown found = record { lab = found.lab; query = found.query.now; aim = found.aim }

abbrev pub destination_at : List ℕ → List ℕ → Result Aim RouteRefusal →
    Result Destination RouteRefusal
destination_at lab query (Err refusal) = Err refusal
destination_at lab query (Ok asked) = Ok (record { lab = lab; query = query; aim = asked })

-- by what stands behind the prefix: the laboratory's code has to read, before the place and the
-- method are looked at
abbrev pub destination_in : List ℕ → List ℕ → Option (List ℕ) → Result Destination RouteRefusal
destination_in method query None = Err NoRoute
destination_in method query (Some rest) =
    if is_lab_code (lab_in rest)
    then destination_at (lab_in rest) query
    (aim_by (place_in rest) (route_of method (place_in rest)))
    else Err NoRoute

-- where a method and a target go
unfoldable pub destination_of : List ℕ → List ℕ → Result Destination RouteRefusal
destination_of method target =
    destination_in method (query_of target) (behind labs_prefix (path_of target))
