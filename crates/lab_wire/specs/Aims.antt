-- What the segments of a path give, by the segments of the table's text in their places, and what a
-- route asks with them.
use Rattle.std.specs.Prelude.{ℕ, List, [], ◌∷◌, bytes_eq, if◌then◌else◌, Option, Some, None, option_map, option_and_then}
use Rattle.lab_forms_texts.specs.Names.{is_key}
use Rattle.lab_wire.specs.declared.aims.Part.{Part}
use Rattle.lab_wire.specs.declared.aims.Part.TheVariants.{Word, Key, Number}
use Rattle.lab_wire.specs.declared.aims.Parts.{Parts}
use Rattle.lab_wire.specs.declared.aims.Aim.{Aim}
use Rattle.lab_wire.specs.declared.aims.Aim.TheVariants as aim
use Rattle.lab_wire.specs.declared.routes.Route.{Route}
use Rattle.lab_wire.specs.declared.routes.Route.TheVariants.{Card, Persons, Form, Record, Version, Records, Trail, Copy, Posted}
use Rattle.lab_wire.specs.Numbers.{ordinal_in}
use Rattle.lab_wire.specs.Routes.{is_key_mark, is_number_mark}

-- what a segment gives in the place of a segment of the table's text, which has to admit it
abbrev pub part_of : List ℕ → List ℕ → Option Part
part_of mark segment =
    if is_key_mark mark then (if is_key segment then Some (Key segment) else None)
    else (if is_number_mark mark then option_map Number (ordinal_in segment)
    else (if bytes_eq mark segment then Some Word else None))

-- the parameters of a path of words
abbrev pub no_parts : Parts
no_parts = record { first = Word; second = Word }

-- one more parameter, which comes second; a word is none
abbrev pub with_part : Parts → Part → Parts
with_part given Word = given
with_part given (Key key) = record { first = given.second; second = Key key }
with_part given (Number number) = record { first = given.second; second = Number number }

-- the parameters of as many segments, each admitted
abbrev pub parts_from : Parts → List (List ℕ) → List (List ℕ) → Option Parts
parts_from given [] [] = Some given
parts_from given [] (segment ∷ more) = None
parts_from given (mark ∷ marks) [] = None
parts_from given (mark ∷ marks) (segment ∷ more) =
    option_and_then (λ part. parts_from (with_part given part) marks more) (part_of mark segment)

-- the key, and the number, that a part is
abbrev pub key_part : Part → Option (List ℕ)
key_part (Key key) = Some key
key_part _ = None

abbrev pub number_part : Part → Option ℕ
number_part (Number number) = Some number
number_part _ = None

-- what a route asks with its parameters
abbrev pub form_aim : Option (List ℕ) → Option ℕ → Option Aim
form_aim (Some code) (Some version) = Some (aim.Form code version)
form_aim _ _ = None

abbrev pub version_aim : Option ℕ → Option ℕ → Option Aim
version_aim (Some number) (Some version) = Some (aim.Version number version)
version_aim _ _ = None

abbrev pub aim_of : Route → Part → Part → Option Aim
aim_of Card first second = Some aim.Card
aim_of Persons first second = Some aim.Persons
aim_of Form first second = form_aim (key_part first) (number_part second)
aim_of Record first second = option_map aim.Record (number_part second)
aim_of Version first second = version_aim (number_part first) (number_part second)
aim_of Records first second = Some aim.Records
aim_of Trail first second = Some aim.Trail
aim_of Copy first second = Some aim.Copy
aim_of (Posted post) first second = Some (aim.Posted post)
