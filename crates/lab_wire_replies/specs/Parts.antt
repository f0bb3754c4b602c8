-- What replies are made of, as JSON (RFC 8259): objects, lists, whole numbers, moments and bytes.
use Rattle.std.specs.Prelude.{ℕ, List, [], ◌∷◌, map, Option, Some, None}
use Rattle.hex.specs.Hex.{encode_lower}
use Rattle.serde_json.specs.Data.{Data, null, array, object, string, number, unsigned, Members, no_members, put}
use Rattle.serde_json.specs.View.{items_of}
use Rattle.lab_forms_texts.specs.Moment.{moment_text}
use Rattle.lab_seal_versions.specs.declared.states.State.{State}
use Rattle.lab_seal_versions.specs.States.{state_word}

-- members, and those of a list. They stand in ascending order of the bytes of their names, whatever
-- order they are listed in.
abbrev pub members_onto : List (List ℕ × Data) → Members → Members
members_onto [] members = members
members_onto (one ∷ more) members = members_onto more (put one.0 one.1 members)

abbrev pub members_from : List (List ℕ × Data) → Members
members_from list = members_onto list no_members

-- an object
abbrev pub object_from : List (List ℕ × Data) → Data
object_from list = object (members_from list)

-- a list, in its order
abbrev pub list_from : List Data → Data
list_from items = array (items_of items)

-- a list of texts
abbrev pub texts_data : List (List ℕ) → Data
texts_data texts = list_from (map string texts)

-- a whole number
abbrev pub whole : ℕ → Data
whole n = number (unsigned n)

-- a moment, as it is printed
abbrev pub moment_data : ℕ → Data
moment_data moment = string (moment_text moment)

-- a token, a half of a one-time word, a digest or a seal: two lower hexadecimal digits a byte
abbrev pub digits_data : List ℕ → Data
digits_data bytes = string (encode_lower bytes)

-- a reason, or a person, of whom there may be none: then it is an empty text
abbrev pub text_or_empty : Option (List ℕ) → Data
text_or_empty None = string []
text_or_empty (Some text) = string text

-- the state of a version. A version of a laboratory that is under dual control has one; null stands
-- where one has none.
abbrev pub state_data : Option State → Data
state_data None = null
state_data (Some state) = string (state_word state)

-- the number of a record's last version. A record has one; null stands where it has no version.
abbrev pub current_data : Option ℕ → Data
current_data None = null
current_data (Some version) = whole version
