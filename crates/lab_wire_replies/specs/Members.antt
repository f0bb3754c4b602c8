-- The members of an object (RFC 8259), each a name and what it tells.
use Rattle.std.specs.Prelude.{ℕ, List}
use Rattle.serde_json.specs.Data.{Data, null, string, boolean}
use Rattle.lab_wire_replies.specs.declared.members.Told.{Told}
use Rattle.lab_wire_replies.specs.declared.members.Told.TheVariants.{Text, Number, Flag, Moment, Bytes, Nothing}
use Rattle.lab_wire_replies.specs.declared.members.Member.{Member}
use Rattle.lab_wire_replies.specs.Parts.{whole, moment_data, digits_data}

-- what is told, as data
abbrev pub told_data : Told → Data
told_data (Text text) = string text.now
told_data (Number number) = whole number
told_data (Flag flag) = boolean flag
told_data (Moment moment) = moment_data moment
told_data (Bytes bytes) = digits_data bytes
told_data Nothing = null

-- a member as the code has it
abbrev pub member_data : Member → List ℕ × Data
member_data member = (member.name.now, told_data member.told)
