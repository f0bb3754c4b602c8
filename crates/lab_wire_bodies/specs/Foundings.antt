-- The body of a founding: three founders, each with code, name and password, and the laboratory's
-- name.
use Rattle.std.specs.Prelude.{List, [], ◌∷◌, ◌&&◌, Bool, codes, Option, Some, Ok, Err}
use Rattle.serde_json.specs.Data.{Data}
use Rattle.lab_forms_texts.specs.Names.{is_person_code, is_name}
use Rattle.lab_records_machine.specs.declared.births.Founder.{Founder}
use Rattle.lab_records_machine.specs.declared.births.Founding.{Founding}
use Rattle.lab_wire_members.specs.declared.refusals.BodyRefusal.TheVariants.{BadBody}
use Rattle.lab_wire_members.specs.declared.members.MemberKind.TheVariants.{Text, List as AnyList}
use Rattle.lab_wire_members.specs.Members.{MemberRule, must, has_members, elements_at, each_has}
use Rattle.lab_wire_members.specs.Readings.{Reading, then_read, text_at, named_at, shaped}

abbrev pub founding_members : List MemberRule
founding_members = must (codes "founders") AnyList ∷ must (codes "name") Text ∷ []

abbrev pub founder_members : List MemberRule
founder_members =
    must (codes "code") Text ∷ must (codes "name") Text ∷ must (codes "password") Text ∷ []

-- the founders are objects with what a founder has; that they are three is seen before one is read
unfoldable pub is_founding_body : Data → Bool
is_founding_body d =
    has_members founding_members d && each_has founder_members (elements_at (codes "founders") d)

unfoldable pub founder_read : Data → Reading Founder
founder_read d =
    then_read (named_at is_person_code (codes "code") d) (λ code.
    then_read (named_at is_name (codes "name") d) (λ name.
    then_read (text_at (codes "password") d) (λ password.
    Ok (record { code = code; name = name; password = password }))))

-- the name, behind the founders
abbrev pub founding_behind : Founder → Founder → Founder → Data → Reading Founding
founding_behind first second third d =
    then_read (named_at is_name (codes "name") d) (λ name.
    Ok (record { name = name; first = first; second = second; third = third }))

-- the three of them, then the name
abbrev pub founding_of_three : Data → Data → Data → Data → Reading Founding
founding_of_three one two three d =
    then_read (founder_read one) (λ first.
    then_read (founder_read two) (λ second.
    then_read (founder_read three) (λ third.
    founding_behind first second third d)))

-- exactly three founders
abbrev pub founding_by : Option (List Data) → Data → Reading Founding
founding_by (Some (one ∷ two ∷ three ∷ [])) d = founding_of_three one two three d
founding_by _ d = Err BadBody

unfoldable pub founding_named : Data → Reading Founding
founding_named d =
    shaped (is_founding_body d) (founding_by (elements_at (codes "founders") d) d)
