-- What a body has: an object (RFC 8259) of exactly the members that are listed, each of its kind. A
-- member that need not be there is of its kind where it is there, so it is never null.
use Rattle.std.specs.Prelude.{ℕ, suc, ◌==◌, ◌&&◌, not, nat_lt, List, [], ◌∷◌, count_by, find, bytes_eq, Bool, true, false, if◌then◌else◌, is_some, Option, Some, None, option_map, option_and_then}
use Rattle.std.specs.List.{list_all}
use Rattle.std.specs.Option.{option_map_or}
use Rattle.serde_json.specs.Data.{Data, Items, no_items, item, Members, no_members, member}
use Rattle.serde_json.specs.Find.{get, as_object, as_array, as_bool, as_number, as_str, as_u64}
use Rattle.lab_forms_texts.specs.Ordinals.{ordinal_of}
use Rattle.lab_seal_hashes.specs.Digits.{bytes_of_digits}
use Rattle.lab_people_access.specs.declared.roles.Role.{Role}
use Rattle.lab_people_access.specs.declared.roles.Roles.{Roles as RoleSet}
use Rattle.lab_people_access.specs.Roles.{role_word, all_roles, no_roles, has_role, with_role}
use Rattle.lab_wire_members.specs.declared.members.MemberKind.{MemberKind}
use Rattle.lab_wire_members.specs.declared.members.MemberKind.TheVariants.{Text, Flag, Ordinal, Whole, Digest, Roles, Texts, List as AnyList}
use Rattle.lab_wire_members.specs.declared.members.MemberWanted.{MemberWanted}

-- ---- what a value may say

-- a whole number below 2^32, written without point, exponent and sign
abbrev pub whole_of : ℕ → Option ℕ
whole_of n = if nat_lt n 4294967296 then Some n else None

abbrev pub whole_in : Data → Option ℕ
whole_in d = option_and_then whole_of (option_and_then as_u64 (as_number d))

-- one from 1 to 1,000,000,000
abbrev pub ordinal_in : Data → Option ℕ
ordinal_in d = option_and_then ordinal_of (option_and_then as_u64 (as_number d))

-- the 32 bytes of 64 lower hexadecimal digits
abbrev pub digest_in : Data → Option (List ℕ)
digest_in d = option_and_then (bytes_of_digits 32) (as_str d)

-- the elements of a list
abbrev pub list_of : Items → List Data
list_of no_items = []
list_of (item d ds) = d ∷ list_of ds

abbrev pub list_in : Data → Option (List Data)
list_in d = option_map list_of (as_array d)

-- the role that a word names
abbrev pub names_role : List ℕ → Role → Bool
names_role word role = bytes_eq (role_word role) word

abbrev pub role_of : List ℕ → Option Role
role_of word = find (names_role word) all_roles

abbrev pub role_in : Data → Option Role
role_in d = option_and_then role_of (as_str d)

-- one role more, where it isn't among them yet
abbrev pub role_added : RoleSet → Option Role → Option RoleSet
role_added roles None = None
role_added roles (Some role) = if has_role roles role then None else Some (with_role roles role)

-- roles and those of a list of words, of which each names a role that isn't among them yet
abbrev pub roles_with : RoleSet → List Data → Option RoleSet
roles_with roles [] = Some roles
roles_with roles (d ∷ ds) =
    option_and_then (λ more. roles_with more ds) (role_added roles (role_in d))

-- the roles of a list of different words, also of an empty one
abbrev pub roles_in : Data → Option RoleSet
roles_in d = option_and_then (roles_with no_roles) (list_in d)

abbrev pub is_text_member : Data → Bool
is_text_member d = is_some (as_str d)

-- a value of a kind
abbrev pub is_of : MemberKind → Data → Bool
is_of Text d = is_text_member d
is_of Flag d = is_some (as_bool d)
is_of Ordinal d = is_some (ordinal_in d)
is_of Whole d = is_some (whole_in d)
is_of Digest d = is_some (digest_in d)
is_of Roles d = is_some (roles_in d)
is_of Texts d = option_map_or (list_all is_text_member) (list_in d) false
is_of AnyList d = is_some (list_in d)

-- ---- the members of an object

-- what a body may have at a name, and whether it must
pub record MemberRule : Type 0 where
  pub name : List ℕ
  pub kind : MemberKind
  pub is_required : Bool

abbrev pub must : List ℕ → MemberKind → MemberRule
must name kind = record { name = name; kind = kind; is_required = true }

abbrev pub may : List ℕ → MemberKind → MemberRule
may name kind = record { name = name; kind = kind; is_required = false }

-- as the code has it
abbrev pub rule_shown : MemberWanted → MemberRule
rule_shown m = record { name = m.name.now; kind = m.kind; is_required = m.is_required }

-- what stands at the name is as the rule says
abbrev pub keeps : MemberRule → Option Data → Bool
keeps rule None = not rule.is_required
keeps rule (Some d) = is_of rule.kind d

-- how many members an object has: `serde_json` keeps one for each name, the last
abbrev pub member_count : Members → ℕ
member_count no_members = 0
member_count (member key d rest) = suc (member_count rest)

-- an object of so many members
abbrev pub has_count : ℕ → Option Members → Bool
has_count count None = false
has_count count (Some members) = member_count members == count

-- an object with what the rules say, whose names differ, and no member but theirs
unfoldable pub has_members : List MemberRule → Data → Bool
has_members rules d =
    has_count (count_by (λ (rule : MemberRule). is_some (get rule.name d)) rules) (as_object d)
    && list_all (λ (rule : MemberRule). keeps rule (get rule.name d)) rules

-- what the value at a name says
abbrev pub at : {A : Type 0} → (Data → Option A) → List ℕ → Data → Option A
at says name d = option_and_then says (get name d)

-- the elements of the list at a name, or none
abbrev pub elements_at : List ℕ → Data → Option (List Data)
elements_at name d = at list_in name d

-- the list at a name has only objects with what the rules say
abbrev pub each_has : List MemberRule → Option (List Data) → Bool
each_has rules elements = option_map_or (list_all (has_members rules)) elements false
