-- How long a request's body is, and what a good head is refused for: the checks in their order
-- (RFC 9112, sections 6.1 to 6.3; RFC 9110, section 8.6; docs/HTTP.md has the profile: no transfer
-- coding, a length for each POST, no body above 65,536 bytes).
use Rattle.std.specs.Prelude.{ℕ, Bool, not, ◌&&◌, nat_lt, true, List, [], ◌∷◌, length, bytes_eq, codes, if◌then◌else◌, Option, Some, None, option_map, unwrap_or}
use Rattle.std.specs.List.{list_all}
use Rattle.std.specs.Option.{option_map_or}
use Rattle.std.specs.Char.{is_ascii_digit}
use Rattle.std.specs.Str.Parse.{digits_value}
use Rattle.lab_wire_heads.specs.declared.lengths.TheConstants.{BODY_LIMIT}
use Rattle.lab_wire_heads.specs.declared.refusals.HeadRefusal.{HeadRefusal}
use Rattle.lab_wire_heads.specs.declared.refusals.HeadRefusal.TheVariants.{BadHead, TransferCoding, LengthWanted, BodyTooLong}
use Rattle.lab_wire_heads.specs.Heads.{Field, Head}
use Rattle.lab_wire_heads.specs.Fields.{authorization, content_length, transfer_encoding, has_field, is_repeated, value_named}

-- how many bytes a body may have
abbrev pub body_limit : ℕ
body_limit = BODY_LIMIT

-- Content-Length = 1*DIGIT: any number of digits, leading zeros too, and no sign
abbrev pub is_digits : List ℕ → Bool
is_digits value = nat_lt 0 (length value) && list_all is_ascii_digit value

-- the length that is stated is a number, where one is stated
abbrev pub is_length_good : List Field → Bool
is_length_good fields = option_map_or is_digits (value_named content_length fields) true

-- how many bytes the body has; none where no length is stated
unfoldable pub body_length : List Field → ℕ
body_length fields = unwrap_or (option_map (digits_value 10) (value_named content_length fields)) 0

-- the method is POST, in these letters
abbrev pub is_post : List ℕ → Bool
is_post method = bytes_eq method (codes "POST")

-- what a head may be refused for that is good by itself, in order
abbrev pub head_checks : Head → List (Bool × HeadRefusal)
head_checks head =
    (is_repeated authorization head.fields, BadHead)
    ∷ (is_repeated content_length head.fields, BadHead)
    ∷ (has_field transfer_encoding head.fields, TransferCoding)
    ∷ (not (is_length_good head.fields), BadHead)
    ∷ (is_post head.method && not (has_field content_length head.fields), LengthWanted)
    ∷ (nat_lt body_limit (body_length head.fields), BodyTooLong)
    ∷ []

-- the first of the checks that holds is the refusal
abbrev pub first_refusal : List (Bool × HeadRefusal) → Option HeadRefusal
first_refusal [] = None
first_refusal (check ∷ checks) = if check.0 then Some check.1 else first_refusal checks

unfoldable pub head_refusal : Head → Option HeadRefusal
head_refusal head = first_refusal (head_checks head)
