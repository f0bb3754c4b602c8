-- The fields of a head by their names, which are compared without case (RFC 9110, section 5.1).
-- These and Host are all that is looked at of a request's fields.
use Rattle.std.specs.Prelude.{ℕ, nat_lt, Bool, List, count_by, find, codes, Option, option_map}
use Rattle.std.specs.Str.{str_eq_ignore_ascii_case}
use Rattle.lab_wire_heads.specs.Heads.{Field}

-- RFC 9110, section 11.6.2
abbrev pub authorization : List ℕ
authorization = codes "authorization"

-- RFC 9110, section 8.6
abbrev pub content_length : List ℕ
content_length = codes "content-length"

-- RFC 9112, section 6.1
abbrev pub transfer_encoding : List ℕ
transfer_encoding = codes "transfer-encoding"

-- RFC 9110, section 10.1.1
abbrev pub expect : List ℕ
expect = codes "expect"

-- a field has the name, in any case
abbrev pub is_named : List ℕ → Field → Bool
is_named name field = str_eq_ignore_ascii_case field.name name

-- how many fields have it
abbrev pub count_named : List ℕ → List Field → ℕ
count_named name fields = count_by (is_named name) fields

-- one or more have it
abbrev pub has_field : List ℕ → List Field → Bool
has_field name fields = nat_lt 0 (count_named name fields)

-- two or more have it
abbrev pub is_repeated : List ℕ → List Field → Bool
is_repeated name fields = nat_lt 1 (count_named name fields)

-- a field's value, which has no spaces or tabs at its ends
abbrev pub value_of : Field → List ℕ
value_of field = field.value

-- the value of the first field of the name, if there is one
abbrev pub value_named : List ℕ → List Field → Option (List ℕ)
value_named name fields = option_map value_of (find (is_named name) fields)
