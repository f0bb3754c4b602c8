-- Whether a body is JSON, step by step.
use Rattle.std.proofs.Common.{◌≡◌, ◌∙◌, ◌<◌, ℕ, List, [], ◌∷◌, length, Bool, true, false, cond, Option, Some, None, refl, sym, arith}
use Rattle.std.specs.Str.{is_utf8}
use Rattle.serde_json.specs.Data.{Data}
use Rattle.serde_json.specs.Read.{read}
use Rattle.serde_json.proofs.OnLiterals.{serde_json_on_literals}
use Rattle.lab_wire_members.specs.Values.{json_of}

none_where : (is_text : Bool) (value : Option Data) → (is_text ≡ true → value ≡ None) → cond is_text value None ≡ None
none_where true value h = h refl
none_where false value h = refl

pub json_of-none : (text : List ℕ) → (is_utf8 text ≡ true → read text ≡ None) → json_of text ≡ None
unfolding json_of
json_of-none text h = none_where (is_utf8 text) (read text) h

pub json_of-some : (text : List ℕ) (value : Data) → is_utf8 text ≡ true → read text ≡ Some value → json_of text ≡ Some value
unfolding json_of
json_of-some text value utf8 h = rw utf8 h

-- a body that is JSON has some byte
nothing_read : json_of [] ≡ None
unfolding serde_json_on_literals
nothing_read = json_of-none [] (λ _. refl)

pub some_byte : (body : List ℕ) (d : Data) → json_of body ≡ Some d → 0 < length body
some_byte [] d is = let none : None ≡ Some d = sym nothing_read ∙ is in absurd (cc)
some_byte (b ∷ body) d is = omega arith
