use Rattle.std.proofs.Common.{◌≡◌, ◌<◌, ◌^◌, take, true}
use Rattle.std.specs.List.{list_all}
use Rattle.std.specs.Char.{is_ascii_digit}
use Rattle.lab_forms.specs.Numbers.{decimal_value}
use Rattle.lab_forms.proofs.numbers.read_digits.Given as goal

-- the bytes so far are digits, and this is the number that they write
abbrev pub invariant-loop-byte : goal.invariant-loop-byte
invariant-loop-byte l =
    (l.number ≡ decimal_value (take l.byte-index l.text)) × (l.number < 10 ^ l.byte-index)
    × (list_all is_ascii_digit (take l.byte-index l.text) ≡ true)
