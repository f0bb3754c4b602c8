use Rattle.std.proofs.Common.{◌≡◌, min, take}
use Rattle.std.specs.Str.Parse.{digits_value}
use Rattle.lab_wire_heads.proofs.lengths.length_of.Given as goal

-- the number of the digits so far, up to one above the limit
abbrev pub invariant-loop-digit : goal.invariant-loop-digit
invariant-loop-digit l = l.length ≡ min (digits_value 10 (take l.digit-index l.digits)) 65537
