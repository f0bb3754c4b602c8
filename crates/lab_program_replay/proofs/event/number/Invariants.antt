use Rattle.std.proofs.Common.{◌≡◌, nat_le, drop}
use Rattle.lab_program_replay.specs.Event.{number_where}
use Rattle.lab_program_replay.proofs.NumberLemmas.{number_on}
use Rattle.lab_program_replay.proofs.event.number.Given as goal

abbrev pub invariant-loop-byte : goal.invariant-loop-byte
invariant-loop-byte l = number_where (λ n. nat_le n l.fn.most) l.fn.text
    ≡ number_on (λ n. nat_le n l.fn.most) l.value (drop l.byte-index l.fn.text)
