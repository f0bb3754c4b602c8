-- What clauses of private functions say beside Receiving.antt.
use Rattle.std.specs.Prelude.{ℕ, Bool, List, [], if◌then◌else◌}
use Rattle.lab_wire_heads.specs.Interims.{interim_lines}

-- the interim lines where they are due, and else nothing
abbrev pub lines_if : Bool → List ℕ
lines_if is_due = if is_due then interim_lines else []
