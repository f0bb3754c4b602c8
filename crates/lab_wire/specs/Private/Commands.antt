-- What clauses of private functions say beside Commands.antt.
use Rattle.std.specs.Prelude.{◌≡◌, ◌⊎◌, IsOk, Result, Err}
use Rattle.lab_wire.specs.declared.route_refusals.RouteRefusal.{RouteRefusal}
use Rattle.lab_forms_texts.specs.declared.refusals.Fault.{Fault}
use Rattle.lab_forms_texts.specs.declared.refusals.Fault.TheVariants.{Refused, Memory}

-- ---- why none is found

-- the faults of finding something: the refusal that comes of it; out of memory only where something
-- is found, which is copied, or where bytes are read into memory
abbrev pub FaultFits : {A : Type 0} → Type 0 → Result A RouteRefusal → Fault RouteRefusal → Type 0
FaultFits reads found (Refused refusal) = found ≡ Err refusal
FaultFits reads found Memory = IsOk found ⊎ reads
