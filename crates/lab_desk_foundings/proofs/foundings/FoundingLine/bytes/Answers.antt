use Rattle.std.proofs.Common.{sym}
use Rattle.lab_desk_foundings.proofs.KnownFoundings.{memory_line_text}
use Rattle.lab_desk_foundings.proofs.foundings.FoundingLine.bytes.Goals as goal

-- the constant is the line that the table of faults gives for lack of memory
pub returns-in-None : goal.returns-in-None
returns-in-None c = rw c.in-None.is (sym memory_line_text)
