-- the rows of the first signatures stand behind those that were there
use Rattle.std.proofs.Common.{◌≡◌, ◌++◌, map, take}
use Rattle.lab_records_copies.specs.CopyLines.{signature_line}
use Rattle.lab_copy_rows.specs.Rows.{fields_in, signature_row}
use Rattle.lab_records_copies.proofs.parts.push_signatures.Given as goal

abbrev pub invariant-loop-signature : goal.invariant-loop-signature
invariant-loop-signature l =
    l.rows.items ≡ l.fn.rows.items
    ++ map (λ signature. fields_in (signature_row (signature_line l.lab l.kept l.version signature)))
    (take l.signature-index l.version.signatures)
