use Rattle.lab_copy_rows.proofs.TextLemmas.{digits_are_text}
use Rattle.lab_copy_rows.proofs.rows.CopyRow.signature.Goals as goal

pub digits_text-requires : goal.digits_text-requires
digits_text-requires c = rw c.digits-digest.ensures.digits (digits_are_text c.args.line.now.parts.version)

pub digits_text-requires-2 : goal.digits_text-requires-2
digits_text-requires-2 c = rw c.digits-seal.ensures (digits_are_text c.args.line.now.seal)
