use Rattle.lab_copy_rows.proofs.TextLemmas.{digits_are_text}
use Rattle.lab_copy_rows.proofs.rows.CopyRow.version.Goals as goal

pub digits_text-requires : goal.digits_text-requires
digits_text-requires c = rw c.digits-digest.ensures.digits (digits_are_text c.args.line.now.digest)
