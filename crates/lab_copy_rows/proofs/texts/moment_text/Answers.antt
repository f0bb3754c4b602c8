use Rattle.lab_copy_rows.proofs.TextLemmas.{moment_is_text}
use Rattle.lab_copy_rows.proofs.texts.moment_text.Goals as goal

pub text_of-requires : goal.text_of-requires
text_of-requires c = rw c.print.ensures.written (moment_is_text c.args.moment c.print.ensures.in_range)
