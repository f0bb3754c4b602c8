-- The writer is set up as by default, and is at the start of a row.
use Rattle.std.proofs.Common.{◌≢◌}
use Rattle.csv.specs.Writing.{writer_setup}
use Rattle.csv.specs.declared.writer.QuoteStyle.TheVariants as style
use Rattle.lab_copy_rows.proofs.SendLemmas.{row_written}
use Rattle.lab_copy_rows.proofs.sending.put_row.Goals as goal

pub returns : goal.returns
returns g c = λ bytes was.
    let plain : (writer_setup c.args.writer.now).style ≢ style.NonNumeric =
    rw was.setup (λ e. cc e) in
    let went = c.in-Ok.ensures.bytes was.fields was.wrote plain in
    row_written (g.W.Write.contents) _ _ bytes c.args.row.now was
    (rw (c.as_byte_record.ensures, c.in_ok-take_fields.ensures) at went)
    c.in-Ok.ensures.setup c.in-Ok.ensures.ended c.in-Ok.ensures.clean
