-- The writer is set up as by default, and nothing else is in its memory.
use Rattle.std.proofs.Common.{◌≡◌, ℕ, List, ◌++◌, Some, ◌∙◌, refl}
use Rattle.lab_copy_rows.specs.Csv.{csv_text}
use Rattle.lab_copy_rows.proofs.sending.rows_bytes.Goals as goal

held : (one other : List ℕ) → Some one ≡ Some other → one ≡ other
held one other same = cc

pub returns-in-Ok : goal.returns-in-Ok
returns-in-Ok c =
    let from = c.from_writer-writer.ensures in
    let writer = c.put_rows.new.writer in
    let wrote = c.in_ok-put_rows.ensures (record {
      setup = from.cfg ∙ c.new.ensures;
      fields = from.fields;
      wrote = from.wrote;
      text = rw (from.wtr, c.new-2.ensures.items, from.empty) refl;
    }) in
    c.in-Ok.ensures.ok
    ∙ held (writer.wtr.inner.items ++ writer.wtr.buf) (csv_text c.args.rows.now) wrote.text
