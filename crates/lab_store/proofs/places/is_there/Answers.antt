use Rattle.std.proofs.Common.{List, find, slice_get, is_some, ap, ◌∙◌}
use Rattle.sqlite_value.specs.Order.{Row}
use Rattle.lab_store_tables.specs.Meaning.{has_code}
use Rattle.lab_store_tables.specs.Ready.{tables_of}
use Rattle.lab_store_read.proofs.Readers.{reads_and}
use Rattle.lab_store.proofs.Endings.{shown_some}
use Rattle.lab_store.proofs.places.is_there.Goals as goal

pub returns-in-Ok-clause-reads : goal.returns-in-Ok-clause-reads
returns-in-Ok-clause-reads g c =
    let t = tables_of (g.D.Readable.state c.args.conn.now) in
    reads_and c.in-Ok.ensures.reads (λ kept rows. c.has_row.ensures ∙ ap (λ (l : List Row). is_some (slice_get l 0)) (c.deref.ensures.value ∙ rows)
    ∙ shown_some t c.as_str.result.now ∙ ap (λ s. is_some (find (has_code s) t.labs)) c.as_str.ensures.value)
