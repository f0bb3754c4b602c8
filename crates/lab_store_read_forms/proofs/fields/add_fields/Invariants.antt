use Rattle.std.proofs.Common.{◌≡◌, length}
use Rattle.std.specs.Vec.Iter.{into_iter_items, into_iter_len}
use Rattle.lab_store_read.proofs.Loops.{HasPut}
use Rattle.lab_store_read.proofs.Causes.{HasAsked}
use Rattle.lab_store_read_forms.specs.Private.Forms.{field_by}
use Rattle.lab_store_read_forms.proofs.Below.{HasItsNames}
use Rattle.lab_store_read_forms.proofs.fields.add_fields.Given as goal

-- the fields so far, and those to come, are all, and those to come are readable where all are
abbrev pub invariant-loop-head : goal.invariant-loop-head
invariant-loop-head g l = record {
  put : HasPut field_by l.fn.made.items l.fn.heads.items l.made.items (into_iter_items l.head-iterator)
      (g.D.Readable.state l.fn.conn) (g.D.Readable.state l.conn);
  asked : HasAsked HasItsNames l.fn.heads.items (into_iter_items l.head-iterator) (g.D.Readable.state l.fn.conn) (g.D.Readable.state l.conn);
  counted : into_iter_len l.head-iterator ≡ length (into_iter_items l.head-iterator);
}
