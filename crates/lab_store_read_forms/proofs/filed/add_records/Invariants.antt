use Rattle.std.proofs.Common.{◌≡◌, length}
use Rattle.std.specs.Vec.Iter.{into_iter_items, into_iter_len}
use Rattle.lab_store_read.proofs.Causes.{HasAsked}
use Rattle.lab_store_read_forms.specs.Readable.{HasParts}
use Rattle.lab_store_read_forms.proofs.FormsBehind.{HasFiled}
use Rattle.lab_store_read_forms.proofs.filed.add_records.Given as goal

-- the records so far, and those to come, are all, and those to come are readable where all are; the form is right for the next one
abbrev pub invariant-loop-head : goal.invariant-loop-head
invariant-loop-head g l = record {
  filed : HasFiled l.code l.fn.made.items l.fn.heads.items l.made.items (into_iter_items l.head-iterator) l.before
      (g.D.Readable.state l.fn.conn) (g.D.Readable.state l.conn);
  asked : HasAsked HasParts l.fn.heads.items (into_iter_items l.head-iterator) (g.D.Readable.state l.fn.conn) (g.D.Readable.state l.conn);
  counted : into_iter_len l.head-iterator ≡ length (into_iter_items l.head-iterator);
}
