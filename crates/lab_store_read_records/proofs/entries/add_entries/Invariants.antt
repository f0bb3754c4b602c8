use Rattle.std.proofs.Common.{◌≡◌, length}
use Rattle.std.specs.Vec.Iter.{into_iter_items, into_iter_len}
use Rattle.lab_store_read.proofs.Causes.{HasAsked}
use Rattle.lab_store_read_records.specs.Private.Readable.{HasWriter}
use Rattle.lab_store_read.proofs.PutOnce.{HasPutOnce}
use Rattle.lab_store_read_records.specs.Private.Heads.{entry_by}
use Rattle.lab_store_read_records.proofs.entries.add_entries.Given as goal

-- the rows so far, and those to come, are all, and the codes that are kept are right
abbrev pub invariant-loop-head : goal.invariant-loop-head
invariant-loop-head g l = record {
  put : HasPutOnce entry_by l.fn.made.items l.fn.heads.items l.known.items l.made.items (into_iter_items l.head-iterator)
      (g.D.Readable.state l.fn.conn) (g.D.Readable.state l.conn);
  asked : HasAsked HasWriter l.fn.heads.items (into_iter_items l.head-iterator) (g.D.Readable.state l.fn.conn) (g.D.Readable.state l.conn);
  counted : into_iter_len l.head-iterator ≡ length (into_iter_items l.head-iterator);
}
