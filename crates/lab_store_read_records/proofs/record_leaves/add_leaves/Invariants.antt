use Rattle.std.proofs.Common.{◌≡◌, length, map}
use Rattle.std.specs.Vec.Iter.{into_iter_items, into_iter_len}
use Rattle.lab_store_read.proofs.Loops.{HasPut}
use Rattle.lab_store_read_records.specs.Leaves.{leaf_of, leaf_by}
use Rattle.lab_store_read_records.specs.Readable.{HasLeaf}
use Rattle.lab_store_read_records.specs.declared.heads.VersionHead.{VersionHead}
use Rattle.lab_store_read.proofs.Causes.{HasAsked}
use Rattle.lab_store_read_records.proofs.record_leaves.add_leaves.Given as goal

-- the versions so far, and those to come, are all, and those to come are readable where all are
abbrev pub invariant-loop-head : goal.invariant-loop-head
invariant-loop-head g l = record {
  put : HasPut leaf_by (map leaf_of l.fn.made.items) l.fn.heads.items (map leaf_of l.made.items) (into_iter_items l.head-iterator)
      (g.D.Readable.state l.fn.conn) (g.D.Readable.state l.conn);
  asked : HasAsked (λ t (head : VersionHead). HasLeaf t head.id) l.fn.heads.items (into_iter_items l.head-iterator)
      (g.D.Readable.state l.fn.conn) (g.D.Readable.state l.conn);
  counted : into_iter_len l.head-iterator ≡ length (into_iter_items l.head-iterator);
}
