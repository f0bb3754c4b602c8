use Rattle.std.proofs.Common.{◌≡◌, length, map}
use Rattle.std.specs.Vec.Iter.{into_iter_items, into_iter_len}
use Rattle.lab_store_read_records.specs.Leaves.{leaf_of}
use Rattle.lab_move_tables.specs.Standing.{StandsBySome}
use Rattle.lab_move_read.specs.Private.Records.{leaf_by, is_kept_leaf}
use Rattle.lab_move_read.specs.Readable.{HasLeaf}
use Rattle.lab_move_read_people.proofs.KeptLoops.{HasKept}
use Rattle.lab_move_read.proofs.leaves.leaves_whole.Given as goal

-- what was made so far, and what is to come, is all
abbrev pub invariant-loop-head : goal.invariant-loop-head
invariant-loop-head g l = record {
  kept : HasKept StandsBySome HasLeaf (λ t. is_kept_leaf t l.fn.lab) leaf_by l.fn.heads.items (map leaf_of l.made) (into_iter_items l.head-iterator)
      (g.D.Readable.state l.fn.conn) (g.D.Readable.state l.conn);
  counted : into_iter_len l.head-iterator ≡ length (into_iter_items l.head-iterator);
}
