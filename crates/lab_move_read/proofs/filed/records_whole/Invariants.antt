use Rattle.std.proofs.Common.{◌≡◌, length}
use Rattle.std.specs.Prelude.{All}
use Rattle.std.specs.Vec.Iter.{into_iter_items, into_iter_len}
use Rattle.lab_move_tables.specs.Chained.{IsChained}
use Rattle.lab_move_tables.specs.Standing.{StandsBy}
use Rattle.lab_move_read.specs.Records.{is_kept_record_head, record_by}
use Rattle.lab_move_read.specs.Readable.{HasRecordParts}
use Rattle.lab_move_read_people.proofs.KeptLoops.{HasKept}
use Rattle.lab_move_read.proofs.filed.records_whole.Given as goal

-- what was made so far, and what is to come, is all
abbrev pub invariant-loop-head : goal.invariant-loop-head
invariant-loop-head g l = record {
  kept : HasKept (StandsBy l.fn.older) (HasRecordParts l.fn.older) (λ t. is_kept_record_head t l.fn.lab l.forms) (λ t. record_by t l.code l.forms) l.fn.heads.items l.made (into_iter_items l.head-iterator)
      (g.D.Readable.state l.fn.conn) (g.D.Readable.state l.conn);
  chained : All (IsChained l.code) l.made;
  counted : into_iter_len l.head-iterator ≡ length (into_iter_items l.head-iterator);
}
