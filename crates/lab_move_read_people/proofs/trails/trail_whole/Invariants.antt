use Rattle.std.proofs.Common.{◌≡◌, length}
use Rattle.std.specs.Vec.Iter.{into_iter_items, into_iter_len}
use Rattle.lab_store_read_trail.specs.Private.Trails.{told_by}
use Rattle.lab_move_tables.specs.Standing.{StandsBySome}
use Rattle.lab_move_read_people.specs.Readable.{HasDoer}
use Rattle.lab_move_read_people.specs.Private.Trails.{is_kept_told}
use Rattle.lab_move_read_people.proofs.KeptLoops.{HasKept}
use Rattle.lab_move_read_people.proofs.trails.trail_whole.Given as goal

-- what was made so far, and what is to come, is all
abbrev pub invariant-loop-head : goal.invariant-loop-head
invariant-loop-head g l = record {
  kept : HasKept StandsBySome HasDoer (λ t. is_kept_told t l.fn.lab) told_by l.fn.heads.items l.made (into_iter_items l.head-iterator)
      (g.D.Readable.state l.fn.conn) (g.D.Readable.state l.conn);
  counted : into_iter_len l.head-iterator ≡ length (into_iter_items l.head-iterator);
}
