use Rattle.std.proofs.Common.{◌≡◌, length}
use Rattle.std.specs.Vec.Iter.{into_iter_items, into_iter_len}
use Rattle.lab_store_read.proofs.Causes.{HasAsked}
use Rattle.lab_store_read.proofs.Loops.{HasPut}
use Rattle.lab_store_read_people.specs.Private.Heads.{person_by}
use Rattle.lab_store_read_people.specs.PersonsReadable.{HasAsker}
use Rattle.lab_store_read_people.proofs.persons.add_persons.Given as goal

-- the persons so far, and those to come, are all
abbrev pub invariant-loop-head : goal.invariant-loop-head
invariant-loop-head g l = record {
  put : HasPut person_by l.fn.made.items l.fn.heads.items l.made.items (into_iter_items l.head-iterator)
      (g.D.Readable.state l.fn.conn) (g.D.Readable.state l.conn);
  asked : HasAsked HasAsker l.fn.heads.items (into_iter_items l.head-iterator) (g.D.Readable.state l.fn.conn) (g.D.Readable.state l.conn);
  counted : into_iter_len l.head-iterator ≡ length (into_iter_items l.head-iterator);
}
