-- What is read of the tables is read of the keeper's.
use Rattle.std.proofs.Common.{◌≡◌, ℕ, List, Option}
use Rattle.sqlite.specs.Held.{state}
use Rattle.lab_records_kept.specs.declared.needs.Need.{Need}
use Rattle.lab_records_kept.specs.declared.needs.Slice.{Slice}
use Rattle.lab_records_kept.specs.Parts.{part_of}
use Rattle.lab_store_tables.specs.Rows.{Tables}
use Rattle.lab_store_tables.specs.Meaning.{meaning}
use Rattle.lab_store_load.proofs.Counting.{answer_counted, counted_after, open_after}
use Rattle.lab_store.proofs.store.Store.part.Goals as goal

-- the part that the tables have
abbrev IsPart : Need → List ℕ → Tables → Option Slice → Type 0
IsPart need code t found = found ≡ part_of need (meaning t code)

pub returns-clause-reads : goal.returns-clause-reads
returns-clause-reads g c =
    rw (← c.self.view_is) (answer_counted (IsPart c.args.need.now c.args.code.now) c.self.inside.counted c.load.new.counted
    (state g.S.Store c.self.inside.tables.conn) (state g.S.Store c.load.new.conn.conn) c.load.result c.load.ensures.reads c.self.invariant.right)

pub returns-clause-cause : goal.returns-clause-cause
returns-clause-cause g c = rw (← c.self.view_is) c.load.ensures.cause

pub invariant_of-self : goal.invariant_of-self
invariant_of-self g c = record {
  at_rest = c.load.ensures.reads.passes.at_rest c.self.invariant.at_rest;
  right =
      counted_after (IsPart c.args.need.now c.args.code.now) c.self.inside.counted c.load.new.counted (state g.S.Store c.self.inside.tables.conn)
      (state g.S.Store c.load.new.conn.conn) c.load.result c.load.ensures.reads c.load.ensures.failed c.self.invariant.at_rest c.self.invariant.right;
  opened =
      open_after (IsPart c.args.need.now c.args.code.now) c.self.inside.counted c.load.new.counted (state g.S.Store c.self.inside.tables.conn)
      (state g.S.Store c.load.new.conn.conn) c.load.result c.load.ensures.reads c.load.ensures.failed;
}
