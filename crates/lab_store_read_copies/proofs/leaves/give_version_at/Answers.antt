-- The leaf that was read is the one that the tables have.
use Rattle.std.proofs.Common.{◌≡◌, ap}
use Rattle.std.specs.Prelude.{is_some}
use Rattle.lab_store_tables.specs.Meaning.{Leaf, version_after}
use Rattle.lab_store_tables.specs.Ready.{tables_of}
use Rattle.lab_store_read_records.specs.Leaves.{leaf_by, leaf_of}
use Rattle.lab_store_read_copies.specs.GivenRows.{rows_of_version}
use Rattle.lab_store_read_copies.proofs.CauseLemmas.{fit_weaker, leaf_told}
use Rattle.lab_store_read_copies.proofs.GivesLemmas.{none_read, on_any}
use Rattle.lab_store_read_copies.proofs.RowLemmas.{given_as, sends_as}
use Rattle.lab_store_read_copies.proofs.leaves.give_version_at.Goals as goal

pub returns-in-Ok-clause-gives : goal.returns-in-Ok-clause-gives
returns-in-Ok-clause-gives g c =
    let cover = c.args.cover.now in
    let reads = c.in-Ok.ensures.reads in
    let sent = c.give_leaf.ensures.sends in
    let gave = c.give_leaf.result in
    let t = tables_of (g.D.Readable.state c.args.conn.now) in
    let as_read : leaf_of c.in-Ok.leaf ≡ leaf_by t c.args.head →
    rows_of_version c.args.lab.now cover (version_after cover c.args.before (leaf_of c.in-Ok.leaf))
    ≡ rows_of_version c.args.lab.now cover
    (version_after cover c.args.before (leaf_by t c.args.head)) =
    ap (λ (leaf : Leaf).
    rows_of_version c.args.lab.now cover (version_after cover c.args.before leaf)) in
    record {
      passes = reads.passes;
      same = λ clean opened. on_any gave (reads.same clean);
      text = λ ready clean opened given.
          sends_as (g.W.Write.contents c.args.writer.now) (g.W.Write.contents c.give_leaf.new.writer)
          _ _ gave (as_read (reads.answer ready clean)) sent.text;
      counts = λ ready clean opened given.
          given_as c.args.out.now c.give_leaf.new.out _ _ gave (as_read (reads.answer ready clean))
          sent.counts;
      fault = fit_weaker (λ _. tt) gave sent.fault;
      cause = record {
        limit = c.in-Ok.ensures.cause.limit;
        cause = λ ready clean has.
            leaf_told _ t (is_some c.args.before) c.in-Ok.leaf c.args.head gave
            (reads.answer ready clean) has.placed sent.fault;
      };
    }

pub returns-in-Err-clause-gives : goal.returns-in-Err-clause-gives
returns-in-Err-clause-gives g c =
    none_read c.in-Err.ensures.reads.passes c.copy_fault.ensures.told c.copy_fault.ensures.fits
    c.in-Err.ensures.cause (λ has. has.leaf)
