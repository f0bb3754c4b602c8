-- The rows that were found are those of the record's versions.
use Rattle.std.proofs.Common.{w64, ap}
use Rattle.std.proofs.lemmas.Int.{to_z-of_z}
use Rattle.sqlite.specs.Effect.{Database}
use Rattle.lab_store_tables.specs.Rows.{tables_in}
use Rattle.lab_store_tables.specs.Ready.{tables_of}
use Rattle.lab_store_read_records.proofs.Below.{own_rows}
use Rattle.lab_store_read_copies.proofs.CauseLemmas.{versions_placed}
use Rattle.lab_store_read_copies.proofs.FoundLemmas.{leaves_as}
use Rattle.lab_store_read_copies.proofs.GivesLemmas.{none_read, then_given}
use Rattle.lab_store_read_copies.proofs.records.give_versions.Goals as goal

pub returns-in-Ok : goal.returns-in-Ok
returns-in-Ok g c =
    let old = tables_of (g.D.Readable.state c.args.conn.now) in
    let mid = tables_of (g.D.Readable.state c.versions_at.new.conn) in
    let reads = rw (to_z-of_z w64 c.args.kept c.ranges.kept) at c.in-Ok.ensures.reads in
    then_given reads.passes (λ clean opened. reads.same clean) c.in-Ok.ensures.cause.limit
    (λ clean opened. (reads.same clean).0.is_open)
    (λ ready clean given. (
      tt,
      leaves_as old mid
          (ap (λ (db : Database). tables_in db.trees) (reads.same clean).0.now_is) c.args.lab.now
          c.args.cover.now c.args.kept c.in-Ok.heads.items (reads.answer ready clean),
    ))
    (λ ready clean has.
    versions_placed old c.args.kept c.in-Ok.heads.items (reads.answer ready clean) has)
    c.give_each_version.ensures

pub returns-in-Err : goal.returns-in-Err
returns-in-Err g c =
    none_read c.in-Err.ensures.reads.passes c.copy_fault.ensures.told c.copy_fault.ensures.fits
    (rw (to_z-of_z w64 c.args.kept c.ranges.kept) at c.in-Err.ensures.cause)
    (λ has. own_rows (tables_of (g.D.Readable.state c.args.conn.now)) c.args.kept has.versions)
