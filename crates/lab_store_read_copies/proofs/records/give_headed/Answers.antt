-- The record that goes out is the one with the row.
use Rattle.std.proofs.Common.{ap, rules, w64, SFits}
use Rattle.std.proofs.lemmas.Int.{to_z-of_z}
use Rattle.sqlite.specs.Effect.{Database}
use Rattle.lab_store_tables.specs.Rows.{tables_in}
use Rattle.lab_store_tables.specs.Ready.{tables_of}
use Rattle.lab_store_read_copies.proofs.FoundLemmas.{filed_is, filed_still, headed_as}
use Rattle.lab_store_read_copies.proofs.GivesLemmas.{none_read, then_given}
use Rattle.lab_store_read_copies.proofs.records.give_headed.Goals as goal

pub returns-in-Ok-clause-gives : goal.returns-in-Ok-clause-gives
returns-in-Ok-clause-gives g c =
    let head = c.args.head in
    let fits : SFits w64 head.id = search rules in
    let cover = c.in-Ok.cover in
    let reads = c.in-Ok.ensures.reads in
    let t = tables_of (g.D.Readable.state c.args.conn.now) in
    let mid = tables_of (g.D.Readable.state c.cover_behind.new.conn) in
    then_given reads.passes reads.same c.in-Ok.ensures.cause.limit (λ clean opened. tt)
    (λ ready clean formed. (
      tt,
      headed_as t mid
          (ap (λ (db : Database). tables_in db.trees) (reads.shows clean)) c.args.lab.now head cover.kept
          (filed_is t head cover (reads.answer ready clean formed)),
    ))
    (λ ready clean has. record { versions = has.versions; placed = has.placed })
    (rw (to_z-of_z w64 head.id fits) at c.give_filed.ensures.gives)

pub returns-in-Ok-clause-formed : goal.returns-in-Ok-clause-formed
returns-in-Ok-clause-formed g c ready clean formed =
    let was = c.give_filed.ensures.gives.passes.clean clean in
    filed_still c.give_filed.result (tables_of (g.D.Readable.state c.args.conn.now)) c.args.head
    c.in-Ok.cover (c.in-Ok.ensures.reads.answer ready was formed) c.give_filed.ensures.cover

pub returns-in-Err-clause-gives : goal.returns-in-Err-clause-gives
returns-in-Err-clause-gives g c =
    none_read c.in-Err.ensures.reads.passes c.copy_fault.ensures.told c.copy_fault.ensures.fits
    c.in-Err.ensures.cause (λ has. has.form)
