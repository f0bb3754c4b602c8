-- The record of the number is the one that the laboratory means.
use Rattle.std.proofs.Common.{◌≡◌, Some, List, ℕ, refl, sym, ap, ◌∙◌, subst}
use Rattle.std.proofs.KnownBytes.{Appends-nil}
use Rattle.sqlite.specs.Effect.{Database}
use Rattle.lab_store_tables.specs.Rows.{tables_in}
use Rattle.lab_store_tables.specs.Ready.{tables_of}
use Rattle.lab_records_copy_out.proofs.OutLemmas.{given_rows}
use Rattle.lab_store_read_records.specs.Readable.{HasRecord}
use Rattle.lab_store_read_records.specs.Shown.{records_shown}
use Rattle.lab_store_read_forms.specs.Readable.{HasWholeRecord}
use Rattle.lab_store_read_forms.proofs.Below.{first_own, numbered_below}
use Rattle.lab_store_read_copies.proofs.CauseLemmas.{none_blamed}
use Rattle.lab_store_read_copies.proofs.GivesLemmas.{none_read, then_given}
use Rattle.lab_store_read_copies.proofs.RowLemmas.{whole_as}
use Rattle.lab_store_read_copies.proofs.FoundLemmas.{formed_as, formed_still, none_sought, sought_as}
use Rattle.lab_store_read_copies.proofs.records.give_record_at.Goals as goal

pub returns-in-Ok-Some-clause-gives : goal.returns-in-Ok-Some-clause-gives
returns-in-Ok-Some-clause-gives g c =
    let t = tables_of (g.D.Readable.state c.args.conn.now) in
    let mid = tables_of (g.D.Readable.state c.head_in.new.conn) in
    let reads = c.in-Ok-Some.ensures.reads in
    then_given reads.passes (λ clean opened. reads.same clean) c.in-Ok-Some.ensures.cause.limit
    (λ clean opened. tt)
    (λ ready clean given.
    let same = reads.same clean in
    let tables = ap (λ (db : Database). tables_in db.trees) same.0.now_is in
    let kept = ready.kept (reads.passes.clean clean) same.0.was_open in (
      formed_as c.args.before t mid tables given.1,
      sought_as t mid tables c.args.lab.now kept.rows c.args.number c.args.found.now
          c.in-Ok-Some.head given.0 (sym c.in-Ok-Some.field-0-is ∙ reads.answer ready clean),
    ))
    (λ ready clean has. numbered_below t c.args.found.now.id c.args.number (Some c.in-Ok-Some.head)
    (sym c.in-Ok-Some.field-0-is ∙ reads.answer ready clean) has)
    c.give_headed.ensures.gives

pub returns-in-Ok-None-clause-gives : goal.returns-in-Ok-None-clause-gives
returns-in-Ok-None-clause-gives g c =
    let t = tables_of (g.D.Readable.state c.args.conn.now) in
    let reads = c.in-Ok-None.ensures.reads in
    let writer = g.W.Write.contents c.args.writer.now in
    record {
      passes = reads.passes;
      same = λ clean opened. reads.same clean;
      text = λ ready clean opened given.
          let kept = ready.kept (reads.passes.clean clean) (reads.same clean).0.was_open in
          whole_as writer writer _ _
          (none_sought t kept.rows c.args.lab.now c.args.number c.args.found.now given.0
          (sym c.in-Ok-None.field-0-is ∙ reads.answer ready clean)) (Appends-nil writer);
      counts = λ ready clean opened given.
          let kept = ready.kept (reads.passes.clean clean) (reads.same clean).0.was_open in
          subst (λ (it : List (List (List ℕ))). c.args.out.now ≡ given_rows c.args.out.now it)
          (none_sought t kept.rows c.args.lab.now c.args.number c.args.found.now given.0
          (sym c.in-Ok-None.field-0-is ∙ reads.answer ready clean)) refl;
      fault = tt;
      cause = none_blamed c.in-Ok-None.ensures.cause.limit;
    }

pub returns-in-Ok-Some-clause-formed : goal.returns-in-Ok-Some-clause-formed
returns-in-Ok-Some-clause-formed g c ready clean formed =
    let gave = c.give_headed.ensures in
    let was = gave.gives.passes.clean clean in
    let reads = c.in-Ok-Some.ensures.reads in
    let t = tables_of (g.D.Readable.state c.args.conn.now) in
    let mid = tables_of (g.D.Readable.state c.head_in.new.conn) in
    let tables = ap (λ (db : Database). tables_in db.trees) (reads.same was).0.now_is in
    formed_still c.give_headed.result t mid tables
    (gave.formed (reads.passes.ready ready) clean (formed_as c.args.before t mid tables formed))

pub returns-in-Err-clause-gives : goal.returns-in-Err-clause-gives
returns-in-Err-clause-gives g c =
    let t = tables_of (g.D.Readable.state c.args.conn.now) in
    none_read c.in-Err.ensures.reads.passes c.copy_fault.ensures.told c.copy_fault.ensures.fits
    c.in-Err.ensures.cause
    (first_own (HasWholeRecord t) HasRecord (λ row has. has.own)
    (records_shown t c.args.found.now.id c.args.number))
