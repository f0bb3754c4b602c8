-- The laboratory's row is the one of its code; where there is none, there are no records.
use Rattle.std.proofs.Common.{◌≡◌, List, ℕ, Some, refl, sym, ap, ◌∙◌, subst}
use Rattle.std.proofs.KnownBytes.{Appends-nil}
use Rattle.sqlite.specs.Effect.{Database}
use Rattle.lab_records_copy_out.specs.CopyTexts.{record_rows, walked_to}
use Rattle.lab_records_copy_out.proofs.OutLemmas.{given_rows}
use Rattle.lab_store_tables.specs.Rows.{Tables, tables_in}
use Rattle.lab_store_tables.specs.Meaning.{meaning}
use Rattle.lab_store_tables.specs.Ready.{tables_of}
use Rattle.lab_store_read_copies.specs.GivenRows.{lab_at}
use Rattle.lab_store_read_copies.proofs.CauseLemmas.{none_blamed, range_of}
use Rattle.lab_store_read_copies.proofs.GivesLemmas.{none_read, then_given}
use Rattle.lab_store_read_copies.proofs.RowLemmas.{whole_as}
use Rattle.lab_store_read_copies.proofs.FoundLemmas.{none_kept}
use Rattle.lab_store_read_copies.proofs.records.give_records_at.Goals as goal

pub returns-in-Ok-Some : goal.returns-in-Ok-Some
returns-in-Ok-Some g c =
    let lab = c.args.lab.now in
    let reads = c.in-Ok-Some.ensures.reads in
    let t = tables_of (g.D.Readable.state c.args.conn.now) in
    then_given reads.passes (λ clean opened. reads.same clean) c.in-Ok-Some.ensures.cause.limit
    (λ clean opened. (reads.same clean).0.is_open)
    (λ ready clean given.
    let tables = ap (λ (db : Database). tables_in db.trees) (reads.same clean).0.now_is in (
      subst (λ (v : Tables). Some c.in-Ok-Some.found ≡ lab_at v lab) (sym tables)
          (sym c.in-Ok-Some.field-0-is ∙ reads.answer ready clean),
      ap (λ (v : Tables). record_rows lab (walked_to (meaning v lab) c.args.from c.args.last)) tables,
    ))
    (λ ready clean has. range_of t lab c.args.from c.args.last c.in-Ok-Some.found
    (sym c.in-Ok-Some.field-0-is ∙ reads.answer ready clean) has)
    c.give_all.ensures

pub returns-in-Ok-None : goal.returns-in-Ok-None
returns-in-Ok-None g c =
    let t = tables_of (g.D.Readable.state c.args.conn.now) in
    let reads = c.in-Ok-None.ensures.reads in
    let lab = c.args.lab.now in
    record {
      passes = reads.passes;
      same = λ clean opened. reads.same clean;
      text = λ ready clean opened given.
          whole_as (g.W.Write.contents c.args.writer.now) (g.W.Write.contents c.args.writer.now) _ _
          (none_kept t lab c.args.from c.args.last
          (sym c.in-Ok-None.field-0-is ∙ reads.answer ready clean))
          (Appends-nil (g.W.Write.contents c.args.writer.now));
      counts = λ ready clean opened given.
          subst (λ (it : List (List (List ℕ))). c.args.out.now ≡ given_rows c.args.out.now it)
          (none_kept t lab c.args.from c.args.last
          (sym c.in-Ok-None.field-0-is ∙ reads.answer ready clean)) refl;
      fault = tt;
      cause = none_blamed c.in-Ok-None.ensures.cause.limit;
    }

pub returns-in-Err : goal.returns-in-Err
returns-in-Err g c =
    none_read c.in-Err.ensures.reads.passes c.copy_fault.ensures.told c.copy_fault.ensures.fits
    c.in-Err.ensures.cause (λ has. has.lab)
