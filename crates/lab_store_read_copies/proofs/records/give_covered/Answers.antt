-- The rows of the versions go out behind the record's own.
use Rattle.std.proofs.Common.{refl, w64}
use Rattle.std.proofs.lemmas.Int.{to_z-of_z}
use Rattle.lab_store_tables.specs.Ready.{tables_of}
use Rattle.lab_store_read.proofs.Readers.{passes_none}
use Rattle.lab_store_read_copies.specs.GivenRows.{cover_rows}
use Rattle.lab_store_read_copies.specs.Private.GivenRows.{versions_rows}
use Rattle.lab_store_read_copies.proofs.GivesLemmas.{fault_given, never_blamed, never_unread}
use Rattle.lab_store_read_copies.proofs.RowLemmas.{cut_in_first, given_behind, sends_behind}
use Rattle.lab_store_read_copies.proofs.records.give_covered.Goals as goal

pub returns-in_err-give_cover : goal.returns-in_err-give_cover
returns-in_err-give_cover g c =
    let lab = c.args.lab.now in
    let cover = c.args.cover.now in
    let sent = c.in_err-give_cover.ensures in
    let t = tables_of (g.D.Readable.state c.args.conn.now) in
    let end = c.from_residual in
    fault_given {A = Unit {0}} {Given = λ t. Unit {0}} end.result end.ensures.1 (record {
      passes = passes_none (g.D.Readable.state c.args.conn.now);
      same = λ clean opened. tt;
      text = λ ready clean opened given.
          cut_in_first (g.W.Write.contents c.args.writer.now)
          (g.W.Write.contents c.give_cover.new.writer) (cover_rows lab cover)
          (versions_rows t lab cover c.args.kept) sent.text;
      counts = λ ready clean opened given. tt;
      fault = never_unread _ sent.fault;
      cause = never_blamed refl _ sent.fault;
    })

pub returns : goal.returns
returns g c =
    let lab = c.args.lab.now in
    let cover = c.args.cover.now in
    let t = tables_of (g.D.Readable.state c.args.conn.now) in
    let sent = c.in_ok-give_cover.ensures in
    let gave = rw (to_z-of_z w64 c.args.kept c.ranges.kept) at c.give_versions.ensures in
    record {
      passes = gave.passes;
      same = gave.same;
      text = λ ready clean opened given.
          sends_behind (g.W.Write.contents c.args.writer.now)
          (g.W.Write.contents c.give_cover.new.writer)
          (g.W.Write.contents c.give_versions.new.writer) (cover_rows lab cover)
          (versions_rows t lab cover c.args.kept) c.give_versions.result sent.text
          (gave.text ready clean tt tt);
      counts = λ ready clean opened given.
          given_behind c.args.out.now c.give_cover.new.out c.give_versions.new.out
          (cover_rows lab cover) (versions_rows t lab cover c.args.kept) c.give_versions.result
          sent.counts (gave.counts ready clean tt tt);
      fault = gave.fault;
      cause = gave.cause;
    }
