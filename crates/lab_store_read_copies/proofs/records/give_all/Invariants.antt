-- The rows of the records of the numbers so far went out and were counted; nothing has changed.
use Rattle.std.proofs.Common.{◌≡◌, ◌-◌, ◌≤◌, Some, IfSome, IsTrue}
use Rattle.std.specs.Io.KnownBytes.{Appends}
use Rattle.sqlite.specs.State.{HasCleanDisk, IsUnchanged}
use Rattle.lab_records_copy_out.specs.CopyTexts.{numbers_between, record_rows, walked}
use Rattle.lab_records_copy_out.proofs.OutLemmas.{given_rows}
use Rattle.lab_records_copy_out.proofs.TextLemmas.{records_text}
use Rattle.lab_store_tables.specs.Meaning.{meaning}
use Rattle.lab_store_tables.specs.Ready.{IsReady, PassesBy, tables_of}
use Rattle.lab_store_read_copies.specs.GivenRows.{IsFormed, lab_at}
use Rattle.lab_store_read_copies.proofs.records.give_all.Given as goal

abbrev pub invariant-loop-number : goal.invariant-loop-number
invariant-loop-number g l =
    let old = g.D.Readable.state l.fn.conn in
    let now = g.D.Readable.state l.conn in
    let t = tables_of old in
    record {
      few : l.number - l.fn.from ≤ numbers_between l.fn.from l.fn.last;
      passes : PassesBy old now;
      limit : now.step_limit ≡ old.step_limit;
      same : HasCleanDisk now → IsTrue old.is_open → IsUnchanged old now;
      formed : IsReady old → HasCleanDisk now → IsTrue old.is_open →
          IfSome l.before (IsFormed t);
      text : IsReady old → HasCleanDisk now → IsTrue old.is_open →
          Some l.found ≡ lab_at t l.lab →
          Appends (g.W.Write.contents l.fn.writer) (g.W.Write.contents l.writer)
          (records_text l.lab (walked (meaning t l.lab) l.fn.from (l.number - l.fn.from)));
      counts : IsReady old → HasCleanDisk now → IsTrue old.is_open →
          Some l.found ≡ lab_at t l.lab →
          l.out ≡ given_rows l.fn.out (record_rows l.lab
          (walked (meaning t l.lab) l.fn.from (l.number - l.fn.from)));
    }
