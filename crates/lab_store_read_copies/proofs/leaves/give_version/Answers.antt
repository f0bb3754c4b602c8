-- The rows that were made are those of the version.
use Rattle.std.proofs.Common.{rules, ◌∙◌}
use Rattle.std.proofs.lemmas.Result.{err_from_is_err_and}
use Rattle.lab_store_read_copies.proofs.RowLemmas.{front_as, whole_as}
use Rattle.lab_store_read_copies.specs.GivenRows.{rows_of_version}
use Rattle.lab_store_read_copies.proofs.leaves.give_version.Goals as goal

pub returns-in_err-give : goal.returns-in_err-give
returns-in_err-give g c =
    let failed = err_from_is_err_and c.from_residual-in_err-give.result
    c.from_residual-in_err-give.ensures.1 in
    record {
      text = rw failed.1 (front_as (g.W.Write.contents c.args.writer.now)
          (g.W.Write.contents c.give.new.writer) c.as_slice.result.now
          (rows_of_version c.args.lab.now c.args.cover.now c.args.version.now)
          (c.as_slice.ensures.value ∙ c.in_ok-rows.ensures) c.in_err-give.ensures.text);
      counts = search rules;
      fault = search rules;
    }

pub returns : goal.returns
returns g c =
    let same = c.as_slice.ensures.value ∙ c.in_ok-rows.ensures in
    let rows = rows_of_version c.args.lab.now c.args.cover.now c.args.version.now in
    record {
      text = whole_as (g.W.Write.contents c.args.writer.now) (g.W.Write.contents c.give.new.writer)
          c.as_slice.result.now rows same c.in_ok-give.ensures.text;
      counts = search rules;
      fault = tt;
    }
