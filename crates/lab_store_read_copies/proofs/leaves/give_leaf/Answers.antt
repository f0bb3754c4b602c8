-- What went out before a fault is of the version that the rows show.
use Rattle.std.proofs.Common.{ap, rules}
use Rattle.std.proofs.lemmas.Result.{err_from_is_err_and}
use Rattle.lab_store_tables.specs.Meaning.{version_after}
use Rattle.lab_store_read_records.specs.Leaves.{leaf_of}
use Rattle.lab_store_read_copies.specs.GivenRows.{rows_of_version}
use Rattle.lab_store_read_copies.proofs.CauseLemmas.{fit_passed}
use Rattle.lab_store_read_copies.proofs.RowLemmas.{front_as}
use Rattle.lab_store_read_copies.proofs.leaves.give_leaf.Goals as goal

pub returns-in_err-give_version-clause-sends : goal.returns-in_err-give_version-clause-sends
returns-in_err-give_version-clause-sends g c =
    let failed = err_from_is_err_and c.from_residual.result c.from_residual.ensures.1 in
    let lab = c.args.lab.now in
    let cover = c.args.cover.now in
    let sent = c.in_err-give_version.ensures in
    record {
      text = rw failed.1 (front_as (g.W.Write.contents c.args.writer.now)
          (g.W.Write.contents c.give_version.new.writer)
          (rows_of_version lab cover c.in-Some.version)
          (rows_of_version lab cover (version_after cover c.args.before (leaf_of c.args.leaf)))
          (ap (rows_of_version lab cover) c.in-Some.ensures.value) sent.text);
      counts = search rules;
      fault = fit_passed (λ never. absurd never) _ sent.fault c.from_residual.result
          c.from_residual.ensures.1;
    }
