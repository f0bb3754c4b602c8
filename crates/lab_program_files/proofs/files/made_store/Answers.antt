-- What is handed out had none of the tables when they were made; and a failed making has its cause.
use Rattle.std.proofs.Common.{◌≡◌, refl}
use Rattle.std.proofs.lemmas.Result.{IfErr-at_err}
use Rattle.lab_program_opening.proofs.FileLemmas.{leaves_shown, make_cause, untaken}
use Rattle.lab_program_files.proofs.files.made_store.Goals as goal

pub returns-in-Ok-clause-made : goal.returns-in-Ok-clause-made
returns-in-Ok-clause-made g c = (
  leaves_shown g.S.Store g.met.S.Store.settled c.in-Ok.store c.in-Ok.ensures.ends.at_rest,
  untaken _ _ _ c.in-Ok.ensures.taken,
  c.in-Ok.ensures.made,
  c.in-Ok.ensures.ends,
)

pub returns-in-Err-clause-unmade : goal.returns-in-Err-clause-unmade
returns-in-Err-clause-unmade g c = record {
  conn = c.in-Err.unopened.conn;
  cause = make_cause _ c.in-Err.unopened.fault c.in-Err.ensures.not_empty c.in-Err.ensures.fault;
  taken = λ there. IfErr-at_err (λ fault. c.in-Err.unopened.fault ≡ fault) (c.in-Err.ensures.taken there) refl;
  ends = c.in-Err.ensures.ends;
  closed_so = (c.close_whole.result, c.close_whole.ensures);
}
