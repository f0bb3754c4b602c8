-- All that was read is written, or its first bytes are.
use Rattle.std.proofs.lemmas.Result.{err_from_is_err_and}
use Rattle.lab_program_host.proofs.ReadLemmas.{known_as}
use Rattle.lab_program_serve.proofs.RehearsalLemmas.{forwards_cut, forwards_none}
use Rattle.lab_program_serve.proofs.rehearsals.forward.Goals as goal

pub returns-in_err-bytes : goal.returns-in_err-bytes
returns-in_err-bytes g c =
    let fault = err_from_is_err_and c.from_residual.result c.from_residual.ensures.1 in
    rw fault.1 (forwards_none (g.R.Read.remaining c.args.reader.now) fault.0 _)

pub returns-in_err-write_whole : goal.returns-in_err-write_whole
returns-in_err-write_whole g c =
    let fault = err_from_is_err_and c.from_residual-in_err-write_whole.result
    c.from_residual-in_err-write_whole.ensures.1 in
    rw fault.1 (forwards_cut (g.R.Read.remaining c.args.reader.now) c.as_slice.result.now _
    fault.0 _ _ (known_as (g.R.Read.remaining c.args.reader.now) c.as_slice.result.now
    c.in_ok-bytes.bytes.items c.as_slice.ensures.value c.in_ok-bytes.ensures.bytes)
    c.in_err-write_whole.ensures.cut)

pub returns : goal.returns
returns g c = (
  c.as_slice.result.now,
  known_as (g.R.Read.remaining c.args.reader.now) c.as_slice.result.now
      c.in_ok-bytes.bytes.items c.as_slice.ensures.value c.in_ok-bytes.ensures.bytes,
  c.in_ok-write_whole.ensures.whole,
)
