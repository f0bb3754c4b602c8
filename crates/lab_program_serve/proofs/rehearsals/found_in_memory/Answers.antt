-- The laboratory that the body bears is the only one; a refusal is the body's or the birth's.
use Rattle.std.proofs.lemmas.Result.{err_from_is_err_and}
use Rattle.lab_program_host.proofs.ReadLemmas.{known_as}
use Rattle.lab_program_serve.proofs.RehearsalLemmas.{founded_alone, unfounded_server, unfounded_so}
use Rattle.lab_program_serve.proofs.rehearsals.found_in_memory.Goals as goal

pub returns-in_err-bytes : goal.returns-in_err-bytes
returns-in_err-bytes g c =
    let fault = err_from_is_err_and c.from_residual.result c.from_residual.ensures.1 in
    let unfounded =
    unfounded_server (g.B.Read.remaining c.args.body.now) c.args.lab.now _ fault.0 fault.2 in
    rw fault.1 (unfounded.0, unfounded.1, (tt, unfounded.2))

pub returns-in_err-desk : goal.returns-in_err-desk
returns-in_err-desk g c =
    let fault = err_from_is_err_and c.from_residual-in_err-desk.result
    c.from_residual-in_err-desk.ensures.1 in
    let unfounded =
    unfounded_server (g.B.Read.remaining c.args.body.now) c.args.lab.now _ fault.0 fault.2 in
    rw fault.1 (unfounded.0, unfounded.1, (tt, unfounded.2))

pub returns-in_err-found : goal.returns-in_err-found
returns-in_err-found g c =
    let fault = err_from_is_err_and c.from_residual-in_err-found.result
    c.from_residual-in_err-found.ensures.1 in
    rw fault.1 (
      c.as_slice.result.now,
      known_as (g.B.Read.remaining c.args.body.now) c.as_slice.result.now
          c.in_ok-bytes.bytes.items c.as_slice.ensures.value c.in_ok-bytes.ensures.bytes,
      (
        tt,
        unfounded_so c.args.lab.now c.as_slice.result.now _ c.in_ok-desk.desk.keeper _ fault.0
            fault.2 c.founding_tick.ensures c.in_ok-desk.ensures c.in_err-found.ensures.founds.fault,
      ),
    )

pub returns : goal.returns
returns g c = (
  c.as_slice.result.now,
  known_as (g.B.Read.remaining c.args.body.now) c.as_slice.result.now
      c.in_ok-bytes.bytes.items c.as_slice.ensures.value c.in_ok-bytes.ensures.bytes,
  (
    founded_alone c.args.lab.now c.as_slice.result.now _ c.in_ok-desk.desk.keeper
        c.found.new.self.keeper c.founding_tick.ensures c.in_ok-desk.ensures
        (c.in_ok-found.ensures.founds.founded tt tt),
    tt,
  ),
)
