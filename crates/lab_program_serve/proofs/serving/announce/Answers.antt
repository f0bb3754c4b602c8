-- The line is printed whole, or its first bytes are.
use Rattle.std.proofs.Common.{◌∙◌}
use Rattle.std.proofs.KnownBytes.{Appends-kept, Appends-nil}
use Rattle.std.proofs.lemmas.Result.{err_from_is_err_and}
use Rattle.lab_program_serve.specs.Texts.{listening_line}
use Rattle.lab_program_serve.proofs.TextLemmas.{printed_all}
use Rattle.lab_program_serve.proofs.serving.announce.Goals as goal

pub returns-in_err-line : goal.returns-in_err-line
returns-in_err-line g c =
    let fault = err_from_is_err_and c.from_residual.result c.from_residual.ensures.1 in
    rw fault.1 (0, Appends-nil _)

pub returns-in_err-write_whole : goal.returns-in_err-write_whole
returns-in_err-write_whole g c =
    let fault = err_from_is_err_and c.from_residual-in_err-write_whole.result
    c.from_residual-in_err-write_whole.ensures.1 in
    let line = c.as_bytes.ensures.value ∙ c.in_ok-line.ensures.ok in
    rw fault.1 (_, rw line at c.in_err-write_whole.ensures.cut)

pub returns-in-Ok : goal.returns-in-Ok
returns-in-Ok g c =
    let line = c.as_bytes.ensures.value ∙ c.in_ok-line.ensures.ok in
    Appends-kept _ _ _ _ (rw line at c.in_ok-write_whole.ensures.whole) c.flush.ensures.bytes

pub returns : goal.returns
returns g c =
    let line = c.as_bytes.ensures.value ∙ c.in_ok-line.ensures.ok in
    printed_all (listening_line c.args.port) _ _
    (Appends-kept _ _ _ _ (rw line at c.in_ok-write_whole.ensures.whole) c.flush.ensures.bytes)
