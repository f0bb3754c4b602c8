use Rattle.std.proofs.Common.{sym, ◌∙◌, ap, Global}
use Rattle.std.proofs.lemmas.Result.{err_from_is_err_and}
use Rattle.lab_program_replay.specs.Private.Reading.{IsReadingRefused}
use Rattle.lab_program_replay.specs.Event.{heading_of}
use Rattle.lab_program_replay.proofs.NextLemmas.{next_ended, next_no_line, next_no_heading, next_no_bytes, next_taken}
use Rattle.lab_program_replay.proofs.event.next_event.Goals as goal

pub returns-in_err-line-clause-taken : goal.returns-in_err-line-clause-taken
returns-in_err-line-clause-taken g c =
    let p = err_from_is_err_and c.from_residual.result c.from_residual.ensures.1 in
    rw (p.1, p.2) (next_no_line Global _ (g.B.Read.remaining c.line.new.reader)
    (g.B.Read.remaining c.line.new.reader) c.in_err-line.field-0.0 c.in_err-line.ensures.taken)

pub returns-in_default-clause-taken : goal.returns-in_default-clause-taken
returns-in_default-clause-taken g c =
    next_ended Global _ (g.B.Read.remaining c.line.new.reader)
    (g.B.Read.remaining c.line.new.reader) (rw c.in_default.is at c.in_ok-line.ensures.taken)

pub returns-in_err-heading-clause-taken : goal.returns-in_err-heading-clause-taken
returns-in_err-heading-clause-taken g c =
    let p = err_from_is_err_and c.from_residual-in_err-heading.result
    c.from_residual-in_err-heading.ensures.1 in
    let taken = rw c.in-Some.is at c.in_ok-line.ensures.taken in
    let refused : IsReadingRefused c.in_err-heading.field-0.0 (heading_of c.in-Some.line.items) =
    rw c.deref.ensures.value at c.in_err-heading.ensures in
    rw (p.1, p.2) (next_no_heading c.in-Some.line _ (g.B.Read.remaining c.line.new.reader)
    (g.B.Read.remaining c.line.new.reader) c.in_err-heading.field-0.0 taken refused)

pub returns-in_err-bytes-clause-taken : goal.returns-in_err-bytes-clause-taken
returns-in_err-bytes-clause-taken g c =
    let p = err_from_is_err_and c.from_residual-in_err-bytes.result
    c.from_residual-in_err-bytes.ensures.1 in
    let taken = rw c.in-Some.is at c.in_ok-line.ensures.taken in
    let said = ap heading_of (sym c.deref.ensures.value) ∙ c.in_ok-heading.ensures in
    rw (p.1, p.2) (next_no_bytes c.in-Some.line _ (g.B.Read.remaining c.line.new.reader)
    (g.B.Read.remaining c.bytes.new.reader) c.in_ok-heading.heading c.in_err-bytes.field-0.0
    taken said c.in_err-bytes.ensures.taken)

pub returns-clause-taken : goal.returns-clause-taken
returns-clause-taken g c =
    let taken = rw c.in-Some.is at c.in_ok-line.ensures.taken in
    let said = ap heading_of (sym c.deref.ensures.value) ∙ c.in_ok-heading.ensures in
    next_taken c.in-Some.line _ (g.B.Read.remaining c.line.new.reader) _ c.in_ok-heading.heading
    c.in_ok-bytes.bytes c.event.result taken said c.in_ok-bytes.ensures.taken c.event.ensures
