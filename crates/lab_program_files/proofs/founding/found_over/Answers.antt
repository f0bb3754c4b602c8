-- Where the line, the body or the tick fails nothing is done; then the founding tells.
use Rattle.std.proofs.Common.{◌∙◌, sym}
use Rattle.std.proofs.KnownBytes.{Keeps-refl}
use Rattle.std.proofs.lemmas.Result.{err_from_is_err_and}
use Rattle.lab_desk_foundings.specs.Foundings.{founded_line}
use Rattle.lab_program_files.proofs.FoundingLemmas.{ends_founded, ends_idle, ends_refused, prints_idle}
use Rattle.lab_program_files.proofs.founding.found_over.Goals as goal

pub returns-in_err-intake-clause-ends : goal.returns-in_err-intake-clause-ends
returns-in_err-intake-clause-ends g c =
    let fault = err_from_is_err_and c.from_residual.result c.from_residual.ensures.1 in
    rw (fault.1, fault.2) (ends_idle g.S.Keeper _ c.args.lab.now
    (g.B.Read.remaining c.args.body.now) c.args.desk.now.keeper _ c.in_err-intake.ensures.fault)

pub returns-in_err-intake-clause-prints : goal.returns-in_err-intake-clause-prints
returns-in_err-intake-clause-prints g c =
    let fault = err_from_is_err_and c.from_residual.result c.from_residual.ensures.1 in
    rw (fault.1, fault.2) (prints_idle (founded_line c.args.lab.now) _
    (g.W.Write.contents c.args.output.now) c.in_err-intake.ensures.fault (Keeps-refl _))

pub returns-in_err-founding_noted-clause-ends : goal.returns-in_err-founding_noted-clause-ends
returns-in_err-founding_noted-clause-ends g c =
    let fault = err_from_is_err_and c.from_residual-in_err-founding_noted.result
    c.from_residual-in_err-founding_noted.ensures.1 in
    let refused = sym c.in_err-founding_noted.ensures in
    rw (fault.1, fault.2) (ends_refused g.S.Keeper _ c.args.lab.now
    (g.B.Read.remaining c.args.body.now) c.as_slice.result.now c.in_ok-intake.intake.bytes.items
    c.args.desk.now.keeper c.found-founded.new.self.keeper c.in_ok-intake.intake.tick _
    c.in_ok-intake.ensures.tick c.as_slice.ensures.value
    c.in_ok-intake.ensures.body (λ honest reached. record {
      fits = rw refused at c.found-founded.ensures.founds.fault;
      same = (rw refused at c.found-founded.ensures.founds.err) honest reached;
      untouched = rw refused at c.found-founded.ensures.founds.untouched;
      lives = (rw refused at c.found-founded.ensures.founds.lives) honest reached;
      crash = c.found-founded.ensures.founds.crash honest reached;
      quiet = (rw refused at c.found-founded.ensures.founds.quiet) honest reached;
      stays = c.found-founded.ensures.founds.stays honest reached;
    }) (rw refused at c.found-founded.ensures.founds.cause))

pub returns-in_err-founding_noted-clause-prints : goal.returns-in_err-founding_noted-clause-prints
returns-in_err-founding_noted-clause-prints g c =
    let fault = err_from_is_err_and c.from_residual-in_err-founding_noted.result
    c.from_residual-in_err-founding_noted.ensures.1 in
    rw (fault.1, fault.2) (Keeps-refl _)

pub returns-clause-ends : goal.returns-clause-ends
returns-clause-ends g c =
    let founded = sym c.in_ok-founding_noted.ensures in
    ends_founded g.S.Keeper _ c.args.lab.now
    (g.B.Read.remaining c.args.body.now) c.as_slice.result.now c.in_ok-intake.intake.bytes.items
    c.args.desk.now.keeper c.found-founded.new.self.keeper c.in_ok-intake.intake.tick _
    c.in_ok-intake.ensures.tick c.as_slice.ensures.value
    c.in_ok-intake.ensures.body c.print.ensures.fault (rw founded at c.found-founded.ensures.founds.founded)
    (rw founded at c.found-founded.ensures.founds.durable)
    (rw founded at c.found-founded.ensures.founds.lives) c.found-founded.ensures.founds.stays

pub returns-clause-prints : goal.returns-clause-prints
returns-clause-prints g c =
    let line = c.as_slice-3.ensures.value ∙ c.in_ok-intake.ensures.line in
    rw line at c.print.ensures.printed
