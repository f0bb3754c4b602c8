-- the first row is none, is no header, or leaves the rest to find
use Rattle.std.proofs.Common.{◌∙◌, Bool, sym, subst}
use Rattle.std.proofs.lemmas.Result.{err_from_is_err_and}
use Rattle.csv.specs.Reading.{ReadRecord}
use Rattle.csv.specs.Records.{fields_of}
use Rattle.lab_copy.proofs.CheckLemmas.{first_none, first_bad, first_good, first_rows}
use Rattle.lab_copy.proofs.ReadLemmas.{when_known}
use Rattle.lab_copy.proofs.SomeLemmas.{some_bad, some_good, some_none, some_nothing}
use Rattle.lab_copy.proofs.checks.check_all.Goals as goal

pub returns-then-not-branch-clause-verdict : goal.returns-then-not-branch-clause-verdict
returns-then-not-branch-clause-verdict g c = λ known is.
    let read =
    subst (λ (was : Bool). ReadRecord g.R.Read.remaining c.args.rows.now c.read_row.new.rows was (fields_of c.read_row.new.row))
    c.if-not-branch.true (c.in_ok-read_row.ensures.reads c.requires.trim c.requires.ready) in
    first_none g.R.Read.remaining known c.args.rows.now c.read_row.new.rows (fields_of c.read_row.new.row) c.requires.config
    c.requires.state is read

pub returns-then-not-is_header-clause-verdict : goal.returns-then-not-is_header-clause-verdict
returns-then-not-is_header-clause-verdict g c = λ known is.
    let read =
    subst (λ (was : Bool). ReadRecord g.R.Read.remaining c.args.rows.now c.read_row.new.rows was (fields_of c.read_row.new.row))
    c.if-not-branch.false (c.in_ok-read_row.ensures.reads c.requires.trim c.requires.ready) in
    first_bad g.R.Read.remaining known c.args.rows.now c.read_row.new.rows (fields_of c.read_row.new.row) c.requires.config
    c.requires.state is read (sym c.is_header.ensures ∙ c.if-not-is_header.true)

pub returns-clause-verdict : goal.returns-clause-verdict
returns-clause-verdict g c = λ known is.
    let read =
    subst (λ (was : Bool). ReadRecord g.R.Read.remaining c.args.rows.now c.read_row.new.rows was (fields_of c.read_row.new.row))
    c.if-not-branch.false (c.in_ok-read_row.ensures.reads c.requires.trim c.requires.ready) in
    first_good g.R.Read.remaining known c.args.rows.now c.read_row.new.rows (fields_of c.read_row.new.row) c.requires.config
    c.requires.state is read (sym c.is_header.ensures ∙ c.if-not-is_header.false) c.check_rows-answer.result c.check_rows-answer.ensures.verdict

pub returns-then-not-branch-clause-rows : goal.returns-then-not-branch-clause-rows
returns-then-not-branch-clause-rows g c = λ known is. when_known known _ (λ bytes same. tt)

pub returns-then-not-is_header-clause-rows : goal.returns-then-not-is_header-clause-rows
returns-then-not-is_header-clause-rows g c = λ known is. when_known known _ (λ bytes same. tt)

pub returns-clause-rows : goal.returns-clause-rows
returns-clause-rows g c = λ known is.
    let read =
    subst (λ (was : Bool). ReadRecord g.R.Read.remaining c.args.rows.now c.read_row.new.rows was (fields_of c.read_row.new.row))
    c.if-not-branch.false (c.in_ok-read_row.ensures.reads c.requires.trim c.requires.ready) in
    first_rows g.R.Read.remaining known c.args.rows.now c.read_row.new.rows (fields_of c.read_row.new.row) c.requires.config
    c.requires.state is read c.check_rows-answer.result c.check_rows-answer.ensures.rows

pub returns-in_err-read_row-clause-some : goal.returns-in_err-read_row-clause-some
returns-in_err-read_row-clause-some g c =
    let p = err_from_is_err_and c.from_residual.result c.from_residual.ensures.1 in
    rw (p.1, p.2) (some_nothing _ c.in_err-read_row.ensures.fault)

pub returns-then-not-branch-clause-some : goal.returns-then-not-branch-clause-some
returns-then-not-branch-clause-some g c = some_none

pub returns-then-not-is_header-clause-some : goal.returns-then-not-is_header-clause-some
returns-then-not-is_header-clause-some g c =
    some_bad (fields_of c.read_row.new.row) (sym c.is_header.ensures ∙ c.if-not-is_header.true)

pub returns-clause-some : goal.returns-clause-some
returns-clause-some g c =
    some_good (fields_of c.read_row.new.row) c.check_rows-answer.result
    (sym c.is_header.ensures ∙ c.if-not-is_header.false) c.check_rows-answer.ensures.some
