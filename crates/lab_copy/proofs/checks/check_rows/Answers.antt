-- each row is taken, or told; at the end of the input stands what is kept
use Rattle.std.proofs.Common.{◌∙◌, Bool, true, Err, sym, ap, subst, inl, arith}
use Rattle.std.proofs.lemmas.Result.{err_from_is_err_and}
use Rattle.csv.specs.Reading.{ReadRecord, reader_state, source_of}
use Rattle.csv.specs.Records.{fields_of}
use Rattle.lab_copy_lines.specs.Lines.{IsRowRead, line_at}
use Rattle.lab_copy.proofs.CheckLemmas.{few_rows, next_none, next_unread, next_taken, next_fault}
use Rattle.lab_copy.proofs.ReadLemmas.{record_reads, rows_next}
use Rattle.lab_copy.proofs.SomeLemmas.{follows_none, rest_end, rest_fault, rest_nothing, rest_taken, rest_unread}
use Rattle.lab_copy.specs.declared.faults.CopyFault.TheVariants.{Read}
use Rattle.lab_copy.proofs.checks.check_rows.Goals as goal

pub loop-number-init : goal.loop-number-init
loop-number-init g c = rw c.requires.none (record {
  config = c.requires.config;
  trim = c.requires.trim;
  ready = c.requires.ready;
  left = λ found all. all;
  follows = follows_none;
  rows = λ total all. all;
})

pub returns-then-not-branch-clause-verdict : goal.returns-then-not-branch-clause-verdict
returns-then-not-branch-clause-verdict g c = λ found all.
    let before = c.loop-number.invariant in
    let read =
    subst (λ (was : Bool). ReadRecord g.R.Read.remaining c.loop-number.rows c.read_row.new.rows was (fields_of c.read_row.new.row))
    c.if-not-branch.true (c.in_ok-read_row.ensures.reads before.trim before.ready) in
    next_none g.R.Read.remaining found c.loop-number.rows c.read_row.new.rows (fields_of c.read_row.new.row) c.loop-number.kept
    c.loop-number.number before.config (before.left found all) read c.finish.result c.finish.ensures.value

pub returns-then-not-branch-clause-rows : goal.returns-then-not-branch-clause-rows
returns-then-not-branch-clause-rows g c = λ total all.
    let before = c.loop-number.invariant in
    let read =
    subst (λ (was : Bool). ReadRecord g.R.Read.remaining c.loop-number.rows c.read_row.new.rows was (fields_of c.read_row.new.row))
    c.if-not-branch.true (c.in_ok-read_row.ensures.reads before.trim before.ready) in
    few_rows g.R.Read.remaining c.loop-number.rows c.read_row.new.rows (fields_of c.read_row.new.row) total c.loop-number.number
    before.config (before.rows total all) read (omega arith) c.finish.result

pub returns-in_err-take-in-Ok-clause-verdict : goal.returns-in_err-take-in-Ok-clause-verdict
returns-in_err-take-in-Ok-clause-verdict g c =
    let p =
    err_from_is_err_and c.from_residual-in_err-take-in-Ok.result c.from_residual-in_err-take-in-Ok.ensures.1 in
    rw (p.1, p.2) (λ found all.
    let before = c.loop-number.invariant in
    let read =
    subst (λ (was : Bool). ReadRecord g.R.Read.remaining c.loop-number.rows c.read_row.new.rows was (fields_of c.read_row.new.row))
    c.if-not-branch.false (c.in_ok-read_row.ensures.reads before.trim before.ready) in
    let is_line = ap (λ edition. line_at edition (fields_of c.read_row.new.row)) (sym c.edition.ensures) ∙ c.in-Ok.ensures.value in
    next_fault g.R.Read.remaining found c.loop-number.rows c.read_row.new.rows (fields_of c.read_row.new.row) c.loop-number.kept
    c.loop-number.number before.config (before.left found all) read c.in-Ok.line is_line c.take.new.self
    c.in_err-take-in-Ok.field-0.0 c.in_err-take-in-Ok.ensures)

pub returns-in-Err-clause-verdict : goal.returns-in-Err-clause-verdict
returns-in-Err-clause-verdict g c = λ found all.
    let before = c.loop-number.invariant in
    let read =
    subst (λ (was : Bool). ReadRecord g.R.Read.remaining c.loop-number.rows c.read_row.new.rows was (fields_of c.read_row.new.row))
    c.if-not-branch.false (c.in_ok-read_row.ensures.reads before.trim before.ready) in
    let none = subst (λ edition. IsRowRead (line_at edition (fields_of c.read_row.new.row)) (Err c.in-Err.fault)) c.edition.ensures c.in-Err.ensures.value in
    rw c.fault_at.ensures
    (next_unread g.R.Read.remaining found c.loop-number.rows c.read_row.new.rows (fields_of c.read_row.new.row) c.loop-number.kept
    c.loop-number.number before.config (before.left found all) read c.in-Err.fault none)

pub loop-number-preserved : goal.loop-number-preserved
loop-number-preserved g c =
    let before = c.loop-number.invariant in
    let reads = c.in_ok-read_row.ensures.reads before.trim before.ready in
    let read =
    subst (λ (was : Bool). ReadRecord g.R.Read.remaining c.loop-number.rows c.read_row.new.rows was (fields_of c.read_row.new.row))
    c.if-not-branch.false reads in
    let is_line = ap (λ edition. line_at edition (fields_of c.read_row.new.row)) (sym c.edition.ensures) ∙ c.in-Ok.ensures.value in
    record {
      config = reads.2 ∙ before.config;
      trim = reads.3 ∙ before.trim;
      ready = inl (c.in_ok-read_row.ensures.ready before.trim);
      left = λ found all.
          next_taken g.R.Read.remaining found c.loop-number.rows c.read_row.new.rows (fields_of c.read_row.new.row)
          c.loop-number.kept c.loop-number.number before.config (before.left found all) read c.in-Ok.line is_line
          c.take.new.self c.in_ok-take-in-Ok.ensures;
      follows =
          rest_taken c.loop-number.kept c.loop-number.number before.follows (fields_of c.read_row.new.row) c.in-Ok.line is_line
          c.take.new.self c.in_ok-take-in-Ok.ensures;
      rows = λ total all.
          rows_next total c.loop-number.number (reader_state c.loop-number.rows) (reader_state c.read_row.new.rows)
          (source_of g.R.Read.remaining c.loop-number.rows) (source_of g.R.Read.remaining c.read_row.new.rows)
          (fields_of c.read_row.new.row) (before.rows total all)
          (record_reads g.R.Read.remaining c.loop-number.rows c.read_row.new.rows true (fields_of c.read_row.new.row) before.config read);
    }

pub returns-in_err-read_row-clause-some : goal.returns-in_err-read_row-clause-some
returns-in_err-read_row-clause-some g c =
    let p = err_from_is_err_and c.from_residual.result c.from_residual.ensures.1 in
    rw (p.1, p.2) (rest_nothing _ c.in_err-read_row.ensures.fault)

pub returns-then-not-branch-clause-some : goal.returns-then-not-branch-clause-some
returns-then-not-branch-clause-some g c =
    rest_end c.loop-number.kept c.loop-number.number c.loop-number.invariant.follows c.finish.result c.finish.ensures.value

pub returns-in_err-take-in-Ok-clause-some : goal.returns-in_err-take-in-Ok-clause-some
returns-in_err-take-in-Ok-clause-some g c =
    let p =
    err_from_is_err_and c.from_residual-in_err-take-in-Ok.result c.from_residual-in_err-take-in-Ok.ensures.1 in
    let is_line = ap (λ edition. line_at edition (fields_of c.read_row.new.row)) (sym c.edition.ensures) ∙ c.in-Ok.ensures.value in
    rw (p.1, p.2) (rest_fault c.loop-number.kept c.loop-number.number c.loop-number.invariant.follows
    (fields_of c.read_row.new.row) c.in-Ok.line is_line c.take.new.self c.in_err-take-in-Ok.field-0.0
    c.in_err-take-in-Ok.ensures)

pub returns-in-Err-clause-some : goal.returns-in-Err-clause-some
returns-in-Err-clause-some g c =
    let none = subst (λ edition. IsRowRead (line_at edition (fields_of c.read_row.new.row)) (Err c.in-Err.fault)) c.edition.ensures c.in-Err.ensures.value in
    rw c.fault_at.ensures
    (rest_unread c.loop-number.kept c.loop-number.number c.loop-number.invariant.follows (fields_of c.read_row.new.row)
    c.in-Err.fault none)

pub returns-clause-some : goal.returns-clause-some
returns-clause-some g c = rest_nothing Read tt
