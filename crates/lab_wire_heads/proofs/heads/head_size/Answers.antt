use Rattle.std.proofs.Common.{◌∙◌, sym, arith}
use Rattle.lab_wire_heads.proofs.LineLemmas.{first_line_empty, no_line, counted}
use Rattle.lab_wire_heads.proofs.heads.head_size.Goals as goal

pub returns-then-is_empty_line-clause-lines : goal.returns-then-is_empty_line-clause-lines
returns-then-is_empty_line-clause-lines c =
    let line = first_line_empty c.loop-end.rest.now c.in-Some.end (sym c.line_end.ensures ∙ c.in-Some.is)
    (sym c.is_empty_line.ensures ∙ c.if-is_empty_line.true) in
    omega arith

pub returns-then-is_empty_line-clause-end : goal.returns-then-is_empty_line-clause-end
returns-then-is_empty_line-clause-end c =
    let line = first_line_empty c.loop-end.rest.now c.in-Some.end (sym c.line_end.ensures ∙ c.in-Some.is)
    (sym c.is_empty_line.ensures ∙ c.if-is_empty_line.true) in
    sym line.1 ∙ c.loop-end.invariant.end

pub loop-end-preserved : goal.loop-end-preserved
loop-end-preserved c =
    let next = counted c.args.text.now c.loop-end.rest.now c.loop-end.lines c.in-Some.end
    (sym c.line_end.ensures ∙ c.in-Some.is) (sym c.is_empty_line.ensures ∙ c.if-is_empty_line.false)
    c.loop-end.invariant.fits c.loop-end.invariant.lines c.loop-end.invariant.end in
    record { fits = next.0; lines = next.1; end = next.2 }

pub returns-clause-lines : goal.returns-clause-lines
returns-clause-lines c =
    let none = no_line c.loop-end.rest.now (sym c.line_end.ensures ∙ c.in_default.is) in
    omega arith

pub returns-clause-end : goal.returns-clause-end
returns-clause-end c =
    let none = no_line c.loop-end.rest.now (sym c.line_end.ensures ∙ c.in_default.is) in
    sym none.1 ∙ c.loop-end.invariant.end
