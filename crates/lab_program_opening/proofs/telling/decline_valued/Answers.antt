-- The line of word and value is told, or, where there is no memory for it, that it ran out.
use Rattle.std.proofs.Common.{◌∙◌, append_assoc, codes, decimal, inl, inr, sym}
use Rattle.lab_program_opening.proofs.telling.decline_valued.Goals as goal

pub returns-in-Ok : goal.returns-in-Ok
returns-in-Ok g c =
    let made = rw c.in-Ok.is at c.format.ensures.ok in
    inl (rw (c.as_str.ensures.value ∙ made
    ∙ sym (append_assoc c.args.word.now (codes " ") (decimal c.args.value))) at c.decline.ensures)

pub returns-in-Err : goal.returns-in-Err
returns-in-Err g c = inr (rw c.word.ensures at c.decline-in-Err.ensures)
