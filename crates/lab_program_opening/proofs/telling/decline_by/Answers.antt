-- The fault has a value, or has none.
use Rattle.std.proofs.Common.{◌∙◌, sym}
use Rattle.lab_program_opening.proofs.telling.decline_by.Goals as goal

pub returns-in-Some : goal.returns-in-Some
returns-in-Some g c =
    rw (sym c.value.ensures ∙ c.in-Some.is, sym c.word.ensures) c.decline_valued.ensures

pub returns-in-None : goal.returns-in-None
returns-in-None g c =
    rw (sym c.value.ensures ∙ c.in-None.is, sym c.word-in-None.ensures) c.decline.ensures
