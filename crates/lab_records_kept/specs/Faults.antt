-- The number and the word of a refusal that has no other home.
use Rattle.std.specs.Prelude.{codes}
use Rattle.lab_forms_texts.specs.Faults.{Entry}

-- there is no laboratory of the code: what a request is refused for, and a copy
abbrev pub no_such_lab_entry : Entry
no_such_lab_entry = record { number = 40; word = codes "no_such_lab" }
