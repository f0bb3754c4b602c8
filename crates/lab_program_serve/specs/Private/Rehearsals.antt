-- What clauses of private functions say beside Rehearsals.antt.
use Rattle.std.specs.Prelude.{◌≡◌, ℕ, List, [], ◌∷◌}
use Rattle.lab_records_kept.specs.declared.labs.Lab.{Lab}
use Rattle.lab_desk_foundings.specs.Foundings.{IsNewborn, founding_in}
use Rattle.lab_program_serve.specs.Rehearsals.{rehearsal_tick}

-- the laboratory of the code was born from the body, and there is no other
abbrev pub IsFounded : List ℕ → List ℕ → List Lab → Type 0
IsFounded code body labs =
    (lab : Lab) × IsNewborn code (rehearsal_tick 0) (founding_in body) lab × (labs ≡ lab ∷ [])
