-- What more than one command has.
use Rattle.std.specs.Prelude.{List, [], ◌∷◌, Ok}
use Rattle.serde_json.specs.Data.{Data}
use Rattle.lab_wire_members.specs.Readings.{Reading, then_read}

-- the elements of a list, in order
abbrev pub each_read : {A : Type 0} → (Data → Reading A) → List Data → Reading (List A)
each_read says [] = Ok []
each_read says (d ∷ ds) =
    then_read (says d) (λ first. then_read (each_read says ds) (λ others. Ok (first ∷ others)))
