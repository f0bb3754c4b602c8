-- What clauses of private functions say beside Router.antt.
use Rattle.std.specs.Prelude.{ℕ, List, [], get_or}
use Rattle.lab_wire.specs.Places.{texts}

-- the text of the place with a number
abbrev pub text_at : ℕ → List ℕ
text_at number = get_or texts number []
