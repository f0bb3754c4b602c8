-- What clauses of private functions say beside Fronts.antt.
use Rattle.csv.specs.declared.parser.State.TheVariants as st
use Rattle.lab_copy.specs.Fronts.{SoFar}

-- a text and a row that have no byte yet
abbrev pub text_begun : SoFar
text_begun = record { mark = 0; state = st.StartRecord; fields = 0; bytes = 0 }
