use Rattle.lab_wire_heads.proofs.HeadLaws.{grammar_law}
use Rattle.lab_wire_heads.proofs.head_grammar.grammar_of_heads.Goals as goal

pub returns : goal.returns
returns c = grammar_law
