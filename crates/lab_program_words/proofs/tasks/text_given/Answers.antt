-- The text that the getter reads is that of the rows.
use Rattle.std.proofs.Common.{◌∙◌}
use Rattle.clap.specs.Words.{found_of}
use Rattle.clap.proofs.WalkLemmas.{first_value-rows}
use Rattle.lab_program_words.proofs.GivenLemmas.{text_read}
use Rattle.lab_program_words.proofs.tasks.text_given.Goals as goal

pub returns : goal.returns
returns c = λ text first. text_read c.get_str.result c.unwrap_or.result _ text c.unwrap_or.ensures
    (c.get_str.ensures ∙ first_value-rows (found_of c.args.given.now) c.args.name.now ∙ first)
