-- The port that the getter reads is that of the rows.
use Rattle.std.proofs.Common.{◌∙◌, arith, codes}
use Rattle.std.specs.Str.Parse.{ParsesUnsigned, ExplainsUnsignedError, HasUnsignedDigitsIfOk}
use Rattle.clap.specs.Words.{found_of}
use Rattle.clap.proofs.WalkLemmas.{one_text-rows}
use Rattle.lab_program_words.proofs.GivenLemmas.{number_read}
use Rattle.lab_program_words.proofs.tasks.port_given.Goals as goal

pub returns : goal.returns
returns c = λ number has small. number_read 16
    (λ bs r. ParsesUnsigned 16 10 bs r × ExplainsUnsignedError 10 bs r × HasUnsignedDigitsIfOk bs r) (λ bs x given. given.0)
    number has.0 c.get_one.result c.unwrap_or.result _ (omega (arith, small)) has.2 c.unwrap_or.ensures
    (c.get_one.ensures.value _ (one_text-rows (found_of c.args.given.now) (codes "port") ∙ has.1))
