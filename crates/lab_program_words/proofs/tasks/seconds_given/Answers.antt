-- The seconds that the getter reads are those of the rows.
use Rattle.std.proofs.Common.{◌∙◌, codes, w64}
use Rattle.std.specs.Str.Parse.{ParsesSigned, ExplainsSignedError, HasSignedDigitsIfOk}
use Rattle.clap.specs.Words.{found_of}
use Rattle.clap.proofs.WalkLemmas.{one_text-rows}
use Rattle.lab_program_words.proofs.GivenLemmas.{moment_read}
use Rattle.lab_program_words.proofs.tasks.seconds_given.Goals as goal

pub returns : goal.returns
returns c = λ moment has within. moment_read
    (λ bs r. ParsesSigned w64 10 bs r × ExplainsSignedError 10 bs r × HasSignedDigitsIfOk bs r) (λ bs x given. given.0)
    moment has.0 c.get_one.result c.unwrap_or.result _ within has.2 c.unwrap_or.ensures
    (c.get_one.ensures.value _ (one_text-rows (found_of c.args.given.now) (codes "moment") ∙ has.1))
