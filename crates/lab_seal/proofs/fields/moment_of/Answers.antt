use Rattle.std.proofs.Common.{ap, ◌∙◌}
use Rattle.std.specs.Result.{result_ok}
use Rattle.lab_forms_texts.specs.Moment.{moment_of}
use Rattle.lab_seal.proofs.ReadLemmas.{ok_again}
use Rattle.lab_seal.proofs.fields.moment_of.Goals as goal

pub returns : goal.returns
returns c = c.ok.ensures.value ∙ ap result_ok c.parse.ensures.read ∙ ok_again (moment_of c.args.text.now) _
