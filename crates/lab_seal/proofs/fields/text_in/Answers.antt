use Rattle.std.proofs.Common.{ap, ◌∙◌}
use Rattle.std.specs.Prelude.{option_map}
use Rattle.lab_seal.proofs.ReadLemmas.{read_as_text}
use Rattle.lab_seal.proofs.fields.text_in.Goals as goal

pub returns : goal.returns
returns c = ap (option_map (λ text. text.now)) c.ok.ensures.value ∙ read_as_text (λ text. text.now) c.args.bytes.now c.from_utf8.result _ c.from_utf8.ensures.cases
