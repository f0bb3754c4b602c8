-- What is read is the moment that has the text.
use Rattle.std.proofs.Common.{◌≡◌, ap, sym, ◌∙◌}
use Rattle.std.specs.Option.{ok_or}
use Rattle.lab_forms_texts.specs.Moment.{moment_of}
use Rattle.lab_forms_texts.specs.declared.faults.MomentFault.TheVariants.{BadMoment}
use Rattle.lab_forms_texts.proofs.MomentLemmas.{moment_complete, read_ok, read_err}
use Rattle.lab_forms_texts.proofs.moment.Moment.parse.Goals as goal

found : (c : goal.After-ok_or) → c.moment_spelled.result ≡ moment_of c.args.text.now
found c = c.moment_spelled.ensures ∙ ap moment_of c.as_bytes.ensures.value

pub returns-clause-value : goal.returns-clause-value
returns-clause-value c = rw c.ok_or.ensures.value (read_ok c.args.text.now BadMoment c.moment_spelled.result (sym (found c)))

pub returns-clause-printed : goal.returns-clause-printed
returns-clause-printed c = λ n is e. c.ok_or.ensures.value ∙ ap (λ o. ok_or o BadMoment) (found c ∙ ap moment_of e ∙ moment_complete n is)

pub returns-clause-fault : goal.returns-clause-fault
returns-clause-fault c = rw c.ok_or.ensures.value (read_err c.args.text.now BadMoment c.moment_spelled.result (sym (found c)))
