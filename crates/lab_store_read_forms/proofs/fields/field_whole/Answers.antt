use Rattle.std.proofs.Common.{w64, rules, SFits, sym, ◌∙◌}
use Rattle.std.proofs.lemmas.Int.{to_z-of_z}
use Rattle.lab_store_read.proofs.Causes.{passed_on}
use Rattle.lab_store_read_forms.proofs.fields.field_whole.Goals as goal

pub returns-in_err-names-clause-cause : goal.returns-in_err-names-clause-cause
returns-in_err-names-clause-cause g c =
    let id = c.args.head.id in
    let fits : SFits w64 id = search rules in
    passed_on (rw (to_z-of_z w64 id fits) at c.in_err-names.ensures.cause) (λ has wanted. has (sym c.is_choice.ensures ∙ wanted))
    c.from_residual.result c.from_residual.ensures.1
