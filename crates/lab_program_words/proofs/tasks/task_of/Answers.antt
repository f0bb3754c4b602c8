-- The command is simple, so its matches and faults are those of the words by `clap`'s definitions.
use Rattle.std.proofs.Common.{◌≡◌, ◌∙◌, ap, refl, sym, subst, true, map}
use Rattle.std.proofs.lemmas.Result.{err_from_is_err_and}
use Rattle.clap.specs.Words.{fault_of, is_simple, is_simple_and_free, subcommand_of, HasKind}
use Rattle.clap.proofs.OnLiterals.{clap_on_literals}
use Rattle.lab_program_app.specs.Apps.{labdesk_app}
use Rattle.lab_program_words.specs.Tasks.{errand_named, IsGivenIn}
use Rattle.lab_program_words.proofs.tasks.task_of.Goals as goal

simple : is_simple_and_free labdesk_app ≡ true
unfolding clap_on_literals
simple = refl

has_matches : is_simple labdesk_app ≡ true
unfolding clap_on_literals
has_matches = refl

pub returns-in_err-matches-clause-fault : goal.returns-in_err-matches-clause-fault
returns-in_err-matches-clause-fault g c =
    let p = err_from_is_err_and c.from_residual-in_err-matches.result
    c.from_residual-in_err-matches.ensures.1 in
    let app = c.in_ok-command.ensures in
    let kinds = c.in_err-matches.ensures.kinds (ap is_simple_and_free app ∙ simple) in
    rw (p.1, p.2) (subst (λ a. HasKind
    (fault_of a (map g.S.AsStr.text c.args.words.now)) c.in_err-matches.field-0.0)
    app kinds)

pub returns-clause-fault : goal.returns-clause-fault
returns-clause-fault g c =
    let app = c.in_ok-command.ensures in
    sym (ap (λ a. fault_of a (map g.S.AsStr.text c.args.words.now)) app)
    ∙ c.in_ok-matches.ensures.kinds (ap is_simple_and_free app ∙ simple)

pub returns-clause-errand : goal.returns-clause-errand
returns-clause-errand g c =
    let app = c.in_ok-command.ensures in
    let rows = (c.in_ok-matches.ensures.matches (ap is_simple app ∙ has_matches)).1 in
    c.task_among.ensures.errand ∙ ap errand_named (rows
    ∙ ap (λ a. subcommand_of a (map g.S.AsStr.text c.args.words.now)) app)

pub returns-clause-given : goal.returns-clause-given
returns-clause-given g c =
    let app = c.in_ok-command.ensures in
    let rows = (c.in_ok-matches.ensures.matches (ap is_simple app ∙ has_matches)).1 in
    subst (λ named. IsGivenIn named c.task_among.result) (rows
    ∙ ap (λ a. subcommand_of a (map g.S.AsStr.text c.args.words.now)) app)
    c.task_among.ensures.given
