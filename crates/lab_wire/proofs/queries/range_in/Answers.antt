use Rattle.std.proofs.Common.{sym, ap, ◌∙◌, ◌∷◌, lit<}
use Rattle.std.specs.List.{before_first, slice_split}
use Rattle.lab_wire.specs.Queries.{is_ampersand, range_by}
use Rattle.lab_wire.proofs.Parts.{cut_at, not_cut}
use Rattle.lab_wire.proofs.QueryLemmas.{no_other, some_others}
use Rattle.lab_wire.proofs.queries.range_in.Goals as goal

pub returns-in-Some : goal.returns-in-Some
returns-in-Some c =
    let cut = cut_at 38 (lit< tt) c.args.query.now c.split_once.result c.split_once.ensures.cases _ _ c.in-Some.is in
    c.range_by.ensures
    ∙ ap (λ one. range_by (one ∷ slice_split is_ampersand c.in-Some.others.now)) cut.1
    ∙ ap (λ others. range_by (before_first is_ampersand c.args.query.now ∷ slice_split is_ampersand others)) cut.2
    ∙ sym (some_others c.args.query.now cut.0)

pub returns-in-None : goal.returns-in-None
returns-in-None c =
    sym (no_other c.args.query.now (not_cut 38 (lit< tt) c.args.query.now c.split_once.result c.split_once.ensures.cases c.in-None.is))
