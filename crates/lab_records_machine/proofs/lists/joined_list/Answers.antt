use Rattle.std.proofs.Common.{ℕ, ◌++◌, ◌∙◌, ap, sym, Ok}
use Rattle.std.proofs.lemmas.Iterator.Adapters.{fact_from_extend, YieldsList-from_vec}
use Rattle.std.proofs.lemmas.List.{map-id}
use Rattle.lab_records_machine.proofs.lists.joined_list.Goals as goal

-- what went in is the second list
pub returns : goal.returns
returns g c =
    let front = c.into_vec-list.result.items in
    fact_from_extend {E = ℕ} (λ x. x) (Ok c.in_ok-extend.field-0) c.in_ok-extend.ensures.ran
    (λ it b. YieldsList-from_vec {s = it} _ b.0 (b.1 ∙ c.into_vec.result.ok.0))
    (λ xs e h. c.from_vec.ensures ∙ (h.0 ∙ ap (λ ys. front ++ ys) (sym (map-id xs) ∙ e)) ∙ cc)
