use Rattle.std.proofs.Common.{◌≡◌, ◌⊎◌, ◌+◌, List, [], ◌∷◌, length, subst, ap, ◌∙◌}
use Rattle.sqlite_value.specs.declared.value.Value.TheVariants.{Int}
use Rattle.sqlite_value.specs.Order.{Row}
use Rattle.sqlite.specs.State.{Shown, FailsToQuery, IsTooLate}
use Rattle.sqlite.specs.Values.{bound}
use Rattle.lab_store_write.proofs.places.place_below.Goals as goal

pub returns-in-Ok-clause-counts : goal.returns-in-Ok-clause-counts
returns-in-Ok-clause-counts g c =
    let old = g.W.Writable.state c.args.tx.now in
    let new = g.W.Writable.state c.query_all.new.self in
    let given : bound (c.id_value.result ∷ []) ≡ Int c.args.parent.id ∷ [] = λ i. c.id_value.ensures i ∷ [] in
    record {
      same_lender = c.query_all.ensures.same_lender;
      survives = c.query_all.ensures.survives;
      ok = λ clean. (
        c.in-Ok.rows,
        subst (λ (row : Row). Shown c.args.text.now row old new c.in-Ok.rows.items) given (c.in-Ok.ensures.ok clean),
        c.place_behind.ensures.value ∙ ap (λ (l : List Row). length l + 1) c.deref.ensures.value,
      );
      err = λ clean. tt;
    }

pub returns-in-Err-clause-counts : goal.returns-in-Err-clause-counts
returns-in-Err-clause-counts g c =
    let old = g.W.Writable.state c.args.tx.now in
    let new = g.W.Writable.state c.query_all.new.self in
    let sql = c.args.text.now in
    let given : bound (c.id_value.result ∷ []) ≡ Int c.args.parent.id ∷ [] = λ i. c.id_value.ensures i ∷ [] in
    record {
      same_lender = c.query_all.ensures.same_lender;
      survives = c.query_all.ensures.survives;
      ok = λ clean. tt;
      err = λ clean. subst (λ (row : Row). FailsToQuery sql row old new c.in-Err.error ⊎ IsTooLate sql row old new c.in-Err.error) given (c.in-Err.ensures.err clean);
    }
