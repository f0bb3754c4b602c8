use Rattle.lab_people_access.specs.declared.sessions.Closing.TheVariants.{Others}
use Rattle.std.proofs.Common.{inl, inr, subst, ◌∙◌}
use Rattle.sqlite_value.specs.Order.{Row}
use Rattle.std.specs.Prelude.{List}
use Rattle.lab_store_write.specs.Tried.{TriesToClose, TriesToCloseRows}
use Rattle.lab_store_write.proofs.Writers.{and_then, fails_so_by, then_fails_apart_by}
use Rattle.lab_store_write.proofs.ClosingLemmas.{sessions_closed, opened_read}
use Rattle.lab_store_write.proofs.closings.close_others.Goals as goal

pub returns-in_err-rows : goal.returns-in_err-rows
returns-in_err-rows g c = fails_so_by c.in_err-rows.ensures {more = TriesToClose c.args.person.id (Others c.args.kept)} (λ before tried at it. inl it) c.from_residual.result c.from_residual.ensures.1

pub returns-in_err-close_rows : goal.returns-in_err-close_rows
returns-in_err-close_rows g c =
    then_fails_apart_by c.in_ok-rows.ensures {more = TriesToClose c.args.person.id (Others c.args.kept)} c.in_err-close_rows.ensures (λ t are. opened_read c.args.person.id (Others c.args.kept) t c.deref.result.now c.in_ok-rows.rows.items c.deref.ensures.value are)
    (λ t tried at are it. inr (subst (λ (rows : List Row). TriesToCloseRows rows t tried at) (c.deref.ensures.value ∙ are) it))
    c.from_residual-in_err-close_rows.result c.from_residual-in_err-close_rows.ensures.1

pub returns : goal.returns
returns g c =
    and_then c.in_ok-rows.ensures c.in_ok-close_rows.ensures
    (sessions_closed c.args.person.id (Others c.args.kept) c.deref.result.now c.in_ok-rows.rows.items _ _ _ c.deref.ensures.value)
