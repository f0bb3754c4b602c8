use Rattle.std.proofs.Common.{◌∙◌, ap, sym, subst, ◌∷◌, [], option_map, slice_get}
use Rattle.lab_store_read.proofs.Queries.{if_then}
use Rattle.lab_store_read_records.specs.Shown.{lab_read}
use Rattle.lab_store_read_records.proofs.Found.{lab_found}
use Rattle.lab_move_tables.proofs.Wheres.{where_and, where_end}
use Rattle.lab_move_read.specs.Laboratories.{head_of}
use Rattle.sqlite_value.specs.declared.value.Value.TheVariants.{Text}
use Rattle.lab_store_read.specs.Causes.{HasFirst}
use Rattle.lab_store_read_records.specs.Readable.{HasLab}
use Rattle.lab_move_tables.specs.Answering.{IsTaken}
use Rattle.lab_move_tables.specs.Questions.{lab_text}
use Rattle.lab_move_tables.specs.Shown.{labs_shown}
use Rattle.lab_store_read.specs.Cells.{storage}
use Rattle.lab_move_read_people.proofs.ReadableRows.{unread_none}
use Rattle.lab_move_read.proofs.wholes.head_at.Goals as goal

pub returns-in_err-rows : goal.returns-in_err-rows
returns-in_err-rows g c =
    where_end c.in_err-rows.ensures c.from_residual.result _ c.from_residual.ensures.1 (λ e is told. sym is ∙ told)
    (λ t wanted. subst (λ code. IsTaken (g.D.Readable.state c.args.conn.now).now lab_text (Text code ∷ [])) (sym c.as_str.ensures.value) wanted.taken)

pub returns : goal.returns
returns g c =
    where_and c.in_ok-rows.ensures (λ t file rows.
    if_then c.first_lab.result (λ found is. is ∙ ap (λ l. option_map lab_read (slice_get l 0)) (c.deref.ensures.value ∙ rows)
    ∙ lab_found t c.as_str.result.now ∙ ap (head_of t) c.as_str.ensures.value) c.first_lab.ensures.value)
    (λ t file wanted rows. unread_none storage (subst (HasFirst HasLab) (sym (c.deref.ensures.value ∙ rows ∙ ap (labs_shown t) c.as_str.ensures.value)) wanted.rows) c.first_lab.result c.first_lab.ensures.fault)
