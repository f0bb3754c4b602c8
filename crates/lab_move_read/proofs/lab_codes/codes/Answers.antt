use Rattle.std.proofs.Common.{◌∙◌, ap, map, sym, subst, All}
use Rattle.sqlite_keyed.specs.Lists.{sort_by}
use Rattle.sqlite_keyed.proofs.ListLemmas.{map-map}
use Rattle.lab_store_read.proofs.Queries.{if_then}
use Rattle.lab_move_tables.specs.Shown.{by_lab, code_shown}
use Rattle.lab_move_tables.proofs.Wheres.{where_and, where_end}
use Rattle.lab_move_read.specs.Private.Laboratories.{code_read}
use Rattle.lab_move_read.specs.Readable.{HasLabCode}
use Rattle.lab_store_read.specs.Cells.{storage}
use Rattle.lab_move_read_people.proofs.ReadableRows.{unread_none}
use Rattle.lab_move_read.proofs.lab_codes.codes.Goals as goal

pub returns-in_err-rows : goal.returns-in_err-rows
returns-in_err-rows g c = where_end c.in_err-rows.ensures c.from_residual.result _ c.from_residual.ensures.1 (λ e is told. sym is ∙ told) (λ t wanted. wanted.taken)

pub returns : goal.returns
returns g c =
    where_and c.in_ok-rows.ensures (λ t file rows.
    if_then c.codes_listed.result (λ made is. is ∙ ap (map code_read) (c.deref.ensures.value ∙ rows) ∙ map-map code_read code_shown (sort_by by_lab t.labs)) c.codes_listed.ensures.value)
    (λ t file wanted rows. unread_none storage (subst (All HasLabCode) (sym (c.deref.ensures.value ∙ rows)) wanted.rows) c.codes_listed.result c.codes_listed.ensures.fault)
