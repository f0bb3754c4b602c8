use Rattle.std.proofs.Common.{ap, ◌∙◌, false}
use Rattle.std.specs.Option.{option_map_or}
use Rattle.lab_store_files.specs.Schemas.{table_named}
use Rattle.lab_move.specs.OldFiles.{is_like, own_table}
use Rattle.lab_move.proofs.schemas.has_table.Goals as goal

pub returns-in-Some : goal.returns-in-Some
returns-in-Some c =
    c.is_like.ensures ∙ ap (λ o. option_map_or (is_like (own_table c.args.older c.args.one)) o false)
    (c.in-Some.ensures ∙ ap (table_named c.args.schema.now) c.name.ensures)

pub returns-in-None : goal.returns-in-None
returns-in-None c = ap (λ o. option_map_or (is_like (own_table c.args.older c.args.one)) o false) (c.in-None.ensures ∙ ap (table_named c.args.schema.now) c.name.ensures)
