use Rattle.std.proofs.Common.{◌≡◌, pos, [], ◌∷◌, Option, option_map, refl, ap, ◌∙◌}
use Rattle.sqlite_value.specs.declared.value.Value.TheVariants.{Text}
use Rattle.sqlite.specs.Values.{bound}
use Rattle.sqlite_keyed.specs.Keyed.{next_key}
use Rattle.lab_store_tables.specs.Ready.{tables_of}
use Rattle.lab_store_write_changes.specs.Statements.{adding_version}
use Rattle.lab_store_write.specs.Tried.{Only}
use Rattle.lab_store_write.proofs.Placed.{placed_by}
use Rattle.lab_seal_versions.specs.declared.origins.Amendment.{Amendment}
use Rattle.lab_store_tables.specs.Rows.{Tables, number, optional, version_id}
use Rattle.lab_store_tables.specs.Changes.{version_row_of}
use Rattle.lab_store_write_changes.specs.Private.Texts.{amendment_reason}
use Rattle.lab_store_write_changes.specs.RecordsAdded.{with_version}
use Rattle.lab_store_write_changes.proofs.RecordWrites.{add_version_ours, add_version_text, version_values, adds_version, ids_version}
use Rattle.lab_store_write_changes.proofs.versions.insert_version.Goals as goal

pub returns : goal.returns
returns g c =
    let old = g.W.Writable.state c.args.tx.now in
    let new = g.W.Writable.state c.insert.new.tx in
    let version = c.args.version.now in
    let cause = λ (amendment : Option Amendment). optional Text (option_map amendment_reason amendment) in
    let row = version_row_of c.args.kept.id (next_key version_id (tables_of old).versions) c.args.opener.id version in
    let given : bound (c.id_value.result ∷ c.ordinal_value.result ∷ c.small_value.result ∷ c.id_value-2.result ∷ c.moment_value.result
    ∷ c.cause_or_null.result ∷ []) ≡ version_values row = λ i. c.id_value.ensures i ∷ (c.ordinal_value.ensures ∙ ap number c.number-number.ensures) i
    ∷ (c.small_value.ensures ∙ ap number c.format_number-format.ensures) i ∷ c.id_value-2.ensures i ∷ c.moment_value.ensures i
    ∷ (c.cause_or_null.ensures ∙ ap cause c.amendment.ensures.value) i ∷ [] in
    placed_by {tries = Only (adding_version (version_row_of c.args.kept.id (pos 0) c.args.opener.id version))} add_version_text (version_values row) (add_version_ours row) (λ _. (refl, refl)) (with_version c.args.kept.id c.args.opener.id version) (λ (t : Tables). next_key version_id t.versions)
    c.insert.ensures.stays given c.insert.ensures.ran (λ count typed did. (adds_version row old new count typed refl did, ids_version row old new count typed did)) c.insert.ensures.failed
