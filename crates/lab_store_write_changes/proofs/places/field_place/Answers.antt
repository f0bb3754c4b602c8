use Rattle.std.proofs.Common.{[], ◌∷◌, filter, length, refl}
use Rattle.std.proofs.lemmas.List.{length-map}
use Rattle.sqlite_value.specs.declared.value.Value.TheVariants.{Int}
use Rattle.lab_store_tables.specs.Rows.{FieldRow, Tables}
use Rattle.lab_store_write_changes.specs.Statements.{asking_fields}
use Rattle.lab_store_write.specs.Tried.{Only}
use Rattle.lab_store_write.proofs.Writers.{place_found_by}
use Rattle.lab_store_write_changes.specs.Private.FieldsShown.{is_field_of}
use Rattle.lab_store_write_changes.proofs.FieldsShownWords.{fields_shown}
use Rattle.lab_store_write_changes.proofs.FormKeyLemmas.{fields_means, fields_ours, fields_read}
use Rattle.lab_store_write_changes.proofs.places.field_place.Goals as goal

pub returns-clause-counts : goal.returns-clause-counts
returns-clause-counts g c =
    let parent = c.args.parent.id in
    let rows = λ (t : Tables). filter (is_field_of parent) t.fields in
    place_found_by {tries = Only (asking_fields parent)} fields_means.read (fields_ours parent) (λ _. (refl, refl)) (fields_shown parent) (λ t. length (rows t)) c.place_below.ensures.counts (λ found. fields_read _ _ parent found)
    (λ t. length-map (rows t) (λ (one : FieldRow). Int one.id ∷ []))
