use Rattle.std.proofs.Common.{[], ◌∷◌, filter, length, refl}
use Rattle.std.proofs.lemmas.List.{length-map}
use Rattle.sqlite_value.specs.declared.value.Value.TheVariants.{Int}
use Rattle.lab_store_tables.specs.Rows.{ChoiceRow, Tables}
use Rattle.lab_store_write_changes.specs.Statements.{asking_choices}
use Rattle.lab_store_write.specs.Tried.{Only}
use Rattle.lab_store_write.proofs.Writers.{place_found_by}
use Rattle.lab_store_write_changes.specs.Private.FieldsShown.{is_choice_of}
use Rattle.lab_store_write_changes.proofs.FieldsShownWords.{choices_shown}
use Rattle.lab_store_write_changes.proofs.FormKeyLemmas.{choices_means, choices_ours, choices_read}
use Rattle.lab_store_write_changes.proofs.places.choice_place.Goals as goal

pub returns-clause-counts : goal.returns-clause-counts
returns-clause-counts g c =
    let parent = c.args.parent.id in
    let rows = λ (t : Tables). filter (is_choice_of parent) t.choices in
    place_found_by {tries = Only (asking_choices parent)} choices_means.read (choices_ours parent) (λ _. (refl, refl)) (choices_shown parent) (λ t. length (rows t)) c.place_below.ensures.counts (λ found. choices_read _ _ parent found)
    (λ t. length-map (rows t) (λ (one : ChoiceRow). Int one.id ∷ []))
