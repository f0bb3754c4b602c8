use Rattle.std.proofs.Common.{[], ◌∷◌, filter, length, refl}
use Rattle.std.proofs.lemmas.List.{length-map}
use Rattle.sqlite_value.specs.declared.value.Value.TheVariants.{Int}
use Rattle.lab_store_tables.specs.Rows.{EntryRow, Tables}
use Rattle.lab_store_write_changes.specs.Statements.{asking_entries}
use Rattle.lab_store_write.specs.Tried.{Only}
use Rattle.lab_store_write.proofs.Writers.{place_found_by}
use Rattle.lab_store_write_changes.specs.Private.VersionsShown.{is_entry_of}
use Rattle.lab_store_write_changes.proofs.VersionsShownWords.{entries_shown}
use Rattle.lab_store_write_changes.proofs.EntryKeyLemmas.{entries_means, entries_ours, entries_read}
use Rattle.lab_store_write_changes.proofs.places.entry_place.Goals as goal

pub returns-clause-counts : goal.returns-clause-counts
returns-clause-counts g c =
    let parent = c.args.parent.id in
    let rows = λ (t : Tables). filter (is_entry_of parent) t.entries in
    place_found_by {tries = Only (asking_entries parent)} entries_means.read (entries_ours parent) (λ _. (refl, refl)) (entries_shown parent) (λ t. length (rows t)) c.place_below.ensures.counts (λ found. entries_read _ _ parent found)
    (λ t. length-map (rows t) (λ (one : EntryRow). Int one.id ∷ []))
