use Rattle.std.proofs.Common.{[], ◌∷◌, filter, length, refl}
use Rattle.std.proofs.lemmas.List.{length-map}
use Rattle.sqlite_value.specs.declared.value.Value.TheVariants.{Int}
use Rattle.lab_store_tables.specs.Rows.{SignatureRow, Tables}
use Rattle.lab_store_write_changes.specs.Statements.{asking_signatures}
use Rattle.lab_store_write.specs.Tried.{Only}
use Rattle.lab_store_write.proofs.Writers.{place_found_by}
use Rattle.lab_store_write_changes.specs.Private.VersionsShown.{is_signature_of}
use Rattle.lab_store_write_changes.proofs.VersionsShownWords.{signatures_shown}
use Rattle.lab_store_write_changes.proofs.EntryKeyLemmas.{signatures_means, signatures_ours, signatures_read}
use Rattle.lab_store_write_changes.proofs.places.signature_place.Goals as goal

pub returns-clause-counts : goal.returns-clause-counts
returns-clause-counts g c =
    let parent = c.args.parent.id in
    let rows = λ (t : Tables). filter (is_signature_of parent) t.signatures in
    place_found_by {tries = Only (asking_signatures parent)} signatures_means.read (signatures_ours parent) (λ _. (refl, refl)) (signatures_shown parent) (λ t. length (rows t)) c.place_below.ensures.counts (λ found. signatures_read _ _ parent found)
    (λ t. length-map (rows t) (λ (one : SignatureRow). Int one.id ∷ []))
