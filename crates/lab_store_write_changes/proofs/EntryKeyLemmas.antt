-- Rows that are named by their keys, or by their parents: what each look-up means, and what it finds.
use Rattle.std.proofs.Common.{◌≡◌, ℕ, ℤ, ◌&&◌, List, [], ◌∷◌, codes, slice_get, Some, option_map, refl, sym, ap, ap₂, ◌∙◌, lit≤}
use Rattle.sqlite_value.specs.declared.value.Value.TheVariants.{Int}
use Rattle.sqlite_value.specs.Order.{Row}
use Rattle.sqlite_sql.specs.Program.{overlay}
use Rattle.sqlite_sql.specs.Term.{Term, col}
use Rattle.sqlite_tied.specs.Compute.{everything}
use Rattle.sqlite.specs.Listing.{understood}
use Rattle.sqlite.specs.State.{State, Shown}
use Rattle.lab_store_tables.specs.Rows.{RecordRow, EntryRow, SignatureRow, tables_in, record_id, entry_id, signature_id, number}
use Rattle.lab_store_tables.proofs.RowWords.{record_row, entry_row, signature_row}
use Rattle.lab_store_tables.specs.Changes.{is_record_row, record_named}
use Rattle.lab_store_tables.specs.Held.{IsTyped}
use Rattle.lab_store_tables.specs.Family.{Records, Entries, Signatures}
use Rattle.lab_store_read.proofs.Texts.{Means, is_param}
use Rattle.lab_store_read.proofs.Sorted.{equal_numbers, and_true}
use Rattle.lab_store_write.specs.Calls.{Steps, Finds}
use Rattle.lab_store_write.specs.Ids.{id_read}
use Rattle.lab_store_write.specs.Causes.{is_reading, IsOurs}
use Rattle.lab_store_write.proofs.Inside.{steps_weaker}
use Rattle.lab_store_write.proofs.Lookups.{by_key_query, rows_by_key, first_key}
use Rattle.lab_store_write.proofs.Ours.{ours}
use Rattle.lab_store_write_changes.specs.Private.VersionsShown.{records_shown, is_entry_of, is_signature_of}
use Rattle.lab_store_write_changes.proofs.VersionsShownWords.{entries_shown, signatures_shown}
use Rattle.lab_store_tables.proofs.Comparing.{equal_ints}
pub use Rattle.lab_store_write_changes.specs.Statements.{record_text, entries_text, signatures_text}

-- ---- a record

abbrev record_tests : List Term
record_tests = is_param 2 0 ∷ is_param 3 1 ∷ []

pub record_means : Means record_text (by_key_query 15 record_tests (col 1 0 ∷ [])) (codes "id" ∷ [])
unfolding understood everything
record_means = record { read = (_, refl); command = refl; unlisted = refl; plain = (refl, refl) }

pub record_ours : (lab : ℤ) (wanted : ℕ) → IsOurs is_reading record_text (Int lab ∷ number wanted ∷ [])
unfolding understood everything
record_ours lab wanted = ours _ _ (lit≤ tt, refl, refl, refl, refl) record_means.unlisted

pub records_read : (old new : State) (lab : ℤ) (wanted : ℕ) (rows : List Row) → IsTyped old.now
    → Shown record_text (Int lab ∷ number wanted ∷ []) old new rows → rows ≡ records_shown lab wanted (tables_in old.now.trees)
records_read old new lab wanted rows typed h =
    let t = tables_in old.now.trees in
    rows_by_key 15 record_id record_row (λ _. refl) t.records (overlay old.now.trees []) (typed.stored.at Records) (typed.rising.at Records)
    record_text record_tests (col 1 0 ∷ []) (codes "id" ∷ []) record_means
    (Int lab ∷ number wanted ∷ []) (is_record_row lab wanted) (λ (one : RecordRow). Int one.id ∷ [])
    (λ x. ap₂ ◌&&◌ (equal_ints x.lab lab) (and_true _ ∙ equal_numbers x.number wanted)) (λ x. refl)
    old new typed.schema refl rows h

pub record_found : (lab : ℤ) (given wanted : ℕ) (shown rows : List Row) (id : ℤ) (old new : State) → given ≡ wanted → shown ≡ rows
    → Steps (Finds (λ t. rows ≡ records_shown lab given t)) old new
    → option_map id_read (slice_get shown 0) ≡ Some id → Steps (Finds (λ t. option_map record_id (record_named t lab wanted) ≡ Some id)) old new
record_found lab given wanted shown rows id old new same slice it first =
    steps_weaker (Finds (λ t. rows ≡ records_shown lab given t)) (Finds (λ t. option_map record_id (record_named t lab wanted) ≡ Some id)) old new
    (λ before after found. (
      ap (λ (n : ℕ). option_map record_id (record_named before lab n)) (sym same) ∙ sym (first_key record_id (is_record_row lab given) before.records)
          ∙ ap (λ (l : List Row). option_map id_read (slice_get l 0)) (sym (slice ∙ found.0)) ∙ first,
      found.1,
    ))
    it

-- ---- the place behind the entries of one parent

pub entries_means : Means entries_text (by_key_query 20 (is_param 2 0 ∷ []) (col 1 0 ∷ [])) (codes "id" ∷ [])
unfolding understood everything
entries_means = record { read = (_, refl); command = refl; unlisted = refl; plain = (refl, refl) }

pub entries_ours : (parent : ℤ) → IsOurs is_reading entries_text (Int parent ∷ [])
unfolding understood everything
entries_ours parent = ours _ _ (lit≤ tt, refl, refl, refl, refl) entries_means.unlisted

pub entries_read : (old new : State) (parent : ℤ) (rows : List Row) → IsTyped old.now → Shown entries_text (Int parent ∷ []) old new rows
    → rows ≡ entries_shown parent (tables_in old.now.trees)
entries_read old new parent rows typed h =
    let t = tables_in old.now.trees in
    rows_by_key 20 entry_id entry_row (λ _. refl) t.entries (overlay old.now.trees []) (typed.stored.at Entries) (typed.rising.at Entries)
    entries_text (is_param 2 0 ∷ []) (col 1 0 ∷ []) (codes "id" ∷ []) entries_means
    (Int parent ∷ []) (is_entry_of parent) (λ (one : EntryRow). Int one.id ∷ []) (λ x. and_true _ ∙ equal_ints x.version parent)
    (λ x. refl) old new typed.schema refl rows h

-- ---- the place behind the signatures of one parent

pub signatures_means : Means signatures_text (by_key_query 22 (is_param 2 0 ∷ []) (col 1 0 ∷ [])) (codes "id" ∷ [])
unfolding understood everything
signatures_means = record { read = (_, refl); command = refl; unlisted = refl; plain = (refl, refl) }

pub signatures_ours : (parent : ℤ) → IsOurs is_reading signatures_text (Int parent ∷ [])
unfolding understood everything
signatures_ours parent = ours _ _ (lit≤ tt, refl, refl, refl, refl) signatures_means.unlisted

pub signatures_read : (old new : State) (parent : ℤ) (rows : List Row) → IsTyped old.now → Shown signatures_text (Int parent ∷ []) old new rows
    → rows ≡ signatures_shown parent (tables_in old.now.trees)
signatures_read old new parent rows typed h =
    let t = tables_in old.now.trees in
    rows_by_key 22 signature_id signature_row (λ _. refl) t.signatures (overlay old.now.trees []) (typed.stored.at Signatures) (typed.rising.at Signatures)
    signatures_text (is_param 2 0 ∷ []) (col 1 0 ∷ []) (codes "id" ∷ []) signatures_means
    (Int parent ∷ []) (is_signature_of parent) (λ (one : SignatureRow). Int one.id ∷ []) (λ x. and_true _ ∙ equal_ints x.version parent)
    (λ x. refl) old new typed.schema refl rows h
