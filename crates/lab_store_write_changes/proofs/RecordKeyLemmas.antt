-- A version of a form that is named by its key: what the look-up means, and what it finds.
use Rattle.std.proofs.Common.{◌≡◌, ℕ, ℤ, Bool, true, false, ◌&&◌, ◌==◌, bytes_eq, int_eq, List, [], ◌∷◌, codes, slice_get, Some, option_map, refl, sym, ap, ap₂, ◌∙◌, lit≤}
use Rattle.sqlite_value.specs.declared.value.Value.TheVariants.{Int, Text}
use Rattle.sqlite_value.specs.Order.{Row}
use Rattle.sqlite_sql.specs.Program.{overlay}
use Rattle.sqlite_sql.specs.Term.{Term, col}
use Rattle.sqlite_tied.specs.Compute.{everything}
use Rattle.sqlite.specs.Listing.{understood}
use Rattle.sqlite.specs.State.{State, Shown}
use Rattle.lab_store_tables.specs.Rows.{FormRow, tables_in, form_id, number}
use Rattle.lab_store_tables.proofs.RowWords.{form_row}
use Rattle.lab_store_tables.specs.Changes.{is_form_row, form_named}
use Rattle.lab_store_tables.specs.Held.{IsTyped}
use Rattle.lab_store_tables.specs.Family.{Forms}
use Rattle.lab_store_read.proofs.Texts.{Means, is_param}
use Rattle.lab_store_read.proofs.Sorted.{equal_numbers, and_true}
use Rattle.lab_store_write.specs.Calls.{Steps, Finds}
use Rattle.lab_store_write.specs.Ids.{id_read}
use Rattle.lab_store_write.specs.Causes.{is_reading, IsOurs}
use Rattle.lab_store_write.proofs.Inside.{steps_weaker}
use Rattle.lab_store_write.proofs.Lookups.{by_key_query, rows_by_key, first_key}
use Rattle.lab_store_write.proofs.Ours.{ours}
use Rattle.lab_store_write_changes.specs.Private.FormsShown.{forms_shown}
use Rattle.lab_store_tables.proofs.Comparing.{equal_ints, equal_texts}
pub use Rattle.lab_store_write_changes.specs.Statements.{form_text}

and_moved : (a b c : Bool) → (a && (b && c)) ≡ (a && b && c)
and_moved true b c = refl
and_moved false b c = refl

abbrev form_tests : List Term
form_tests = is_param 2 0 ∷ is_param 3 1 ∷ is_param 4 2 ∷ []

pub form_means : Means form_text (by_key_query 8 form_tests (col 1 0 ∷ [])) (codes "id" ∷ [])
unfolding understood everything
form_means = record { read = (_, refl); command = refl; unlisted = refl; plain = (refl, refl) }

pub form_ours : (lab : ℤ) (code : List ℕ) (version : ℕ) → IsOurs is_reading form_text (Int lab ∷ Text code ∷ number version ∷ [])
unfolding understood everything
form_ours lab code version = ours _ _ (lit≤ tt, refl, refl, refl, refl) form_means.unlisted

pub forms_read : (old new : State) (lab : ℤ) (code : List ℕ) (version : ℕ) (rows : List Row) → IsTyped old.now
    → Shown form_text (Int lab ∷ Text code ∷ number version ∷ []) old new rows → rows ≡ forms_shown lab code version (tables_in old.now.trees)
forms_read old new lab code version rows typed h =
    let t = tables_in old.now.trees in
    rows_by_key 8 form_id form_row (λ _. refl) t.forms (overlay old.now.trees []) (typed.stored.at Forms) (typed.rising.at Forms)
    form_text form_tests (col 1 0 ∷ []) (codes "id" ∷ []) form_means
    (Int lab ∷ Text code ∷ number version ∷ []) (is_form_row lab code version) (λ (one : FormRow). Int one.id ∷ [])
    (λ x. ap₂ ◌&&◌ (equal_ints x.lab lab) (ap₂ ◌&&◌ (equal_texts x.code code) (and_true _ ∙ equal_numbers x.version version))
    ∙ and_moved (int_eq x.lab lab) (bytes_eq x.code code) (x.version == version)) (λ x. refl) old new typed.schema refl rows h

pub form_found : (lab : ℤ) (code text : List ℕ) (version wanted : ℕ) (shown rows : List Row) (id : ℤ) (old new : State) → text ≡ code → wanted ≡ version
    → shown ≡ rows
    → Steps (Finds (λ t. rows ≡ forms_shown lab text wanted t)) old new → option_map id_read (slice_get shown 0) ≡ Some id
    → Steps (Finds (λ t. form_named t lab code version ≡ Some id)) old new
form_found lab code text version wanted shown rows id old new same alike slice it first =
    steps_weaker (Finds (λ t. rows ≡ forms_shown lab text wanted t)) (Finds (λ t. form_named t lab code version ≡ Some id)) old new
    (λ before after found. (
      ap₂ (λ (c : List ℕ) (n : ℕ). form_named before lab c n) (sym same) (sym alike) ∙ sym (first_key form_id (is_form_row lab text wanted) before.forms)
          ∙ ap (λ (l : List Row). option_map id_read (slice_get l 0)) (sym (slice ∙ found.0)) ∙ first,
      found.1,
    ))
    it
