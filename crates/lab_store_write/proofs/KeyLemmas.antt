-- Persons who are named by their keys: what a look-up means, and whom it finds.
use Rattle.std.proofs.Common.{◌≡◌, ℕ, ℤ, ◌&&◌, List, [], ◌∷◌, codes, slice_get, Option, Some, None, option_map, IsTrue, refl, sym, ap, ap₂, subst, ◌∙◌, lit≤}
use Rattle.sqlite_value.specs.declared.value.Value.TheVariants.{Int, Text}
use Rattle.sqlite_value.specs.Order.{Row}
use Rattle.sqlite_sql.specs.Program.{overlay}
use Rattle.sqlite_sql.specs.Term.{Term, col}
use Rattle.sqlite_tied.specs.Compute.{everything}
use Rattle.sqlite.specs.Listing.{understood}
use Rattle.sqlite.specs.State.{State, Shown}
use Rattle.lab_store_tables.specs.Rows.{PersonRow, Tables, tables_in, person_id}
use Rattle.lab_store_tables.proofs.RowWords.{person_row}
use Rattle.lab_store_tables.specs.Changes.{is_person, person_named, IsNamedIfAny}
use Rattle.lab_store_tables.specs.Held.{IsTyped}
use Rattle.lab_store_tables.specs.Family.{Persons}
use Rattle.lab_store_read.proofs.Texts.{Means, is_param}
use Rattle.lab_store_read.proofs.Sorted.{and_true}
use Rattle.lab_store_write.specs.Calls.{Steps, Finds}
use Rattle.lab_store_write.specs.Causes.{is_reading, IsOurs}
use Rattle.lab_store_write.specs.Ids.{id_read}
use Rattle.lab_store_write.specs.Private.Shown.{persons_shown}
use Rattle.lab_store_write.proofs.Inside.{steps_weaker, steps_none}
use Rattle.lab_store_write.proofs.Ours.{ours}
use Rattle.lab_store_write.proofs.Lookups.{by_key_query, rows_by_key, first_key}
use Rattle.lab_store_tables.proofs.Comparing.{equal_ints, equal_texts}
pub use Rattle.lab_store_write.specs.Statements.{person_text}

-- ---- a person by the code

abbrev person_tests : List Term
person_tests = is_param 2 0 ∷ is_param 3 1 ∷ []

pub person_means : Means person_text (by_key_query 3 person_tests (col 1 0 ∷ [])) (codes "id" ∷ [])
unfolding understood everything
person_means = record { read = (_, refl); command = refl; unlisted = refl; plain = (refl, refl) }

pub person_ours : (lab : ℤ) (code : List ℕ) → IsOurs is_reading person_text (Int lab ∷ Text code ∷ [])
unfolding understood everything
person_ours lab code = ours _ _ (lit≤ tt, refl, refl, refl, refl) person_means.unlisted

pub persons_read : (old new : State) (lab : ℤ) (code : List ℕ) (rows : List Row) → IsTyped old.now → Shown person_text (Int lab ∷ Text code ∷ []) old new rows → rows ≡ persons_shown lab code (tables_in old.now.trees)
persons_read old new lab code rows typed h =
    let t = tables_in old.now.trees in
    rows_by_key 3 person_id person_row (λ _. refl) t.persons (overlay old.now.trees []) (typed.stored.at Persons) (typed.rising.at Persons) person_text person_tests (col 1 0 ∷ []) (codes "id" ∷ []) person_means
    (Int lab ∷ Text code ∷ []) (is_person lab code) (λ (one : PersonRow). Int one.id ∷ []) (λ x. ap₂ ◌&&◌ (equal_ints x.lab lab) (and_true _ ∙ equal_texts x.code code)) (λ x. refl)
    old new typed.schema refl rows h

-- the rows are given as a slice, and the code as a text
pub person_found : (lab : ℤ) (code text : List ℕ) (shown rows : List Row) (id : ℤ) (old new : State) → text ≡ code → shown ≡ rows → Steps (Finds (λ t. rows ≡ persons_shown lab text t)) old new
    → option_map id_read (slice_get shown 0) ≡ Some id → Steps (Finds (λ t. person_named t lab code ≡ Some id)) old new
person_found lab code text shown rows id old new same slice it first =
    steps_weaker (Finds (λ t. rows ≡ persons_shown lab text t)) (Finds (λ t. person_named t lab code ≡ Some id)) old new
    (λ before after found. (
      ap (λ (c : List ℕ). person_named before lab c) (sym same) ∙ sym (first_key person_id (is_person lab text) before.persons) ∙ ap (λ (l : List Row). option_map id_read (slice_get l 0)) (sym (slice ∙ found.0)) ∙ first,
      found.1,
    ))
    it

-- who is named, where somebody is
pub named_some : (lab : ℤ) (K : Tables → Type 0) (code : List ℕ) (given : Option (List ℕ)) (id : ℤ) (old new : State) → given ≡ Some code
    → Steps (Finds (λ t. K t → person_named t lab code ≡ Some id)) old new → Steps (Finds (λ t. K t → IsNamedIfAny t lab given (Some id))) old new
named_some lab K code given id old new is it =
    subst (λ (o : Option (List ℕ)). Steps (Finds (λ t. K t → IsNamedIfAny t lab o (Some id))) old new) (sym is)
    (steps_weaker (Finds (λ t. K t → person_named t lab code ≡ Some id)) (Finds (λ t. K t → IsNamedIfAny t lab (Some code) (Some id))) old new
    (λ before after found. (λ known. (id, found.0 known, refl), found.1)) it)

pub named_none : (lab : ℤ) (K : Tables → Type 0) (given : Option (List ℕ)) (s : State) → given ≡ None → IsTrue s.in_transaction
    → Steps (Finds (λ t. K t → IsNamedIfAny t lab given None)) s s
named_none lab K given s is inside =
    subst (λ (o : Option (List ℕ)). Steps (Finds (λ t. K t → IsNamedIfAny t lab o None)) s s) (sym is)
    (steps_none (λ t. K t → IsNamedIfAny t lab None None) s inside (λ t known. refl))
