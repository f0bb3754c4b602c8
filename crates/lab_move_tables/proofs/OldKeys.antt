-- What a file's own rules say of keys, as the relations of the kit, and rows that stand in the order of a text and a number.
use Rattle.std.proofs.Common.{◌≡◌, ℕ, ℤ, pos, true, false, ◌&&◌, ◌==◌, List, filter, sym, ap₂, ◌∙◌, int_eq, bytes_eq, refl, Ordering, Less, Equal, Greater, arith}
use Rattle.std.specs.Ordering.{is_eq, nat_cmp, ordering_then}
use Rattle.std.specs.Cmp.Lexicographic.{slice_cmp}
use Rattle.std.proofs.lemmas.Bool.Decides.{nat_tests}
use Rattle.std.proofs.lemmas.Map.Text.{is_eq-slice_cmp}
use Rattle.sqlite_value.specs.declared.value.Value.TheVariants.{Int, Text}
use Rattle.sqlite_value.specs.Order.{value_cmp}
use Rattle.sqlite_value.proofs.OrderLemmas.{value_cmp-Text}
use Rattle.sqlite_trees.specs.Tree.{IsAscending}
use Rattle.std.specs.List.{AllByRecursion}
use Rattle.sqlite_keyed.specs.Keyed.{has_key}
use Rattle.sqlite_keyed.specs.Rules.{AreApart}
use Rattle.sqlite_keyed.proofs.ListLemmas.{all_from_test, ascending-filter}
use Rattle.sqlite_keyed.proofs.KeyedLemmas.{same_int}
use Rattle.lab_store_tables.specs.Rows.{SessionRow, VersionRow, EntryRow, SignatureRow, Tables, person_id}
use Rattle.lab_store_tables.specs.WellKept.{same_lab, same_person, same_session, same_form, same_field, same_choice, same_record, same_version, same_entry, same_signature, same_told}
use Rattle.lab_store_tables.specs.ByRules.{IsByRules}
use Rattle.lab_store_read.proofs.Keys.{apart, left, right, two, four}
use Rattle.lab_store_read.proofs.Lists.{passes_filter, int_alike, untied_found}
use Rattle.lab_store_read.proofs.Sorted.{by_one}

module _ (t : Tables) (rules : IsByRules t) where
  pub told_apart : AreApart same_told t.trail
  told_apart = apart same_told t.trail (right _ _ rules.keys)

  pub signatures_apart : AreApart same_signature t.signatures
  signatures_apart = apart same_signature t.signatures (right _ _ (left _ _ (left _ _ rules.keys)))

  pub entries_apart : AreApart same_entry t.entries
  entries_apart = apart same_entry t.entries (right _ _ (left _ _ (left _ _ (left _ _ rules.keys))))

  pub versions_apart : AreApart same_version t.versions
  versions_apart = apart same_version t.versions (right _ _ (four _ _ _ _ _ rules.keys))

  pub records_apart : AreApart same_record t.records
  records_apart = apart same_record t.records (right _ _ (left _ _ (left _ _ (four _ _ _ _ _ rules.keys))))

  pub choices_apart : AreApart same_choice t.choices
  choices_apart = apart same_choice t.choices (right _ _ (four _ _ _ _ _ (left _ _ (left _ _ (left _ _ rules.keys)))))

  pub fields_apart : AreApart same_field t.fields
  fields_apart = apart same_field t.fields (right _ _ (left _ _ (four _ _ _ _ _ (four _ _ _ _ _ rules.keys))))

  pub forms_apart : AreApart same_form t.forms
  forms_apart = apart same_form t.forms (right _ _ (left _ _ (left _ _ (four _ _ _ _ _ (four _ _ _ _ _ rules.keys)))))

  pub sessions_apart : AreApart same_session t.sessions
  sessions_apart = apart same_session t.sessions (right _ _ (left _ _ (left _ _ (left _ _ (four _ _ _ _ _ (four _ _ _ _ _ rules.keys))))))

  pub persons_apart : AreApart same_person t.persons
  persons_apart = apart same_person t.persons (right _ _ (left _ _ (four _ _ _ _ _ (four _ _ _ _ _ (four _ _ _ _ _ rules.keys)))))

  pub labs_apart : AreApart same_lab t.labs
  labs_apart = apart same_lab t.labs (left _ _ (left _ _ (four _ _ _ _ _ (four _ _ _ _ _ (four _ _ _ _ _ rules.keys)))))

-- ---- arrows

module _ (t : Tables) (rules : IsByRules t) where
  pub workers : AllByRecursion (λ (one : SessionRow). has_key person_id t.persons one.person ≡ true) t.sessions
  workers = all_from_test (λ (one : SessionRow). has_key person_id t.persons one.person) t.sessions
      (right _ _ (left _ _ (four _ _ _ _ _ (four _ _ _ _ _ (four _ _ _ _ _ rules.arrows)))))

  pub openers : AllByRecursion (λ (one : VersionRow). has_key person_id t.persons one.opener ≡ true) t.versions
  openers = all_from_test (λ (one : VersionRow). has_key person_id t.persons one.opener) t.versions (right _ _ (two _ _ _ (four _ _ _ _ _ rules.arrows)))

  pub writers : AllByRecursion (λ (one : EntryRow). has_key person_id t.persons one.person ≡ true) t.entries
  writers = all_from_test (λ (one : EntryRow). has_key person_id t.persons one.person) t.entries (right _ _ (four _ _ _ _ _ rules.arrows))

  pub signers : AllByRecursion (λ (one : SignatureRow). has_key person_id t.persons one.person ≡ true) t.signatures
  signers = all_from_test (λ (one : SignatureRow). has_key person_id t.persons one.person) t.signatures (right _ _ (two _ _ _ rules.arrows))

-- of the versions of forms of a laboratory no two have one code and one number
then_apart : (first second : Ordering) (a b : ℕ) → (is_eq first && (a == b)) ≡ false → nat_cmp a b ≡ second → is_eq (ordering_then first second) ≡ false
then_apart Less second a b h e = refl
then_apart Equal second a b h e = sym (λ i. is_eq (e i)) ∙ grind (arith, nat_tests, h)
then_apart Greater second a b h e = refl

module _ {X : Type 0} (parent : X → ℤ) (text : X → List ℕ) (num : X → ℕ) (v : ℤ) where
  untie : (a b : X) → int_eq (parent a) v ≡ true → int_eq (parent b) v ≡ true
      → ((int_eq (parent a) (parent b) && bytes_eq (text a) (text b)) && (num a == num b)) ≡ false
      → is_eq (ordering_then (slice_cmp nat_cmp (text a) (text b)) (nat_cmp (num a) (num b))) ≡ false
  untie a b p q h =
      let parents : int_eq (parent a) (parent b) ≡ true = int_alike _ _ (same_int (parent a) v p ∙ sym (same_int (parent b) v q)) in
      let apart : (bytes_eq (text a) (text b) && (num a == num b)) ≡ false = rw parents at h in
      then_apart (slice_cmp nat_cmp (text a) (text b)) (nat_cmp (num a) (num b)) (num a) (num b)
      ((λ i. is_eq-slice_cmp (text a) (text b) i && (num a == num b)) ∙ apart) refl

  pub untied_forms : (xs : List X) → AreApart (λ a b. (int_eq (parent a) (parent b) && bytes_eq (text a) (text b)) && (num a == num b)) xs
      → IsAscending (λ a b. is_eq (ordering_then (slice_cmp nat_cmp (text a) (text b)) (nat_cmp (num a) (num b))) ≡ false) (filter (λ x. int_eq (parent x) v) xs)
  untied_forms xs apart =
      untied_found (λ a b. (int_eq (parent a) (parent b) && bytes_eq (text a) (text b)) && (num a == num b))
      (λ a b. is_eq (ordering_then (slice_cmp nat_cmp (text a) (text b)) (nat_cmp (num a) (num b)))) (λ x. int_eq (parent x) v) untie
      (filter (λ x. int_eq (parent x) v) xs) (ascending-filter _ (λ x. int_eq (parent x) v) xs apart) (passes_filter (λ x. int_eq (parent x) v) xs)

-- ---- ORDER BY a text, and a text and then a number

then_equal : (o : Ordering) → ordering_then o Equal ≡ o
then_equal Less = refl
then_equal Equal = refl
then_equal Greater = refl

pub by_text : (s t : List ℕ) → ordering_then (value_cmp (Text s) (Text t)) Equal ≡ slice_cmp nat_cmp s t
by_text s t = then_equal _ ∙ value_cmp-Text s t

pub by_text_number : (s t : List ℕ) (m n : ℕ)
    → ordering_then (value_cmp (Text s) (Text t)) (ordering_then (value_cmp (Int (pos m)) (Int (pos n))) Equal) ≡ ordering_then (slice_cmp nat_cmp s t) (nat_cmp m n)
by_text_number s t m n = ap₂ ordering_then (value_cmp-Text s t) (by_one m n)
