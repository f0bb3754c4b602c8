-- What the database's own rules say of the rows of our tables: no two rows have one key, and each arrow leads to a row.
-- A write leaves a database that obeys its rules, so no write has to be shown to keep these.
use Rattle.std.proofs.Common.{◌≡◌, inl, inr, ℕ, ℤ, pos, ◌<ℤ◌, Bool, true, false, not, ◌&&◌, ◌||◌, ◌==◌, List, [], ◌∷◌, map, Option, Some, None, refl, sym, ap, ap₂, ◌∙◌, subst, arith, int_eq, bytes_eq}
use Rattle.std.specs.List.{AllByRecursion, list_any}
use Rattle.std.proofs.lemmas.Int.{ints}
use Rattle.std.proofs.lemmas.Bool.{and_parts, and_from, eq-eqb, eqb-true}
use Rattle.sqlite_value.specs.declared.keys.Collation.TheVariants.{Binary}
use Rattle.sqlite_value.specs.declared.value.Value.TheVariants.{Int}
use Rattle.sqlite_value.specs.Order.{Row, column}
use Rattle.sqlite_value.specs.Keys.{plain, first_key, joined}
use Rattle.sqlite_trees.specs.Tree.{rowid}
use Rattle.sqlite_sql.specs.Ops.{binary, is_true, is_null}
use Rattle.sqlite_sql.specs.declared.ops.BinaryOp.TheVariants.{Compare}
use Rattle.sqlite_sql.specs.declared.ops.CompareOp.TheVariants.{Eq}
use Rattle.sqlite_schema.specs.declared.schema.Constraint.TheVariants.{Unique, ForeignKey}
use Rattle.sqlite_schema.specs.Names.{same_name}
use Rattle.sqlite_schema.specs.Rules.{Obeys, agree, differ, clashes, passes}
use Rattle.sqlite_rules.specs.Lists.{Has}
use Rattle.sqlite_rules.proofs.ListLemmas.{all_has, all_from, some_from}
use Rattle.sqlite_keyed.specs.Keyed.{IsKeyedBy}
use Rattle.sqlite_keyed.specs.Rules.{AreApart, has_parent}
use Rattle.sqlite_keyed.proofs.ListLemmas.{all_weaker, all_unmap, ascending_weaker, test_from_all}
use Rattle.sqlite_keyed.proofs.KeyedLemmas.{int_eq_apart, same_int}
use Rattle.sqlite_keyed.proofs.SliceLemmas.{any_is_found}
use Rattle.sqlite.specs.Effect.{Database}
use Rattle.lab_store_tables.specs.Schema as tables
use Rattle.lab_store_tables.specs.Schema.{lab_schema}
use Rattle.lab_store_tables.specs.Rows.{LabRow, PersonRow, SessionRow, FormRow, FieldRow, ChoiceRow, RecordRow, VersionRow, EntryRow, SignatureRow, TrailRow, Tables, tables_in, natural, optional, lab_id, person_id, session_id, form_id, field_id, choice_id, record_id, version_id, entry_id, signature_id, trail_id}
use Rattle.lab_store_tables.proofs.RowWords.{lab_row, person_row, session_row, form_row, field_row, choice_row, record_row, version_row, entry_row, signature_row, trail_row}
use Rattle.lab_store_tables.specs.Held.{AreRising, IsTyped}
use Rattle.lab_store_tables.specs.WellKept.{are_apart, same_lab, same_person, same_token, same_session, same_form, same_field, same_key, same_choice, same_record, same_sample, same_version, same_entry, same_signature, same_meaning, same_told, have_own_ids, are_ids_unique, are_keys_unique, have_parents, are_arrows_whole}
use Rattle.lab_store_tables.specs.Family.{Labs, Persons, Sessions, Forms, Fields, Choices, Records, Versions, Entries, Signatures, Trail}
use Rattle.lab_store_tables.proofs.Bridges.{test_from_apart}
use Rattle.lab_store_tables.proofs.Comparing.{equal_texts, equal_blobs, ids_differ, equal_ints}
use Rattle.lab_store_tables.proofs.LabLaws.{alike}

-- ---- values that are equal

and_true : (b : Bool) → (b && true) ≡ b
and_true true = refl
and_true false = refl

and_again : (a b c : Bool) → (a && (b && c)) ≡ (a && b && c)
and_again true b c = refl
and_again false b c = refl

bool_same : (a b : Bool) → (a ≡ true → b ≡ true) → (b ≡ true → a ≡ true) → a ≡ b
bool_same true b f g = sym (f refl)
bool_same false true f g = g refl
bool_same false false f g = refl

same_number : (a b : ℕ) → int_eq (pos a) (pos b) ≡ (a == b)
same_number a b = bool_same (int_eq (pos a) (pos b)) (a == b) (λ e. eq-eqb a b (ap natural (same_int (pos a) (pos b) e))) (λ e. alike (pos a) (pos b) (ap pos (eqb-true a b e)))

equal_numbers : (a b : ℕ) → is_true (binary (Compare Eq Binary) (Int (pos a)) (Int (pos b))) ≡ (a == b)
equal_numbers a b = equal_ints (pos a) (pos b) ∙ same_number a b

not_true : (b : Bool) → not b ≡ true → b ≡ false
not_true true h = absurd cc
not_true false h = refl

false_if : (b : Bool) → (b ≡ true → ⊥) → b ≡ false
false_if true h = absurd (h refl)
false_if false h = refl

-- ---- keys

has_map : {X Y : Type 0} (f : X → Y) (xs : List X) (x : X) → Has xs x → Has (map f xs) (f x)
has_map f [] x h = h
has_map f (y ∷ ys) x (inl h) = inl (ap f h)
has_map f (y ∷ ys) x (inr h) = inr (has_map f ys x h)

-- rows of a table whose rule says that none clashes with another
module _ {X : Type 0} (key : X → ℤ) (to_row : X → Row) (keyed : (x : X) → rowid (to_row x) ≡ Int (key x)) (clash : X → X → Bool) (places : List ℕ)
    (agrees : (a b : X) → agree plain places (to_row a) places (to_row b) ≡ clash a b) (xs : List X) (rise : IsKeyedBy key xs)
    (rule : AllByRecursion (λ row. clashes plain places (map to_row xs) row ≡ false) (map to_row xs)) where
  apart_two : (a b : X) → Has xs a → Has xs b → key a <ℤ key b → clash a b ≡ false
  apart_two a b ha hb low = false_if (clash a b) (λ yes.
      let other : differ (rowid (to_row a)) (rowid (to_row b)) ≡ true = ap₂ differ (keyed a) (keyed b) ∙ ids_differ (key a) (key b) low in
      let found : clashes plain places (map to_row xs) (to_row b) ≡ true =
      some_from (λ x. agree plain places x places (to_row b) && differ (rowid x) (rowid (to_row b))) (map to_row xs) (to_row a) (has_map to_row xs a ha) (and_from _ _ (agrees a b ∙ yes) other) in
      let wrong = all_has _ (map to_row xs) (to_row b) rule (has_map to_row xs b hb) in
      cc)

  apart_from : AreApart clash xs
  apart_from = go xs (λ y h. h) rise
    where
      go : (ys : List X) → ((y : X) → Has ys y → Has xs y) → IsKeyedBy key ys → AreApart clash ys
      go [] inside up = tt
      go (y ∷ ys) inside up = (all_from _ ys (λ z h. apart_two y z (inside y (inl refl)) (inside z (inr h)) (all_has _ ys z up.0 h)), go ys (λ z h. inside z (inr h)) up.1)

  pub unique_by_rule : are_apart clash xs ≡ true
  unique_by_rule = test_from_apart clash xs apart_from

first_rule : {X : Type 0} (p : X → Bool) (q : X → Bool) (xs : List X) → AllByRecursion (λ x. (not (p x) && q x) ≡ true) xs → AllByRecursion (λ x. p x ≡ false) xs
first_rule p q xs all = all_weaker (λ x. (not (p x) && q x) ≡ true) (λ x. p x ≡ false) (λ x h. not_true (p x) (and_parts (not (p x)) (q x) h).0) xs all

second_rule : {X : Type 0} (p q r : X → Bool) (xs : List X) → AllByRecursion (λ x. (not (p x) && (not (q x) && r x)) ≡ true) xs → AllByRecursion (λ x. q x ≡ false) xs
second_rule p q r xs all =
    all_weaker (λ x. (not (p x) && (not (q x) && r x)) ≡ true) (λ x. q x ≡ false)
    (λ x h. not_true (q x) (and_parts (not (q x)) (r x) (and_parts (not (p x)) (not (q x) && r x) h).1).0) xs all

-- ---- arrows

any_same : {X : Type 0} (p q : X → Bool) → ((x : X) → p x ≡ q x) → (xs : List X) → list_any p xs ≡ list_any q xs
any_same p q h [] = refl
any_same p q h (x ∷ xs) = ap₂ ◌||◌ (h x) (any_same p q h xs)

any_map : {X Y : Type 0} (p : Y → Bool) (f : X → Y) (xs : List X) → list_any p (map f xs) ≡ list_any (λ x. p (f x)) xs
any_map p f [] = refl
any_map p f (x ∷ xs) = ap (λ b. p (f x) || b) (any_map p f xs)

-- as the rule of an arrow asks for the parent of a row
abbrev is_at : ℤ → Row → Bool
is_at to parent = is_true (binary (Compare Eq Binary) (column parent 0) (Int to)) && true

module _ {P : Type 0} (id : P → ℤ) (to_row : P → Row) (keyed : (x : P) → column (to_row x) 0 ≡ Int (id x)) (tree : List Row) (parents : List P)
    (stored : tree ≡ map to_row parents) where
  given_parent : (to : ℤ) → list_any (is_at to) tree ≡ true → has_parent id parents (Some to) ≡ true
  given_parent to h =
      sym (any_is_found (λ p. int_eq (id p) to) parents)
      ∙ sym (any_same (λ x. is_at to (to_row x)) (λ x. int_eq (id x) to)
      (λ x. and_true _ ∙ ap (λ v. is_true (binary (Compare Eq Binary) v (Int to))) (keyed x) ∙ equal_ints (id x) to) parents)
      ∙ sym (any_map (is_at to) to_row parents) ∙ ap (list_any (is_at to)) (sym stored) ∙ h

  optional_parent : (to : Option ℤ)
      → ((is_null (optional Int to) || false)
      || list_any (λ parent. is_true (binary (Compare Eq Binary) (column parent 0) (optional Int to)) && true) tree) ≡ true
      → has_parent id parents to ≡ true
  optional_parent None h = refl
  optional_parent (Some to) h = given_parent to h

-- ---- ids

ids_apart : {X : Type 0} (id : X → ℤ) (rows : List X) → IsKeyedBy id rows → have_own_ids id rows ≡ true
ids_apart id rows rise =
    test_from_apart (λ one other. int_eq (id one) (id other)) rows
    (ascending_weaker (λ one other. id one <ℤ id other) (λ one other. int_eq (id one) (id other) ≡ false)
    (λ one other low. int_eq_apart (id one) (id other) (λ same. grind (arith, ints, low, same))) rows rise)

pub ids_by_order : (t : Tables) → AreRising t → are_ids_unique t ≡ true
ids_by_order t rise =
    and_from _ _ (and_from _ _ (and_from _ _ (and_from _ _ (and_from _ _ (and_from _ _ (and_from _ _ (and_from _ _ (and_from _ _ (and_from _ _ (ids_apart lab_id t.labs (rise.at Labs))
    (ids_apart person_id t.persons (rise.at Persons)))
    (ids_apart session_id t.sessions (rise.at Sessions)))
    (ids_apart form_id t.forms (rise.at Forms)))
    (ids_apart field_id t.fields (rise.at Fields)))
    (ids_apart choice_id t.choices (rise.at Choices)))
    (ids_apart record_id t.records (rise.at Records)))
    (ids_apart version_id t.versions (rise.at Versions)))
    (ids_apart entry_id t.entries (rise.at Entries)))
    (ids_apart signature_id t.signatures (rise.at Signatures)))
    (ids_apart trail_id t.trail (rise.at Trail))

-- ---- our tables

module _ (db : Database) (typed : IsTyped db) (obeys : Obeys lab_schema db.trees) where
  abbrev t : Tables
  t = tables_in db.trees

  same_lab_agrees : (a b : LabRow) → agree plain (2 ∷ []) (lab_row a) (2 ∷ []) (lab_row b) ≡ same_lab a b
  unfolding first_key
  same_lab_agrees a b = and_true _ ∙ equal_texts a.code b.code

  same_person_agrees : (a b : PersonRow) → agree plain (2 ∷ 3 ∷ []) (person_row a) (2 ∷ 3 ∷ []) (person_row b) ≡ same_person a b
  unfolding first_key
  same_person_agrees a b = ap₂ ◌&&◌ (equal_ints a.lab b.lab) (and_true _ ∙ equal_texts a.code b.code)

  same_token_agrees : (a b : SessionRow) → agree plain (2 ∷ 5 ∷ []) (session_row a) (2 ∷ 5 ∷ []) (session_row b) ≡ same_token a b
  unfolding first_key
  same_token_agrees a b = ap₂ ◌&&◌ (equal_ints a.lab b.lab) (and_true _ ∙ equal_blobs a.token b.token)

  same_session_agrees : (a b : SessionRow) → agree plain (2 ∷ 4 ∷ []) (session_row a) (2 ∷ 4 ∷ []) (session_row b) ≡ same_session a b
  unfolding first_key
  same_session_agrees a b = ap₂ ◌&&◌ (equal_ints a.lab b.lab) (and_true _ ∙ equal_numbers a.number b.number)

  same_form_agrees : (a b : FormRow) → agree plain (2 ∷ 3 ∷ 4 ∷ []) (form_row a) (2 ∷ 3 ∷ 4 ∷ []) (form_row b) ≡ same_form a b
  unfolding first_key
  same_form_agrees a b = ap₂ ◌&&◌ (equal_ints a.lab b.lab) (ap₂ ◌&&◌ (equal_texts a.code b.code) (and_true _ ∙ equal_numbers a.version b.version)) ∙ and_again (int_eq a.lab b.lab) (bytes_eq a.code b.code) (a.version == b.version)

  same_field_agrees : (a b : FieldRow) → agree plain (2 ∷ 3 ∷ []) (field_row a) (2 ∷ 3 ∷ []) (field_row b) ≡ same_field a b
  unfolding first_key
  same_field_agrees a b = ap₂ ◌&&◌ (equal_ints a.form b.form) (and_true _ ∙ equal_numbers a.place b.place)

  same_key_agrees : (a b : FieldRow) → agree plain (2 ∷ 4 ∷ []) (field_row a) (2 ∷ 4 ∷ []) (field_row b) ≡ same_key a b
  unfolding first_key
  same_key_agrees a b = ap₂ ◌&&◌ (equal_ints a.form b.form) (and_true _ ∙ equal_texts a.key b.key)

  same_choice_agrees : (a b : ChoiceRow) → agree plain (2 ∷ 3 ∷ []) (choice_row a) (2 ∷ 3 ∷ []) (choice_row b) ≡ same_choice a b
  unfolding first_key
  same_choice_agrees a b = ap₂ ◌&&◌ (equal_ints a.field b.field) (and_true _ ∙ equal_numbers a.place b.place)

  same_record_agrees : (a b : RecordRow) → agree plain (2 ∷ 3 ∷ []) (record_row a) (2 ∷ 3 ∷ []) (record_row b) ≡ same_record a b
  unfolding first_key
  same_record_agrees a b = ap₂ ◌&&◌ (equal_ints a.lab b.lab) (and_true _ ∙ equal_numbers a.number b.number)

  same_sample_agrees : (a b : RecordRow) → agree plain (2 ∷ 5 ∷ 6 ∷ []) (record_row a) (2 ∷ 5 ∷ 6 ∷ []) (record_row b) ≡ same_sample a b
  unfolding first_key
  same_sample_agrees a b = ap₂ ◌&&◌ (equal_ints a.lab b.lab) (ap₂ ◌&&◌ (equal_texts a.form_code b.form_code) (and_true _ ∙ equal_texts a.sample b.sample)) ∙ and_again (int_eq a.lab b.lab) (bytes_eq a.form_code b.form_code) (bytes_eq a.sample b.sample)

  same_version_agrees : (a b : VersionRow) → agree plain (2 ∷ 3 ∷ []) (version_row a) (2 ∷ 3 ∷ []) (version_row b) ≡ same_version a b
  unfolding first_key
  same_version_agrees a b = ap₂ ◌&&◌ (equal_ints a.kept b.kept) (and_true _ ∙ equal_numbers a.number b.number)

  same_entry_agrees : (a b : EntryRow) → agree plain (2 ∷ 3 ∷ []) (entry_row a) (2 ∷ 3 ∷ []) (entry_row b) ≡ same_entry a b
  unfolding first_key
  same_entry_agrees a b = ap₂ ◌&&◌ (equal_ints a.version b.version) (and_true _ ∙ equal_numbers a.place b.place)

  same_signature_agrees : (a b : SignatureRow) → agree plain (2 ∷ 3 ∷ []) (signature_row a) (2 ∷ 3 ∷ []) (signature_row b) ≡ same_signature a b
  unfolding first_key
  same_signature_agrees a b = ap₂ ◌&&◌ (equal_ints a.version b.version) (and_true _ ∙ equal_numbers a.place b.place)

  same_meaning_agrees : (a b : SignatureRow) → agree plain (2 ∷ 6 ∷ []) (signature_row a) (2 ∷ 6 ∷ []) (signature_row b) ≡ same_meaning a b
  unfolding first_key
  same_meaning_agrees a b = ap₂ ◌&&◌ (equal_ints a.version b.version) (and_true _ ∙ equal_texts a.meaning b.meaning)

  same_told_agrees : (a b : TrailRow) → agree plain (2 ∷ 3 ∷ []) (trail_row a) (2 ∷ 3 ∷ []) (trail_row b) ≡ same_told a b
  unfolding first_key
  same_told_agrees a b = ap₂ ◌&&◌ (equal_ints a.lab b.lab) (and_true _ ∙ equal_numbers a.number b.number)

  same_lab_unique : are_apart same_lab t.labs ≡ true
  same_lab_unique = unique_by_rule lab_id lab_row (λ _. refl) same_lab (2 ∷ []) same_lab_agrees t.labs (typed.rising.at Labs)
      (first_rule (λ row. clashes plain (2 ∷ []) (map lab_row t.labs) row) (λ row. true)
      (map lab_row t.labs) (subst (λ rows. AllByRecursion (λ row. (not (clashes plain (2 ∷ []) rows row) && true) ≡ true) rows) (typed.stored.at Labs) (obeys.rules Unique).1.0))

  same_person_unique : are_apart same_person t.persons ≡ true
  same_person_unique = unique_by_rule person_id person_row (λ _. refl) same_person (2 ∷ 3 ∷ []) same_person_agrees t.persons (typed.rising.at Persons)
      (first_rule (λ row. clashes plain (2 ∷ 3 ∷ []) (map person_row t.persons) row) (λ row. true)
      (map person_row t.persons) (subst (λ rows. AllByRecursion (λ row. (not (clashes plain (2 ∷ 3 ∷ []) rows row) && true) ≡ true) rows) (typed.stored.at Persons) (obeys.rules Unique).1.1.0))

  same_token_unique : are_apart same_token t.sessions ≡ true
  same_token_unique = unique_by_rule session_id session_row (λ _. refl) same_token (2 ∷ 5 ∷ []) same_token_agrees t.sessions (typed.rising.at Sessions)
      (first_rule (λ row. clashes plain (2 ∷ 5 ∷ []) (map session_row t.sessions) row) (λ row. not (clashes plain (2 ∷ 4 ∷ []) (map session_row t.sessions) row) && true)
      (map session_row t.sessions) (subst (λ rows. AllByRecursion (λ row. (not (clashes plain (2 ∷ 5 ∷ []) rows row) && (not (clashes plain (2 ∷ 4 ∷ []) rows row) && true)) ≡ true) rows) (typed.stored.at Sessions) (obeys.rules Unique).1.1.1.0))

  same_session_unique : are_apart same_session t.sessions ≡ true
  same_session_unique = unique_by_rule session_id session_row (λ _. refl) same_session (2 ∷ 4 ∷ []) same_session_agrees t.sessions (typed.rising.at Sessions)
      (second_rule (λ row. clashes plain (2 ∷ 5 ∷ []) (map session_row t.sessions) row) (λ row. clashes plain (2 ∷ 4 ∷ []) (map session_row t.sessions) row) (λ row. true)
      (map session_row t.sessions) (subst (λ rows. AllByRecursion (λ row. (not (clashes plain (2 ∷ 5 ∷ []) rows row) && (not (clashes plain (2 ∷ 4 ∷ []) rows row) && true)) ≡ true) rows) (typed.stored.at Sessions) (obeys.rules Unique).1.1.1.0))

  same_form_unique : are_apart same_form t.forms ≡ true
  same_form_unique = unique_by_rule form_id form_row (λ _. refl) same_form (2 ∷ 3 ∷ 4 ∷ []) same_form_agrees t.forms (typed.rising.at Forms)
      (first_rule (λ row. clashes plain (2 ∷ 3 ∷ 4 ∷ []) (map form_row t.forms) row) (λ row. true)
      (map form_row t.forms) (subst (λ rows. AllByRecursion (λ row. (not (clashes plain (2 ∷ 3 ∷ 4 ∷ []) rows row) && true) ≡ true) rows) (typed.stored.at Forms) (obeys.rules Unique).1.1.1.1.0))

  same_field_unique : are_apart same_field t.fields ≡ true
  same_field_unique = unique_by_rule field_id field_row (λ _. refl) same_field (2 ∷ 3 ∷ []) same_field_agrees t.fields (typed.rising.at Fields)
      (first_rule (λ row. clashes plain (2 ∷ 3 ∷ []) (map field_row t.fields) row) (λ row. not (clashes plain (2 ∷ 4 ∷ []) (map field_row t.fields) row) && true)
      (map field_row t.fields) (subst (λ rows. AllByRecursion (λ row. (not (clashes plain (2 ∷ 3 ∷ []) rows row) && (not (clashes plain (2 ∷ 4 ∷ []) rows row) && true)) ≡ true) rows) (typed.stored.at Fields) (obeys.rules Unique).1.1.1.1.1.0))

  same_key_unique : are_apart same_key t.fields ≡ true
  same_key_unique = unique_by_rule field_id field_row (λ _. refl) same_key (2 ∷ 4 ∷ []) same_key_agrees t.fields (typed.rising.at Fields)
      (second_rule (λ row. clashes plain (2 ∷ 3 ∷ []) (map field_row t.fields) row) (λ row. clashes plain (2 ∷ 4 ∷ []) (map field_row t.fields) row) (λ row. true)
      (map field_row t.fields) (subst (λ rows. AllByRecursion (λ row. (not (clashes plain (2 ∷ 3 ∷ []) rows row) && (not (clashes plain (2 ∷ 4 ∷ []) rows row) && true)) ≡ true) rows) (typed.stored.at Fields) (obeys.rules Unique).1.1.1.1.1.0))

  same_choice_unique : are_apart same_choice t.choices ≡ true
  same_choice_unique = unique_by_rule choice_id choice_row (λ _. refl) same_choice (2 ∷ 3 ∷ []) same_choice_agrees t.choices (typed.rising.at Choices)
      (first_rule (λ row. clashes plain (2 ∷ 3 ∷ []) (map choice_row t.choices) row) (λ row. true)
      (map choice_row t.choices) (subst (λ rows. AllByRecursion (λ row. (not (clashes plain (2 ∷ 3 ∷ []) rows row) && true) ≡ true) rows) (typed.stored.at Choices) (obeys.rules Unique).1.1.1.1.1.1.0))

  same_record_unique : are_apart same_record t.records ≡ true
  same_record_unique = unique_by_rule record_id record_row (λ _. refl) same_record (2 ∷ 3 ∷ []) same_record_agrees t.records (typed.rising.at Records)
      (first_rule (λ row. clashes plain (2 ∷ 3 ∷ []) (map record_row t.records) row) (λ row. not (clashes plain (2 ∷ 5 ∷ 6 ∷ []) (map record_row t.records) row) && true)
      (map record_row t.records) (subst (λ rows. AllByRecursion (λ row. (not (clashes plain (2 ∷ 3 ∷ []) rows row) && (not (clashes plain (2 ∷ 5 ∷ 6 ∷ []) rows row) && true)) ≡ true) rows) (typed.stored.at Records) (obeys.rules Unique).1.1.1.1.1.1.1.0))

  same_sample_unique : are_apart same_sample t.records ≡ true
  same_sample_unique = unique_by_rule record_id record_row (λ _. refl) same_sample (2 ∷ 5 ∷ 6 ∷ []) same_sample_agrees t.records (typed.rising.at Records)
      (second_rule (λ row. clashes plain (2 ∷ 3 ∷ []) (map record_row t.records) row) (λ row. clashes plain (2 ∷ 5 ∷ 6 ∷ []) (map record_row t.records) row) (λ row. true)
      (map record_row t.records) (subst (λ rows. AllByRecursion (λ row. (not (clashes plain (2 ∷ 3 ∷ []) rows row) && (not (clashes plain (2 ∷ 5 ∷ 6 ∷ []) rows row) && true)) ≡ true) rows) (typed.stored.at Records) (obeys.rules Unique).1.1.1.1.1.1.1.0))

  same_version_unique : are_apart same_version t.versions ≡ true
  same_version_unique = unique_by_rule version_id version_row (λ _. refl) same_version (2 ∷ 3 ∷ []) same_version_agrees t.versions (typed.rising.at Versions)
      (first_rule (λ row. clashes plain (2 ∷ 3 ∷ []) (map version_row t.versions) row) (λ row. true)
      (map version_row t.versions) (subst (λ rows. AllByRecursion (λ row. (not (clashes plain (2 ∷ 3 ∷ []) rows row) && true) ≡ true) rows) (typed.stored.at Versions) (obeys.rules Unique).1.1.1.1.1.1.1.1.0))

  same_entry_unique : are_apart same_entry t.entries ≡ true
  same_entry_unique = unique_by_rule entry_id entry_row (λ _. refl) same_entry (2 ∷ 3 ∷ []) same_entry_agrees t.entries (typed.rising.at Entries)
      (first_rule (λ row. clashes plain (2 ∷ 3 ∷ []) (map entry_row t.entries) row) (λ row. true)
      (map entry_row t.entries) (subst (λ rows. AllByRecursion (λ row. (not (clashes plain (2 ∷ 3 ∷ []) rows row) && true) ≡ true) rows) (typed.stored.at Entries) (obeys.rules Unique).1.1.1.1.1.1.1.1.1.0))

  same_signature_unique : are_apart same_signature t.signatures ≡ true
  same_signature_unique = unique_by_rule signature_id signature_row (λ _. refl) same_signature (2 ∷ 3 ∷ []) same_signature_agrees t.signatures (typed.rising.at Signatures)
      (first_rule (λ row. clashes plain (2 ∷ 3 ∷ []) (map signature_row t.signatures) row) (λ row. not (clashes plain (2 ∷ 6 ∷ []) (map signature_row t.signatures) row) && true)
      (map signature_row t.signatures) (subst (λ rows. AllByRecursion (λ row. (not (clashes plain (2 ∷ 3 ∷ []) rows row) && (not (clashes plain (2 ∷ 6 ∷ []) rows row) && true)) ≡ true) rows) (typed.stored.at Signatures) (obeys.rules Unique).1.1.1.1.1.1.1.1.1.1.0))

  same_meaning_unique : are_apart same_meaning t.signatures ≡ true
  same_meaning_unique = unique_by_rule signature_id signature_row (λ _. refl) same_meaning (2 ∷ 6 ∷ []) same_meaning_agrees t.signatures (typed.rising.at Signatures)
      (second_rule (λ row. clashes plain (2 ∷ 3 ∷ []) (map signature_row t.signatures) row) (λ row. clashes plain (2 ∷ 6 ∷ []) (map signature_row t.signatures) row) (λ row. true)
      (map signature_row t.signatures) (subst (λ rows. AllByRecursion (λ row. (not (clashes plain (2 ∷ 3 ∷ []) rows row) && (not (clashes plain (2 ∷ 6 ∷ []) rows row) && true)) ≡ true) rows) (typed.stored.at Signatures) (obeys.rules Unique).1.1.1.1.1.1.1.1.1.1.0))

  same_told_unique : are_apart same_told t.trail ≡ true
  same_told_unique = unique_by_rule trail_id trail_row (λ _. refl) same_told (2 ∷ 3 ∷ []) same_told_agrees t.trail (typed.rising.at Trail)
      (first_rule (λ row. clashes plain (2 ∷ 3 ∷ []) (map trail_row t.trail) row) (λ row. true)
      (map trail_row t.trail) (subst (λ rows. AllByRecursion (λ row. (not (clashes plain (2 ∷ 3 ∷ []) rows row) && true) ≡ true) rows) (typed.stored.at Trail) (obeys.rules Unique).1.1.1.1.1.1.1.1.1.1.1.0))

  -- no two rows have one key
  pub keys_by_rules : are_keys_unique t ≡ true
  keys_by_rules =
      and_from _ _ (and_from _ _ (and_from _ _ (and_from _ _ (and_from _ _ (and_from _ _ (and_from _ _ (and_from _ _ (and_from _ _ (and_from _ _ (and_from _ _ (and_from _ _ (and_from _ _ (and_from _ _ (same_lab_unique)
      (same_person_unique))
      (same_token_unique))
      (same_session_unique))
      (same_form_unique))
      (same_field_unique))
      (same_key_unique))
      (same_choice_unique))
      (same_record_unique))
      (same_sample_unique))
      (same_version_unique))
      (same_entry_unique))
      (same_signature_unique))
      (same_meaning_unique))
      (same_told_unique)

  persons_refer : AllByRecursion (λ (one : PersonRow). passes ForeignKey lab_schema db.trees tables.persons (person_row one) ≡ true) t.persons
  persons_refer = all_unmap (λ row. passes ForeignKey lab_schema db.trees tables.persons row ≡ true) person_row t.persons
      (subst (AllByRecursion (λ row. passes ForeignKey lab_schema db.trees tables.persons row ≡ true)) (typed.stored.at Persons) (obeys.rules ForeignKey).1.1.0)

  persons_lab_leads : have_parents (λ (one : PersonRow). Some one.lab) lab_id t.labs t.persons ≡ true
  unfolding first_key joined same_name
  persons_lab_leads = test_from_all (λ (one : PersonRow). has_parent lab_id t.labs (Some one.lab)) t.persons
      (all_weaker (λ (one : PersonRow). passes ForeignKey lab_schema db.trees tables.persons (person_row one) ≡ true) (λ (one : PersonRow). has_parent lab_id t.labs (Some one.lab) ≡ true)
      (λ one h. given_parent lab_id lab_row (λ _. refl) (db.trees 1) t.labs (typed.stored.at Labs) one.lab (and_parts _ _ h).0) t.persons persons_refer)

  persons_asker_leads : have_parents (λ (one : PersonRow). one.ask.asker) person_id t.persons t.persons ≡ true
  unfolding first_key joined same_name
  persons_asker_leads = test_from_all (λ (one : PersonRow). has_parent person_id t.persons (one.ask.asker)) t.persons
      (all_weaker (λ (one : PersonRow). passes ForeignKey lab_schema db.trees tables.persons (person_row one) ≡ true) (λ (one : PersonRow). has_parent person_id t.persons (one.ask.asker) ≡ true)
      (λ one h. optional_parent person_id person_row (λ _. refl) (db.trees 3) t.persons (typed.stored.at Persons) one.ask.asker (and_parts _ _ (and_parts _ _ h).1).0) t.persons persons_refer)

  sessions_refer : AllByRecursion (λ (one : SessionRow). passes ForeignKey lab_schema db.trees tables.sessions (session_row one) ≡ true) t.sessions
  sessions_refer = all_unmap (λ row. passes ForeignKey lab_schema db.trees tables.sessions row ≡ true) session_row t.sessions
      (subst (AllByRecursion (λ row. passes ForeignKey lab_schema db.trees tables.sessions row ≡ true)) (typed.stored.at Sessions) (obeys.rules ForeignKey).1.1.1.0)

  sessions_lab_leads : have_parents (λ (one : SessionRow). Some one.lab) lab_id t.labs t.sessions ≡ true
  unfolding first_key joined same_name
  sessions_lab_leads = test_from_all (λ (one : SessionRow). has_parent lab_id t.labs (Some one.lab)) t.sessions
      (all_weaker (λ (one : SessionRow). passes ForeignKey lab_schema db.trees tables.sessions (session_row one) ≡ true) (λ (one : SessionRow). has_parent lab_id t.labs (Some one.lab) ≡ true)
      (λ one h. given_parent lab_id lab_row (λ _. refl) (db.trees 1) t.labs (typed.stored.at Labs) one.lab (and_parts _ _ h).0) t.sessions sessions_refer)

  sessions_person_leads : have_parents (λ (one : SessionRow). Some one.person) person_id t.persons t.sessions ≡ true
  unfolding first_key joined same_name
  sessions_person_leads = test_from_all (λ (one : SessionRow). has_parent person_id t.persons (Some one.person)) t.sessions
      (all_weaker (λ (one : SessionRow). passes ForeignKey lab_schema db.trees tables.sessions (session_row one) ≡ true) (λ (one : SessionRow). has_parent person_id t.persons (Some one.person) ≡ true)
      (λ one h. given_parent person_id person_row (λ _. refl) (db.trees 3) t.persons (typed.stored.at Persons) one.person (and_parts _ _ (and_parts _ _ h).1).0) t.sessions sessions_refer)

  forms_refer : AllByRecursion (λ (one : FormRow). passes ForeignKey lab_schema db.trees tables.forms (form_row one) ≡ true) t.forms
  forms_refer = all_unmap (λ row. passes ForeignKey lab_schema db.trees tables.forms row ≡ true) form_row t.forms
      (subst (AllByRecursion (λ row. passes ForeignKey lab_schema db.trees tables.forms row ≡ true)) (typed.stored.at Forms) (obeys.rules ForeignKey).1.1.1.1.0)

  forms_lab_leads : have_parents (λ (one : FormRow). Some one.lab) lab_id t.labs t.forms ≡ true
  unfolding first_key joined same_name
  forms_lab_leads = test_from_all (λ (one : FormRow). has_parent lab_id t.labs (Some one.lab)) t.forms
      (all_weaker (λ (one : FormRow). passes ForeignKey lab_schema db.trees tables.forms (form_row one) ≡ true) (λ (one : FormRow). has_parent lab_id t.labs (Some one.lab) ≡ true)
      (λ one h. given_parent lab_id lab_row (λ _. refl) (db.trees 1) t.labs (typed.stored.at Labs) one.lab (and_parts _ _ h).0) t.forms forms_refer)

  fields_refer : AllByRecursion (λ (one : FieldRow). passes ForeignKey lab_schema db.trees tables.fields (field_row one) ≡ true) t.fields
  fields_refer = all_unmap (λ row. passes ForeignKey lab_schema db.trees tables.fields row ≡ true) field_row t.fields
      (subst (AllByRecursion (λ row. passes ForeignKey lab_schema db.trees tables.fields row ≡ true)) (typed.stored.at Fields) (obeys.rules ForeignKey).1.1.1.1.1.0)

  fields_form_leads : have_parents (λ (one : FieldRow). Some one.form) form_id t.forms t.fields ≡ true
  unfolding first_key joined same_name
  fields_form_leads = test_from_all (λ (one : FieldRow). has_parent form_id t.forms (Some one.form)) t.fields
      (all_weaker (λ (one : FieldRow). passes ForeignKey lab_schema db.trees tables.fields (field_row one) ≡ true) (λ (one : FieldRow). has_parent form_id t.forms (Some one.form) ≡ true)
      (λ one h. given_parent form_id form_row (λ _. refl) (db.trees 8) t.forms (typed.stored.at Forms) one.form (and_parts _ _ h).0) t.fields fields_refer)

  choices_refer : AllByRecursion (λ (one : ChoiceRow). passes ForeignKey lab_schema db.trees tables.choices (choice_row one) ≡ true) t.choices
  choices_refer = all_unmap (λ row. passes ForeignKey lab_schema db.trees tables.choices row ≡ true) choice_row t.choices
      (subst (AllByRecursion (λ row. passes ForeignKey lab_schema db.trees tables.choices row ≡ true)) (typed.stored.at Choices) (obeys.rules ForeignKey).1.1.1.1.1.1.0)

  choices_field_leads : have_parents (λ (one : ChoiceRow). Some one.field) field_id t.fields t.choices ≡ true
  unfolding first_key joined same_name
  choices_field_leads = test_from_all (λ (one : ChoiceRow). has_parent field_id t.fields (Some one.field)) t.choices
      (all_weaker (λ (one : ChoiceRow). passes ForeignKey lab_schema db.trees tables.choices (choice_row one) ≡ true) (λ (one : ChoiceRow). has_parent field_id t.fields (Some one.field) ≡ true)
      (λ one h. given_parent field_id field_row (λ _. refl) (db.trees 10) t.fields (typed.stored.at Fields) one.field (and_parts _ _ h).0) t.choices choices_refer)

  records_refer : AllByRecursion (λ (one : RecordRow). passes ForeignKey lab_schema db.trees tables.records (record_row one) ≡ true) t.records
  records_refer = all_unmap (λ row. passes ForeignKey lab_schema db.trees tables.records row ≡ true) record_row t.records
      (subst (AllByRecursion (λ row. passes ForeignKey lab_schema db.trees tables.records row ≡ true)) (typed.stored.at Records) (obeys.rules ForeignKey).1.1.1.1.1.1.1.0)

  records_lab_leads : have_parents (λ (one : RecordRow). Some one.lab) lab_id t.labs t.records ≡ true
  unfolding first_key joined same_name
  records_lab_leads = test_from_all (λ (one : RecordRow). has_parent lab_id t.labs (Some one.lab)) t.records
      (all_weaker (λ (one : RecordRow). passes ForeignKey lab_schema db.trees tables.records (record_row one) ≡ true) (λ (one : RecordRow). has_parent lab_id t.labs (Some one.lab) ≡ true)
      (λ one h. given_parent lab_id lab_row (λ _. refl) (db.trees 1) t.labs (typed.stored.at Labs) one.lab (and_parts _ _ h).0) t.records records_refer)

  records_form_leads : have_parents (λ (one : RecordRow). Some one.form) form_id t.forms t.records ≡ true
  unfolding first_key joined same_name
  records_form_leads = test_from_all (λ (one : RecordRow). has_parent form_id t.forms (Some one.form)) t.records
      (all_weaker (λ (one : RecordRow). passes ForeignKey lab_schema db.trees tables.records (record_row one) ≡ true) (λ (one : RecordRow). has_parent form_id t.forms (Some one.form) ≡ true)
      (λ one h. given_parent form_id form_row (λ _. refl) (db.trees 8) t.forms (typed.stored.at Forms) one.form (and_parts _ _ (and_parts _ _ h).1).0) t.records records_refer)

  versions_refer : AllByRecursion (λ (one : VersionRow). passes ForeignKey lab_schema db.trees tables.versions (version_row one) ≡ true) t.versions
  versions_refer = all_unmap (λ row. passes ForeignKey lab_schema db.trees tables.versions row ≡ true) version_row t.versions
      (subst (AllByRecursion (λ row. passes ForeignKey lab_schema db.trees tables.versions row ≡ true)) (typed.stored.at Versions) (obeys.rules ForeignKey).1.1.1.1.1.1.1.1.0)

  versions_kept_leads : have_parents (λ (one : VersionRow). Some one.kept) record_id t.records t.versions ≡ true
  unfolding first_key joined same_name
  versions_kept_leads = test_from_all (λ (one : VersionRow). has_parent record_id t.records (Some one.kept)) t.versions
      (all_weaker (λ (one : VersionRow). passes ForeignKey lab_schema db.trees tables.versions (version_row one) ≡ true) (λ (one : VersionRow). has_parent record_id t.records (Some one.kept) ≡ true)
      (λ one h. given_parent record_id record_row (λ _. refl) (db.trees 15) t.records (typed.stored.at Records) one.kept (and_parts _ _ h).0) t.versions versions_refer)

  versions_opener_leads : have_parents (λ (one : VersionRow). Some one.opener) person_id t.persons t.versions ≡ true
  unfolding first_key joined same_name
  versions_opener_leads = test_from_all (λ (one : VersionRow). has_parent person_id t.persons (Some one.opener)) t.versions
      (all_weaker (λ (one : VersionRow). passes ForeignKey lab_schema db.trees tables.versions (version_row one) ≡ true) (λ (one : VersionRow). has_parent person_id t.persons (Some one.opener) ≡ true)
      (λ one h. given_parent person_id person_row (λ _. refl) (db.trees 3) t.persons (typed.stored.at Persons) one.opener (and_parts _ _ (and_parts _ _ h).1).0) t.versions versions_refer)

  entries_refer : AllByRecursion (λ (one : EntryRow). passes ForeignKey lab_schema db.trees tables.entries (entry_row one) ≡ true) t.entries
  entries_refer = all_unmap (λ row. passes ForeignKey lab_schema db.trees tables.entries row ≡ true) entry_row t.entries
      (subst (AllByRecursion (λ row. passes ForeignKey lab_schema db.trees tables.entries row ≡ true)) (typed.stored.at Entries) (obeys.rules ForeignKey).1.1.1.1.1.1.1.1.1.0)

  entries_version_leads : have_parents (λ (one : EntryRow). Some one.version) version_id t.versions t.entries ≡ true
  unfolding first_key joined same_name
  entries_version_leads = test_from_all (λ (one : EntryRow). has_parent version_id t.versions (Some one.version)) t.entries
      (all_weaker (λ (one : EntryRow). passes ForeignKey lab_schema db.trees tables.entries (entry_row one) ≡ true) (λ (one : EntryRow). has_parent version_id t.versions (Some one.version) ≡ true)
      (λ one h. given_parent version_id version_row (λ _. refl) (db.trees 18) t.versions (typed.stored.at Versions) one.version (and_parts _ _ h).0) t.entries entries_refer)

  entries_person_leads : have_parents (λ (one : EntryRow). Some one.person) person_id t.persons t.entries ≡ true
  unfolding first_key joined same_name
  entries_person_leads = test_from_all (λ (one : EntryRow). has_parent person_id t.persons (Some one.person)) t.entries
      (all_weaker (λ (one : EntryRow). passes ForeignKey lab_schema db.trees tables.entries (entry_row one) ≡ true) (λ (one : EntryRow). has_parent person_id t.persons (Some one.person) ≡ true)
      (λ one h. given_parent person_id person_row (λ _. refl) (db.trees 3) t.persons (typed.stored.at Persons) one.person (and_parts _ _ (and_parts _ _ h).1).0) t.entries entries_refer)

  signatures_refer : AllByRecursion (λ (one : SignatureRow). passes ForeignKey lab_schema db.trees tables.signatures (signature_row one) ≡ true) t.signatures
  signatures_refer = all_unmap (λ row. passes ForeignKey lab_schema db.trees tables.signatures row ≡ true) signature_row t.signatures
      (subst (AllByRecursion (λ row. passes ForeignKey lab_schema db.trees tables.signatures row ≡ true)) (typed.stored.at Signatures) (obeys.rules ForeignKey).1.1.1.1.1.1.1.1.1.1.0)

  signatures_version_leads : have_parents (λ (one : SignatureRow). Some one.version) version_id t.versions t.signatures ≡ true
  unfolding first_key joined same_name
  signatures_version_leads = test_from_all (λ (one : SignatureRow). has_parent version_id t.versions (Some one.version)) t.signatures
      (all_weaker (λ (one : SignatureRow). passes ForeignKey lab_schema db.trees tables.signatures (signature_row one) ≡ true) (λ (one : SignatureRow). has_parent version_id t.versions (Some one.version) ≡ true)
      (λ one h. given_parent version_id version_row (λ _. refl) (db.trees 18) t.versions (typed.stored.at Versions) one.version (and_parts _ _ h).0) t.signatures signatures_refer)

  signatures_person_leads : have_parents (λ (one : SignatureRow). Some one.person) person_id t.persons t.signatures ≡ true
  unfolding first_key joined same_name
  signatures_person_leads = test_from_all (λ (one : SignatureRow). has_parent person_id t.persons (Some one.person)) t.signatures
      (all_weaker (λ (one : SignatureRow). passes ForeignKey lab_schema db.trees tables.signatures (signature_row one) ≡ true) (λ (one : SignatureRow). has_parent person_id t.persons (Some one.person) ≡ true)
      (λ one h. given_parent person_id person_row (λ _. refl) (db.trees 3) t.persons (typed.stored.at Persons) one.person (and_parts _ _ (and_parts _ _ h).1).0) t.signatures signatures_refer)

  trail_refer : AllByRecursion (λ (one : TrailRow). passes ForeignKey lab_schema db.trees tables.trail (trail_row one) ≡ true) t.trail
  trail_refer = all_unmap (λ row. passes ForeignKey lab_schema db.trees tables.trail row ≡ true) trail_row t.trail
      (subst (AllByRecursion (λ row. passes ForeignKey lab_schema db.trees tables.trail row ≡ true)) (typed.stored.at Trail) (obeys.rules ForeignKey).1.1.1.1.1.1.1.1.1.1.1.0)

  trail_lab_leads : have_parents (λ (one : TrailRow). Some one.lab) lab_id t.labs t.trail ≡ true
  unfolding first_key joined same_name
  trail_lab_leads = test_from_all (λ (one : TrailRow). has_parent lab_id t.labs (Some one.lab)) t.trail
      (all_weaker (λ (one : TrailRow). passes ForeignKey lab_schema db.trees tables.trail (trail_row one) ≡ true) (λ (one : TrailRow). has_parent lab_id t.labs (Some one.lab) ≡ true)
      (λ one h. given_parent lab_id lab_row (λ _. refl) (db.trees 1) t.labs (typed.stored.at Labs) one.lab (and_parts _ _ h).0) t.trail trail_refer)

  trail_person_leads : have_parents (λ (one : TrailRow). one.person) person_id t.persons t.trail ≡ true
  unfolding first_key joined same_name
  trail_person_leads = test_from_all (λ (one : TrailRow). has_parent person_id t.persons (one.person)) t.trail
      (all_weaker (λ (one : TrailRow). passes ForeignKey lab_schema db.trees tables.trail (trail_row one) ≡ true) (λ (one : TrailRow). has_parent person_id t.persons (one.person) ≡ true)
      (λ one h. optional_parent person_id person_row (λ _. refl) (db.trees 3) t.persons (typed.stored.at Persons) one.person (and_parts _ _ (and_parts _ _ h).1).0) t.trail trail_refer)

  -- each arrow leads to a row
  pub arrows_by_rules : are_arrows_whole t ≡ true
  arrows_by_rules =
      and_from _ _ (and_from _ _ (and_from _ _ (and_from _ _ (and_from _ _ (and_from _ _ (and_from _ _ (and_from _ _ (and_from _ _ (and_from _ _ (and_from _ _ (and_from _ _ (and_from _ _ (and_from _ _ (and_from _ _ (and_from _ _ (persons_lab_leads)
      (persons_asker_leads))
      (sessions_lab_leads))
      (sessions_person_leads))
      (forms_lab_leads))
      (fields_form_leads))
      (choices_field_leads))
      (records_lab_leads))
      (records_form_leads))
      (versions_kept_leads))
      (versions_opener_leads))
      (entries_version_leads))
      (entries_person_leads))
      (signatures_version_leads))
      (signatures_person_leads))
      (trail_lab_leads))
      (trail_person_leads)
