-- What was read of records, versions, entries and signatures, as what the tables have, and what was tried of them.
use Rattle.std.proofs.Common.{◌≡◌, ◌≤◌, ℕ, ℤ, Bool, true, false, ◌&&◌, ◌==◌, nat_le, cond, List, [], ◌∷◌, map, filter, find, length, slice_get, Option, Some, None, option_map, option_and_then, unwrap_or, refl, sym, ap, ap₂, ◌∙◌, int_eq, bytes_eq, arith, is_some}
use Rattle.std.specs.Prelude.{if◌then◌else◌}
use Rattle.std.specs.List.{list_all}
use Rattle.std.specs.Option.{option_map_or}
use Rattle.std.proofs.lemmas.Bool.{and_parts}
use Rattle.std.proofs.lemmas.Bool.Decides.{nat_tests}
use Rattle.std.proofs.lemmas.List.{length-map}
use Rattle.sqlite_value.specs.Order.{Row, column}
use Rattle.sqlite_keyed.specs.Keyed.{IsKeyedBy, get_by}
use Rattle.sqlite_keyed.proofs.ListLemmas.{slice_get-filter, map-map, map_same, filter_same, all_from_test}
use Rattle.sqlite_keyed.proofs.RuleLemmas.{at_most_one}
use Rattle.lab_records_kept.specs.declared.records.FormVersion.{FormVersion}
use Rattle.lab_store_tables.specs.Rows.{FormRow, RecordRow, VersionRow, EntryRow, SignatureRow, Tables, form_id, number_in}
use Rattle.lab_store_tables.specs.Columns.{meaning_in}
use Rattle.lab_store_tables.specs.WellKept.{lab_of_form, is_same, names_its_form}
use Rattle.lab_store_tables.specs.Meaning.{entry_in, entries_of, signature_in, signatures_of, leaves_of, form_in, form_at, record_in, records_of, by_form}
use Rattle.lab_store_tables.proofs.LastForm.{form_total}
use Rattle.lab_store_read.proofs.Finds.{found_alone}
use Rattle.lab_store_read.proofs.Lists.{both_filtered}
use Rattle.lab_store_read_records.specs.declared.heads.RecordHead.{RecordHead}
use Rattle.lab_store_read_records.specs.Heads.{record_head}
use Rattle.lab_store_read_records.specs.Shown.{record_head_of}
use Rattle.lab_store_read_forms.specs.Wholes.{record_with}
use Rattle.lab_move_tables.specs.declared.older.Older.{Older}
use Rattle.lab_move_tables.specs.declared.older.Older.TheVariants.{Two}
use Rattle.lab_move_tables.specs.Standing.{AreLifted}
use Rattle.lab_move_tables.specs.Owned.{own_records, own_versions, own_entries, own_signatures, lab_of}
use Rattle.lab_move_tables.specs.KeptLabs.{run, are_kept_entries, are_kept_signatures, is_kept_version, are_so_many, are_kept_versions, is_kept_record, are_so_many_records, are_kept_records}
use Rattle.lab_move_tables.specs.Shown.{record_shown, records_shown, version_shown, versions_shown, entry_shown, entries_shown, entry_place_shown, entry_places_shown, signature_shown, signatures_shown, signature_place_shown, signature_places_shown}
use Rattle.lab_move_tables.specs.Checks.{are_owned}
use Rattle.lab_move_tables.specs.Showing.{said_at}
use Rattle.lab_store_read_forms.specs.declared.heads.FormAt.{FormAt}
use Rattle.lab_move_read.specs.declared.heads.VersionHead.{VersionHead}
use Rattle.lab_move_read_people.specs.Kept.{are_counted}
use Rattle.lab_move_read.specs.Forms.{form_of, form_at_in, forms_at_of, form_among}
use Rattle.lab_move_read.specs.Private.Records.{entry_read, signature_read, version_head, version_heads_of, leaf_by, is_kept_leaf}
use Rattle.lab_move_read.specs.Records.{version_read, named_form, is_kept_record_head, record_by, record_heads_of, are_kept_records_by, records_by}
use Rattle.lab_move_read.proofs.SaidRows.{entry_said, signature_said, version_said, counted_said, owned_said}
use Rattle.lab_move_read_people.proofs.Numbered.{counted_is, owned_is, list_all-map}
use Rattle.lab_move_tables.proofs.OldOnes.{IsOldVersion, old_versions, old_entries, old_signatures, all_same}

-- ---- entries and signatures

same_number : (n : ℕ) → (n == n) ≡ true
same_number n = grind (arith, nat_tests)

-- as many are shown as there are places
counted_by : {X : Type 0} (show place : X → Row) (at : ℕ) (number : X → ℕ) → ((x : X) → number_in (column (show x) at) ≡ number x) → (xs : List X)
    → are_counted at (length (map place xs)) (map show xs) ≡ run number xs
counted_by show place at number is xs =
    counted_is show at (length (map place xs)) number is xs
    ∙ ap (λ b. b && run number xs) (ap (λ n. length xs == n) (length-map xs place) ∙ same_number (length xs))

entries_done : (older : Older) (t : Tables) → AreLifted older t → (lab version : ℤ)
    → ((are_counted 6 (length (entry_places_shown t version)) (entries_shown t version) && are_owned 7 lab (entries_shown t version)) ≡ are_kept_entries t lab version)
    × (map entry_read (entries_shown t version) ≡ entries_of t version)
entries_done older t of lab version =
    let own = own_entries t version in (
      ap₂ ◌&&◌ (counted_by (entry_shown t) entry_place_shown 6 (λ (one : EntryRow). one.place) (λ one. refl) own)
          (owned_is (entry_shown t) 7 lab (λ (one : EntryRow). lab_of t one.person) (λ one. refl) own),
      map-map entry_read (entry_shown t) own
          ∙ all_same _ (λ one. entry_read (entry_shown t one)) (entry_in t) (λ one old. λ i. record (entry_in t one) { reason = old i }) own (old_entries older t of version),
    )

signatures_done : (older : Older) (t : Tables) → AreLifted older t → (lab version : ℤ)
    → ((are_counted 7 (length (signature_places_shown t version)) (signatures_shown t version) && are_owned 8 lab (signatures_shown t version)) ≡ are_kept_signatures t lab version)
    × (map signature_read (signatures_shown t version) ≡ signatures_of t version)
signatures_done older t of lab version =
    let own = own_signatures t version in (
      ap₂ ◌&&◌ (counted_by (signature_shown t) signature_place_shown 7 (λ (one : SignatureRow). one.place) (λ one. refl) own)
          (owned_is (signature_shown t) 8 lab (λ (one : SignatureRow). lab_of t one.person) (λ one. refl) own),
      map-map signature_read (signature_shown t) own
          ∙ all_same _ (λ one. signature_read (signature_shown t one)) (signature_in t) (λ one old. λ i. record (signature_in t one) { meaning = meaning_in one.meaning (old i) }) own (old_signatures older t of version),
    )

-- as the rows of a file show them, with NULL or an empty text for no reason
pub entries_shown_so : (older : Older) (t : Tables) → AreLifted older t → (lab version : ℤ) (rows places : List Row) → map (said_at 5) rows ≡ entries_shown t version → places ≡ entry_places_shown t version
    → ((are_counted 6 (length places) rows && are_owned 7 lab rows) ≡ are_kept_entries t lab version) × (map entry_read rows ≡ entries_of t version)
entries_shown_so older t of lab version rows places shown placed =
    let done = entries_done older t of lab version in (
      sym (ap₂ ◌&&◌ (counted_said 5 6 (λ e. cc) (length places) rows) (owned_said 5 7 (λ e. cc) lab rows))
          ∙ ap₂ (λ l n. are_counted 6 n l && are_owned 7 lab l) shown (ap length placed) ∙ done.0,
      sym (map-map entry_read (said_at 5) rows ∙ map_same _ _ entry_said rows) ∙ ap (map entry_read) shown ∙ done.1,
    )

pub signatures_shown_so : (older : Older) (t : Tables) → AreLifted older t → (lab version : ℤ) (rows places : List Row) → map (said_at 3) rows ≡ signatures_shown t version → places ≡ signature_places_shown t version
    → ((are_counted 7 (length places) rows && are_owned 8 lab rows) ≡ are_kept_signatures t lab version) × (map signature_read rows ≡ signatures_of t version)
signatures_shown_so older t of lab version rows places shown placed =
    let done = signatures_done older t of lab version in (
      sym (ap₂ ◌&&◌ (counted_said 3 7 (λ e. cc) (length places) rows) (owned_said 3 8 (λ e. cc) lab rows))
          ∙ ap₂ (λ l n. are_counted 7 n l && are_owned 8 lab l) shown (ap length placed) ∙ done.0,
      sym (map-map signature_read (said_at 3) rows ∙ map_same _ _ signature_said rows) ∙ ap (map signature_read) shown ∙ done.1,
    )

-- ---- versions

version_back : (older : Older) (t : Tables) (one : VersionRow) → IsOldVersion older one → version_read older (version_shown older t one) ≡ version_head t one
version_back Two t one old = λ i. record (version_head t one) { format = sym old.format i; reason = old.reason i }

version_number : (older : Older) (t : Tables) (one : VersionRow) → number_in (column (version_shown older t one) 1) ≡ one.number
version_number Two t one = refl

pub versions_found : (older : Older) (t : Tables) → AreLifted older t → (kept : ℤ) (count : ℕ)
    → (are_counted 1 count (versions_shown older t kept) ≡ are_so_many t kept count) × (map (version_read older) (versions_shown older t kept) ≡ version_heads_of t kept)
versions_found older t of kept count =
    let own = own_versions t kept in (
      counted_is (version_shown older t) 1 count (λ (one : VersionRow). one.number) (version_number older t) own,
      map-map (version_read older) (version_shown older t) own
          ∙ all_same (IsOldVersion older) (λ one. version_read older (version_shown older t one)) (version_head t) (version_back older t) own (old_versions older t of kept),
    )

pub versions_shown_so : (older : Older) (t : Tables) → AreLifted older t → (kept : ℤ) (count : ℕ) (rows : List Row) → map (said_at 4) rows ≡ versions_shown older t kept
    → (are_counted 1 count rows ≡ are_so_many t kept count) × (map (version_read older) rows ≡ version_heads_of t kept)
versions_shown_so older t of kept count rows shown =
    let found = versions_found older t of kept count in (
      sym (counted_said 4 1 (λ e. cc) count rows) ∙ ap (are_counted 1 count) shown ∙ found.0,
      sym (map-map (version_read older) (said_at 4) rows ∙ map_same _ _ (version_said older) rows) ∙ ap (map (version_read older)) shown ∙ found.1,
    )

pub leaves_done : (t : Tables) (lab kept : ℤ) (count : ℕ) (heads : List VersionHead) → are_so_many t kept count ≡ true → heads ≡ version_heads_of t kept
    → (list_all (is_kept_leaf t lab) heads ≡ are_kept_versions t lab kept count) × (map (leaf_by t) heads ≡ leaves_of t kept)
leaves_done t lab kept count heads passes is =
    let own = own_versions t kept in (
      ap (list_all (is_kept_leaf t lab)) is ∙ list_all-map (is_kept_leaf t lab) (version_head t) own ∙ ap (λ b. b && list_all (is_kept_version t lab) own) (sym passes),
      ap (map (leaf_by t)) is ∙ map-map (leaf_by t) (version_head t) own,
    )

-- ---- the form of a record

pub record_is : (t : Tables) (code : List ℕ) (forms : List FormAt) (head : RecordHead) (form : FormVersion) → Some form ≡ named_form forms head
    → record_with code head form (leaves_of t head.id) ≡ record_by t code forms head
record_is t code forms head form is =
    let none : FormVersion = record { code = []; version = 0; form = record { fields = []; approval = false } } in
    ap (λ o. record_with code head (unwrap_or o none) (leaves_of t head.id)) is

abbrev some_if : {A : Type 0} → Bool → A → Option A
some_if b one = if b then Some one else None

and_turned : (a b : Bool) → (a && b) ≡ (b && a)
and_turned true true = refl
and_turned true false = refl
and_turned false true = refl
and_turned false false = refl

-- of rows of which one at most passes a test, the one that passes another test too
module _ {X : Type 0} (mine q : X → Bool) where
  abbrev if_mine : X → Option X
  if_mine x = some_if (mine x) x

  narrow : (those : List X) (o : Option X) → slice_get those 0 ≡ o → length those ≤ 1 → slice_get (filter mine those) 0 ≡ option_and_then if_mine o
  narrow [] o e short = rw (sym e) refl
  narrow (x ∷ []) o e short = rw (sym e) (go (mine x))
    where
      go : (b : Bool) → slice_get (cond b (x ∷ []) []) 0 ≡ some_if b x
      go true = refl
      go false = refl
  narrow (x ∷ y ∷ more) o e short = absurd (omega arith)

  found_mine : (xs : List X) → length (filter q xs) ≤ 1 → find (λ x. mine x && q x) xs ≡ option_and_then if_mine (find q xs)
  found_mine xs short =
      sym (slice_get-filter (λ x. mine x && q x) xs)
      ∙ ap (λ l. slice_get l 0) (filter_same (λ x. mine x && q x) (λ x. q x && mine x) (λ x. and_turned (mine x) (q x)) xs ∙ sym (both_filtered q mine xs))
      ∙ narrow (filter q xs) (find q xs) (slice_get-filter q xs) short

is_kept_some : {A : Type 0} (c : Bool) (one : A) → is_some (some_if c one) ≡ c
is_kept_some true one = refl
is_kept_some false one = refl

kept_one : {A : Type 0} (c : Bool) (one other : A) → is_some (some_if c one) ≡ true → unwrap_or (some_if c one) other ≡ one
kept_one true one other e = refl
kept_one false one other e = absurd cc

module _ (t : Tables) (rise : IsKeyedBy form_id t.forms) (lab : ℤ) where
  abbrev theirs : FormRow → Bool
  theirs one = int_eq one.lab lab

  abbrev if_theirs : FormRow → Option FormRow
  if_theirs one = some_if (theirs one) one

  among_is : (id : ℤ) → form_among (forms_at_of t lab) id ≡ option_map form_of (option_map (form_at_in t) (option_and_then if_theirs (get_by form_id t.forms id)))
  among_is id =
      let q = λ (one : FormRow). int_eq one.id id in
      let few = at_most_one form_id id (λ one. theirs one && q one) (λ one h. (and_parts _ _ h).1) t.forms rise in
      let short = at_most_one form_id id q (λ one h. h) t.forms rise in
      ap (option_map form_of) (found_alone by_form form_total theirs (form_at_in t) (λ (one : FormAt). int_eq one.id id) t.forms few
      ∙ ap (option_map (form_at_in t)) (found_mine theirs q t.forms short))

  abbrev no_form : FormVersion
  no_form = record { code = []; version = 0; form = record { fields = []; approval = false } }

  abbrev named : List ℕ → Option FormRow → Option FormVersion
  named code o = option_and_then (λ (form : FormVersion). some_if (bytes_eq form.code code) form) (option_map form_of (option_map (form_at_in t) (option_and_then if_theirs o)))

  is_named : (code : List ℕ) (o : Option FormRow)
      → is_some (named code o) ≡ (is_same (option_map (λ (one : FormRow). one.lab) o) (Some lab) && option_map_or (λ (one : FormRow). bytes_eq one.code code) o false)
  is_named code None = refl
  is_named code (Some one) = go (int_eq one.lab lab)
    where
      go : (b : Bool) → is_some (option_and_then (λ (form : FormVersion). some_if (bytes_eq form.code code) form) (option_map form_of (option_map (form_at_in t) (some_if b one))))
          ≡ (b && bytes_eq one.code code)
      go true = is_kept_some (bytes_eq one.code code) (form_in t one)
      go false = refl

  named_one : (code : List ℕ) (o : Option FormRow) → is_some (named code o) ≡ true → unwrap_or (named code o) no_form ≡ unwrap_or (option_map (form_in t) o) no_form
  named_one code None h = absurd cc
  named_one code (Some one) h = go (int_eq one.lab lab) h
    where
      go : (b : Bool) → is_some (option_and_then (λ (form : FormVersion). some_if (bytes_eq form.code code) form) (option_map form_of (option_map (form_at_in t) (some_if b one)))) ≡ true
          → unwrap_or (option_and_then (λ (form : FormVersion). some_if (bytes_eq form.code code) form) (option_map form_of (option_map (form_at_in t) (some_if b one)))) no_form ≡ form_in t one
      go true e = kept_one (bytes_eq one.code code) (form_in t one) no_form e
      go false e = absurd cc

  form_named : (one : RecordRow) → is_some (named_form (forms_at_of t lab) (record_head one)) ≡ (is_same (lab_of_form t one.form) (Some lab) && names_its_form t one)
  form_named one =
      ap (λ o. is_some (option_and_then (λ (form : FormVersion). some_if (bytes_eq form.code one.form_code) form) o)) (among_is one.form) ∙ is_named one.form_code (get_by form_id t.forms one.form)

  form_is : (one : RecordRow) → is_some (named_form (forms_at_of t lab) (record_head one)) ≡ true → unwrap_or (named_form (forms_at_of t lab) (record_head one)) no_form ≡ form_at t one.form
  form_is one h =
      let e = ap (option_and_then (λ (form : FormVersion). some_if (bytes_eq form.code one.form_code) form)) (among_is one.form) in
      ap (λ o. unwrap_or o no_form) e ∙ named_one one.form_code (get_by form_id t.forms one.form) (sym (ap (λ (o : Option FormVersion). is_some o) e) ∙ h)

  record_kept : (one : RecordRow) → is_kept_record_head t lab (forms_at_of t lab) (record_head one) ≡ is_kept_record t lab one
  record_kept one = ap (λ b. b && nat_le 1 one.current && are_kept_versions t lab one.id one.current) (form_named one)

  record_built : (code : List ℕ) (one : RecordRow) → is_kept_record_head t lab (forms_at_of t lab) (record_head one) ≡ true
      → record_by t code (forms_at_of t lab) (record_head one) ≡ record_in t code one
  record_built code one h =
      let named : is_some (named_form (forms_at_of t lab) (record_head one)) ≡ true = (and_parts _ _ (and_parts _ _ h).0).0 in
      ap (λ form. record_with code (record_head one) form (leaves_of t one.id)) (form_is one named)

  tests_alike : (xs : List RecordRow) → list_all (λ one. is_kept_record_head t lab (forms_at_of t lab) (record_head one)) xs ≡ list_all (is_kept_record t lab) xs
  tests_alike [] = refl
  tests_alike (one ∷ others) = ap₂ ◌&&◌ (record_kept one) (tests_alike others)

  -- by the laboratory's own forms, the records are the laboratory's
  pub records_kept : (count : ℕ) → are_kept_records_by t lab (forms_at_of t lab) count ≡ are_kept_records t lab count
  records_kept count =
      let own = own_records t lab in
      ap (λ b. are_so_many_records t lab count && b) (list_all-map (is_kept_record_head t lab (forms_at_of t lab)) record_head own ∙ tests_alike own)

  pub records_are : (code : List ℕ) (count : ℕ) → are_kept_records_by t lab (forms_at_of t lab) count ≡ true → records_by t lab code (forms_at_of t lab) ≡ records_of t code lab
  records_are code count h =
      let own = own_records t lab in
      let forms = forms_at_of t lab in
      let each = (and_parts _ _ h).1 in
      let all = all_from_test (λ one. is_kept_record_head t lab forms (record_head one)) own (sym (list_all-map (is_kept_record_head t lab forms) record_head own) ∙ each) in
      map-map (record_by t code forms) record_head own
      ∙ all_same (λ one. is_kept_record_head t lab forms (record_head one) ≡ true) (λ one. record_by t code forms (record_head one)) (record_in t code) (record_built code) own all

-- ---- records

pub record_rows_done : (t : Tables) (lab : ℤ) (count : ℕ) (rows : List Row) → rows ≡ records_shown t lab → (are_counted 1 count rows ≡ are_so_many_records t lab count) × (map record_head_of rows ≡ record_heads_of t lab)
record_rows_done t lab count rows is =
    let own = own_records t lab in (
      ap (are_counted 1 count) is ∙ counted_is record_shown 1 count (λ (one : RecordRow). one.number) (λ one. refl) own,
      ap (map record_head_of) is ∙ map-map record_head_of record_shown own,
    )

pub records_done : (t : Tables) (lab : ℤ) (code : List ℕ) (forms : List FormAt) (count : ℕ) (heads : List RecordHead) → are_so_many_records t lab count ≡ true → heads ≡ record_heads_of t lab
    → (list_all (is_kept_record_head t lab forms) heads ≡ are_kept_records_by t lab forms count) × (map (record_by t code forms) heads ≡ records_by t lab code forms)
records_done t lab code forms count heads passes is = (
  ap (list_all (is_kept_record_head t lab forms)) is ∙ ap (λ b. b && list_all (is_kept_record_head t lab forms) (record_heads_of t lab)) (sym passes),
  ap (map (record_by t code forms)) is,
)
