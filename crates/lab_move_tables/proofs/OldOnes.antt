-- What every row has that stands for one of an older schema, among those of one parent too.
use Rattle.std.proofs.Common.{◌≡◌, ℤ, Bool, false, List, [], ◌∷◌, map, filter, option_map, refl, ap₂, subst, int_eq, Ordering}
use Rattle.std.specs.List.{AllByRecursion}
use Rattle.sqlite_value.specs.declared.value.Value.{Value}
use Rattle.sqlite_value.specs.declared.value.Value.TheVariants.{Null, Int, Real, Text, Blob}
use Rattle.sqlite_value.specs.Order.{Row, column}
use Rattle.sqlite_keyed.specs.Lists.{sort_by}
use Rattle.sqlite_keyed.proofs.ListLemmas.{all_map, all_of, all-filter}
use Rattle.lab_store_tables.proofs.SortLaws.{all_sorted}
use Rattle.lab_store_tables.specs.Rows.{PersonRow, FormRow, VersionRow, EntryRow, SignatureRow, Tables, optional}
use Rattle.lab_store_tables.specs.Meaning.{by_code, by_form, by_version, by_entry, by_signature}
use Rattle.lab_move_tables.specs.declared.older.Older.{Older}
use Rattle.lab_move_tables.specs.declared.older.Older.TheVariants.{Two}
use Rattle.lab_move_tables.specs.OldRows.{old_tables, old_rounds, beside, reason_in}
use Rattle.lab_store_tables.specs.Family.{Persons, Forms, Versions, Entries, Signatures, from_by}
use Rattle.lab_move_tables.specs.Olders.{layout_of}
use Rattle.lab_move_tables.specs.Standing.{AreLifted}
use Rattle.lab_move_tables.specs.Owned.{own_persons, own_forms, own_versions, own_entries, own_signatures}

own_all : {X : Type 0} (P : X → Type 0) (from : Row → X) → ((row : Row) → P (from row)) → (rows : List Row) (mine : X → Bool) (cmp : X → X → Ordering)
    → AllByRecursion P (sort_by cmp (filter mine (map from rows)))
own_all P from each rows mine cmp = all_sorted cmp P _ (all-filter P mine _ (all_map P from rows (all_of (λ row. P (from row)) each rows)))

-- what is read of a reason is read of it again
reason_twice : (value : Value) → reason_in (optional Text (reason_in value)) ≡ reason_in value
reason_twice Null = refl
reason_twice (Int n) = refl
reason_twice (Real x) = refl
reason_twice (Text []) = refl
reason_twice (Text (first ∷ others)) = refl
reason_twice (Blob []) = refl
reason_twice (Blob (first ∷ others)) = refl

pub record IsPersonOfTwo (one : PersonRow) : Type 0 where
  pub rounds2 : beside one.password.salt2 one.password.rounds ≡ one.password.rounds2
  pub ask_rounds : option_map (λ _. old_rounds) one.ask.asker ≡ one.ask.rounds

pub record IsVersionOfTwo (one : VersionRow) : Type 0 where
  pub format : one.format ≡ 1
  pub reason : reason_in (optional Text one.reason) ≡ one.reason

abbrev pub IsFormOfTwo : FormRow → Type 0
IsFormOfTwo one = one.approval ≡ false

abbrev pub IsOldEntry : EntryRow → Type 0
IsOldEntry one = reason_in (optional Text one.reason) ≡ one.reason

abbrev pub IsOldSignature : SignatureRow → Type 0
IsOldSignature one = reason_in (optional Text one.reason) ≡ one.reason

-- ---- of each older schema

abbrev pub IsOldPerson : Older → PersonRow → Type 0
IsOldPerson Two = IsPersonOfTwo

abbrev pub IsOldForm : Older → FormRow → Type 0
IsOldForm Two = IsFormOfTwo

abbrev pub IsOldVersion : Older → VersionRow → Type 0
IsOldVersion Two = IsVersionOfTwo

person_is : (older : Older) (row : Row) → IsOldPerson older (from_by (layout_of older) Persons row)
person_is Two row = record { rounds2 = refl; ask_rounds = refl }

form_is : (older : Older) (row : Row) → IsOldForm older (from_by (layout_of older) Forms row)
form_is Two row = refl

version_is : (older : Older) (row : Row) → IsOldVersion older (from_by (layout_of older) Versions row)
version_is Two row = record { format = refl; reason = reason_twice (column row 6) }

entry_is : (older : Older) (row : Row) → IsOldEntry (from_by (layout_of older) Entries row)
entry_is Two row = reason_twice (column row 9)

signature_is : (older : Older) (row : Row) → IsOldSignature (from_by (layout_of older) Signatures row)
signature_is Two row = reason_twice (column row 8)

module _ (older : Older) (t : Tables) (of : AreLifted older t) where
  -- a fact on rows that are read of old ones
  lifted_so : (P : Tables → Type 0) → P (old_tables older of.0) → P t
  lifted_so P it = subst P of.1 it

  pub old_persons : (lab : ℤ) → AllByRecursion (IsOldPerson older) (own_persons t lab)
  old_persons lab =
      lifted_so (λ t. AllByRecursion (IsOldPerson older) (own_persons t lab))
      (own_all (IsOldPerson older) (from_by (layout_of older) Persons) (person_is older) (of.0 (layout_of older Persons).sheet.tree) (λ one. int_eq one.lab lab) by_code)

  pub old_forms : (lab : ℤ) → AllByRecursion (IsOldForm older) (own_forms t lab)
  old_forms lab =
      lifted_so (λ t. AllByRecursion (IsOldForm older) (own_forms t lab))
      (own_all (IsOldForm older) (from_by (layout_of older) Forms) (form_is older) (of.0 (layout_of older Forms).sheet.tree) (λ one. int_eq one.lab lab) by_form)

  pub old_versions : (kept : ℤ) → AllByRecursion (IsOldVersion older) (own_versions t kept)
  old_versions kept =
      lifted_so (λ t. AllByRecursion (IsOldVersion older) (own_versions t kept))
      (own_all (IsOldVersion older) (from_by (layout_of older) Versions) (version_is older) (of.0 (layout_of older Versions).sheet.tree) (λ one. int_eq one.kept kept) by_version)

  pub old_entries : (version : ℤ) → AllByRecursion IsOldEntry (own_entries t version)
  old_entries version =
      lifted_so (λ t. AllByRecursion IsOldEntry (own_entries t version))
      (own_all IsOldEntry (from_by (layout_of older) Entries) (entry_is older) (of.0 (layout_of older Entries).sheet.tree) (λ one. int_eq one.version version) by_entry)

  pub old_signatures : (version : ℤ) → AllByRecursion IsOldSignature (own_signatures t version)
  old_signatures version =
      lifted_so (λ t. AllByRecursion IsOldSignature (own_signatures t version))
      (own_all IsOldSignature (from_by (layout_of older) Signatures) (signature_is older) (of.0 (layout_of older Signatures).sheet.tree) (λ one. int_eq one.version version) by_signature)

-- what is made of each, where each is as it is
pub all_same : {X Y : Type 0} (P : X → Type 0) (f g : X → Y) → ((x : X) → P x → f x ≡ g x) → (xs : List X) → AllByRecursion P xs → map f xs ≡ map g xs
all_same P f g same [] all = refl
all_same P f g same (x ∷ xs) all = ap₂ ◌∷◌ (same x all.0) (all_same P f g same xs all.1)
