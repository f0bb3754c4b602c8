-- What a test of a file that comes out true says of its rows.
use Rattle.std.proofs.Common.{◌≡◌, ℤ, ◌<ℤ◌, Bool, true, false, ◌&&◌, List, [], ◌∷◌, map, IsTrue, refl, ap, Ordering, Less, Equal, Greater, int_cmp}
use Rattle.std.specs.List.{list_all, AllByRecursion}
use Rattle.std.proofs.lemmas.Bool.{and_parts}
use Rattle.sqlite_keyed.specs.Keyed.{IsKeyedBy}
use Rattle.sqlite_keyed.proofs.ListLemmas.{all_from_test, all_weaker}
use Rattle.sqlite_keyed.proofs.KeyedLemmas.{lt_from_Less}
use Rattle.lab_store_tables.specs.Rows.{PersonRow, FieldRow, SignatureRow, TrailRow, Tables}
use Rattle.lab_store_tables.specs.Columns.{roles_in, roles_sum, password_in, password_columns, kind_in, kind_columns, meaning_in, reason_column, action_in}
use Rattle.lab_store_tables.specs.WellKept.{are_ids_unique, are_keys_unique, are_arrows_whole, are_labs_apart, are_all_numbered, is_said_alike, is_desk, are_columns_whole, IsWellKept}
use Rattle.lab_seal_versions.specs.Seals.{meaning_word}
use Rattle.lab_records_kept.specs.Trails.{action_word}

-- ---- ids that rise

abbrev pub is_less : Ordering → Bool
is_less Less = true
is_less Equal = false
is_less Greater = false

abbrev pub are_rising : {X : Type 0} → (X → ℤ) → List X → Bool
are_rising id [] = true
are_rising id (one ∷ others) =
    list_all (λ other. is_less (int_cmp (id one) (id other))) others && are_rising id others

less_is : (order : Ordering) → is_less order ≡ true → order ≡ Less
less_is Less holds = refl
less_is Equal holds = absurd cc
less_is Greater holds = absurd cc

pub keyed_from_test : {X : Type 0} (id : X → ℤ) (rows : List X) → are_rising id rows ≡ true → IsKeyedBy id rows
keyed_from_test id [] holds = tt
keyed_from_test id (one ∷ others) holds =
    let both = and_parts (list_all (λ other. is_less (int_cmp (id one) (id other))) others) (are_rising id others) holds in (
      all_weaker (λ other. is_less (int_cmp (id one) (id other)) ≡ true) (λ other. id one <ℤ id other) (λ other h. lt_from_Less (id one) (id other) (less_is (int_cmp (id one) (id other)) h))
          others (all_from_test (λ other. is_less (int_cmp (id one) (id other))) others both.0),
      keyed_from_test id others both.1,
    )

-- ---- columns that are written as they are read

abbrev head_or : {Y : Type 0} → Y → List Y → Y
head_or none [] = none
head_or none (y ∷ ys) = y

abbrev tail_of : {Y : Type 0} → List Y → List Y
tail_of [] = []
tail_of (y ∷ ys) = ys

pub all_alike : {X Y : Type 0} (f g : X → Y) (rows : List X) → map f rows ≡ map g rows → AllByRecursion (λ one. f one ≡ g one) rows
all_alike f g [] same = tt
all_alike f g (one ∷ others) same = (ap (head_or (f one)) same, all_alike f g others (ap tail_of same))

-- a file is well kept where its tests come out true, and its columns come out as they stand
pub kept_by_tests : (t : Tables) → IsTrue (is_desk t.desk) → IsTrue (are_ids_unique t) → IsTrue (are_keys_unique t)
    → IsTrue (are_arrows_whole t) → IsTrue (are_labs_apart t) → IsTrue (are_all_numbered t) → IsTrue (is_said_alike t)
    → IsTrue (are_columns_whole t)
    → map (λ (one : PersonRow). roles_sum (roles_in one.roles)) t.persons ≡ map (λ (one : PersonRow). one.roles) t.persons
    → map (λ (one : PersonRow). password_columns (password_in one.password)) t.persons
    ≡ map (λ (one : PersonRow). one.password) t.persons
    → map (λ (one : FieldRow). kind_columns (kind_in one.kind [])) t.fields ≡ map (λ (one : FieldRow). one.kind) t.fields
    → map (λ (one : SignatureRow). meaning_word (meaning_in one.meaning one.reason)) t.signatures
    ≡ map (λ (one : SignatureRow). one.meaning) t.signatures
    → map (λ (one : SignatureRow). reason_column (meaning_in one.meaning one.reason)) t.signatures
    ≡ map (λ (one : SignatureRow). one.reason) t.signatures
    → map (λ (one : TrailRow). action_word (action_in one.action)) t.trail ≡ map (λ (one : TrailRow). one.action) t.trail
    → IsWellKept t
kept_by_tests t desk ids keys arrows labs_apart numbered alike columns roles passwords kinds meanings reasons actions =
    record {
      desk = desk;
      rows = record {
        ids = ids;
        keys = keys;
        arrows = arrows;
        labs_apart = labs_apart;
        numbered = numbered;
        alike = alike;
        columns = columns;
        persons = both _ _ t.persons (all_alike _ _ t.persons roles) (all_alike _ _ t.persons passwords);
        fields = all_alike _ _ t.fields kinds;
        signatures = both _ _ t.signatures (all_alike _ _ t.signatures meanings) (all_alike _ _ t.signatures reasons);
        trail = all_alike _ _ t.trail actions;
      };
    }
  where
    both : {X : Type 0} (P Q : X → Type 0) (rows : List X) → AllByRecursion P rows → AllByRecursion Q rows → AllByRecursion (λ one. P one × Q one) rows
    both P Q [] p q = tt
    both P Q (one ∷ others) p q = ((p.0, q.0), both P Q others p.1 q.1)
