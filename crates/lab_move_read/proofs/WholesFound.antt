-- What was read of a laboratory, as the one that the tables mean.
use Rattle.std.proofs.Common.{◌≡◌, ℕ, Bool, true, false, ◌&&◌, List, find, Option, Some, None, option_map, Result, Ok, Err, refl, sym, ap, ◌∙◌, subst}
use Rattle.std.specs.Prelude.{IfErr, IsErrAnd}
use Rattle.sqlite_keyed.specs.Keyed.{IsKeyedBy}
use Rattle.sqlite.specs.Effect.{Database}
use Rattle.sqlite.specs.State.{State, HasCleanDisk}
use Rattle.lab_forms_texts.specs.declared.refusals.Fault.{Fault}
use Rattle.lab_forms_texts.specs.declared.refusals.Fault.TheVariants.{Refused, Memory}
use Rattle.lab_records_keeper.specs.declared.faults.BadStore.{BadStore}
use Rattle.lab_records_kept.specs.declared.labs.Lab.{Lab}
use Rattle.lab_store_tables.specs.Rows.{LabRow, Tables, form_id}
use Rattle.lab_store_tables.specs.Meaning.{has_code, records_of}
use Rattle.lab_store_read_records.specs.declared.heads.LabHead.{LabHead}
use Rattle.lab_store_read_records.specs.Heads.{lab_head}
use Rattle.lab_move_tables.specs.KeptLabs.{are_kept_forms, are_kept_records, is_kept_trail, is_kept_lab}
use Rattle.lab_move_tables.specs.Reading.{ReadsWhere}
use Rattle.lab_move_tables.proofs.Wheres.{where_both, where_fail}
use Rattle.lab_move_read_people.specs.Kept.{TriesWhere}
use Rattle.lab_store_read_forms.specs.declared.heads.FormAt.{FormAt}
use Rattle.lab_move_read.specs.Forms.{forms_at_of}
use Rattle.lab_move_read.specs.Records.{are_kept_records_by, records_by}
use Rattle.lab_move_read.proofs.RecordsFound.{records_are, records_kept}
use Rattle.lab_move_read_people.specs.declared.faults.KeptFault.{KeptFault}
use Rattle.lab_move_read_people.specs.declared.faults.KeptFault.TheVariants.{NotKept, Storage, Memory as NoMemory}
use Rattle.lab_move_read_people.specs.Faults.{kept_fault}
use Rattle.lab_move_read.specs.Laboratories.{head_of, IsLabOfRow, IsLabOf, IsRowUnkept, IsUnkept}
use Rattle.lab_move_read.specs.Private.Laboratories.{are_kept_people, is_kept_head, lab_by}

and_moved : (a b c : Bool) → (a && (b && c)) ≡ ((a && b) && c)
and_moved true b c = refl
and_moved false b c = refl

kept_alike : (t : Tables) (row : LabRow) → is_kept_head t (lab_head row) ≡ is_kept_lab t row
kept_alike t row =
    ap (λ b. b && is_kept_trail t row.id row.trail) (and_moved (are_kept_people t (lab_head row)) (are_kept_forms t row.id) (are_kept_records t row.id row.records))

-- ---- records, by the forms that were read

module _ (t : Tables) (rise : IsKeyedBy form_id t.forms) (head : LabHead) (forms : List FormAt) (is : forms ≡ forms_at_of t head.id) where
  pub records_tried : are_kept_records_by t head.id forms head.records ≡ are_kept_records t head.id head.records
  records_tried = ap (λ l. are_kept_records_by t head.id l head.records) is ∙ records_kept t rise head.id head.records

  pub records_made : are_kept_records_by t head.id forms head.records ≡ true → records_by t head.id head.code forms ≡ records_of t head.code head.id
  records_made h =
      ap (records_by t head.id head.code) is
      ∙ records_are t rise head.id head.code head.records (sym (ap (λ l. are_kept_records_by t head.id l head.records) is) ∙ h)

-- ---- what a reading answers

-- there is none of the code
pub no_lab : (t : Tables) (code : List ℕ) → None ≡ head_of t code → IsLabOf t code None
no_lab t code h = go (find (has_code code) t.labs) h
  where
    go : (o : Option LabRow) → None ≡ option_map lab_head o → IsLabOfRow t o None
    go None e = refl
    go (Some row) e = absurd cc

-- where nothing was read, no rows are found wanting
told_apart : (fault : Fault BadStore) → kept_fault fault ≡ NotKept → ⊥
told_apart (Refused refusal) told = cc
told_apart Memory told = cc

pub not_told : {A : Type 0} (P : Type 0) (end : Result A KeptFault) (fault : Fault BadStore) → IsErrAnd end (λ e. e ≡ kept_fault fault) → IfErr end (λ e. e ≡ NotKept → P)
not_told P (Ok a) fault failed = absurd failed
not_told P (Err e) fault failed = λ told. absurd (told_apart fault (sym failed ∙ told))

-- two answers, one after the other
pub both_read : {Stands Readable Needed : Database → Tables → Type 0} {A B E F : Type 0} {IsTold : E → Type 0} {IsTold2 : F → Type 0} {Was : Tables → A → Type 0} {Is : Tables → B → Type 0} {old mid new : State} {a : A} {b : B}
    → ReadsWhere Stands Readable IsTold Was old mid (Ok a) → ReadsWhere Stands Needed IsTold2 Is mid new (Ok b)
    → ReadsWhere Stands (λ _ _. Unit {0}) {T = Unit {0}} {E = ⊥} (λ _. ⊥) (λ t _. Was t a × Is t b) old new (Ok tt)
both_read first next = where_both first next (λ t file was is. (was, is)) (λ t file wanted was is. tt)

-- the laboratory of a row that was read isn't well kept, the store failed, or memory ran out
pub whole_fails : {Stands Readable Needed Wanted : Database → Tables → Type 0} {A B C E : Type 0} {IsTold : E → Type 0} {is : Tables → Bool} {Was : Tables → A → Type 0} {Is : Tables → B → Type 0} {Then : Tables → C → Type 0} {old mid new : State} {a : A}
    → ReadsWhere Stands Readable IsTold Was old mid (Ok a) → (fault : KeptFault) → TriesWhere Stands Needed is Is mid new (Err fault)
    → ((t : Tables) → Stands old.now t → Wanted old.now t → Was t a → Needed old.now t)
    → (end : Result C KeptFault) → IsErrAnd end (λ e. e ≡ fault) → ReadsWhere Stands Wanted (λ told. told ≡ Storage) Then old new end
whole_fails first fault it g (Ok c) failed = absurd failed
whole_fails {Stands} {Readable} {Needed} {Wanted} {C = C} {is = is} {Is = Is} {Then = Then} {old} {mid} {new} first fault it g (Err e) failed =
    subst (λ (that : KeptFault). ReadsWhere Stands Wanted {T = C} (λ told. told ≡ Storage) Then old new (Err that)) (sym failed) (go fault it)
  where
    go : (that : KeptFault) → TriesWhere Stands Needed is Is mid new (Err that) → ReadsWhere Stands Wanted {T = C} (λ told. told ≡ Storage) Then old new (Err that)
    go NotKept it = where_both first it (λ t file was is. tt) (λ t file wanted was is told. absurd cc)
    go Storage it = where_fail first it (λ told. told) g
    go NoMemory it = where_fail first it (λ told. told) g

-- there is one
module _ (t : Tables) (code : List ℕ) (head : LabHead) (is : Some head ≡ head_of t code) where
  pub lab_is : (lab : Lab) → is_kept_head t head ≡ true → lab ≡ lab_by t head → IsLabOf t code (Some lab)
  lab_is lab passes value = go (find (has_code code) t.labs) is
    where
      go : (o : Option LabRow) → Some head ≡ option_map lab_head o → IsLabOfRow t o (Some lab)
      go None e = absurd cc
      go (Some row) e =
          let same : head ≡ lab_head row = cc in (
            ap Some (value ∙ ap (lab_by t) same),
            sym (ap (is_kept_head t) same ∙ kept_alike t row) ∙ passes,
          )

  lab_unkept : is_kept_head t head ≡ false → IsUnkept t code
  lab_unkept fails = go (find (has_code code) t.labs) is
    where
      go : (o : Option LabRow) → Some head ≡ option_map lab_head o → IsRowUnkept t o
      go None e = absurd cc
      go (Some row) e =
          let same : head ≡ lab_head row = cc in
          sym (ap (is_kept_head t) same ∙ kept_alike t row) ∙ fails

-- its rows aren't well kept
pub unkept_told : {Stands Readable Needed : Database → Tables → Type 0} {A B E : Type 0} {IsTold : E → Type 0} {P : Tables → B → Type 0} {old mid new : State} {o : Option LabHead} (code : List ℕ) (head : LabHead) → o ≡ Some head
    → ReadsWhere Stands Readable {E = E} IsTold (λ t it. it ≡ head_of t code) old mid (Ok o) → (fault : KeptFault) → TriesWhere Stands Needed (λ t. is_kept_head t head) P mid new (Err fault)
    → (end : Result A KeptFault) → IsErrAnd end (λ e. e ≡ fault) → (t : Tables) → Stands old.now t → HasCleanDisk new → IfErr end (λ e. e ≡ NotKept → IsUnkept t code)
unkept_told code head some first fault it (Ok a) failed t file clean = absurd failed
unkept_told {Stands} {Readable} {Needed} {P = P} {mid = mid} {new = new} code head some first fault it (Err e) failed t file clean = λ told.
    let none = subst (λ (that : KeptFault). TriesWhere Stands Needed (λ t. is_kept_head t head) P mid new (Err that)) (sym failed ∙ told) it in
    let both = (both_read first none).reads.answer t file clean in
    lab_unkept t code head (sym some ∙ both.0) both.1
