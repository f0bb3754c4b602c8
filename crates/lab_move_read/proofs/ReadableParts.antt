-- What readable rows of forms and records have, as those that are made of them have it.
use Rattle.std.proofs.Common.{◌≡◌, ℤ, All, List, map, refl, sym, ◌∙◌, subst, Result, Ok, Err, IfErr}
use Rattle.std.specs.Prelude.{IsErrAnd}
use Rattle.std.proofs.lemmas.List.Elements.{All-map}
use Rattle.sqlite.specs.Effect.{Database}
use Rattle.lab_store_tables.specs.Rows.{Tables}
use Rattle.lab_store_read_records.specs.declared.heads.RecordHead.{RecordHead}
use Rattle.lab_store_read_records.specs.Shown.{record_head_of}
use Rattle.lab_store_read_forms.specs.declared.heads.FieldHead.{FieldHead}
use Rattle.lab_store_read_forms.specs.declared.heads.FormHead.{FormHead}
use Rattle.lab_store_read_forms.specs.Private.Forms.{field_heads_of}
use Rattle.lab_store_read_forms.specs.Shown.{field_read}
use Rattle.lab_move_tables.specs.declared.older.Older.{Older}
use Rattle.lab_move_tables.specs.Standing.{AreLifted}
use Rattle.lab_move_tables.specs.Shown.{fields_shown, forms_shown, records_shown, versions_shown}
use Rattle.lab_move_read_people.specs.declared.faults.KeptFault.{KeptFault}
use Rattle.lab_move_read_people.specs.declared.faults.KeptFault.TheVariants.{NotKept, Storage, Memory}
use Rattle.lab_move_read_people.specs.Kept.{found_of}
use Rattle.lab_move_read.specs.declared.heads.VersionHead.{VersionHead}
use Rattle.lab_move_read.specs.Forms.{form_read}
use Rattle.lab_move_read.specs.Private.Forms.{form_heads_of}
use Rattle.lab_move_read.specs.Records.{version_read, record_heads_of}
use Rattle.lab_move_read.specs.Private.Records.{version_heads_of}
use Rattle.lab_move_read.specs.Readable.{HasFieldNames, HasFormParts, HasLeaf, HasRecordParts}
use Rattle.lab_move_read.proofs.FormsFound.{field_rows_done, forms_found}
use Rattle.lab_move_read.proofs.RecordsFound.{record_rows_done, versions_found}

pub all_field_names : (t : Tables) (db : Database) (form : ℤ) (heads : List FieldHead) → heads ≡ field_heads_of t form
    → All (λ row. HasFieldNames db t (field_read row)) (fields_shown t form) → All (HasFieldNames db t) heads
all_field_names t db form heads is all =
    subst (All (HasFieldNames db t)) ((field_rows_done t form (fields_shown t form) refl).1 ∙ sym is) (All-map (HasFieldNames db t) field_read (fields_shown t form) all)

pub all_form_parts : (older : Older) (t : Tables) → AreLifted older t → (db : Database) (lab : ℤ) (heads : List FormHead) → heads ≡ form_heads_of t lab
    → All (λ row. HasFormParts db t (form_read older row)) (forms_shown older t lab) → All (HasFormParts db t) heads
all_form_parts older t of db lab heads is all =
    subst (All (HasFormParts db t)) (forms_found older t of lab ∙ sym is) (All-map (HasFormParts db t) (form_read older) (forms_shown older t lab) all)

pub all_leaves : (older : Older) (t : Tables) → AreLifted older t → (db : Database) (kept : ℤ) (heads : List VersionHead) → heads ≡ version_heads_of t kept
    → All (λ row. HasLeaf db t (version_read older row)) (versions_shown older t kept) → All (HasLeaf db t) heads
all_leaves older t of db kept heads is all =
    subst (All (HasLeaf db t)) ((versions_found older t of kept 0).1 ∙ sym is) (All-map (HasLeaf db t) (version_read older) (versions_shown older t kept) all)

pub all_record_parts : (older : Older) (t : Tables) (db : Database) (lab : ℤ) (heads : List RecordHead) → heads ≡ record_heads_of t lab
    → All (λ row. HasRecordParts older db t (record_head_of row)) (records_shown t lab) → All (HasRecordParts older db t) heads
all_record_parts older t db lab heads is all =
    subst (All (HasRecordParts older db t)) ((record_rows_done t lab 0 (records_shown t lab) refl).1 ∙ sym is) (All-map (HasRecordParts older db t) record_head_of (records_shown t lab) all)

-- what isn't told of the store isn't told of it further up
pub unsaid_fault : {B : Type 0} (fault : KeptFault) → ¬ (fault ≡ Storage) → (end : Result B KeptFault) → IsErrAnd end (λ e. e ≡ fault) → IfErr (found_of end) (λ e. ¬ (e ≡ Storage))
unsaid_fault fault none (Ok b) failed = absurd failed
unsaid_fault {B} fault none (Err e) failed = subst (λ (that : KeptFault). IfErr (found_of {T = B} (Err that)) (λ e. ¬ (e ≡ Storage))) (sym failed) (go fault none)
  where
    go : (that : KeptFault) → ¬ (that ≡ Storage) → IfErr (found_of {T = B} (Err that)) (λ e. ¬ (e ≡ Storage))
    go NotKept apart = tt
    go Storage apart = apart
    go Memory apart = apart
