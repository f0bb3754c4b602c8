-- Values from outside, computed on the definitions over the small file of lab_store_tables: which statements changes try, and over which
-- tables; and one that isn't tried (docs/TABLES.md).
use Rattle.std.proofs.Common.{◌≡◌, inl, inr, pos, true, ◌==◌, [], ◌∷◌, codes, get_or, refl, ap}
use Rattle.lab_records_kept.specs.declared.changes.Change.TheVariants.{Last, FormAdded, RecordAdded, RowAdded, SignatureAdded}
use Rattle.lab_store_tables.proofs.KnownFile.{file, form}
use Rattle.lab_store_tables.proofs.KnownValues.{aqua_record, older_version}
use Rattle.lab_store_write.specs.Causes.{Statement}
use Rattle.lab_store_write.specs.Statements.{setting_strays}
use Rattle.lab_store_write_changes.specs.Private.FormsAdded.{field_at}
use Rattle.lab_store_write_changes.specs.FormsAdded.{with_form}
use Rattle.lab_store_write_changes.specs.RecordsAdded.{with_record}
use Rattle.lab_store_write_changes.specs.Statements.{asking_current, adding_form, adding_field, counting_records}
use Rattle.lab_store_write_changes.specs.Private.Statements.{adding_entry_at, adding_signature_at}
use Rattle.lab_store_write_changes.specs.Tried.{TriesIn}
use Rattle.lab_store_write_changes.proofs.KnownEntries.{noted, rejected}
use Rattle.lab_store_write_changes.proofs.KnownForms.{wanted, approved}

-- the current version of the record has one entry, and the next has the place behind it
pub known_entry : TriesIn (pos 7) (RowAdded 1 noted) file (asking_current (pos 7) 1) file × TriesIn (pos 7) (RowAdded 1 noted) file (adding_entry_at (pos 3) 2 (pos 2) noted) file
known_entry = (inl (refl, refl), inr (pos 3, refl, inr (inr (pos 2, refl, (refl, refl)))))

-- the first version has two signatures
pub known_signature : TriesIn (pos 7) (SignatureAdded 1 1 rejected) file (adding_signature_at (pos 1) 3 (pos 6) rejected) file
known_signature = inr (pos 1, refl, inr (inr (pos 6, refl, (refl, refl))))

-- the form, and then its field over the tables with the form
pub known_form : TriesIn (pos 7) (FormAdded approved) file (adding_form (form (pos 0) (pos 7) (codes "air") 2 true)) file
    × TriesIn (pos 7) (FormAdded approved) file (adding_field (field_at (pos 5) (pos 0) 1 wanted)) (with_form (pos 7) approved file)
known_form = (
  inl (refl, refl),
  inr (record { before = []; one = wanted; behind = []; whole = refl; begun = with_form (pos 7) approved file; made = refl; next = inr (inl (refl, refl)) }),
)

-- the records are counted over the tables with the record
pub known_record : (let kept = aqua_record 3 (codes "S3") (older_version ∷ []) in TriesIn (pos 7) (RecordAdded kept) file (counting_records (pos 7) 3) (with_record (pos 7) (pos 1) kept file))
known_record = inr (pos 1, refl, inr (inl (refl, refl)))

-- a last moment isn't set as the number of stray passwords
pub known_apart : TriesIn (pos 7) (Last 1600) file (setting_strays (pos 7) 1600) file → ⊥
known_apart it = let wrong = ap (λ (one : Statement). get_or one.sql 16 0 == 108) it.0 in cc
