-- Values from outside, computed on the definitions over the small file of lab_store_tables: which record a
-- number names, and how many rows go out of it.
use Rattle.std.proofs.Common.{◌≡◌, ℕ, ◌++◌, pos, [], ◌∷◌, Some, None, length, option_and_then, refl, ap, arith}
use Rattle.std.specs.Prelude.{codes}
use Rattle.lab_seal_versions.specs.declared.rows.EntryRow.{EntryRow as Entry}
use Rattle.lab_seal_versions.specs.declared.seals.Meaning.TheVariants.{Authorship}
use Rattle.lab_records_kept.specs.declared.records.FormVersion.{FormVersion}
use Rattle.lab_records_kept.specs.declared.records.Version.{Version}
use Rattle.lab_records_kept.specs.declared.records.Signature.{Signature}
use Rattle.lab_records_kept.proofs.KnownDefaults.{bare_entry, bare_signature}
use Rattle.lab_store_tables.proofs.KnownFile.{filled, file}
use Rattle.lab_store_tables.proofs.KnownValues.{aqua_record, older_version}
use Rattle.lab_store_read_records.specs.declared.heads.LabHead.{LabHead}
use Rattle.lab_store_read_records.specs.declared.heads.RecordHead.{RecordHead}
use Rattle.lab_store_read_copies.specs.declared.covers.Cover.{Cover}
use Rattle.lab_store_read_copies.specs.GivenRows.{IsFormed, cover_rows, rows_of_version, lab_at, head_in, cover_by, filed_by}
use Rattle.lab_store_read_copies.specs.Private.GivenRows.{rows_of_versions}

-- ---- which record is meant

abbrev head : RecordHead
head = record {
  id = pos 1;
  number = 2;
  form = pos 1;
  form_code = codes "water";
  sample = codes "S2";
  current = 1;
}

abbrev aqua_row : LabHead
aqua_row = record {
  id = pos 7;
  code = codes "aqua";
  name = codes "Aqua Lab";
  last = 1600;
  strays = 2;
  records = 2;
  sessions = 2;
  trail = 12;
}

-- aqua and brick are there, and zinc isn't
pub known_labs : (lab_at file (codes "aqua") ≡ Some aqua_row) × (lab_at file (codes "zinc") ≡ None)
known_labs = (refl, refl)

-- aqua has two records, and brick one
pub known_heads : (head_in file aqua_row 2 ≡ Some head) × (head_in file aqua_row 3 ≡ None)
    × (option_and_then (λ (lab : LabHead). head_in file lab 2) (lab_at file (codes "brick")) ≡ None)
known_heads = (refl, refl, refl)

-- it is filled in by the first version of aqua's form, and its versions aren't read
pub known_cover : cover_by file head ≡ aqua_record 2 (codes "S2") []
known_cover = refl

-- its form is the one of its row, and the third row is another version of it
abbrev mistaken : Cover
mistaken = record { form = pos 3; kept = cover_by file head }

pub known_formed : IsFormed file (filed_by file head) × (IsFormed file mistaken → ⊥)
known_formed = (
  refl,
  λ same. absurd (let wrong : ◌≡◌ {A = ℕ} 1 2 = ap (λ (form : FormVersion). form.version) same in
      omega arith),
)

-- ---- rows that go out

abbrev entered : Entry
entered = record bare_entry {
  key = codes "lead";
  value = codes "8.00";
  unit = codes "mg/L";
  person = codes "dan";
  moment = 1500;
}

abbrev signed : Signature
signed = record bare_signature {
  person = codes "dan";
  name = codes "Dan Dale";
  meaning = Authorship;
  moment = 1600;
  digest = filled 32 21;
  seal = filled 32 27;
}

abbrev filled_in : Version
filled_in = record older_version { rows = entered ∷ entered ∷ []; signatures = signed ∷ [] }

-- a record's own is one; a version's are its own, one for each of its rows, and one for each signature
pub known_counts : (length (cover_rows (codes "aqua") (aqua_record 2 (codes "S2") [])) ≡ 1)
    × (length (rows_of_version (codes "aqua") (aqua_record 2 (codes "S2") []) older_version) ≡ 1)
    × (length (rows_of_version (codes "aqua") (aqua_record 2 (codes "S2") []) filled_in) ≡ 4)
    × (length (rows_of_versions (codes "aqua") (aqua_record 2 (codes "S2") [])
    (filled_in ∷ older_version ∷ [])) ≡ 5)
known_counts = (refl, refl, refl, refl)

-- those of versions are those of each, the first of them first, and of none there are none
pub known_versions :
    (rows_of_versions (codes "aqua") (aqua_record 2 (codes "S2") [])
    (filled_in ∷ older_version ∷ [])
    ≡ rows_of_version (codes "aqua") (aqua_record 2 (codes "S2") []) filled_in
    ++ rows_of_version (codes "aqua") (aqua_record 2 (codes "S2") []) older_version)
    × (rows_of_versions (codes "aqua") (aqua_record 2 (codes "S2") []) [] ≡ [])
known_versions = (refl, refl)
