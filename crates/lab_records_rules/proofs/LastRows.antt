-- The last row of a key, as rows are added.
use Rattle.std.proofs.Common.{ℕ, ◌≡◌, ◌+◌, ◌<◌, Bool, true, false, cond, refl, sym, ◌∙◌, ap, List, [], ◌∷◌, ◌++◌, Option, Some, None, length, get_or, take, reverse, append-nil}
use Rattle.std.specs.Prelude.{find, filter, map, option_map}
use Rattle.std.specs.Option.{option_or}
use Rattle.std.proofs.lemmas.List.{reverse-append, take_more, map-append}
use Rattle.std.proofs.lemmas.List.Folds.{find-append}
use Rattle.std.proofs.lemmas.List.Concat.{flat_map-append}
use Rattle.std.proofs.lemmas.List.Elements.{filter-append}
use Rattle.lab_forms.specs.declared.forms.Field.{Field}
use Rattle.lab_forms.specs.Forms.{key_of}
use Rattle.lab_seal_versions.specs.declared.rows.EntryRow.{EntryRow}
use Rattle.lab_records_kept.specs.Values.{rows_of, all_rows, has_key, value_of}
use Rattle.lab_records_kept.specs.declared.records.Version.{Version}

-- the rows of two lists
pub value_of_both : (rows more : List EntryRow) (key : List ℕ)
    → value_of (rows ++ more) key ≡ option_or (value_of more key) (value_of rows key)
value_of_both rows more key =
    ap (λ (list : List EntryRow). find (has_key key) list) (reverse-append rows more)
    ∙ find-append (has_key key) (reverse more) (reverse rows)

pub cond_or : {A : Type 0} (test : Bool) (x : A) (one other : Option A)
    → option_or (cond test (Some x) one) other ≡ cond test (Some x) (option_or one other)
cond_or true x one other = refl
cond_or false x one other = refl

pub map_cond : {A B : Type 0} (f : A → B) (test : Bool) (x : A) (other : Option A)
    → option_map f (cond test (Some x) other) ≡ cond test (Some (f x)) (option_map f other)
map_cond f true x other = refl
map_cond f false x other = refl

-- one row more
pub value_of_more : (rows : List EntryRow) (row : EntryRow) (key : List ℕ)
    → value_of (rows ++ row ∷ []) key ≡ cond (has_key key row) (Some row) (value_of rows key)
value_of_more rows row key =
    value_of_both rows (row ∷ []) key ∙ cond_or (has_key key row) row None (value_of rows key)

-- the rows of one version more
pub all_rows_more : (versions : List Version) (i : ℕ) (version : Version) → i < length versions
    → version ≡ get_or versions i version
    → all_rows (take (i + 1) versions) ≡ all_rows (take i versions) ++ version.rows
all_rows_more versions i version within here =
    ap all_rows (take_more versions i version within)
    ∙ ap (λ (one : Version). all_rows (take i versions ++ one ∷ [])) (sym here)
    ∙ flat_map-append rows_of (take i versions) (version ∷ [])
    ∙ ap (λ (rows : List EntryRow). all_rows (take i versions) ++ rows) (append-nil version.rows)

-- the altered one of the keys of one field more
pub altered_more : (test : List ℕ → Bool) (fields : List Field) (i : ℕ) (field : Field)
    → i < length fields → field ≡ get_or fields i field
    → filter test (map key_of (take (i + 1) fields))
    ≡ filter test (map key_of (take i fields)) ++ cond (test field.key) (field.key ∷ []) []
altered_more test fields i field within here =
    ap (λ (list : List Field). filter test (map key_of list)) (take_more fields i field within)
    ∙ ap (λ (one : Field). filter test (map key_of (take i fields ++ one ∷ []))) (sym here)
    ∙ ap (λ (keys : List (List ℕ)). filter test keys) (map-append key_of (take i fields) (field ∷ []))
    ∙ filter-append test (map key_of (take i fields)) (field.key ∷ [])
