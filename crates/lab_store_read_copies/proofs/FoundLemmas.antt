-- The record that its own row leads to is the one that the laboratory of the code means; and what
-- was read of it is what the tables have.
use Rattle.std.proofs.Common.{◌≡◌, ℕ, zero, suc, ℤ, List, [], ◌∷◌, ◌++◌, map, find, Option, Some, None, option_and_then, option_map, option_to_list, Result, Ok, Err, IfOk, IfSome, IsTrue, OnOk, refl, sym, ap, ap₂, ◌∙◌, subst}
use Rattle.std.proofs.lemmas.Slice.Eq.{bytes_eq-Decides}
use Rattle.sqlite_rules.proofs.ListLemmas.{has_found}
use Rattle.sqlite.specs.State.{State, HasCleanDisk, IsUnchanged}
use Rattle.lab_records_kept.specs.declared.labs.Lab.{Lab}
use Rattle.lab_records_kept.specs.declared.records.Record.{Record}
use Rattle.lab_records_kept.specs.Lookups.{record_of}
use Rattle.lab_store_tables.specs.Rows.{LabRow, Tables}
use Rattle.lab_store_tables.specs.Meaning.{Leaf, chained, form_at, has_code, lab_in, leaves_of, meaning, records_of}
use Rattle.lab_store_tables.specs.WellKept.{IsWellKept}
use Rattle.lab_store_tables.specs.Ready.{PassesBy}
use Rattle.lab_store_read.proofs.Readers.{unchanged_then}
use Rattle.lab_store_read_records.specs.declared.heads.LabHead.{LabHead}
use Rattle.lab_store_read_records.specs.declared.heads.RecordHead.{RecordHead}
use Rattle.lab_store_read_records.specs.declared.heads.VersionHead.{VersionHead}
use Rattle.lab_store_read_records.specs.Heads.{lab_head, versions_of}
use Rattle.lab_store_read_records.specs.Leaves.{leaf_by}
use Rattle.lab_store_read_forms.specs.Wholes.{cover_of, record_by}
use Rattle.lab_store_read_records.proofs.RetrievalFound.{leaves_found}
use Rattle.lab_store_read_forms.proofs.FiledFound.{numbered_found}
use Rattle.lab_records_copy_out.specs.CopyTexts.{numbers_between, record_at, record_rows, walked, walked_to}
use Rattle.lab_store_read_copies.specs.GivenRows.{IsFormed, cover_by, cover_rows, filed_by, head_in, lab_at}
use Rattle.lab_store_read_copies.specs.Private.GivenRows.{rows_of_versions}
use Rattle.lab_store_read_copies.specs.declared.covers.Cover.{Cover}
use Rattle.lab_store_read_copies.proofs.RowLemmas.{record_in_parts}

-- the own row of the record of a number, in a laboratory of which this was found
abbrev head_if : Tables → ℕ → Option LabHead → Option RecordHead
head_if t number found = option_and_then (λ (lab : LabHead). head_in t lab number) found

found_by : (t : Tables) → IsWellKept t → (code : List ℕ) (number : ℕ) (found : Option LabRow) →
    find (has_code code) t.labs ≡ found →
    option_map (record_by t code) (head_if t number (option_map lab_head found))
    ≡ record_at number (option_map (lab_in t) found)
found_by t kept code number None is = refl
found_by t kept code number (Some row) is =
    let own : row.code ≡ code =
    (bytes_eq-Decides row.code code).0 (has_found (has_code code) t.labs row is).1 in
    numbered_found t kept code row.id number
    ∙ ap (λ (mine : List ℕ). record_of (records_of t mine row.id) number) (sym own)

pub record_found : (t : Tables) → IsWellKept t → (code : List ℕ) (number : ℕ) (lab : LabHead) →
    Some lab ≡ lab_at t code →
    option_map (record_by t code) (head_in t lab number) ≡ record_at number (meaning t code)
record_found t kept code number lab there =
    ap (λ (found : Option LabHead). option_map (record_by t code) (head_if t number found)) there
    ∙ found_by t kept code number (find (has_code code) t.labs) refl

-- no laboratory, no records
none_meant : (t : Tables) (found : Option LabRow) → None ≡ option_map lab_head found →
    None ≡ option_map (lab_in t) found
none_meant t None is = refl
none_meant t (Some row) is = absurd cc

none_walked : (from count : ℕ) → walked None from count ≡ []
none_walked from zero = refl
none_walked from (suc count) = ap (λ (before : List Record). before ++ []) (none_walked from count)

pub none_kept : (t : Tables) (code : List ℕ) (from last : ℕ) → None ≡ lab_at t code →
    [] ≡ record_rows code (walked_to (meaning t code) from last)
none_kept t code from last none =
    ap (record_rows code) (sym (none_walked from (numbers_between from last)))
    ∙ ap (λ (lab : Option Lab). record_rows code (walked_to lab from last))
    (none_meant t (find (has_code code) t.labs) none)

-- ---- rows that were made of what was read, where nothing has changed since

module _ (t u : Tables) (same : u ≡ t) (lab : List ℕ) where
  pub leaves_as : (cover : Record) (kept : ℤ) (heads : List VersionHead) →
      heads ≡ versions_of t kept →
      rows_of_versions lab cover (chained lab cover None (map (leaf_by u) heads))
      ≡ rows_of_versions lab cover (chained lab cover None (leaves_of t kept))
  leaves_as cover kept heads is =
      ap (λ (leaves : List Leaf). rows_of_versions lab cover (chained lab cover None leaves))
      (ap (λ (v : Tables). map (leaf_by v) heads) same ∙ ap (map (leaf_by t)) is
      ∙ leaves_found t kept)

  pub headed_as : (head : RecordHead) (cover : Record) → cover ≡ cover_by t head →
      cover_rows lab cover ++ rows_of_versions lab cover
      (chained lab cover None (leaves_of u head.id))
      ≡ record_rows lab (record_by t lab head ∷ [])
  headed_as head cover is =
      ap (λ (v : Tables). cover_rows lab cover ++ rows_of_versions lab cover
      (chained lab cover None (leaves_of v head.id))) same
      ∙ ap (λ (one : Record). cover_rows lab one ++ rows_of_versions lab one
      (chained lab one None (leaves_of t head.id))) is
      ∙ record_in_parts t lab head

  pub sought_as : IsWellKept t → (number : ℕ) (row : LabHead) (head : RecordHead) →
      Some row ≡ lab_at t lab → Some head ≡ head_in t row number →
      record_rows lab (record_by u lab head ∷ [])
      ≡ record_rows lab (option_to_list (record_at number (meaning t lab)))
  sought_as kept number row head there found =
      ap (λ (v : Tables). record_rows lab (record_by v lab head ∷ [])) same
      ∙ ap (λ (one : Option Record). record_rows lab (option_to_list one))
      (ap (option_map (record_by t lab)) found ∙ record_found t kept lab number row there)

pub none_sought : (t : Tables) → IsWellKept t → (lab : List ℕ) (number : ℕ) (row : LabHead) →
    Some row ≡ lab_at t lab → None ≡ head_in t row number →
    [] ≡ record_rows lab (option_to_list (record_at number (meaning t lab)))
none_sought t kept lab number row there found =
    ap (λ (one : Option Record). record_rows lab (option_to_list one))
    (ap (option_map (record_by t lab)) found ∙ record_found t kept lab number row there)

-- ---- covers, where nothing has changed since

pub formed_as : (cover : Option Cover) (t u : Tables) → u ≡ t → IfSome cover (IsFormed t) →
    IfSome cover (IsFormed u)
formed_as cover t u same formed = subst (λ (v : Tables). IfSome cover (IsFormed v)) (sym same) formed

pub formed_still : {F : Type 0} (result : Result (Option Cover) F) (t u : Tables) → u ≡ t →
    IfOk result (λ behind. IfSome behind (IsFormed u)) →
    IfOk result (λ behind. IfSome behind (IsFormed t))
formed_still result t u same formed =
    subst (λ (v : Tables). IfOk result (λ behind. IfSome behind (IsFormed v))) same formed

-- the cover of a row is that of the record
pub filed_is : (t : Tables) (head : RecordHead) (cover : Cover) → cover ≡ filed_by t head →
    cover.kept ≡ cover_by t head
filed_is t head cover is = ap (λ (one : Cover). one.kept) is

abbrev pub cover_with : ℤ → Record → Cover
cover_with form kept = record { form = form; kept = kept }

-- and that of a record behind another of its form, by the form that was read for that
pub same_filed : (t : Tables) (head : RecordHead) (before cover : Cover) →
    cover ≡ cover_with before.form (cover_of head before.kept.form) →
    before.form ≡ head.form → IsFormed t before → cover ≡ filed_by t head
same_filed t head before cover is same formed =
    let kept : cover_of head before.kept.form ≡ cover_by t head =
    ap (cover_of head) (formed ∙ ap (form_at t) same) in
    is ∙ ap₂ cover_with same kept

pub filed_formed : (t : Tables) (head : RecordHead) (cover : Cover) → cover ≡ filed_by t head →
    IsFormed t cover
filed_formed t head cover is = subst (IsFormed t) (sym is) refl

pub filed_still : {F : Type 0} (result : Result (Option Cover) F) (t : Tables) (head : RecordHead)
    (cover : Cover) → cover ≡ filed_by t head →
    IfOk result (λ behind. behind ≡ Some cover) →
    IfOk result (λ behind. IfSome behind (IsFormed t))
filed_still (Ok behind) t head cover is same =
    subst (λ (it : Option Cover). IfSome it (IsFormed t)) (sym same)
    (filed_formed t head cover is)
filed_still (Err fault) t head cover is same = tt

-- ---- what is unchanged after two calls, where the second shows that the file was open

pub same_through : {A F : Type 0} (old mid new : State) (result : Result A F) →
    PassesBy old mid → PassesBy mid new →
    (HasCleanDisk mid → IsTrue old.is_open → IsUnchanged old mid) → HasCleanDisk new →
    OnOk result (IsUnchanged mid new) → OnOk result (IsUnchanged old new)
same_through old mid new (Ok done) first next one clean other =
    let was = next.clean clean in
    unchanged_then old mid new (one was (first.live was other.0.was_open)) other
same_through old mid new (Err fault) first next one clean other = tt
