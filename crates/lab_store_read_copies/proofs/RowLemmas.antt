-- Rows of a record in parts: what went out of the whole where parts went out one after the other.
use Rattle.std.proofs.Common.{◌≡◌, ℕ, List, [], ◌∷◌, ◌++◌, Option, None, Result, Ok, Err, OnOk, sym, ap, subst, ◌∙◌, append-nil}
use Rattle.std.specs.List.{flat_map}
use Rattle.std.specs.Io.KnownBytes.{Appends}
use Rattle.std.proofs.KnownBytes.{Appends-trans}
use Rattle.std.proofs.lemmas.Grind.{flat_map-append}
use Rattle.std.proofs.lemmas.List.{map-append}
use Rattle.lab_records_kept.specs.declared.records.Record.{Record}
use Rattle.lab_records_kept.specs.declared.records.Version.{Version}
use Rattle.lab_copy_rows.specs.Csv.{csv_row, csv_text}
use Rattle.lab_copy_rows.specs.declared.outs.CopyOut.{CopyOut}
use Rattle.lab_copy_rows.specs.Outs.{AppendsFront, Sends}
use Rattle.lab_copy_rows.proofs.SendLemmas.{front_went, second_went}
use Rattle.lab_records_copies.specs.CopyLines.{fields_of_line, record_lines, rows_of_lines, version_lines}
use Rattle.lab_store_tables.specs.Rows.{Tables}
use Rattle.lab_store_tables.specs.Meaning.{chained, leaves_of}
use Rattle.lab_store_read_records.specs.declared.heads.RecordHead.{RecordHead}
use Rattle.lab_store_read_forms.specs.Wholes.{record_by}
use Rattle.lab_records_copy_out.specs.CopyTexts.{record_rows}
use Rattle.lab_records_copy_out.proofs.OutLemmas.{given_on, given_rows}
use Rattle.lab_store_read_copies.specs.GivenRows.{cover_by, cover_rows, rows_of_version}
use Rattle.lab_store_read_copies.specs.Private.GivenRows.{rows_of_versions}

-- ---- any rows

pub text_of_both : (rows more : List (List (List ℕ))) →
    csv_text (rows ++ more) ≡ csv_text rows ++ csv_text more
text_of_both rows more = flat_map-append csv_row rows more

-- rows that went out, under another name
pub sends_as : {A F : Type 0} (old new : Option (List ℕ)) (rows wanted : List (List (List ℕ)))
    (result : Result A F) → rows ≡ wanted → Sends old new (csv_text rows) result →
    Sends old new (csv_text wanted) result
sends_as old new rows wanted result same went =
    subst (λ (it : List (List (List ℕ))). Sends old new (csv_text it) result) same went

pub front_as : (old new : Option (List ℕ)) (rows wanted : List (List (List ℕ))) → rows ≡ wanted →
    AppendsFront old new (csv_text rows) → AppendsFront old new (csv_text wanted)
front_as old new rows wanted same went =
    subst (λ (it : List (List (List ℕ))). AppendsFront old new (csv_text it)) same went

pub whole_as : (old new : Option (List ℕ)) (rows wanted : List (List (List ℕ))) → rows ≡ wanted →
    Appends old new (csv_text rows) → Appends old new (csv_text wanted)
whole_as old new rows wanted same went =
    subst (λ (it : List (List (List ℕ))). Appends old new (csv_text it)) same went

-- rows were cut that others follow
pub cut_in_first : (old new : Option (List ℕ)) (rows more : List (List (List ℕ))) →
    AppendsFront old new (csv_text rows) → AppendsFront old new (csv_text (rows ++ more))
cut_in_first old new rows more cut =
    subst (AppendsFront old new) (sym (text_of_both rows more))
    (front_went old new (csv_text rows) (csv_text more) cut)

-- rows went out, and more behind them
pub sends_behind : {A F : Type 0} (old between new : Option (List ℕ))
    (rows more : List (List (List ℕ))) (result : Result A F) → Appends old between (csv_text rows) →
    Sends between new (csv_text more) result → Sends old new (csv_text (rows ++ more)) result
sends_behind old between new rows more (Ok done) first went =
    subst (Appends old new) (sym (text_of_both rows more))
    (Appends-trans old between new (csv_text rows) (csv_text more) first went)
sends_behind old between new rows more (Err fault) first cut =
    subst (AppendsFront old new) (sym (text_of_both rows more))
    (second_went old between new (csv_text rows) (csv_text more) first cut)

-- ---- versions

pub versions_both : (lab : List ℕ) (cover : Record) (made more : List Version) →
    rows_of_versions lab cover (made ++ more)
    ≡ rows_of_versions lab cover made ++ rows_of_versions lab cover more
versions_both lab cover made more =
    ap rows_of_lines (flat_map-append (version_lines lab cover) made more)
    ∙ map-append fields_of_line (flat_map (version_lines lab cover) made)
    (flat_map (version_lines lab cover) more)

pub versions_first : (lab : List ℕ) (cover : Record) (version : Version) (more : List Version) →
    rows_of_versions lab cover (version ∷ more)
    ≡ rows_of_version lab cover version ++ rows_of_versions lab cover more
versions_first lab cover version more =
    map-append fields_of_line (version_lines lab cover version)
    (flat_map (version_lines lab cover) more)

pub version_alone : (lab : List ℕ) (cover : Record) (version : Version) →
    rows_of_versions lab cover (version ∷ []) ≡ rows_of_version lab cover version
version_alone lab cover version =
    ap rows_of_lines (append-nil (version_lines lab cover version))

-- ---- a record

-- its rows are its own, and those of its versions; the lines of a version read of its record all
-- but the versions
pub record_in_parts : (t : Tables) (lab : List ℕ) (head : RecordHead) →
    cover_rows lab (cover_by t head) ++ rows_of_versions lab (cover_by t head)
    (chained lab (cover_by t head) None (leaves_of t head.id))
    ≡ record_rows lab (record_by t lab head ∷ [])
record_in_parts t lab head =
    sym (ap rows_of_lines (append-nil (record_lines lab (record_by t lab head))))

-- ---- what was given

pub given_as : {A F : Type 0} (start out : CopyOut) (rows wanted : List (List (List ℕ)))
    (result : Result A F) → rows ≡ wanted → OnOk result (out ≡ given_rows start rows) →
    OnOk result (out ≡ given_rows start wanted)
given_as start out rows wanted result same gave =
    subst (λ (it : List (List (List ℕ))). OnOk result (out ≡ given_rows start it)) same gave

pub given_behind : {A F : Type 0} (start mid out : CopyOut) (rows more : List (List (List ℕ)))
    (result : Result A F) → mid ≡ given_rows start rows →
    OnOk result (out ≡ given_rows mid more) → OnOk result (out ≡ given_rows start (rows ++ more))
given_behind start mid out rows more (Ok done) first gave =
    given_on start mid out rows more first gave
given_behind start mid out rows more (Err fault) first gave = tt
