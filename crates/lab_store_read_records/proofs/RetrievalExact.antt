-- The exact rows of each query, in a file of ours.
use Rattle.std.proofs.Common.{◌≡◌, ℕ, ℤ, pos, ◌&&◌, List, [], ◌∷◌, refl, ap₂, ◌∙◌}
use Rattle.sqlite_value.specs.declared.value.Value.TheVariants.{Null, Int, Text}
use Rattle.sqlite_value.specs.Order.{Row}
use Rattle.sqlite_sql.specs.Program.{overlay}
use Rattle.sqlite_typed.proofs.AnswerLemmas.{last_table, at_end}
use Rattle.sqlite.specs.State.{State, Shown}
use Rattle.sqlite.proofs.Callers.{reads_as}
use Rattle.lab_store_tables.specs.Schema.{lab_schema}
use Rattle.lab_store_tables.specs.Rows.{RecordRow, tables_in, record_id}
use Rattle.lab_store_tables.proofs.RowWords.{record_row}
use Rattle.lab_store_tables.specs.Ready.{IsKept}
use Rattle.lab_store_tables.specs.Family.{Records}
use Rattle.std.specs.Ordering.{nat_cmp}
use Rattle.lab_records_kept.specs.Lookups.{is_within}
use Rattle.lab_store_read_records.specs.Shown.{record_shown}
use Rattle.lab_store_read_records.proofs.Keys.{records_apart}
use Rattle.lab_store_read.proofs.Sorted.{and_true, by_one, only_answer, from_number, to_number, own_rows}
use Rattle.lab_store_read.proofs.Texts.{is_param, range_tests}
use Rattle.lab_store_read_records.specs.Sought.{is_about, is_record_within}
use Rattle.lab_store_read_records.specs.Retrieved.{abouts_shown, within_shown}
use Rattle.lab_store_read_records.proofs.RetrievalKeys.{samples_apart}
use Rattle.lab_store_read_records.proofs.RetrievalTexts.{about_text, about_query, about_means, within_text, within_columns, within_means}
use Rattle.lab_store_read_records.proofs.Lists.{alone_key}
use Rattle.lab_store_read.proofs.Lists.{untied_also}
use Rattle.lab_store_tables.proofs.Comparing.{equal_ints, equal_texts}

pub abouts_read : (old new : State) (lab : ℤ) (form sample : List ℕ) (rows : List Row) → IsKept old.now → Shown about_text (Int lab ∷ Text form ∷ Text sample ∷ []) old new rows
    → rows ≡ abouts_shown (tables_in old.now.trees) lab form sample
abouts_read old new lab form sample rows kept h =
    let params = Int lab ∷ Text form ∷ Text sample ∷ [] in
    let typed = kept.typed in
    let db = overlay old.now.trees [] in
    let xs = (tables_in old.now.trees).records in
    let read = reads_as about_text params old new lab_schema typed.schema _ about_means.command about_means.plain about_means.unlisted rows h in
    only_answer about_query db params (last_table db 15 record_row record_id xs (typed.stored.at Records) (typed.rising.at Records) (at_end db)) (is_about lab form sample)
    (λ x. ap₂ ◌&&◌ (equal_ints x.lab lab) (ap₂ ◌&&◌ (equal_texts x.form_code form) (and_true _ ∙ equal_texts x.sample sample))) refl refl
    (alone_key (λ (x : RecordRow). x.lab) (λ (x : RecordRow). x.form_code) (λ (x : RecordRow). x.sample) lab form sample xs (samples_apart (tables_in old.now.trees) kept.rows))
    rows (read.answer Null)

pub within_read : (old new : State) (lab : ℤ) (from to : ℕ) (rows : List Row) → IsKept old.now → Shown within_text (Int lab ∷ Int (pos from) ∷ Int (pos to) ∷ []) old new rows
    → rows ≡ within_shown (tables_in old.now.trees) lab from to
within_read old new lab from to rows kept h =
    let params = Int lab ∷ Int (pos from) ∷ Int (pos to) ∷ [] in
    let typed = kept.typed in
    let db = overlay old.now.trees [] in
    let t = tables_in old.now.trees in
    let read = reads_as within_text params old new lab_schema typed.schema _ within_means.command within_means.plain within_means.unlisted rows h in
    own_rows db 15 record_row record_id t.records (typed.stored.at Records) (typed.rising.at Records) (is_record_within lab from to) (λ one other. nat_cmp one.number other.number)
    (untied_also (λ (x : RecordRow). x.lab) (λ (x : RecordRow). x.number) (λ (x : RecordRow). is_within from to x.number) lab t.records (records_apart t kept.rows))
    (is_param 2 0 ∷ range_tests 3) within_columns 3 params record_shown (λ x. Int (pos x.number))
    (λ x. ap₂ ◌&&◌ (equal_ints x.lab lab) (ap₂ ◌&&◌ (from_number x.number from) (and_true _ ∙ to_number x.number to))) (λ x. refl) (λ x. refl)
    (λ a b. by_one a.number b.number) rows (read.answer Null)
