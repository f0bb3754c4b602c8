-- What the texts of the queries mean under the schema.
use Rattle.std.proofs.Common.{ℕ, List, [], ◌∷◌, codes, refl}
use Rattle.sqlite_tied.specs.Compute.{everything}
use Rattle.sqlite.specs.Listing.{understood}
use Rattle.sqlite_sql.specs.Query.{Query}
use Rattle.sqlite_sql.specs.Term.{Term, col}
use Rattle.lab_store_read.proofs.Texts.{Means, is_param, record_query, own_query, range_tests}
use Rattle.lab_store_read_records.proofs.Texts.{record_names}

-- ---- a record by its form and its sample

abbrev pub about_text : List ℕ
about_text = codes "SELECT id, number, form, form_code, sample, current FROM records WHERE lab = ?1 AND form_code = ?2 AND sample = ?3"

abbrev pub about_query : Query
about_query = record record_query { filter = is_param 2 0 ∷ is_param 5 1 ∷ is_param 6 2 ∷ [] }

pub about_means : Means about_text about_query record_names
unfolding understood everything
about_means = record { read = (_, refl); command = refl; unlisted = refl; plain = (refl, refl) }

-- ---- the records of a range of numbers

abbrev pub within_text : List ℕ
within_text = codes "SELECT id, number, form, form_code, sample, current FROM records WHERE lab = ?1 AND number >= ?2 AND number <= ?3 ORDER BY number"

abbrev pub within_columns : List Term
within_columns = col 1 0 ∷ col 1 3 ∷ col 1 4 ∷ col 1 5 ∷ col 1 6 ∷ col 1 7 ∷ []

pub within_means : Means within_text (own_query 15 (is_param 2 0 ∷ range_tests 3) within_columns 3) record_names
unfolding understood everything
within_means = record { read = (_, refl); command = refl; unlisted = refl; plain = (refl, refl) }
