-- What the texts of the queries mean under the schema.
use Rattle.std.proofs.Common.{ℕ, List, [], ◌∷◌, codes, refl}
use Rattle.sqlite_tied.specs.Compute.{everything}
use Rattle.sqlite.specs.Listing.{understood}
use Rattle.sqlite_sql.specs.Term.{Term, col}
use Rattle.lab_store_read.proofs.Texts.{Means, is_param, own_query, range_tests}

-- ---- the rows of the trail of a range of numbers

abbrev pub told_text : List ℕ
told_text = codes "SELECT number, moment, person, action, subject FROM trail WHERE lab = ?1 AND number >= ?2 AND number <= ?3 ORDER BY number"

abbrev pub told_names : List (List ℕ)
told_names = codes "number" ∷ codes "moment" ∷ codes "person" ∷ codes "action" ∷ codes "subject" ∷ []

abbrev pub told_columns : List Term
told_columns = col 1 3 ∷ col 1 4 ∷ col 1 5 ∷ col 1 6 ∷ col 1 7 ∷ []

pub told_means : Means told_text (own_query 25 (is_param 2 0 ∷ range_tests 3) told_columns 3) told_names
unfolding understood everything
told_means = record { read = (_, refl); command = refl; unlisted = refl; plain = (refl, refl) }
