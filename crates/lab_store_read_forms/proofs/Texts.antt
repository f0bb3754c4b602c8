-- What the texts of the queries mean under the schema.
use Rattle.std.proofs.Common.{ℕ, List, [], ◌∷◌, codes, refl}
use Rattle.sqlite_tied.specs.Compute.{everything}
use Rattle.sqlite.specs.Listing.{understood}
use Rattle.sqlite_sql.specs.Query.{Query, inner, end}
use Rattle.sqlite_sql.specs.Term.{Term, col}
use Rattle.lab_store_read.proofs.Texts.{Means, is_param, record_query, own_query}

-- ---- a version of a form by its id

abbrev pub form_text : List ℕ
form_text = codes "SELECT id, code, version, approval FROM forms WHERE id = ?1"

abbrev pub form_names : List (List ℕ)
form_names = codes "id" ∷ codes "code" ∷ codes "version" ∷ codes "approval" ∷ []

abbrev pub form_query : Query
form_query = record record_query { from = inner 8 end; filter = is_param 0 0 ∷ []; project = col 1 0 ∷ col 1 3 ∷ col 1 4 ∷ col 1 5 ∷ [] }

pub form_means : Means form_text form_query form_names
unfolding understood everything
form_means = record { read = (_, refl); command = refl; unlisted = refl; plain = (refl, refl) }

-- ---- its fields

abbrev pub field_text : List ℕ
field_text = codes "SELECT id, key, label, required, kind, unit, decimals, low, high, size FROM fields WHERE form = ?1 ORDER BY place"

abbrev pub field_names : List (List ℕ)
field_names =
    codes "id" ∷ codes "key" ∷ codes "label" ∷ codes "required" ∷ codes "kind" ∷ codes "unit" ∷ codes "decimals" ∷ codes "low" ∷ codes "high" ∷ codes "size" ∷ []

abbrev pub field_columns : List Term
field_columns = col 1 0 ∷ col 1 4 ∷ col 1 5 ∷ col 1 6 ∷ col 1 7 ∷ col 1 8 ∷ col 1 9 ∷ col 1 10 ∷ col 1 11 ∷ col 1 12 ∷ []

pub field_means : Means field_text (own_query 10 (is_param 2 0 ∷ []) field_columns 3) field_names
unfolding understood everything
field_means = record { read = (_, refl); command = refl; unlisted = refl; plain = (refl, refl) }
