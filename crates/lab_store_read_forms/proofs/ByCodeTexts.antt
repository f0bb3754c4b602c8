-- What the texts of the queries mean under the schema.
use Rattle.std.proofs.Common.{ℕ, List, [], ◌∷◌, codes, refl}
use Rattle.sqlite_value.specs.declared.keys.Collation.TheVariants.{Binary}
use Rattle.sqlite_tied.specs.Compute.{everything}
use Rattle.sqlite.specs.Listing.{understood}
use Rattle.sqlite_sql.specs.Query.{Query}
use Rattle.sqlite_sql.specs.Term.{col}
use Rattle.lab_store_read.proofs.Texts.{Means, is_param}
use Rattle.sqlite_value.specs.Keys.{ascending}
use Rattle.lab_store_read_forms.proofs.Texts.{form_query, form_names}

-- ---- versions of a form

abbrev pub exact_text : List ℕ
exact_text = codes "SELECT id, code, version, approval FROM forms WHERE lab = ?1 AND code = ?2 AND version = ?3"

abbrev pub exact_query : Query
exact_query = record form_query { filter = is_param 2 0 ∷ is_param 3 1 ∷ is_param 4 2 ∷ [] }

pub exact_means : Means exact_text exact_query form_names
unfolding understood everything
exact_means = record { read = (_, refl); command = refl; unlisted = refl; plain = (refl, refl) }

abbrev pub form_versions_text : List ℕ
form_versions_text = codes "SELECT id, code, version, approval FROM forms WHERE lab = ?1 AND code = ?2 ORDER BY code, version"

abbrev pub form_versions_query : Query
form_versions_query = record form_query { filter = is_param 2 0 ∷ is_param 3 1 ∷ []; order = (col 1 3, ascending Binary) ∷ (col 1 4, ascending Binary) ∷ [] }

pub form_versions_means : Means form_versions_text form_versions_query form_names
unfolding understood everything
form_versions_means = record { read = (_, refl); command = refl; unlisted = refl; plain = (refl, refl) }
