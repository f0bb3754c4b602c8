-- What the texts of the queries mean under the schema.
use Rattle.std.proofs.Common.{ℕ, List, [], ◌∷◌, codes, refl}
use Rattle.sqlite_tied.specs.Compute.{everything}
use Rattle.sqlite_tied.specs.Listing.{count_rows, first_column}
use Rattle.sqlite.specs.Listing.{understood}
use Rattle.sqlite_sql.specs.Query.{Query, inner, end}
use Rattle.sqlite_sql.specs.Term.{Term, col}
use Rattle.lab_store_read.proofs.Texts.{Means, is_param, record_query, own_query}

-- ---- a person by the code, and all persons

abbrev pub person_text : List ℕ
person_text = codes "SELECT code, name, roles, retired, failures, locked, kind, salt, rounds, bytes, salt2, rounds2, bytes2, changed, asker, asked, ask_salt, ask_rounds, ask_bytes FROM persons WHERE lab = ?1 AND code = ?2"

abbrev pub persons_text : List ℕ
persons_text = codes "SELECT code, name, roles, retired, failures, locked, kind, salt, rounds, bytes, salt2, rounds2, bytes2, changed, asker, asked, ask_salt, ask_rounds, ask_bytes FROM persons WHERE lab = ?1 ORDER BY code"

abbrev pub person_names : List (List ℕ)
person_names = codes "code" ∷ codes "name" ∷ codes "roles" ∷ codes "retired" ∷ codes "failures" ∷ codes "locked" ∷ codes "kind" ∷ codes "salt" ∷ codes "rounds" ∷ codes "bytes" ∷ codes "salt2" ∷ codes "rounds2" ∷ codes "bytes2" ∷ codes "changed" ∷ codes "asker" ∷ codes "asked" ∷ codes "ask_salt" ∷ codes "ask_rounds" ∷ codes "ask_bytes" ∷ []

abbrev pub person_columns : List Term
person_columns = col 1 3 ∷ col 1 4 ∷ col 1 5 ∷ col 1 6 ∷ col 1 7 ∷ col 1 8 ∷ col 1 9 ∷ col 1 10 ∷ col 1 11 ∷ col 1 12 ∷ col 1 13 ∷ col 1 14 ∷ col 1 15 ∷ col 1 16 ∷ col 1 17 ∷ col 1 18 ∷ col 1 19 ∷ col 1 20 ∷ col 1 21 ∷ []

abbrev pub person_query : Query
person_query = record record_query { from = inner 3 end; filter = is_param 2 0 ∷ is_param 3 1 ∷ []; project = person_columns }

pub person_means : Means person_text person_query person_names
unfolding understood everything
person_means = record { read = (_, refl); command = refl; unlisted = refl; plain = (refl, refl) }

pub persons_means : Means persons_text (own_query 3 (is_param 2 0 ∷ []) person_columns 3) person_names
unfolding understood everything
persons_means = record { read = (_, refl); command = refl; unlisted = refl; plain = (refl, refl) }

-- ---- how many they are

abbrev pub count_text : List ℕ
count_text = codes "SELECT count(*) FROM persons WHERE lab = ?1"

abbrev pub count_query : Query
count_query = record record_query { from = inner 3 end; filter = is_param 2 0 ∷ []; group = count_rows; project = first_column }

pub count_means : Means count_text count_query (codes "count(*)" ∷ [])
unfolding understood everything
count_means = record { read = (_, refl); command = refl; unlisted = refl; plain = (refl, refl) }
