-- What the texts of the queries mean under the schema.
use Rattle.std.proofs.Common.{ℕ, List, [], ◌∷◌, codes, refl}
use Rattle.sqlite_value.specs.declared.keys.Collation.TheVariants.{Binary}
use Rattle.sqlite_tied.specs.Compute.{everything}
use Rattle.sqlite.specs.Listing.{understood}
use Rattle.sqlite_sql.specs.Query.{Query}
use Rattle.sqlite_sql.specs.Term.{Term, col, op2}
use Rattle.sqlite_sql.specs.declared.ops.BinaryOp.TheVariants.{Compare}
use Rattle.sqlite_sql.specs.declared.ops.CompareOp.TheVariants.{Eq}
use Rattle.lab_store_read.proofs.Texts.{Means, is_param, children_query}

-- ---- a session by its token, with the code of its person

abbrev pub session_text : List ℕ
session_text = codes "SELECT sessions.number, persons.code, sessions.token, sessions.opened, sessions.last, sessions.closed, sessions.signed FROM sessions, persons WHERE sessions.lab = ?1 AND sessions.token = ?2 AND persons.id = sessions.person"

abbrev pub session_names : List (List ℕ)
session_names = codes "number" ∷ codes "code" ∷ codes "token" ∷ codes "opened" ∷ codes "last" ∷ codes "closed" ∷ codes "signed" ∷ []

abbrev pub session_tests : List Term
session_tests = is_param 2 0 ∷ is_param 5 1 ∷ op2 (Compare Eq Binary) (col 2 0) (col 1 3) ∷ []

abbrev pub session_columns : List Term
session_columns = col 1 4 ∷ col 2 3 ∷ col 1 5 ∷ col 1 6 ∷ col 1 7 ∷ col 1 8 ∷ col 1 9 ∷ []

abbrev pub session_query : Query
session_query = record (children_query 5 session_tests session_columns 0) { order = [] }

pub session_means : Means session_text session_query session_names
unfolding understood everything
session_means = record { read = (_, refl); command = refl; unlisted = refl; plain = (refl, refl) }
