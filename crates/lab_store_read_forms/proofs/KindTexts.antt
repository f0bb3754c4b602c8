-- What the text of the query of names means under the schema.
use Rattle.std.proofs.Common.{ℕ, List, [], ◌∷◌, codes, refl}
use Rattle.sqlite_tied.specs.Compute.{everything}
use Rattle.sqlite.specs.Listing.{understood}
use Rattle.sqlite_sql.specs.Term.{col}
use Rattle.lab_store_read.proofs.Texts.{Means, is_param, own_query}

abbrev pub name_text : List ℕ
name_text = codes "SELECT name FROM choices WHERE field = ?1 ORDER BY place"

pub name_means : Means name_text (own_query 13 (is_param 2 0 ∷ []) (col 1 4 ∷ []) 3) (codes "name" ∷ [])
unfolding understood everything
name_means = record { read = (_, refl); command = refl; unlisted = refl; plain = (refl, refl) }
