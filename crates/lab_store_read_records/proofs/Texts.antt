-- What the texts of the queries mean under the schema.
use Rattle.std.proofs.Common.{ℕ, pos, negsuc, List, [], ◌∷◌, codes, false, None, refl}
use Rattle.sqlite_value.specs.declared.keys.Collation.TheVariants.{Binary}
use Rattle.sqlite_value.specs.declared.value.Value.TheVariants.{Int}
use Rattle.sqlite_tied.specs.Compute.{everything}
use Rattle.sqlite.specs.Listing.{understood}
use Rattle.sqlite_sql.specs.Query.{Query, inner, end}
use Rattle.sqlite_sql.specs.Term.{Term, lit, col, op2}
use Rattle.sqlite_sql.specs.declared.ops.BinaryOp.TheVariants.{Compare}
use Rattle.sqlite_sql.specs.declared.ops.CompareOp.TheVariants.{Eq}
use Rattle.lab_store_read.proofs.Texts.{Means, is_param, record_query, children_query, own_query}

-- ---- a laboratory by its code

abbrev pub lab_text : List ℕ
lab_text = codes "SELECT id, code, name, last, stray, records, sessions, trail FROM labs WHERE code = ?1"

abbrev pub lab_names : List (List ℕ)
lab_names = codes "id" ∷ codes "code" ∷ codes "name" ∷ codes "last" ∷ codes "stray" ∷ codes "records" ∷ codes "sessions" ∷ codes "trail" ∷ []

abbrev pub lab_query : Query
lab_query = record {
  from = inner 1 end;
  filter = is_param 2 0 ∷ [];
  group = None;
  project = col 1 0 ∷ col 1 2 ∷ col 1 3 ∷ col 1 4 ∷ col 1 5 ∷ col 1 6 ∷ col 1 7 ∷ col 1 8 ∷ [];
  distinct = false;
  collations = [];
  order = [];
  limit = lit (Int (negsuc 0));
  offset = lit (Int (pos 0));
}

pub lab_means : Means lab_text lab_query lab_names
unfolding understood everything
lab_means = record { read = (_, refl); command = refl; unlisted = refl; plain = (refl, refl) }

-- ---- the entries of a version, in the order of their places

abbrev pub entry_text : List ℕ
entry_text = codes "SELECT key, value, unit, person, moment, reason FROM entries WHERE version = ?1 ORDER BY place"

abbrev pub entry_names : List (List ℕ)
entry_names = codes "key" ∷ codes "value" ∷ codes "unit" ∷ codes "person" ∷ codes "moment" ∷ codes "reason" ∷ []

abbrev pub entry_columns : List Term
entry_columns = col 1 4 ∷ col 1 5 ∷ col 1 6 ∷ col 1 7 ∷ col 1 8 ∷ col 1 9 ∷ []

pub entry_means : Means entry_text (own_query 20 (is_param 2 0 ∷ []) entry_columns 3) entry_names
unfolding understood everything
entry_means = record { read = (_, refl); command = refl; unlisted = refl; plain = (refl, refl) }

-- ---- the rows of one parent, each with the code of a person, in the order of a column of numbers

-- the parent is a parameter, and the person's id stands at a place
abbrev pub child_tests : ℕ → List Term
child_tests at = is_param 2 0 ∷ op2 (Compare Eq Binary) (col 2 0) (col 1 at) ∷ []

abbrev pub signature_text : List ℕ
signature_text = codes "SELECT persons.code, signatures.name, signatures.meaning, signatures.reason, signatures.moment, signatures.digest, signatures.seal FROM signatures, persons WHERE signatures.version = ?1 AND persons.id = signatures.person ORDER BY signatures.place"

abbrev pub signature_names : List (List ℕ)
signature_names = codes "code" ∷ codes "name" ∷ codes "meaning" ∷ codes "reason" ∷ codes "moment" ∷ codes "digest" ∷ codes "seal" ∷ []

abbrev pub signature_columns : List Term
signature_columns = col 2 3 ∷ col 1 5 ∷ col 1 6 ∷ col 1 8 ∷ col 1 7 ∷ col 1 9 ∷ col 1 10 ∷ []

pub signature_means : Means signature_text (children_query 22 (child_tests 4) signature_columns 3) signature_names
unfolding understood everything
signature_means = record { read = (_, refl); command = refl; unlisted = refl; plain = (refl, refl) }

abbrev pub version_text : List ℕ
version_text = codes "SELECT versions.id, versions.number, versions.format, persons.code, versions.opened, versions.reason FROM versions, persons WHERE versions.record = ?1 AND persons.id = versions.opener ORDER BY versions.number"

abbrev pub version_names : List (List ℕ)
version_names = codes "id" ∷ codes "number" ∷ codes "format" ∷ codes "code" ∷ codes "opened" ∷ codes "reason" ∷ []

abbrev pub version_columns : List Term
version_columns = col 1 0 ∷ col 1 3 ∷ col 1 4 ∷ col 2 3 ∷ col 1 6 ∷ col 1 7 ∷ []

pub version_means : Means version_text (children_query 18 (child_tests 5) version_columns 3) version_names
unfolding understood everything
version_means = record { read = (_, refl); command = refl; unlisted = refl; plain = (refl, refl) }

-- ---- a record by its number

abbrev pub record_text : List ℕ
record_text = codes "SELECT id, number, form, form_code, sample, current FROM records WHERE lab = ?1 AND number = ?2"

abbrev pub record_names : List (List ℕ)
record_names = codes "id" ∷ codes "number" ∷ codes "form" ∷ codes "form_code" ∷ codes "sample" ∷ codes "current" ∷ []

pub record_means : Means record_text record_query record_names
unfolding understood everything
record_means = record { read = (_, refl); command = refl; unlisted = refl; plain = (refl, refl) }
