-- What the texts of the queries mean under a schema, and that they mean it under each older one.
use Rattle.std.proofs.Common.{◌≡◌, ℕ, List, [], ◌∷◌, codes, false, refl}
use Rattle.sqlite_value.specs.declared.keys.Collation.TheVariants.{Binary}
use Rattle.sqlite_value.specs.Keys.{ascending}
use Rattle.sqlite_schema.specs.declared.command.Command.TheVariants.{Select}
use Rattle.sqlite_resolve.specs.Compile.{first}
use Rattle.sqlite_tied.specs.Compute.{everything}
use Rattle.sqlite.specs.Listing.{understood, reads_listing}
use Rattle.sqlite.proofs.Callers.{IsPlain, command_of}
use Rattle.sqlite_sql.specs.Query.{Query, inner, end}
use Rattle.sqlite_sql.specs.Term.{Term, col, op2}
use Rattle.sqlite_sql.specs.declared.ops.BinaryOp.TheVariants.{Compare}
use Rattle.sqlite_sql.specs.declared.ops.CompareOp.TheVariants.{Eq}
use Rattle.lab_store_read.proofs.Queries.{IsRead}
use Rattle.lab_store_read.proofs.Texts.{is_param, own_query, children_query, record_query}
use Rattle.sqlite_schema.specs.declared.schema.Schema.{Schema}
use Rattle.lab_move_tables.specs.declared.older.Older.{Older}
use Rattle.lab_move_tables.specs.declared.older.Older.TheVariants.{Two}
use Rattle.lab_move_tables.specs.Olders.{schema_of}
use Rattle.lab_move_tables.specs.Questions.{codes_text, lab_text, person_text, owner_text, session_text, form_text, field_text, choice_text, filed_text, version_text, entry_text, entry_place_text, signature_text, signature_place_text, told_text}

-- a text that is a query, under any schema, and means this one under this schema, whose columns have these names
pub record MeansIn (schema : Schema) (sql : List ℕ) (query : Query) (names : List (List ℕ)) : Type 0 where
  pub read : IsRead (first sql)
  pub command : command_of (understood schema sql) ≡ Select (record { lets = []; body = query }) names
  pub unlisted : reads_listing schema sql ≡ false
  pub plain : IsPlain (understood schema sql)

-- the column of the innermost table that equals what is given: a parameter, or that as a number
abbrev pub is_given : Term → ℕ → Term
is_given given at = op2 (Compare Eq Binary) (col 1 at) given

-- the parent is given, and the person's id stands at a place
abbrev pub child_tests : Term → ℕ → List Term
child_tests given at = is_given given 2 ∷ op2 (Compare Eq Binary) (col 2 0) (col 1 at) ∷ []

-- ---- codes

abbrev codes_names : List (List ℕ)
codes_names = codes "code" ∷ []

abbrev pub codes_columns : List Term
codes_columns = col 1 2 ∷ []

abbrev pub CodesMeans : Schema → Type 0
CodesMeans schema = MeansIn schema codes_text (own_query 1 [] codes_columns 2) codes_names

pub codes_means : (older : Older) → CodesMeans (schema_of older)
unfolding understood everything
codes_means Two = record { read = (_, refl); command = refl; unlisted = refl; plain = (refl, refl) }

-- ---- lab

abbrev lab_names : List (List ℕ)
lab_names = codes "id" ∷ codes "code" ∷ codes "name" ∷ codes "last" ∷ codes "stray" ∷ codes "records" ∷ codes "sessions" ∷ codes "trail" ∷ []

abbrev pub lab_columns : List Term
lab_columns = col 1 0 ∷ col 1 2 ∷ col 1 3 ∷ col 1 4 ∷ col 1 5 ∷ col 1 6 ∷ col 1 7 ∷ col 1 8 ∷ []

abbrev pub lab_query : Query
lab_query = record record_query { from = inner 1 end; filter = is_param 2 0 ∷ []; project = lab_columns }

abbrev pub LabMeans : Schema → Type 0
LabMeans schema = MeansIn schema lab_text lab_query lab_names

pub lab_means : (older : Older) → LabMeans (schema_of older)
unfolding understood everything
lab_means Two = record { read = (_, refl); command = refl; unlisted = refl; plain = (refl, refl) }

-- ---- person

abbrev person_names : Older → List (List ℕ)
person_names Two =
    codes "code" ∷ codes "name" ∷ codes "roles" ∷ codes "retired" ∷ codes "failures" ∷ codes "locked" ∷ codes "kind" ∷ codes "salt" ∷ codes "rounds" ∷ codes "bytes" ∷ codes "salt2" ∷ codes "bytes2" ∷ codes "changed" ∷ codes "asker" ∷ codes "asked" ∷ codes "ask_salt" ∷ codes "ask_bytes" ∷ []

abbrev pub person_columns : Older → List Term
person_columns Two = col 1 3 ∷ col 1 4 ∷ col 1 5 ∷ col 1 6 ∷ col 1 7 ∷ col 1 8 ∷ col 1 9 ∷ col 1 10 ∷ col 1 11 ∷ col 1 12 ∷ col 1 13 ∷ col 1 14 ∷ col 1 15 ∷ col 1 16 ∷ col 1 17 ∷ col 1 18 ∷ col 1 19 ∷ []

abbrev pub PersonMeans : Older → Schema → Term → Type 0
PersonMeans older schema given = MeansIn schema (person_text older) (own_query 3 (is_given given 2 ∷ []) (person_columns older) 3) (person_names older)

pub person_means : (older : Older) → PersonMeans older (schema_of older) (col 0 0)
unfolding understood everything
person_means Two = record { read = (_, refl); command = refl; unlisted = refl; plain = (refl, refl) }

-- ---- owner

abbrev owner_names : List (List ℕ)
owner_names = codes "code" ∷ codes "lab" ∷ []

abbrev pub owner_columns : List Term
owner_columns = col 1 3 ∷ col 1 2 ∷ []

abbrev pub owner_query : Query
owner_query = record record_query { from = inner 3 end; filter = is_param 0 0 ∷ []; project = owner_columns }

abbrev pub OwnerMeans : Schema → Type 0
OwnerMeans schema = MeansIn schema owner_text owner_query owner_names

pub owner_means : (older : Older) → OwnerMeans (schema_of older)
unfolding understood everything
owner_means Two = record { read = (_, refl); command = refl; unlisted = refl; plain = (refl, refl) }

-- ---- session

abbrev session_names : List (List ℕ)
session_names = codes "number" ∷ codes "code" ∷ codes "token" ∷ codes "opened" ∷ codes "last" ∷ codes "closed" ∷ codes "signed" ∷ codes "lab" ∷ []

abbrev pub session_columns : List Term
session_columns = col 1 4 ∷ col 2 3 ∷ col 1 5 ∷ col 1 6 ∷ col 1 7 ∷ col 1 8 ∷ col 1 9 ∷ col 2 2 ∷ []

abbrev pub SessionMeans : Schema → Term → Type 0
SessionMeans schema given = MeansIn schema session_text (children_query 5 (child_tests given 3) session_columns 4) session_names

pub session_means : (older : Older) → SessionMeans (schema_of older) (col 0 0)
unfolding understood everything
session_means Two = record { read = (_, refl); command = refl; unlisted = refl; plain = (refl, refl) }

-- ---- form

abbrev form_names : Older → List (List ℕ)
form_names Two = codes "id" ∷ codes "code" ∷ codes "version" ∷ []

abbrev pub form_columns : Older → List Term
form_columns Two = col 1 0 ∷ col 1 3 ∷ col 1 4 ∷ []

abbrev pub form_query : Older → Term → Query
form_query older given = record record_query {
  from = inner 8 end;
  filter = is_given given 2 ∷ [];
  project = form_columns older;
  order = (col 1 3, ascending Binary) ∷ (col 1 4, ascending Binary) ∷ [];
}

abbrev pub FormMeans : Older → Schema → Term → Type 0
FormMeans older schema given = MeansIn schema (form_text older) (form_query older given) (form_names older)

pub form_means : (older : Older) → FormMeans older (schema_of older) (col 0 0)
unfolding understood everything
form_means Two = record { read = (_, refl); command = refl; unlisted = refl; plain = (refl, refl) }

-- ---- field

abbrev field_names : List (List ℕ)
field_names = codes "id" ∷ codes "key" ∷ codes "label" ∷ codes "required" ∷ codes "kind" ∷ codes "unit" ∷ codes "decimals" ∷ codes "low" ∷ codes "high" ∷ codes "size" ∷ codes "place" ∷ []

abbrev pub field_columns : List Term
field_columns = col 1 0 ∷ col 1 4 ∷ col 1 5 ∷ col 1 6 ∷ col 1 7 ∷ col 1 8 ∷ col 1 9 ∷ col 1 10 ∷ col 1 11 ∷ col 1 12 ∷ col 1 3 ∷ []

abbrev pub FieldMeans : Schema → Term → Type 0
FieldMeans schema given = MeansIn schema field_text (own_query 10 (is_given given 2 ∷ []) field_columns 3) field_names

pub field_means : (older : Older) → FieldMeans (schema_of older) (col 0 0)
unfolding understood everything
field_means Two = record { read = (_, refl); command = refl; unlisted = refl; plain = (refl, refl) }

-- ---- choice

abbrev choice_names : List (List ℕ)
choice_names = codes "name" ∷ codes "place" ∷ []

abbrev pub choice_columns : List Term
choice_columns = col 1 4 ∷ col 1 3 ∷ []

abbrev pub ChoiceMeans : Schema → Term → Type 0
ChoiceMeans schema given = MeansIn schema choice_text (own_query 13 (is_given given 2 ∷ []) choice_columns 3) choice_names

pub choice_means : (older : Older) → ChoiceMeans (schema_of older) (col 0 0)
unfolding understood everything
choice_means Two = record { read = (_, refl); command = refl; unlisted = refl; plain = (refl, refl) }

-- ---- filed

abbrev filed_names : List (List ℕ)
filed_names = codes "id" ∷ codes "number" ∷ codes "form" ∷ codes "form_code" ∷ codes "sample" ∷ codes "current" ∷ []

abbrev pub filed_columns : List Term
filed_columns = col 1 0 ∷ col 1 3 ∷ col 1 4 ∷ col 1 5 ∷ col 1 6 ∷ col 1 7 ∷ []

abbrev pub FiledMeans : Schema → Term → Type 0
FiledMeans schema given = MeansIn schema filed_text (own_query 15 (is_given given 2 ∷ []) filed_columns 3) filed_names

pub filed_means : (older : Older) → FiledMeans (schema_of older) (col 0 0)
unfolding understood everything
filed_means Two = record { read = (_, refl); command = refl; unlisted = refl; plain = (refl, refl) }

-- ---- version

abbrev version_names : Older → List (List ℕ)
version_names Two = codes "id" ∷ codes "number" ∷ codes "code" ∷ codes "opened" ∷ codes "reason" ∷ codes "lab" ∷ []

abbrev pub version_columns : Older → List Term
version_columns Two = col 1 0 ∷ col 1 3 ∷ col 2 3 ∷ col 1 5 ∷ col 1 6 ∷ col 2 2 ∷ []

-- the opener's column
abbrev pub opener_at : Older → ℕ
opener_at Two = 4

abbrev pub VersionMeans : Older → Schema → Term → Type 0
VersionMeans older schema given = MeansIn schema (version_text older) (children_query 18 (child_tests given (opener_at older)) (version_columns older) 3) (version_names older)

pub version_means : (older : Older) → VersionMeans older (schema_of older) (col 0 0)
unfolding understood everything
version_means Two = record { read = (_, refl); command = refl; unlisted = refl; plain = (refl, refl) }

-- ---- entry

abbrev entry_names : List (List ℕ)
entry_names = codes "key" ∷ codes "value" ∷ codes "unit" ∷ codes "code" ∷ codes "moment" ∷ codes "reason" ∷ codes "place" ∷ codes "lab" ∷ []

abbrev pub entry_columns : List Term
entry_columns = col 1 4 ∷ col 1 5 ∷ col 1 6 ∷ col 2 3 ∷ col 1 8 ∷ col 1 9 ∷ col 1 3 ∷ col 2 2 ∷ []

abbrev pub EntryMeans : Schema → Term → Type 0
EntryMeans schema given = MeansIn schema entry_text (children_query 20 (child_tests given 7) entry_columns 3) entry_names

pub entry_means : (older : Older) → EntryMeans (schema_of older) (col 0 0)
unfolding understood everything
entry_means Two = record { read = (_, refl); command = refl; unlisted = refl; plain = (refl, refl) }

-- ---- places of entries, and of signatures

abbrev place_names : List (List ℕ)
place_names = codes "place" ∷ []

abbrev pub place_columns : List Term
place_columns = col 1 3 ∷ []

abbrev pub EntryPlaceMeans : Schema → Term → Type 0
EntryPlaceMeans schema given = MeansIn schema entry_place_text (own_query 20 (is_given given 2 ∷ []) place_columns 3) place_names

pub entry_place_means : (older : Older) → EntryPlaceMeans (schema_of older) (col 0 0)
unfolding understood everything
entry_place_means Two = record { read = (_, refl); command = refl; unlisted = refl; plain = (refl, refl) }

abbrev pub SignaturePlaceMeans : Schema → Term → Type 0
SignaturePlaceMeans schema given = MeansIn schema signature_place_text (own_query 22 (is_given given 2 ∷ []) place_columns 3) place_names

pub signature_place_means : (older : Older) → SignaturePlaceMeans (schema_of older) (col 0 0)
unfolding understood everything
signature_place_means Two = record { read = (_, refl); command = refl; unlisted = refl; plain = (refl, refl) }

-- ---- signature

abbrev signature_names : List (List ℕ)
signature_names = codes "code" ∷ codes "name" ∷ codes "meaning" ∷ codes "reason" ∷ codes "moment" ∷ codes "digest" ∷ codes "seal" ∷ codes "place" ∷ codes "lab" ∷ []

abbrev pub signature_columns : List Term
signature_columns = col 2 3 ∷ col 1 5 ∷ col 1 6 ∷ col 1 8 ∷ col 1 7 ∷ col 1 9 ∷ col 1 10 ∷ col 1 3 ∷ col 2 2 ∷ []

abbrev pub SignatureMeans : Schema → Term → Type 0
SignatureMeans schema given = MeansIn schema signature_text (children_query 22 (child_tests given 4) signature_columns 3) signature_names

pub signature_means : (older : Older) → SignatureMeans (schema_of older) (col 0 0)
unfolding understood everything
signature_means Two = record { read = (_, refl); command = refl; unlisted = refl; plain = (refl, refl) }

-- ---- told

abbrev told_names : List (List ℕ)
told_names = codes "number" ∷ codes "moment" ∷ codes "person" ∷ codes "action" ∷ codes "subject" ∷ []

abbrev pub told_columns : List Term
told_columns = col 1 3 ∷ col 1 4 ∷ col 1 5 ∷ col 1 6 ∷ col 1 7 ∷ []

abbrev pub ToldMeans : Schema → Term → Type 0
ToldMeans schema given = MeansIn schema told_text (own_query 25 (is_given given 2 ∷ []) told_columns 3) told_names

pub told_means : (older : Older) → ToldMeans (schema_of older) (col 0 0)
unfolding understood everything
told_means Two = record { read = (_, refl); command = refl; unlisted = refl; plain = (refl, refl) }

-- ---- all of them

pub record AllMeans (older : Older) (schema : Schema) (given : Term) : Type 0 where
  pub labs : CodesMeans schema
  pub lab : LabMeans schema
  pub person : PersonMeans older schema given
  pub owner : OwnerMeans schema
  pub session : SessionMeans schema given
  pub form : FormMeans older schema given
  pub field : FieldMeans schema given
  pub choice : ChoiceMeans schema given
  pub filed : FiledMeans schema given
  pub version : VersionMeans older schema given
  pub entry : EntryMeans schema given
  pub entry_place : EntryPlaceMeans schema given
  pub signature_place : SignaturePlaceMeans schema given
  pub signature : SignatureMeans schema given
  pub told : ToldMeans schema given

pub all_means : (older : Older) → AllMeans older (schema_of older) (col 0 0)
all_means older = record {
  labs = codes_means older;
  lab = lab_means older;
  person = person_means older;
  owner = owner_means older;
  session = session_means older;
  form = form_means older;
  field = field_means older;
  choice = choice_means older;
  filed = filed_means older;
  version = version_means older;
  entry = entry_means older;
  entry_place = entry_place_means older;
  signature_place = signature_place_means older;
  signature = signature_means older;
  told = told_means older;
}
