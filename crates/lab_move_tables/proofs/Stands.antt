-- A file whose schema and whose rows are known stands for the tables of its rows.
use Rattle.std.proofs.Common.{ℕ, List, [], ◌∷◌, ◌≡◌, map, Option, Some, None, refl}
use Rattle.sqlite_value.specs.declared.value.Value.{Value}
use Rattle.sqlite_value.specs.declared.value.Value.TheVariants.{Text}
use Rattle.sqlite_schema.specs.declared.schema.Schema.{Schema}
use Rattle.sqlite.specs.Effect.{Database}
use Rattle.sqlite_sql.specs.Ops.{unary}
use Rattle.sqlite_sql.specs.Term.{Term}
use Rattle.lab_store_tables.specs.Rows.{optional}
use Rattle.lab_store_tables.specs.Family.{Name, Desk, rows}
use Rattle.lab_store_tables.proofs.FamilyWords.{tree_of}
use Rattle.lab_move_tables.proofs.OldRowWords.{old_row}
use Rattle.lab_move_tables.specs.declared.older.Older.{Older}
use Rattle.lab_move_tables.specs.declared.older.Older.TheVariants.{Two}
use Rattle.lab_move_tables.specs.OldRows.{IsOldFile, old_tables}
use Rattle.lab_move_tables.specs.PeerFiles.{IsPeerFile, words}
use Rattle.lab_move_tables.specs.Standing.{StandsBy}
use Rattle.lab_move_tables.proofs.OldTexts.{AllMeans, all_means}
use Rattle.lab_move_tables.proofs.PeerTexts.{as_number, peer_means}
use Rattle.lab_move_tables.proofs.OldExact.{IsWrittenIn, Gives, Writes, codes_read, lab_read, person_read, owner_read, session_read, form_read, field_read, choice_read, filed_read, version_read, entry_read, entry_places_read, signature_read, signature_places_read, told_read}

stands : {older : Older} {schema : Schema} {write : Option (List ℕ) → Value} {given : Term} (db : Database) → IsWrittenIn older schema write db → AllMeans older schema given → Gives given → Writes write
    → StandsBy older db (old_tables older db.trees)
stands {given = given} db file means gives writes = record {
  lifted = (db.trees, refl);
  rising = file.rising;
  labs = codes_read db file given gives means.labs;
  lab = lab_read db file given gives means.lab;
  persons = person_read db file given gives means.person;
  owner = owner_read db file given gives means.owner;
  sessions = session_read db file given gives means.session;
  trail = told_read db file given gives means.told;
  forms = form_read db file given gives means.form;
  fields = field_read db file given gives means.field;
  choices = choice_read db file given gives means.choice;
  records = filed_read db file given gives means.filed;
  versions = λ kept. version_read db file given gives means.version kept writes;
  entries = λ version. entry_read db file given gives means.entry version writes;
  entry_places = entry_places_read db file given gives means.entry_place;
  signatures = λ version. signature_read db file given gives means.signature version writes;
  signature_places = signature_places_read db file given gives means.signature_place;
}

-- ---- with NULL for no reason

nulls : Writes (optional Text)
nulls None h = refl
nulls (Some []) h = absurd cc
nulls (Some (first ∷ others)) h = refl

exact_rows : (older : Older) (db : Database) → IsOldFile older db → (k : Name) → db.trees (tree_of k) ≡ map (old_row older (optional Text) k) (rows k (old_tables older db.trees))
exact_rows Two db file Desk = file.stored.at Desk
exact_rows Two db file k = file.stored.at k

pub exact_stands : (older : Older) (db : Database) → IsOldFile older db → StandsBy older db (old_tables older db.trees)
exact_stands older db file =
    stands db (record { has = file.schema; rising = file.rising; rules = file.rules; stored = exact_rows older db file }) (all_means older) (λ id others. refl) nulls

-- ---- with an empty text

abbrev text_of : Option (List ℕ) → Value
text_of reason = Text (words reason)

empties : Writes text_of
empties None h = refl
empties (Some []) h = absurd cc
empties (Some (first ∷ others)) h = refl

numbers : Gives as_number
unfolding unary
numbers id others = refl

peer_rows : (db : Database) → IsPeerFile db → (k : Name) → db.trees (tree_of k) ≡ map (old_row Two text_of k) (rows k (old_tables Two db.trees))
peer_rows db file Desk = file.stored.at Desk
peer_rows db file k = file.stored.at k

pub peer_stands : (db : Database) → IsPeerFile db → StandsBy Two db (old_tables Two db.trees)
peer_stands db file = stands db (record { has = file.schema; rising = file.rising; rules = file.rules; stored = peer_rows db file }) peer_means numbers empties
