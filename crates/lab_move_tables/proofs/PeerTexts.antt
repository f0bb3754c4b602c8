-- What the texts of the queries mean in a file of the other style.
use Rattle.std.proofs.Common.{refl}
use Rattle.sqlite_tied.specs.Compute.{everything}
use Rattle.sqlite.specs.Listing.{understood}
use Rattle.sqlite_sql.specs.Term.{Term, col, op1}
use Rattle.sqlite_sql.specs.declared.ops.UnaryOp.TheVariants.{ToNumeric}
use Rattle.lab_move_tables.specs.declared.older.Older.TheVariants.{Two}
use Rattle.lab_move_tables.specs.PeerFiles.{peer_schema}
use Rattle.lab_move_tables.proofs.OldTexts.{AllMeans, CodesMeans, LabMeans, PersonMeans, OwnerMeans, SessionMeans, FormMeans, FieldMeans, ChoiceMeans, FiledMeans, VersionMeans, EntryMeans, EntryPlaceMeans, SignaturePlaceMeans, SignatureMeans, ToldMeans}

-- there a parameter is compared as a number
abbrev pub as_number : Term
as_number = op1 ToNumeric (col 0 0)

codes_means : CodesMeans peer_schema
unfolding understood everything
codes_means = record { read = (_, refl); command = refl; unlisted = refl; plain = (refl, refl) }

lab_means : LabMeans peer_schema
unfolding understood everything
lab_means = record { read = (_, refl); command = refl; unlisted = refl; plain = (refl, refl) }

person_means : PersonMeans Two peer_schema as_number
unfolding understood everything
person_means = record { read = (_, refl); command = refl; unlisted = refl; plain = (refl, refl) }

owner_means : OwnerMeans peer_schema
unfolding understood everything
owner_means = record { read = (_, refl); command = refl; unlisted = refl; plain = (refl, refl) }

session_means : SessionMeans peer_schema as_number
unfolding understood everything
session_means = record { read = (_, refl); command = refl; unlisted = refl; plain = (refl, refl) }

form_means : FormMeans Two peer_schema as_number
unfolding understood everything
form_means = record { read = (_, refl); command = refl; unlisted = refl; plain = (refl, refl) }

field_means : FieldMeans peer_schema as_number
unfolding understood everything
field_means = record { read = (_, refl); command = refl; unlisted = refl; plain = (refl, refl) }

choice_means : ChoiceMeans peer_schema as_number
unfolding understood everything
choice_means = record { read = (_, refl); command = refl; unlisted = refl; plain = (refl, refl) }

filed_means : FiledMeans peer_schema as_number
unfolding understood everything
filed_means = record { read = (_, refl); command = refl; unlisted = refl; plain = (refl, refl) }

version_means : VersionMeans Two peer_schema as_number
unfolding understood everything
version_means = record { read = (_, refl); command = refl; unlisted = refl; plain = (refl, refl) }

entry_means : EntryMeans peer_schema as_number
unfolding understood everything
entry_means = record { read = (_, refl); command = refl; unlisted = refl; plain = (refl, refl) }

entry_place_means : EntryPlaceMeans peer_schema as_number
unfolding understood everything
entry_place_means = record { read = (_, refl); command = refl; unlisted = refl; plain = (refl, refl) }

signature_place_means : SignaturePlaceMeans peer_schema as_number
unfolding understood everything
signature_place_means = record { read = (_, refl); command = refl; unlisted = refl; plain = (refl, refl) }

signature_means : SignatureMeans peer_schema as_number
unfolding understood everything
signature_means = record { read = (_, refl); command = refl; unlisted = refl; plain = (refl, refl) }

told_means : ToldMeans peer_schema as_number
unfolding understood everything
told_means = record { read = (_, refl); command = refl; unlisted = refl; plain = (refl, refl) }

pub peer_means : AllMeans Two peer_schema as_number
peer_means = record {
  labs = codes_means;
  lab = lab_means;
  person = person_means;
  owner = owner_means;
  session = session_means;
  form = form_means;
  field = field_means;
  choice = choice_means;
  filed = filed_means;
  version = version_means;
  entry = entry_means;
  entry_place = entry_place_means;
  signature_place = signature_place_means;
  signature = signature_means;
  told = told_means;
}
