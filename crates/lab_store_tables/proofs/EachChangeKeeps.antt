-- Of each kind of change: where it fits the laboratory that the tables mean, well-kept tables stay well kept.
use Rattle.std.proofs.Common.{ℕ, List, [], ◌∷◌}
use Rattle.lab_records_kept.specs.declared.changes.Change.{Change}
use Rattle.lab_records_kept.specs.declared.changes.Change.TheVariants.{Last, Strays, PersonAdded, PersonSet, SessionAdded, SessionSet, SessionsClosed, FormAdded, RecordAdded, RowAdded, VersionOpened, SignatureAdded, TrailAdded}
use Rattle.lab_records_kept.specs.Changes.{ChangesFit}
use Rattle.lab_store_tables.specs.Rows.{Tables}
use Rattle.lab_store_tables.specs.Meaning.{meaning}
use Rattle.lab_store_tables.specs.WellKept.{AreWellKept}
use Rattle.lab_store_tables.specs.Changes.{Applies}
use Rattle.lab_store_tables.specs.ByRules.{IsByRules}
use Rattle.lab_store_tables.proofs.OwnRowKept.{last_keeps, strays_keep}
use Rattle.lab_store_tables.proofs.PersonKept.{person_added_keeps, person_set_keeps}
use Rattle.lab_store_tables.proofs.SessionKept.{session_added_keeps, session_set_keeps, closing_keeps}
use Rattle.lab_store_tables.proofs.FormKept.{form_added_keeps}
use Rattle.lab_store_tables.proofs.RecordKept.{record_added_keeps}
use Rattle.lab_store_tables.proofs.EntryKept.{row_added_keeps, signature_added_keeps}
use Rattle.lab_store_tables.proofs.VersionKept.{version_opened_keeps}
use Rattle.lab_store_tables.proofs.TrailKept.{told_added_keeps}

pub change_keeps : (old new : Tables) (code : List ℕ) (one : Change) → AreWellKept old → IsByRules new → ChangesFit (meaning old code) (one ∷ [])
    → Applies code one old new → AreWellKept new
change_keeps old new code (Last moment) well rules fit it = last_keeps well rules it
change_keeps old new code (Strays count) well rules fit it = strays_keep well rules it
change_keeps old new code (PersonAdded person) well rules fit it = person_added_keeps well rules it
change_keeps old new code (PersonSet person) well rules fit it = person_set_keeps well rules it
change_keeps old new code (SessionAdded session) well rules fit it = session_added_keeps well rules fit it
change_keeps old new code (SessionSet session) well rules fit it = session_set_keeps well rules fit it
change_keeps old new code (SessionsClosed person closing) well rules fit it = closing_keeps well rules it
change_keeps old new code (FormAdded form) well rules fit it = form_added_keeps well rules fit it
change_keeps old new code (RecordAdded kept) well rules fit it = record_added_keeps well rules fit it
change_keeps old new code (RowAdded number row) well rules fit it = row_added_keeps well rules it
change_keeps old new code (VersionOpened number version) well rules fit it = version_opened_keeps well rules fit it
change_keeps old new code (SignatureAdded number version signature) well rules fit it = signature_added_keeps well rules it
change_keeps old new code (TrailAdded told) well rules fit it = told_added_keeps well rules fit it
