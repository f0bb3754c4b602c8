-- Each kind of change means itself: what it makes of well-kept tables means what it makes of the laboratory.
use Rattle.std.proofs.Common.{ℕ, List, [], ◌∷◌}
use Rattle.lab_records_kept.specs.declared.changes.Change.{Change}
use Rattle.lab_records_kept.specs.declared.changes.Change.TheVariants.{Last, Strays, PersonAdded, PersonSet, SessionAdded, SessionSet, SessionsClosed, FormAdded, RecordAdded, RowAdded, VersionOpened, SignatureAdded, TrailAdded}
use Rattle.lab_records_kept.specs.Changes.{ChangesFit}
use Rattle.lab_records_keeper.specs.Worlds.{Changes}
use Rattle.lab_store_tables.specs.Rows.{Tables}
use Rattle.lab_store_tables.specs.Meaning.{meaning}
use Rattle.lab_store_tables.specs.WellKept.{AreWellKept}
use Rattle.lab_store_tables.specs.Held.{AreRising}
use Rattle.lab_store_tables.specs.Changes.{Applies}
use Rattle.lab_store_tables.proofs.LabLaws.{last_is_set, strays_are_set}
use Rattle.lab_store_tables.proofs.SessionLaws.{session_is_added}
use Rattle.lab_store_tables.proofs.ClosingLaws.{sessions_are_closed}
use Rattle.lab_store_tables.proofs.TrailLaws.{told_is_added}
use Rattle.lab_store_tables.proofs.Premises.{own_by_tests, fits_here}
use Rattle.lab_store_tables.proofs.SessionSetLaws.{session_is_set}
use Rattle.lab_store_tables.proofs.PersonSetLaws.{person_is_set}
use Rattle.lab_store_tables.proofs.PersonAddedLaws.{person_is_added}
use Rattle.lab_store_tables.proofs.FormAddedLaws.{form_is_added}
use Rattle.lab_store_tables.proofs.PartAdded.{row_is_added, signature_is_added}
use Rattle.lab_store_tables.proofs.VersionOpened.{version_is_opened}
use Rattle.lab_store_tables.proofs.RecordAdded.{record_is_added}

pub change_means : (old new : Tables) (code : List ℕ) (one : Change) → AreRising old → AreWellKept old → ChangesFit (meaning old code) (one ∷ []) → Applies code one old new
    → Changes code (one ∷ []) (meaning old) (meaning new)
change_means old new code (Last moment) rising well fit it = last_is_set old new code moment (own_by_tests old well.ids well.keys).labs it
change_means old new code (Strays count) rising well fit it = strays_are_set old new code count (own_by_tests old well.ids well.keys).labs it
change_means old new code (PersonAdded person) rising well fit it = person_is_added rising well fit it
change_means old new code (PersonSet person) rising well fit it = person_is_set well it
change_means old new code (SessionAdded session) rising well fit it =
    session_is_added old new code session rising well.ids well.numbered it (fits_here old code it.lab (SessionAdded session) it.found fit).0
change_means old new code (SessionSet session) rising well fit it = session_is_set well fit it
change_means old new code (SessionsClosed person closing) rising well fit it = sessions_are_closed old new code person closing well.ids it
change_means old new code (FormAdded form) rising well fit it = form_is_added rising well fit it
change_means old new code (RecordAdded kept) rising well fit it = record_is_added rising well fit it
change_means old new code (RowAdded number row) rising well fit it = row_is_added rising well it
change_means old new code (VersionOpened number version) rising well fit it = version_is_opened rising well fit it
change_means old new code (SignatureAdded number version signature) rising well fit it = signature_is_added rising well it
change_means old new code (TrailAdded told) rising well fit it =
    told_is_added old new code told rising well.ids well.numbered it (fits_here old code it.lab (TrailAdded told) it.found fit).0
